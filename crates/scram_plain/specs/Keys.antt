-- The keys of SCRAM (RFC 5802, section 3) with SHA-256 as hash function (RFC 7677).
use Rattle.std.specs.Prelude.{ℕ, List, codes}
use Rattle.sha2.specs.Sha256.{sha256}
use Rattle.hmac_plain.specs.Hmac.{hmac_sha256}
use Rattle.pbkdf2_key.specs.Pbkdf2.{pbkdf2_sha256}

-- SaltedPassword = Hi(Normalize(password), salt, i). `Hi` is PBKDF2 with HMAC, of as many bytes as a digest has (section 2.2). The
-- password is here as it is hashed.
unfoldable pub salted_password : List ℕ → List ℕ → ℕ → List ℕ
salted_password password salt rounds = pbkdf2_sha256 password salt rounds 32

-- ClientKey = HMAC(SaltedPassword, "Client Key")
abbrev pub client_key : List ℕ → List ℕ
client_key salted = hmac_sha256 salted (codes "Client Key")

-- StoredKey = H(ClientKey)
unfoldable pub stored_key : List ℕ → List ℕ
stored_key salted = sha256 (client_key salted)

-- ServerKey = HMAC(SaltedPassword, "Server Key")
unfoldable pub server_key : List ℕ → List ℕ
server_key salted = hmac_sha256 salted (codes "Server Key")
