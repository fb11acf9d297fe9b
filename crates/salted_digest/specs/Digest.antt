-- The digest of a password and a salt (RFC 2307, section 5.3, for `{MD5}` and `{SHA}`; for the others slapd.conf(5) and slapd-pw-sha2(5)
-- of OpenLDAP, passwordStorageScheme of 389-ds, and Dovecot's password schemes).
use Rattle.std.specs.Prelude.{ℕ, List, ◌++◌}
use Rattle.md5.specs.Md5.{md5}
use Rattle.sha1.specs.Sha1.{sha1}
use Rattle.sha2.specs.Sha256.{sha256}
use Rattle.sha2.specs.Sha512.{sha512}
use Rattle.salted_digest.specs.declared.hash.DigestHash.{DigestHash}
use Rattle.salted_digest.specs.declared.hash.DigestHash.TheVariants.{Md5, Sha1, Sha256, Sha512}

-- how many bytes a digest has
abbrev pub digest_size : DigestHash → ℕ
digest_size Md5 = 16
digest_size Sha1 = 20
digest_size Sha256 = 32
digest_size Sha512 = 64

-- the digest of a message
abbrev pub message_digest : DigestHash → List ℕ → List ℕ
message_digest Md5 = md5
message_digest Sha1 = sha1
message_digest Sha256 = sha256
message_digest Sha512 = sha512

-- the digest of a password and the salt after it
unfoldable pub salted_digest : DigestHash → List ℕ → List ℕ → List ℕ
salted_digest hash password salt = message_digest hash (password ++ salt)
