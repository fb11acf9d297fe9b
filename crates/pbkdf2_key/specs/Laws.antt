-- Laws over the definitions.
use Rattle.std.specs.Prelude.{◌≡◌, ℕ, ◌≤◌, ◌<◌, List, length, take}
use Rattle.hmac_plain.specs.Hmac.{hmac_sha512}
use Rattle.pbkdf2_key.specs.Pbkdf2.{Prf, pbkdf2, pbkdf2_sha1, pbkdf2_sha256, pbkdf2_sha512}

-- a code of HMAC-SHA-512 has 64 bytes
abbrev pub CodeLength : Type 0
CodeLength = (key text : List ℕ) → length (hmac_sha512 key text) ≡ 64

-- a key has as many bytes as were asked for
abbrev pub HasKeyLength : (List ℕ → List ℕ → ℕ → ℕ → List ℕ) → Type 0
HasKeyLength derived = (password salt : List ℕ) (rounds n : ℕ) → length (derived password salt rounds n) ≡ n

-- that of all three
abbrev pub KeyLength : Type 0
KeyLength = HasKeyLength pbkdf2_sha1 × HasKeyLength pbkdf2_sha256 × HasKeyLength pbkdf2_sha512

-- a shorter key is the beginning of a longer one, whatever the pseudorandom function, if its outputs have h_len bytes
abbrev pub ShorterKey : Type 0
ShorterKey =
    (prf : Prf) (h_len : ℕ) (password salt : List ℕ) (rounds short long : ℕ) → 0 < h_len
    → ((key text : List ℕ) → length (prf key text) ≡ h_len) → short ≤ long
    → pbkdf2 prf h_len password salt rounds short ≡ take short (pbkdf2 prf h_len password salt rounds long)
