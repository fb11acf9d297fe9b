-- Laws over the definitions.
use Rattle.std.specs.Prelude.{◌≡◌, ℕ, ◌≤◌, ◌<◌, List, length, slice_index, take}
use Rattle.scrypt_plain.specs.Hmac.{hmac, block_key}
use Rattle.scrypt_plain.specs.Scrypt.{scrypt}

-- a code has 32 bytes
abbrev pub CodeLength : Type 0
CodeLength = (key text : List ℕ) → length (hmac key text) ≡ 32

-- a key of HMAC fills one block
abbrev pub BlockKeyLength : Type 0
BlockKeyLength = (key : List ℕ) → length (block_key key) ≡ 64

-- a key has as many bytes as were asked for
abbrev pub KeyLength : Type 0
KeyLength =
    (password salt : List ℕ) (n r p dk_len : ℕ) → length (scrypt password salt n r p dk_len) ≡ dk_len

-- a shorter key is the beginning of a longer one
abbrev pub ShorterKey : Type 0
ShorterKey =
    (password salt : List ℕ) (n r p short long : ℕ) → short ≤ long
    → scrypt password salt n r p short ≡ take short (scrypt password salt n r p long)

-- each number of a list is that of a byte
abbrev pub AreBytes : List ℕ → Type 0
AreBytes xs = (i : ℕ) → slice_index xs i < 256

-- a key is a list of bytes
abbrev pub KeyBytes : Type 0
KeyBytes = (password salt : List ℕ) (n r p dk_len : ℕ) → AreBytes (scrypt password salt n r p dk_len)
