-- What is taken from C.
use Rattle.std.specs.Prelude.{ℕ, ◌^◌, Bool, ◌&&◌, ◌||◌, nat_lt, nat_le, ◌==◌, List, length}
use Rattle.std.specs.Char.{is_ascii_alphanumeric}
use Rattle.std.specs.List.{list_all}
use Rattle.std.specs.Str.{is_utf8}
use Rattle.scrypt_plain.specs.Bounds.{in_bounds}
use Rattle.sha_crypt.specs.Limits.{rounds_max, rounds_min, salt_max_len}
use Rattle.phc_kdf.specs.Limits.{password_max}

-- ---- keys

-- scrypt takes the password or the salt
abbrev pub is_short : List ℕ → Bool
is_short xs = nat_lt (length xs) (2 ^ 30)

-- scrypt takes these, for a key of n bytes
abbrev pub scrypt_takes : List ℕ → List ℕ → ℕ → ℕ → ℕ → ℕ → Bool
scrypt_takes password salt ln r p n =
    is_short password && is_short salt && nat_le 1 n && nat_le n 64 && in_bounds ln r p

-- ---- digests

-- A password that a check can match is no longer than this. The time of SHA-crypt grows with the square of the length.
abbrev pub is_password : List ℕ → Bool
is_password password = nat_le (length password) password_max

-- SHA-crypt takes the password and the rounds
abbrev pub rounds_taken : List ℕ → ℕ → Bool
rounds_taken password rounds = is_password password && nat_le rounds_min rounds && nat_le rounds rounds_max

-- the same, for what has `size` bytes, in a buffer of n
abbrev pub sha_takes : ℕ → List ℕ → ℕ → ℕ → Bool
sha_takes size password rounds n = rounds_taken password rounds && (n == size)

-- ---- texts

-- a character of a salt, by this library's own choice: `[./0-9A-Za-z]`, the characters of hash fields. The format
-- itself takes others too.
abbrev pub is_salt_character : ℕ → Bool
is_salt_character c = is_ascii_alphanumeric c || c == 46 || c == 47

-- a salt of a text: 1 to 16 of these characters
abbrev pub is_salt : List ℕ → Bool
is_salt salt = nat_le 1 (length salt) && nat_le (length salt) salt_max_len && list_all is_salt_character salt

-- a SHA-crypt text is made of these: the password is one that a check can match
abbrev pub text_takes : List ℕ → List ℕ → ℕ → Bool
text_takes password salt rounds = rounds_taken password rounds && is_utf8 password && is_salt salt

-- a scrypt text is made of these: such a password, and a salt of 16 bytes
abbrev pub scrypt_text_takes : List ℕ → List ℕ → ℕ → ℕ → ℕ → Bool
scrypt_text_takes password salt ln r p =
    is_password password && is_utf8 password && (length salt == 16) && in_bounds ln r p
