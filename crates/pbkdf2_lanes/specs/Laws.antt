-- A law over the definitions.
use Rattle.std.specs.Prelude.{◌≡◌, ℕ, ◌≤◌, List, take}
use Rattle.pbkdf2_key.specs.Pbkdf2.{pbkdf2_sha256}

-- a key of n bytes, at most 32, is the first n bytes of that of 32
abbrev pub FirstBytes : Type 0
FirstBytes =
    (password salt : List ℕ) (rounds n : ℕ) → n ≤ 32
    → pbkdf2_sha256 password salt rounds n ≡ take n (pbkdf2_sha256 password salt rounds 32)
