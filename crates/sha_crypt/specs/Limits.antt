-- The limits of SHA-crypt (U. Drepper, 'Unix crypt using SHA-256 and SHA-512': the salt string and its prefix
-- `rounds=<N>$`, the output).
use Rattle.std.specs.Prelude.{ℕ}

-- the rounds where none are named
abbrev pub rounds_default : ℕ
rounds_default = 5000

-- the fewest rounds
abbrev pub rounds_min : ℕ
rounds_min = 1000

-- the most rounds
abbrev pub rounds_max : ℕ
rounds_max = 999999999

-- the most bytes of a salt that count
abbrev pub salt_max_len : ℕ
salt_max_len = 16

-- the most bytes of a text: 28 that name the rounds, 16 of salt, 86 of hash, the identifier and three `$`
abbrev pub text_max : ℕ
text_max = 134

-- the characters of a hash field of SHA-256-crypt
abbrev pub pw_size_sha256 : ℕ
pw_size_sha256 = 43

-- the same of SHA-512-crypt
abbrev pub pw_size_sha512 : ℕ
pw_size_sha512 = 86
