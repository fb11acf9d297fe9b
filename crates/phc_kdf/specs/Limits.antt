-- The limit of passwords.
use Rattle.std.specs.Prelude.{ℕ}

-- the most bytes of a password
abbrev pub password_max : ℕ
password_max = 4096
