-- Names of characters (ASCII) between the fields of foreign texts.
use Rattle.std.specs.Prelude.{ℕ}

-- `:`
abbrev pub colon : ℕ
colon = 58

-- `.`
abbrev pub full_stop : ℕ
full_stop = 46
