-- The limits of the parts (the PHC string format, and those of the crate phc 0.6.1 within it).
use Rattle.std.specs.Prelude.{ℕ}

-- the most characters of a name
abbrev pub name_max : ℕ
name_max = 32

-- the most characters of a value
abbrev pub value_max : ℕ
value_max = 64

-- the most bytes whose encoding is a value
abbrev pub value_bytes_max : ℕ
value_bytes_max = 48

-- the most characters of parameters
abbrev pub params_max : ℕ
params_max = 127

-- the fewest bytes of a salt
abbrev pub salt_min : ℕ
salt_min = 8

-- the most bytes of a salt
abbrev pub salt_max : ℕ
salt_max = 48

-- the fewest characters of the text of a salt
abbrev pub salt_text_min : ℕ
salt_text_min = 11

-- the most characters of the text of a salt
abbrev pub salt_text_max : ℕ
salt_text_max = 64

-- the fewest bytes of an output
abbrev pub output_min : ℕ
output_min = 10

-- the most bytes of an output
abbrev pub output_max : ℕ
output_max = 64

-- the most characters of the text of an output
abbrev pub output_text_max : ℕ
output_text_max = 86
