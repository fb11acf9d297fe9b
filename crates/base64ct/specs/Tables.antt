-- What decoding by a table of characters and a test of two numbers answers.
use Rattle.std.specs.Prelude.{◌≡◌, ◌≢◌, ℕ, ◌+◌, ◌-◌, ◌*◌, ◌/◌, ◌%◌, ◌==◌, Bool, true, ◌&&◌, List, ◌∷◌, ◌++◌, length}
use Rattle.std.specs.Prelude.{take, drop, replicate}
use Rattle.std.specs.Cmp.Lexicographic.{pointwise}
use Rattle.base64ct.specs.declared.tables.Shape.{Shape}
use Rattle.base64ct.specs.Encoding.{Alphabet, all_different, equals_sign, character, unpadded_encoding, padding_len}

-- 64 different characters, and `=` is none of them
abbrev pub is_table : List ℕ → Bool
is_table cs = (length cs == 64) && all_different (equals_sign ∷ cs)

-- the alphabet of a table's characters under a shape
abbrev pub shaped : List ℕ → Shape → Alphabet
shaped cs shape = record { characters = cs; padded = shape.padded; low_first = shape.low_first }

-- t without its padding
abbrev pub stem : Alphabet → List ℕ → List ℕ
stem a t = take (length t - padding_len a t) t

-- the last n of a list
abbrev pub last_of : ℕ → List ℕ → List ℕ
last_of n xs = drop (length xs - n) xs

-- how many characters the last of the fours has into which n characters are cut
abbrev pub last_four : ℕ → ℕ
last_four n = (n - 1) % 4 + 1

-- at most four characters, filled up to four with the character of 0
abbrev pub filled : Alphabet → List ℕ → List ℕ
filled a cs = cs ++ replicate (4 - length cs) (character a 0)

-- the compared block: the last of the fours of t without its padding, filled up
abbrev pub compared : Alphabet → List ℕ → List ℕ
compared a t = filled a (last_of (last_four (length (stem a t))) (stem a t))

-- the characters in the same places of the encoding of the bytes of that four, the last ones of b, filled up
abbrev pub reencoded : Alphabet → List ℕ → List ℕ → List ℕ
reencoded a t b = filled a (unpadded_encoding a (last_of (3 * last_four (length (stem a t)) / 4) b))

-- each character of the compared block is related to the one in its place of the block's own encoding;
-- of an empty text nothing is compared
unfoldable pub Passes : (ℕ → ℕ → Bool) → Alphabet → List ℕ → List ℕ → Type 0
Passes related a t b = length t ≢ 0 → pointwise related (compared a t) (reencoded a t b) ≡ true
