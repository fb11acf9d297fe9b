-- The bytes that a text encodes.
use Rattle.std.specs.Prelude.{ℕ, ◌-◌, ◌==◌, ◌&&◌, Bool, List, length, map, take, nat_eq, nat_lt, Option, Some, None}
use Rattle.std.specs.Prelude.{if◌then◌else◌}
use Rattle.std.specs.List.{list_all, position_or_len}
use Rattle.std.specs.Cmp.Lexicographic.{pointwise}
use Rattle.base64ct.specs.Encoding.{Alphabet, padding_len, encoding, whole_bytes}

-- the values of the characters of a text without its padding
abbrev pub values_in : Alphabet → List ℕ → List ℕ
values_in a t = map (λ c. position_or_len (λ x. x == c) a.characters) (take (length t - padding_len a t) t)

-- each number is a byte
abbrev pub are_bytes : List ℕ → Bool
are_bytes b = list_all (λ x. nat_lt x 256) b

-- these bytes, where t is their encoding
abbrev pub if_encodes : Alphabet → List ℕ → List ℕ → Option (List ℕ)
if_encodes a t b = if are_bytes b && pointwise nat_eq (encoding a b) t then Some b else None

-- the bytes whose encoding t is, if there are any
unfoldable pub decoding : Alphabet → List ℕ → Option (List ℕ)
decoding a t = if_encodes a t (whole_bytes a.low_first (values_in a t))
