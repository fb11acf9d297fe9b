-- Bytes encoded by characters of six bits each (RFC 4648, sections 3 to 5), and the texts that are read back.
use Rattle.std.specs.Prelude.{◌≡◌, ◌≢◌, ℕ, zero, suc, ◌+◌, ◌-◌, ◌*◌, ◌/◌, ◌%◌, ◌^◌, ◌<◌, ◌==◌, Bool, true, ◌&&◌, not}
use Rattle.std.specs.Prelude.{if◌then◌else◌, List, [], ◌∷◌, ◌++◌, length, map, reverse, take, drop, replicate}
use Rattle.std.specs.Prelude.{slice_index, EachIndex, Option, None, count_by, position, flat_map, nat_lt}
use Rattle.std.specs.List.{list_all}

-- the characters of the values 0 to 63; whether `=` fills the text up to fours; whether bits are taken lowest first
pub record Alphabet : Type 0 where
  pub characters : List ℕ
  pub padded : Bool
  pub low_first : Bool

-- `=`
abbrev pub equals_sign : ℕ
equals_sign = 61

-- all of these are different
abbrev pub all_different : List ℕ → Bool
all_different [] = true
all_different (c ∷ cs) = (count_by (λ x. x == c) cs == 0) && all_different cs

-- 64 different characters, and `=` is none of them
abbrev pub is_alphabet : Alphabet → Bool
is_alphabet a = (length a.characters == 64) && all_different (equals_sign ∷ a.characters)

-- each character is ASCII
abbrev pub are_ascii : Alphabet → Bool
are_ascii a = list_all (λ c. nat_lt c 128) a.characters

-- neither CR nor LF is a character
abbrev pub holds_no_ending : Alphabet → Bool
holds_no_ending a = list_all (λ c. not (c == 13) && not (c == 10)) a.characters

-- the character of the value v
abbrev pub character : Alphabet → ℕ → ℕ
character a v = slice_index a.characters v

-- the value of the character c, where it is one
abbrev pub value_of : Alphabet → ℕ → Option ℕ
value_of a c = position (λ x. x == c) a.characters

-- each byte of t is a character
abbrev pub AreCharacters : Alphabet → List ℕ → Type 0
AreCharacters a t = EachIndex t (λ i. value_of a (slice_index t i) ≢ None)

-- the n lowest bits of x, the lowest first
unfoldable pub low_bits : ℕ → ℕ → List ℕ
low_bits zero x = []
low_bits (suc n) x = x % 2 ∷ low_bits n (x / 2)

-- the number that has these bits, the lowest first
unfoldable pub number : List ℕ → ℕ
number [] = 0
number (b ∷ bs) = b + 2 * number bs

-- bits, the lowest first, in the order in which they are taken
abbrev pub ordered : Bool → List ℕ → List ℕ
ordered low_first bits = if low_first then bits else reverse bits

-- the bits of numbers of n bits each, joined to one list
unfoldable pub bits : Bool → ℕ → List ℕ → List ℕ
bits low_first n xs = flat_map (λ x. ordered low_first (low_bits n x)) xs

-- a list of bits cut into sixes, with zeros at the end of the last
unfoldable pub sixes : List ℕ → List (List ℕ)
sixes [] = []
sixes (a ∷ b ∷ c ∷ d ∷ e ∷ f ∷ rest) = (a ∷ b ∷ c ∷ d ∷ e ∷ f ∷ []) ∷ sixes rest
sixes short = take 6 (short ++ replicate 6 0) ∷ []

-- a list of bits cut into eights, without what is left over
unfoldable pub eights : List ℕ → List (List ℕ)
eights (a ∷ b ∷ c ∷ d ∷ e ∷ f ∷ g ∷ h ∷ rest) = (a ∷ b ∷ c ∷ d ∷ e ∷ f ∷ g ∷ h ∷ []) ∷ eights rest
eights short = []

-- the six-bit values of bytes
unfoldable pub groups : Bool → List ℕ → List ℕ
groups low_first bytes = map (λ six. number (ordered low_first six)) (sixes (bits low_first 8 bytes))

-- the whole bytes of six-bit values
unfoldable pub whole_bytes : Bool → List ℕ → List ℕ
whole_bytes low_first values = map (λ eight. number (ordered low_first eight)) (eights (bits low_first 6 values))

-- the `=` padding behind n characters: the least number that makes a multiple of four
abbrev pub padding : Bool → ℕ → List ℕ
padding padded n = if padded then replicate ((4 - n % 4) % 4) equals_sign else []

-- the text of six-bit values
abbrev pub text_of : Alphabet → List ℕ → List ℕ
text_of a values = map (character a) values ++ padding a.padded (length values)

-- the characters of bytes
abbrev pub unpadded_encoding : Alphabet → List ℕ → List ℕ
unpadded_encoding a bytes = map (character a) (groups a.low_first bytes)

-- the number of characters of n bytes
abbrev pub unpadded_len : ℕ → ℕ
unpadded_len n = (4 * n + 2) / 3

-- the encoding of bytes: their characters and the padding behind them
unfoldable pub encoding : Alphabet → List ℕ → List ℕ
encoding a bytes = text_of a (groups a.low_first bytes)

-- the number of `=` among the last two bytes of t, where the alphabet is padded; they count wherever they stand
-- ("AB=C" has one), so that want of room may be answered for a text that encodes nothing
abbrev pub padding_len : Alphabet → List ℕ → ℕ
padding_len a t = if a.padded then count_by (λ c. c == equals_sign) (drop (length t - 2) t) else 0

-- the number of bytes that are ever encoded: `usize::MAX / 4`
abbrev pub longest_input : ℕ
longest_input = (2 ^ 64 - 1) / 4

-- the number of bytes that n characters stand for
abbrev pub byte_count : ℕ → ℕ
byte_count n = 3 * (n / 4) + (3 * (n % 4)) / 4

-- t is no text of a padded alphabet, by its length
abbrev pub IsMisaligned : Alphabet → List ℕ → Type 0
IsMisaligned a t = (a.padded ≡ true) × (length t % 4 ≢ 0)

-- the number of bytes that t stands for without its padding
abbrev pub decoded_len : Alphabet → List ℕ → ℕ
decoded_len a t = byte_count (length t - padding_len a t)

-- each of these numbers is below n
abbrev pub EachBelow : ℕ → List ℕ → Type 0
EachBelow n xs = (i : ℕ) → slice_index xs i < n

-- these are the characters of the values, and the bytes are the whole bytes of their bits
abbrev pub Reads : Alphabet → List ℕ → List ℕ → List ℕ → Type 0
Reads a cs values bytes = EachBelow 64 values × (length values % 4 ≢ 1) × (cs ≡ map (character a) values)
    × (bytes ≡ whole_bytes a.low_first values)

-- t is read as these bytes, whatever bits are left over
abbrev pub IsLenient : Alphabet → List ℕ → List ℕ → Type 0
IsLenient a t bytes = (values : List ℕ) × EachBelow 64 values × (length values % 4 ≢ 1)
    × (t ≡ text_of a values) × (bytes ≡ whole_bytes a.low_first values)
