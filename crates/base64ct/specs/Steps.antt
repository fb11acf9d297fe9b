-- The masked steps from a character to its value and back, in 16-bit two's complement: a number below
-- 2 ^ 15 stands for itself, and one from there on for what is 2 ^ 16 less.
use Rattle.std.specs.Prelude.{ℕ, zero, suc, ◌+◌, ◌-◌, ◌/◌, ◌%◌, ◌==◌, Bool, true, ◌&&◌, cond, nat_lt, List, [], ◌∷◌}
use Rattle.std.specs.Prelude.{Option, Some, None, bit_and}
use Rattle.base64ct.specs.Encoding.{Alphabet, character, value_of}

-- what is added where the character lies in a range, from its first to its last: the character and an
-- offset; or where it is this one: a number
pub data DecodeStep : Type 0 where
  in_range : ℕ → ℕ → ℕ → DecodeStep
  at_one : ℕ → ℕ → DecodeStep

-- what is added where a bound is below the value, or below the sum so far
pub data EncodeStep : Type 0 where
  past_value : ℕ → ℕ → EncodeStep
  past_sum : ℕ → ℕ → EncodeStep

-- the steps of an alphabet, and the character that stands for the value 0
pub record Steps : Type 0 where
  pub decoding : List DecodeStep
  pub base : ℕ
  pub encoding : List EncodeStep

-- the word of -n
abbrev pub minus : ℕ → ℕ
minus n = 0x1_0000 - n

-- the sum of two words
abbrev pub word_add : ℕ → ℕ → ℕ
word_add a b = (a + b) % 0x1_0000

-- their difference
abbrev pub word_sub : ℕ → ℕ → ℕ
word_sub a b = (a + (0x1_0000 - b)) % 0x1_0000

-- a word shifted right by eight bits, with its sign kept: all ones for a small negative number, 0 for a small one
abbrev pub sign_shift : ℕ → ℕ
sign_shift a = cond (nat_lt a 0x8000) (a / 256) (0xff00 + a / 256)

-- what a step adds for the character c
abbrev pub decode_step : ℕ → DecodeStep → ℕ
decode_step c (in_range first last offset) =
    bit_and (sign_shift (bit_and (word_sub (word_sub first 1) c) (word_sub c (last + 1)))) (word_add c offset)
decode_step c (at_one one value) =
    bit_and (sign_shift (bit_and (word_sub (word_sub one 1) c) (word_sub c (one + 1)))) value

-- a sum and all that steps add to it
abbrev pub decode_from : ℕ → ℕ → List DecodeStep → ℕ
decode_from sum c [] = sum
decode_from sum c (step ∷ steps) = decode_from (word_add sum (decode_step c step)) c steps

-- the steps from -1 on
abbrev pub decoded_by : Steps → ℕ → ℕ
decoded_by s c = decode_from (minus 1) c s.decoding

-- a sum and all that steps add to it for the value v
abbrev pub encode_from : ℕ → ℕ → List EncodeStep → ℕ
encode_from sum v [] = sum
encode_from sum v (past_value bound n ∷ steps) =
    encode_from (word_add sum (bit_and (sign_shift (word_sub bound v)) n)) v steps
encode_from sum v (past_sum bound n ∷ steps) =
    encode_from (word_add sum (bit_and (sign_shift (word_sub bound sum)) n)) v steps

-- the steps from the value and the base on
abbrev pub encoded_by : Steps → ℕ → ℕ
encoded_by s v = encode_from (word_add v s.base) v s.encoding

-- the word of a value, or of -1
abbrev pub word_of : Option ℕ → ℕ
word_of None = minus 1
word_of (Some v) = v

-- a test of each number below n
abbrev pub all_below : ℕ → (ℕ → Bool) → Bool
all_below zero test = true
all_below (suc n) test = test n && all_below n test

-- the steps give the value of each character and the character of each value
unfoldable pub steps_agree : Alphabet → Steps → Bool
steps_agree a s = all_below 256 (λ c. decoded_by s c == word_of (value_of a c))
    && all_below 64 (λ v. encoded_by s v == character a v)
