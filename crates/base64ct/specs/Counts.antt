-- How often decoding looks a character up and compares two.
use Rattle.std.specs.Prelude.{ℕ, ◌+◌, ◌-◌, ◌*◌, ◌/◌, ◌%◌, ◌==◌, Bool, ◌&&◌, ◌||◌, not, cond, nat_lt, List, length}
use Rattle.base64ct.specs.Encoding.{Alphabet, padding_len, decoded_len}

-- t is refused before it is read
abbrev pub is_refused : Alphabet → List ℕ → ℕ → Bool
is_refused a t room = (a.padded && not (length t % 4 == 0)) || nat_lt room (decoded_len a t)

-- how often decoding looks
abbrev pub look_count : Alphabet → List ℕ → ℕ → ℕ
look_count a t room = cond (is_refused a t room) 0 (4 * ((length t - padding_len a t) / 4) + 4)

-- how often decoding an unpadded field looks, where it isn't refused before it is read
abbrev pub field_looks : List ℕ → ℕ
field_looks field = 4 * (length field / 4) + 4

-- how often decoding compares
abbrev pub comparison_count : Alphabet → List ℕ → ℕ → ℕ
comparison_count a t room = cond (is_refused a t room || (length t == 0)) 0 4

-- how often decoding asks the character of a value: that of 0, and those of the last block
abbrev pub spell_count : Alphabet → List ℕ → ℕ → ℕ
spell_count a t room = cond (is_refused a t room) 0 (1 + comparison_count a t room)

-- what a table of characters counts
pub record TableCounts : Type 0 where
  pub looks : ℕ
  pub spells : ℕ

-- what is counted of decoding and comparing
pub record Counters : Type 0 where
  pub looks : ℕ
  pub sames : ℕ
