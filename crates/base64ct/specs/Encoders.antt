-- What an encoder stands for.
use Rattle.std.specs.Prelude.{◌≡◌, ℕ, zero, suc, ◌+◌, ◌-◌, ◌*◌, ◌/◌, ◌%◌, ◌≤◌, ◌==◌, nat_lt, if◌then◌else◌, List, []}
use Rattle.std.specs.Prelude.{◌∷◌, ◌++◌, length, map, take, Option, Some, None}
use Rattle.std.specs.List.{position_or_len}
use Rattle.base64ct.specs.Encoding.{Alphabet, whole_bytes, unpadded_encoding, EachBelow}
use Rattle.base64ct.specs.Wrapping.{Format}
use Rattle.base64ct.specs.LineEndings.{ending_bytes}
use Rattle.base64ct.specs.declared.line_ending.LineEnding.{LineEnding}

-- t in lines of w characters, written where the line has room for some more
unfoldable pub wrap_from : ℕ → List ℕ → ℕ → List ℕ → List ℕ
wrap_from w e room [] = []
wrap_from w e zero (c ∷ cs) = e ++ c ∷ wrap_from w e (w - 1) cs
wrap_from w e (suc room) (c ∷ cs) = c ∷ wrap_from w e room cs

-- the room that is left in the line behind n characters
unfoldable pub room_after : ℕ → ℕ → ℕ → ℕ
room_after w room zero = room
room_after w zero (suc n) = room_after w (w - 1) n
room_after w (suc room) (suc n) = room_after w room n

-- the characters of wrapped text without the endings of k bytes, read where n bytes are left up to the next line
unfoldable pub unwrap_from : ℕ → ℕ → ℕ → List ℕ → List ℕ
unwrap_from w k n [] = []
unwrap_from w k zero (c ∷ cs) = c ∷ unwrap_from w k (w - 1 + k) cs
unwrap_from w k (suc n) (c ∷ cs) = if nat_lt n k then unwrap_from w k n cs else c ∷ unwrap_from w k n cs

-- the bytes whose characters, wrapped at w by endings of k bytes, are these
abbrev pub bytes_in : Alphabet → ℕ → ℕ → List ℕ → List ℕ
bytes_in a w k front = whole_bytes a.low_first
    (map (λ c. position_or_len (λ x. x == c) a.characters) (unwrap_from w k (w + k) front))

-- the whole blocks of three bytes
abbrev pub whole_blocks : List ℕ → List ℕ
whole_blocks b = take (3 * (length b / 3)) b

-- the characters of b stand, wrapped, before the position of the buffer, with this room in the last line
pub record Stands (a : Alphabet) (w : ℕ) (e out : List ℕ) (position room : ℕ) (b : List ℕ) : Type 0 where
  pub below : EachBelow 256 b
  pub whole : length b % 3 ≡ 0
  pub front : take position out ≡ wrap_from w e w (unpadded_encoding a b)
  pub within : position ≤ length out
  pub at : room ≡ room_after w w (length (unpadded_encoding a b))

-- an encoder: the bytes so far, how they stand in lines, and the length of the buffer
pub record Encoded : Type 0 where
  pub bytes : List ℕ
  pub format : Format
  pub room : ℕ

-- old up to one position and new up to another differ by this text, written in lines
pub record Wrote (w : ℕ) (e old new : List ℕ) (from to room left : ℕ) (text : List ℕ) : Type 0 where
  pub put : take to new ≡ take from old ++ wrap_from w e room text
  pub within : to ≤ length new
  pub at : left ≡ room_after w room (length text)

-- the number of endings in n characters
abbrev pub endings : ℕ → ℕ → ℕ → ℕ
endings w room n = if nat_lt room n then (n - room - 1) / w + 1 else 0

-- the bytes of an ending, where there is one
abbrev pub ending_of : Option LineEnding → List ℕ
ending_of None = []
ending_of (Some e) = ending_bytes e

-- one line, or lines of this width
abbrev pub format_of : ℕ → Option LineEnding → Format
format_of w None = None
format_of w (Some e) = Some (w, ending_bytes e)
