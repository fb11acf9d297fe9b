-- What the private functions of a line buffer do. No public clause names these words.
use Rattle.std.specs.Prelude.{◌≡◌, ℕ, ◌+◌, ◌==◌, true, List, ◌++◌, length, Option}
use Rattle.std.specs.Io.KnownBytes.{Consumes, IsAtEnd}
use Rattle.line_io.specs.declared.buffer.LineBuffer.{LineBuffer}
use Rattle.line_io.specs.Buffer.{pending, line, taken, max_bytes, is_ended, is_closed}

-- what a read adds
pub record Fills (left left_now : Option (List ℕ)) (before now : LineBuffer) : Type 0 where
  pub bytes : List ℕ
  pub consumed : Consumes left left_now bytes
  pub added : pending now ≡ pending before ++ bytes
  pub counted : taken now ≡ taken before + length bytes
  pub end : is_ended now ≡ (length bytes == 0)
  pub at_end : length bytes ≡ 0 → IsAtEnd left_now
  pub max_same : max_bytes now ≡ max_bytes before
  pub closed_same : is_closed now ≡ is_closed before

-- all but the pending bytes is as before
pub record KeepsRest (before now : LineBuffer) : Type 0 where
  pub taken_same : taken now ≡ taken before
  pub max_same : max_bytes now ≡ max_bytes before
  pub ended_same : is_ended now ≡ is_ended before
  pub closed_same : is_closed now ≡ is_closed before

-- the pending bytes and the rest are as before
pub record KeepsAll (before now : LineBuffer) : Type 0 where
  pub pending_same : pending now ≡ pending before
  pub rest : KeepsRest before now

-- the buffer is closed, and all else is as before
pub record Closes (before now : LineBuffer) : Type 0 where
  pub line_same : line now ≡ line before
  pub pending_same : pending now ≡ pending before
  pub taken_same : taken now ≡ taken before
  pub max_same : max_bytes now ≡ max_bytes before
  pub ended_same : is_ended now ≡ is_ended before
  pub closed : is_closed now ≡ true
