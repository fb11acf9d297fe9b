-- What a buffer before a sink does with the bytes that are put into it.
use Rattle.std.specs.Prelude.{◌≡◌, ℕ, ◌≤◌, Bool, true, false, List, [], ◌++◌, take, Option}
use Rattle.std.specs.Io.KnownBytes.{Appends}
use Rattle.pieces.specs.FaultCounts.{HasRisen}
use Rattle.line_io.specs.declared.output.OutputBuffer.{OutputBuffer}

-- the bytes that wait to be written
unfoldable pub waiting : OutputBuffer → List ℕ
waiting b = take b.len b.bytes

-- whether a write failed
abbrev pub has_failed : OutputBuffer → Bool
has_failed b = b.failed

-- The bytes `put` stand behind those that waited. Of all these `added` were added to the sink, and `rest` were not:
-- they wait, unless a write failed. After that nothing is written.
pub record Puts (written written_now : Option (List ℕ)) (faults faults_now : ℕ) (before now : OutputBuffer)
    (put : List ℕ) : Type 0 where
  pub added : List ℕ
  pub rest : List ℕ
  pub appended : Appends written written_now added
  pub split : added ++ rest ≡ waiting before ++ put
  pub waits : has_failed now ≡ false → rest ≡ waiting now
  pub stays : has_failed before ≡ true → (has_failed now ≡ true) × (added ≡ [])
  pub count : faults ≤ faults_now
  pub cause : has_failed before ≡ false → has_failed now ≡ true → HasRisen faults faults_now
