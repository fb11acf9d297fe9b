-- What a run did, for each status.
use Rattle.std.specs.Prelude.{◌≡◌, ◌≢◌, ◌⊎◌, ℕ, ◌+◌, ◌<◌, ◌≤◌, List, [], ◌∷◌, length, take}
use Rattle.base64ct.specs.Encoding.{encoding}
use Rattle.base64ct.specs.Alphabets.{base64}
use Rattle.line_io.specs.Runs.{IsPrefix}
use Rattle.base64ct.specs.Wrapping.{wrap}
use Rattle.base64ct.specs.Encoders.{whole_blocks}
use Rattle.wrap_stream.specs.Front.{BeginsWrapped, IsFront, IsWrapped}

-- the most bytes of one read
abbrev pub read_max : ℕ
read_max = 16384

-- the encoding of bytes in lines of w characters, with a line feed between two lines
abbrev pub wrapped : ℕ → List ℕ → List ℕ
wrapped w bytes = wrap (encoding base64 bytes) w (10 ∷ [])

-- Wrapping. The source held `held`, of which `taken` was taken; `added` was added to the sink.
pub record WrapOutcome (w status max : ℕ) (held taken added : List ℕ) : Type 0 where
  -- whatever the status: no read follows one that passed the bound
  pub bounded : length taken ≤ max + read_max
  -- 0: all was taken and is wrapped
  pub done : status ≡ 0 → (length held ≤ max) × (taken ≡ held) × (added ≡ wrapped w held)
  -- 3: a read failed; the whole blocks that were taken are wrapped
  pub read_fault : status ≡ 3 → added ≡ wrapped w (whole_blocks taken)
  -- 4: a write failed; what was written is the beginning of the whole
  pub write_fault : status ≡ 4 → IsPrefix added (wrapped w held)
  -- 6: the source holds more than `max` bytes; the whole blocks among the first of these are wrapped
  pub budget : status ≡ 6 → (max < length held) × (added ≡ wrapped w (whole_blocks (take max held)))

-- no bytes have this text as their wrapped encoding
abbrev pub NotWrapped : ℕ → List ℕ → Type 0
NotWrapped w text = (bytes : List ℕ) → IsWrapped w text bytes → ⊥

-- Unwrapping.
pub record UnwrapOutcome (w status max : ℕ) (held taken added : List ℕ) : Type 0 where
  -- whatever the status: no read follows one that passed the bound
  pub bounded : length taken ≤ max + read_max
  -- 0: all was taken; it is the wrapped encoding of what was written, or empty
  pub done : status ≡ 0 → (length held ≤ max) × (taken ≡ held) × (((held ≡ []) × (added ≡ [])) ⊎ IsWrapped w held added)
  -- 3: a read failed; the front of what was taken is written
  pub read_fault : status ≡ 3 → IsFront w taken added
  -- 4: a write failed; what was written is the beginning of the front, or of the bytes where the text is their encoding
  pub write_fault : status ≡ 4 → (bytes : List ℕ) × (IsFront w held bytes ⊎ IsWrapped w held bytes)
      × IsPrefix added bytes
  -- 6: the source holds more than `max` bytes; the front of the first of these is written
  pub budget : status ≡ 6 → (max < length held) × IsFront w (take max held) added
  -- 7: what was taken, or its first `max` bytes, is the beginning of no wrapped encoding; or all was taken and is none
  pub bad_text : status ≡ 7 → IsFront w taken added
      × ((BeginsWrapped w (take max taken) → ⊥)
      ⊎ ((length held ≤ max) × (taken ≡ held) × (held ≢ []) × NotWrapped w held))
  -- 7 comes for no wrapped encoding of at most `max` bytes, and not for the empty text
  pub refused : status ≡ 7 → length held ≤ max → (held ≢ []) × NotWrapped w held
