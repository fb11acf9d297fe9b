-- Runs of calls of an encoder, and of a decoder.
use Rattle.std.specs.Prelude.{◌≡◌, ℕ, ◌<◌, ◌≤◌, nat_lt, if◌then◌else◌, List, [], ◌∷◌, ◌++◌, length, take, drop, Option}
use Rattle.std.specs.Prelude.{Some, None, Result, Ok, Err, MatchResult, ⊤}
use Rattle.base64ct.specs.Encoding.{Alphabet, unpadded_encoding}
use Rattle.base64ct.specs.Blocks.{AskedAreGood}
use Rattle.base64ct.specs.Wrapping.{in_lines}
use Rattle.base64ct.specs.Encoders.{Encoded, whole_blocks}
use Rattle.base64ct.specs.Decoders.{Decoded, left, IsDecoded}
use Rattle.base64ct.specs.declared.errors.Error.{Error}
use Rattle.base64ct.specs.declared.errors.Error.TheVariants.{InvalidEncoding, InvalidLength}

-- the text of the whole blocks fits, with this input
abbrev pub Fits : Alphabet → Encoded → List ℕ → Type 0
Fits a e input = length (in_lines e.format (unpadded_encoding a (whole_blocks (e.bytes ++ input)))) ≤ e.room

-- the input is appended to the bytes so far
abbrev pub IsAppended : Encoded → List ℕ → Encoded → Type 0
IsAppended old input new = (new.bytes ≡ old.bytes ++ input) × (new.format ≡ old.format) × (new.room ≡ old.room)

-- calls of `encode` with these inputs, each accepted
unfoldable pub EncodeRun : Alphabet → Encoded → List (List ℕ) → Encoded → Type 0
EncodeRun a old [] new = new ≡ old
EncodeRun a old (input ∷ inputs) new =
    (mid : Encoded) × Fits a old input × IsAppended old input mid × EncodeRun a mid inputs new

-- what a call of `decode` for n bytes answers and leaves
abbrev pub IsPart : Alphabet → Decoded → ℕ → Result (List ℕ) Error → Decoded → Type 0
IsPart a old n answer new =
    (length (left a old) < n → (answer ≡ Err InvalidLength) × (new ≡ old))
    × (n ≤ length (left a old)
    → MatchResult answer (λ b. IsDecoded a old new n b)
    (λ e. (e ≡ InvalidEncoding) × (AskedAreGood a old.text old.read n → ⊥) × (new ≡ old)))

-- the answer of a call that writes these bytes, or refuses
abbrev pub part_of : {T : Type 0} → Result T Error → List ℕ → Result (List ℕ) Error
part_of (Ok x) bytes = Ok bytes
part_of (Err e) bytes = Err e

-- calls of `decode` for so many bytes each, and their answers
unfoldable pub DecodeRun : Alphabet → Decoded → List ℕ → List (Result (List ℕ) Error) → Decoded → Type 0
DecodeRun a old [] [] new = new ≡ old
DecodeRun a old [] (answer ∷ answers) new = ⊥
DecodeRun a old (n ∷ ns) [] new = ⊥
DecodeRun a old (n ∷ ns) (answer ∷ answers) new =
    (mid : Decoded) × IsPart a old n answer mid × DecodeRun a mid ns answers new

-- consecutive slices of b of these lengths; one that is longer than what is left of b is refused, and takes nothing
unfoldable pub slices : List ℕ → List ℕ → List (Result (List ℕ) Error)
slices b [] = []
slices b (n ∷ ns) = if nat_lt (length b) n then Err InvalidLength ∷ slices b ns else Ok (take n b)
    ∷ slices (drop n b) ns

-- no width, or one that is not below 4
abbrev pub IsWide : Option ℕ → Type 0
IsWide None = ⊤
IsWide (Some w) = 4 ≤ w
