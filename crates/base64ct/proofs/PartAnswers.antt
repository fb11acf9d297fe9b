-- What a part that is lent says, from what was done and what is answered.
use Rattle.std.proofs.Common.{◌≡◌, ℕ, ◌<◌, ◌≤◌, List, length, Result, Ok, Err, sym, ◌∙◌, subst, arith}
use Rattle.std.specs.Prelude.{MatchResult, IfOk, OnErr, ◌++◌}
use Rattle.std.proofs.lemmas.List.{take_all}
use denote.Ref.{Bor}
use Rattle.base64ct.specs.Encoding.{Alphabet}
use Rattle.base64ct.specs.Blocks.{AskedAreGood}
use Rattle.base64ct.specs.Decoders.{Decoded, left, IsDecoded}
use Rattle.base64ct.specs.Runs.{IsPart, part_of}
use Rattle.base64ct.proofs.LentAnswers.{HandsBack, no_answer, refusal, again}
use Rattle.base64ct.specs.declared.errors.Error.{Error}
use Rattle.base64ct.specs.declared.errors.Error.TheVariants.{InvalidEncoding, InvalidLength}
use Rattle.base64ct.specs.declared.errors.DecodeVecError.{DecodeVecError}
use Rattle.base64ct.specs.declared.errors.DecodeVecError.TheVariants.{InvalidEncoding as BadRest}

abbrev pub PartEnds : Result (Bor (List ℕ)) Error → List ℕ → Type 0
PartEnds t new = IfOk t (λ b. new ≡ b.now)

abbrev pub SaysTooLong : Alphabet → Decoded → List ℕ → Result (Bor (List ℕ)) Error → Decoded → Type 0
SaysTooLong a old out t new = length (left a old) < length out → (t ≡ Err InvalidLength) × (new ≡ old)

abbrev pub SaysPart : Alphabet → Decoded → List ℕ → Result (Bor (List ℕ)) Error → Decoded → Type 0
SaysPart a old out t new =
    length out ≤ length (left a old) → MatchResult t (λ b. IsDecoded a old new (length out) b.now)
    (λ e. (e ≡ InvalidEncoding) × (AskedAreGood a old.text old.read (length out) → ⊥) × (new ≡ old))

abbrev pub PartSays : Alphabet → Decoded → List ℕ → Result (Bor (List ℕ)) Error → Decoded → Type 0
PartSays a old out t new = SaysTooLong a old out t new × SaysPart a old out t new

-- of all that is left
abbrev pub RestEnds : Result (Bor (List ℕ)) DecodeVecError → (old new : List ℕ) → Type 0
RestEnds t old new = IfOk t (λ b. new ≡ old ++ b.now) × OnErr t (new ≡ old)

abbrev pub SaysRest : Alphabet → Decoded → Result (Bor (List ℕ)) DecodeVecError → Decoded → Type 0
SaysRest a old t new = MatchResult t (λ b. IsDecoded a old new (length (left a old)) b.now)
    (λ e. (e ≡ BadRest → AskedAreGood a old.text old.read (length (left a old)) → ⊥) × (new ≡ old))

part_given : (a : Alphabet) (b : Bor (List ℕ)) (old new : Decoded) (out now last : List ℕ) → b.now ≡ now
    → IsPart a old (length out) (Ok now) new → last ≡ now → PartEnds (Ok b) last × PartSays a old out (Ok b) new
part_given a b old new out now last same told e = (
  e ∙ sym same,
  (
    (λ short. no_answer now InvalidLength (told.0 short).0),
    (λ fits. subst (λ (x : List ℕ). IsDecoded a old new (length out) x) (sym same) (told.1 fits)),
  ),
)

part_refused : (a : Alphabet) (x : Error) (old new : Decoded) (out last : List ℕ)
    → IsPart a old (length out) (Err x) new → PartEnds (Err x) last × PartSays a old out (Err x) new
unfolding refusal
part_refused a x old new out last told =
    (tt, ((λ short. (again x InvalidLength (told.0 short).0, (told.0 short).1)), (λ fits. told.1 fits)))

pub no_more_than : {F : Type 0} (outcome : Result ℕ F) (len : ℕ) → IfOk outcome (λ n. n ≡ len)
    → IfOk outcome (λ n. n ≤ len)
no_more_than (Ok n) len all = omega (arith, all)
no_more_than (Err e) len all = tt

pub part_says : (a : Alphabet) (t : Result (Bor (List ℕ)) Error) (outcome : Result ℕ Error) (old new : Decoded)
    (out now last : List ℕ) → HandsBack t outcome now → IfOk outcome (λ n. n ≡ length now)
    → IsPart a old (length out) (part_of outcome now) new → last ≡ now → PartEnds t last × PartSays a old out t new
part_says a (Ok b) outcome old new out now last ok whole told e =
    let all : length b.now ≡ length now = subst (λ (r : Result ℕ Error). IfOk r (λ n. n ≡ length now)) ok.0 whole in
    let same : b.now ≡ now = ok.1 ∙ take_all (length b.now) now (omega (arith, all)) in
    part_given a b old new out now last same
    (subst (λ (r : Result ℕ Error). IsPart a old (length out) (part_of r now) new) ok.0 told) e
part_says a (Err x) outcome old new out now last ok whole told e =
    part_refused a x old new out last
    (subst (λ (r : Result ℕ Error). IsPart a old (length out) (part_of r now) new) ok told)
