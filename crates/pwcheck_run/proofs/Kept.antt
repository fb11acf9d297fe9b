-- Runs that keep their input whole.
use Rattle.std.proofs.Common.{◌≡◌, ◌≢◌, ℕ, ◌<◌, ◌≤◌, ◌+◌, List, [], ◌∷◌, ◌++◌, length, take, drop, refl, sym, ap, ◌∙◌}
use Rattle.std.proofs.Common.{subst}
use Rattle.std.proofs.Common.{arith, Option, Some}
use Rattle.std.specs.Io.KnownBytes.{Consumes, Appends, IsAtEnd}
use Rattle.std.proofs.lemmas.List.{length-append, length-take, nil_from_length}
use Rattle.std.proofs.lemmas.Option.{same_Some}
use Rattle.line_io.specs.Devices.{WhereTold}
use Rattle.line_io.proofs.Moved.{where_told, where_told_end, appends_none}
use Rattle.base64ct.specs.Encoding.{encoding, EachBelow}
use Rattle.base64ct.specs.Alphabets.{base64}
use Rattle.base64ct.specs.Blocks.{decoded, AskedAreGood, IsEncoding}
use Rattle.base64ct.specs.Wrapping.{wrap, Wrapped, layout, HoldsOnlyEnds}
use Rattle.base64ct.specs.Decoders.{Decoded, IsOpened, left}
use Rattle.base64ct.proofs.Padding.{length-encoding}
use Rattle.base64ct.proofs.GoodBlocks.{encoding_by_blocks}
use Rattle.base64ct.proofs.Encoders.{wrap_is}
use Rattle.base64ct.proofs.Wrapping.{wrap-nil}
use Rattle.base64ct.proofs.Layouts.{laid_stands}
use Rattle.base64ct.proofs.Wholes.{whole_is, all_asked, all_read}
use Rattle.base64ct.proofs.Runs.{opened, wide_pos}
use Rattle.pwcheck_run.specs.Streams.{Wraps, Unwraps, KeptOutcome}

-- ---- outcomes

-- nothing is written, as the input isn't there whole, or memory is wanting
pub kept_stopped : (Gives : List ℕ → List ℕ → Type 0) (status max : ℕ) (a b c d : Option (List ℕ)) (taken : List ℕ)
    → Consumes a b taken → d ≡ c → length taken ≤ max + 1
    → 3 ≤ status → status ≤ 6 → status ≢ 4 → (status ≡ 6 → max < length taken)
    → WhereTold a b c d (λ held taken added. KeptOutcome Gives status max held taken added)
kept_stopped Gives status max a b c d taken took same bounded low high other over =
    subst (λ (e : Option (List ℕ)).
    WhereTold a b c e (λ held taken added. KeptOutcome Gives status max held taken added)) (sym same)
    (where_told a b c c taken [] (λ held taken added. KeptOutcome Gives status max held taken added) took
    (appends_none c) (λ held rest is sum. record {
      done = λ e. absurd (omega (arith, e, low));
      write_fault = λ e. absurd (other e);
      budget = λ e. omega (arith, over e, ap length sum, length-append taken rest);
      no_output = λ e. absurd (omega (arith, e, high));
      bounded = bounded;
      nothing = λ _ _. refl;
    }))

-- all is written
pub kept_done : (Gives : List ℕ → List ℕ → Type 0) (max : ℕ) (a b c d : Option (List ℕ)) (input output : List ℕ)
    → Consumes a b input → IsAtEnd b → length input ≤ max → Appends c d output → Gives input output
    → WhereTold a b c d (λ held taken added. KeptOutcome Gives 0 max held taken added)
kept_done Gives max a b c d input output took end within wrote gives =
    where_told_end a b c d input output (λ held taken added. KeptOutcome Gives 0 max held taken added) took end wrote
    (record {
      done = λ _. (within, refl, gives);
      write_fault = λ e. absurd (omega (arith, e));
      budget = λ e. absurd (omega (arith, e));
      no_output = λ e. absurd (omega (arith, e));
      bounded = omega (arith, within);
      nothing = λ no_done _. absurd (no_done refl);
    })

-- the input has no output
pub kept_none : (Gives : List ℕ → List ℕ → Type 0) (max : ℕ) (a b c d : Option (List ℕ)) (input : List ℕ)
    → Consumes a b input → IsAtEnd b → length input ≤ max → d ≡ c → ((output : List ℕ) → Gives input output → ⊥)
    → WhereTold a b c d (λ held taken added. KeptOutcome Gives 7 max held taken added)
kept_none Gives max a b c d input took end within same none =
    subst (λ (e : Option (List ℕ)). WhereTold a b c e (λ held taken added. KeptOutcome Gives 7 max held taken added))
    (sym same)
    (where_told_end a b c c input [] (λ held taken added. KeptOutcome Gives 7 max held taken added) took end
    (appends_none c)
    (record {
      done = λ e. absurd (omega (arith, e));
      write_fault = λ e. absurd (omega (arith, e));
      budget = λ e. absurd (omega (arith, e));
      no_output = λ _. (within, refl, none);
      bounded = omega (arith, within);
      nothing = λ _ _. refl;
    }))

-- a front of a read behind what was taken
pub joined_within : (xs ys : List ℕ) (n most : ℕ) → length xs + n ≤ most → length (xs ++ take n ys) ≤ most
joined_within xs ys n most h = let part = length-take n ys in let sum = length-append xs (take n ys) in
    omega (arith, h, part, sum)

-- ---- texts

pub wraps_none : (w : ℕ) (input : List ℕ) → 4 ≤ w → length input ≡ 0 → Wraps w input []
wraps_none w input wide e =
    let none : input ≡ [] = nil_from_length input e in
    let nothing : encoding base64 input ≡ [] =
    nil_from_length (encoding base64 input)
    (omega (
      arith,
      ap (λ (l : List ℕ). length (encoding base64 l)) none,
      length-encoding base64 [] (λ i. omega arith),
    )) in
    sym (ap (λ (t : List ℕ). wrap t w (10 ∷ [])) nothing ∙ wrap_is w (10 ∷ []) [] (omega arith)
    ∙ wrap-nil w (10 ∷ []) w)

pub unwraps_some : (w : ℕ) (input output : List ℕ) → 0 < length input → EachBelow 256 output
    → Wrapped input w (encoding base64 output) → Unwraps w input output
unwraps_some w [] output some below wrapped = absurd (omega arith)
unwraps_some w (c ∷ cs) output some below wrapped = (below, wrapped)

pub unwraps_parts : (w : ℕ) (input output : List ℕ) → 0 < length input → Unwraps w input output
    → EachBelow 256 output × Wrapped input w (encoding base64 output)
unwraps_parts w [] output some u = absurd (omega arith)
unwraps_parts w (c ∷ cs) output some u = u

-- a text that has an output is opened
pub unwraps_opened : (w : ℕ) (input output : List ℕ) → 4 ≤ w → 0 < length input → Unwraps w input output
    → (HoldsOnlyEnds input → ⊥) × IsOpened base64 (layout input (Some w)) (encoding base64 output)
unwraps_opened w input output wide some u =
    let parts = unwraps_parts w input output some u in
    let made = opened base64 refl refl input (encoding base64 output) output (Some w) wide parts.1 parts.0 refl in
    (made.0, made.1)

-- what was read to the end is the output
pub unwraps_read : (w : ℕ) (input t bytes : List ℕ) → 4 ≤ w → 0 < length input
    → IsOpened base64 (layout input (Some w)) t → AskedAreGood base64 t 0 (length (decoded base64 t))
    → bytes ≡ decoded base64 t → Unwraps w input bytes
unwraps_read w input t bytes wide some made asked is =
    let stands : Wrapped input w t = laid_stands input t (Some w) (wide_pos (Some w) wide) made.1 made.0 in
    let e : IsEncoding base64 t =
    all_read base64 t (length (decoded base64 t)) refl made.1 made.2 (omega arith) asked in
    let same : bytes ≡ e.0 = is ∙ ap (λ (l : List ℕ). decoded base64 l) e.2 ∙ whole_is base64 e.0 refl e.1 in
    unwraps_some w input bytes some (subst (EachBelow 256) (sym same) e.1)
    (subst (λ (l : List ℕ). Wrapped input w l) (e.2 ∙ ap (λ (l : List ℕ). encoding base64 l) (sym same)) stands)

-- where a block is bad there is none
pub unwraps_bad : (w : ℕ) (input t output : List ℕ) (from n : ℕ) → 4 ≤ w → 0 < length input
    → IsOpened base64 (layout input (Some w)) t → (AskedAreGood base64 t from n → ⊥) → Unwraps w input output → ⊥
unwraps_bad w input t output from n wide some made bad u =
    let parts = unwraps_parts w input output some u in
    let other = unwraps_opened w input output wide some u in
    let same : encoding base64 output ≡ t = same_Some (encoding base64 output) t (sym other.1.0 ∙ made.0) in
    bad (all_asked base64 t ((encoding_by_blocks base64 t refl).0 (output, parts.0, sym same)) from n)

-- a vector to which all was appended
pub unwraps_all : (w : ℕ) (input : List ℕ) (d : Decoded) (old new : List ℕ) → 4 ≤ w → 0 < length input → d.read ≡ 0
    → IsOpened base64 (layout input (Some w)) d.text → old ≡ [] → new ≡ old ++ left base64 d
    → AskedAreGood base64 d.text d.read (length (left base64 d)) → Unwraps w input new
unwraps_all w input d old new wide some start made none sum asked =
    let whole : left base64 d ≡ decoded base64 d.text = ap (λ (k : ℕ). drop k (decoded base64 d.text)) start in
    let all : AskedAreGood base64 d.text 0 (length (decoded base64 d.text)) =
    subst (λ (l : List ℕ). AskedAreGood base64 d.text 0 (length l)) whole
    (subst (λ (k : ℕ). AskedAreGood base64 d.text k (length (left base64 d))) start asked) in
    unwraps_read w input d.text new wide some made all (sum ∙ ap (λ (l : List ℕ). l ++ left base64 d) none ∙ whole)
