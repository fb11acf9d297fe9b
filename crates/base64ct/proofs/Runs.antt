-- Runs of calls.
use Rattle.std.proofs.Common.{◌≡◌, ℕ, ◌+◌, ◌<◌, ◌≤◌, true, List, [], ◌∷◌, ◌++◌, length, take, drop, refl, sym, ap, ◌∙◌}
use Rattle.std.proofs.Common.{subst, arith, inl, inr, slice_index, Option, Some, None, Result, Ok, Err}
use Rattle.std.specs.Prelude.{MatchResult}
use Rattle.std.specs.List.{concat, join_by}
use Rattle.std.proofs.lemmas.Bool.{cases_lt, lt-ltb, le-ltb, false≢true}
use Rattle.std.proofs.lemmas.List.{append_assoc, append-nil, length-append, length-drop}
use Rattle.base64ct.specs.Encoding.{Alphabet, is_alphabet, holds_no_ending, encoding, EachBelow}
use Rattle.base64ct.specs.Blocks.{IsEncoding, decoded, AskedAreGood}
use Rattle.base64ct.specs.Wrapping.{AreLines, StandsInLines, HoldsOnlyEnds, layout}
use Rattle.base64ct.specs.Encoders.{Encoded}
use Rattle.base64ct.specs.Decoders.{Decoded, left, IsDecoded, IsOpened}
use Rattle.base64ct.specs.Runs.{EncodeRun, DecodeRun, slices, IsWide}
use Rattle.base64ct.specs.declared.errors.Error.{Error}
use Rattle.base64ct.specs.declared.errors.Error.TheVariants.{InvalidEncoding}
use Rattle.base64ct.proofs.GoodBlocks.{encoding_by_blocks}
use Rattle.base64ct.proofs.Layouts.{NoEnds, no_ends-encoding, lines_are_laid, laid_stands, stands_first}
use Rattle.base64ct.proofs.Wholes.{whole_is, last_encoding, all_read}
use Rattle.base64ct.proofs.Parts.{left_after}

-- ---- encoding

pub encoded_run : (a : Alphabet) (old new : Encoded) (inputs : List (List ℕ)) → EncodeRun a old inputs new
    → (new.bytes ≡ old.bytes ++ concat inputs) × (new.format ≡ old.format) × (new.room ≡ old.room)
unfolding EncodeRun
encoded_run a old new [] is = rw is (sym (append-nil old.bytes), refl, refl)
encoded_run a old new (input ∷ inputs) (mid, fits, step, run) =
    let rest = encoded_run a mid new inputs run in (
      rest.0 ∙ ap (λ (l : List ℕ). l ++ concat inputs) step.0 ∙ append_assoc old.bytes input (concat inputs),
      rest.1
          ∙ step.1,
      rest.2 ∙ step.2,
    )

-- ---- opening

pub wide_pos : (width : Option ℕ) → IsWide width → (w : ℕ) → width ≡ Some w → 0 < w
wide_pos None wide w e = absurd (wrong e)
  where
    wrong : {w : ℕ} → None ≡ Some w → ⊥
    wrong e = cc
wide_pos (Some v) wide w e =
    let same : v ≡ w = ap (λ (o : Option ℕ). elim o as (λ _. ℕ) [ None ↦ 0 | Some x ↦ x ]) e in
    omega arith

stands_some : (text t : List ℕ) (width : Option ℕ) → ((w : ℕ) → width ≡ Some w → 0 < w) → StandsInLines text width t
    → 0 < length t
unfolding AreLines
stands_some text t None wide s = s.0
stands_some text t (Some w) wide ([], a, sum) = absurd a
stands_some text t (Some w) wide ((line ∷ []), a, sum) = omega (arith, a.0, ap length sum, length-append line [])
stands_some text t (Some w) wide ((line ∷ next ∷ lines), a, sum) =
    omega (arith, a.0, wide w refl, ap length sum, length-append line (join_by (λ l. l) [] (next ∷ lines)))

pub opened : (a : Alphabet) → is_alphabet a ≡ true → holds_no_ending a ≡ true → (text t b : List ℕ) (width : Option ℕ)
    → IsWide width → StandsInLines text width t → EachBelow 256 b → t ≡ encoding a b
    → (HoldsOnlyEnds text → ⊥) × IsOpened a (layout text width) t × (decoded a t ≡ b)
opened a lawful ends text t b width wide stands below is =
    let pos = wide_pos width wide in
    let h : NoEnds t = subst NoEnds (sym is) (no_ends-encoding a b ends) in
    let first = stands_first text t width pos h stands in
    let some : 0 < length t = stands_some text t width pos stands in
    let head : slice_index text 0 ≡ first.0 = ap (λ (l : List ℕ). slice_index l 0) first.2 in (
      (λ only. elim (only 0 (omega (arith, ap length first.2))) [
        | inl cr ↦ false≢true (sym (rw (sym head ∙ cr) at first.3))
        | inr lf ↦ false≢true (sym (rw (sym head ∙ lf) at first.4))
      ]),
      (
        lines_are_laid text t width pos h stands,
        some,
        last_encoding a t some ((encoding_by_blocks a t lawful).0 (b, below, is)),
      ),
      rw is (whole_is a b lawful below),
    )

-- ---- decoding in parts

one_part : (a : Alphabet) (d mid : Decoded) (n : ℕ) (answer : Result (List ℕ) Error) → AskedAreGood a d.text d.read n
    → MatchResult answer (λ bytes. IsDecoded a d mid n bytes)
    (λ e. (e ≡ InvalidEncoding) × (AskedAreGood a d.text d.read n → ⊥) × (mid ≡ d))
    → (answer ≡ Ok (take n (left a d))) × (left a mid ≡ drop n (left a d)) × (mid.text ≡ d.text)
one_part a d mid n (Ok bytes) good m = (ap (λ (l : List ℕ). okay l) m.1, left_after a d mid n bytes m, m.2)
  where
    okay : List ℕ → Result (List ℕ) Error
    okay l = Ok l
one_part a d mid n (Err e) good m = absurd (m.1 good)

pub run_slices : (a : Alphabet) (d new : Decoded) (ns : List ℕ) (answers : List (Result (List ℕ) Error)) (b : List ℕ)
    → left a d ≡ b → ((from n : ℕ) → AskedAreGood a d.text from n) → DecodeRun a d ns answers new
    → answers ≡ slices b ns
unfolding DecodeRun slices
run_slices a d new [] [] b is good run = refl
run_slices a d new [] (answer ∷ answers) b is good run = absurd run
run_slices a d new (n ∷ ns) [] b is good run = absurd run
run_slices a d new (n ∷ ns) (answer ∷ answers) b is good (mid, part, run) = elim (cases_lt (length b) n) [
  | inl lt ↦
      let refused = part.0 (omega (arith, ap length is)) in
      let rest = run_slices a d new ns answers b is good
      (subst (λ (m : Decoded). DecodeRun a m ns answers new) refused.1 run) in
      rw (lt-ltb (length b) n lt, refused.0, rest) refl
  | inr ge ↦
      let given = one_part a d mid n answer (good d.read n) (part.1 (omega (arith, ap length is))) in
      let good_mid : (from n : ℕ) → AskedAreGood a mid.text from n =
      λ from n. subst (λ (t : List ℕ). AskedAreGood a t from n) (sym given.2) (good from n) in
      let rest = run_slices a mid new ns answers (drop n b) (given.1 ∙ ap (λ (l : List ℕ). drop n l) is) good_mid run in
      rw (le-ltb (length b) n ge, given.0, rest, is) refl
]

-- ---- to the end

more_good : (a : Alphabet) (t : List ℕ) (m n : ℕ) → AskedAreGood a t 0 m → AskedAreGood a t m n
    → AskedAreGood a t 0 (m + n)
more_good a t m n f g j ge lt =
    elim (cases_lt j m) [ inl before ↦ f j ge (omega (arith, before)) | inr behind ↦ g j behind (omega arith) ]

part_good : (a : Alphabet) (d mid : Decoded) (n : ℕ) (answer : Result (List ℕ) Error) → AskedAreGood a d.text 0 d.read
    → MatchResult answer (λ bytes. IsDecoded a d mid n bytes)
    (λ e. (e ≡ InvalidEncoding) × (AskedAreGood a d.text d.read n → ⊥) × (mid ≡ d))
    → (mid.text ≡ d.text) × AskedAreGood a mid.text 0 mid.read
part_good a d mid n (Ok bytes) good m = (
  m.2,
  subst (λ (t : List ℕ). AskedAreGood a t 0 mid.read) (sym m.2)
      (subst (λ (k : ℕ). AskedAreGood a d.text 0 k) (sym m.3) (more_good a d.text d.read n good m.0)),
)
part_good a d mid n (Err e) good m =
    (ap (λ (x : Decoded). x.text) m.2, subst (λ (x : Decoded). AskedAreGood a x.text 0 x.read) (sym m.2) good)

pub run_good : (a : Alphabet) (d new : Decoded) (ns : List ℕ) (answers : List (Result (List ℕ) Error))
    → AskedAreGood a d.text 0 d.read → DecodeRun a d ns answers new
    → (new.text ≡ d.text) × AskedAreGood a new.text 0 new.read
unfolding DecodeRun
run_good a d new [] [] good is =
    (ap (λ (x : Decoded). x.text) is, subst (λ (x : Decoded). AskedAreGood a x.text 0 x.read) (sym is) good)
run_good a d new [] (answer ∷ answers) good run = absurd run
run_good a d new (n ∷ ns) [] good run = absurd run
run_good a d new (n ∷ ns) (answer ∷ answers) good (mid, part, run) = elim (cases_lt (length (left a d)) n) [
  | inl lt ↦ run_good a d new ns answers good (subst (λ (m : Decoded). DecodeRun a m ns answers new) (part.0 lt).1 run)
  | inr ge ↦
      let step = part_good a d mid n answer good (part.1 ge) in
      let rest = run_good a mid new ns answers step.1 run in
      (rest.0 ∙ step.0, rest.1)
]

pub to_end : (a : Alphabet) → is_alphabet a ≡ true → (text : List ℕ) (width : Option ℕ) → IsWide width
    → (d new : Decoded) (ns : List ℕ) (answers : List (Result (List ℕ) Error))
    → IsOpened a (layout text width) d.text → d.read ≡ 0 → DecodeRun a d ns answers new → length (left a new) ≡ 0
    → StandsInLines text width d.text × IsEncoding a d.text
to_end a lawful text width wide d new ns answers made_of start run none =
    let nothing : AskedAreGood a d.text 0 d.read = λ j ge lt. absurd (omega (arith, start)) in
    let end = run_good a d new ns answers nothing run in
    let all : length (decoded a new.text) ≤ new.read = omega (arith, none, length-drop new.read (decoded a new.text)) in
    let asked : AskedAreGood a d.text 0 new.read = subst (λ (t : List ℕ). AskedAreGood a t 0 new.read) end.0 end.1 in (
      laid_stands text d.text width (wide_pos width wide) made_of.1 made_of.0,
      all_read a d.text new.read lawful made_of.1 made_of.2
          (subst (λ (t : List ℕ). length (decoded a t) ≤ new.read) end.0 all) asked,
    )
