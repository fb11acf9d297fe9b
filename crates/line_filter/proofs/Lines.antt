-- The lines of a text that is meant.
use Rattle.std.proofs.Common.{◌≡◌, ℕ, ◌<◌, Bool, true, false, List, [], ◌∷◌, length, refl, sym, ap, ◌∙◌, arith, rules}
use Rattle.std.specs.Prelude.{◌==◌, ◌&&◌, not, if◌then◌else◌}
use Rattle.std.specs.List.{filter, onto_first, slice_split}
use Rattle.std.proofs.lemmas.List.Splits.{slice_split-cons_no, slice_split-cons_yes}
use Rattle.std.proofs.lemmas.Bool.{eqb-true}
use Rattle.line_io.specs.Lines.{NoFeed, is_feed, lines, without_empty_last}
use Rattle.line_io.proofs.LineLaws.{lines-first, lines-last}
use Rattle.line_filter.specs.Forms.{begins_with_feed, is_passed_over, kept_lines, kept_parts, without_returns}
use Rattle.line_filter.specs.Laws.{each_but_last, without_return}
use Rattle.line_filter.proofs.Kept.{split_cons}

-- ---- without carriage returns

-- what a byte before the first part does, where that part isn't both empty and ended
onto_each : (b : ℕ) (part : List ℕ) (more : List (List ℕ)) → (0 < length more → length part ≡ 0 → (b == 13) ≡ false)
    → onto_first b (each_but_last without_return (part ∷ more)) ≡ each_but_last without_return (onto_first b (part ∷ more))
onto_each b part [] other = refl
onto_each b [] (next ∷ more) other = rw (other (omega arith) refl) refl
onto_each b (x ∷ part) (next ∷ more) other = refl

-- a first part that is empty and ended: the text begins with a line feed
some_first : (b : ℕ) (parts : List (List ℕ)) (part : List ℕ) (more : List (List ℕ)) → onto_first b parts ≡ part ∷ more
    → 0 < length part
some_first b [] part more is = let e : b ∷ [] ≡ part = search rules in rw (sym e) (omega arith)
some_first b (first ∷ rest) part more is = let e : b ∷ first ≡ part = search rules in rw (sym e) (omega arith)

feed_first : (text part : List ℕ) (more : List (List ℕ)) → slice_split is_feed text ≡ part ∷ more → 0 < length more
    → length part ≡ 0 → begins_with_feed text ≡ true
feed_first [] part more is some none = let e : more ≡ [] = search rules in absurd (let n = ap length e in omega (arith, n))
feed_first (b ∷ text) part more is some none = cases (is_feed b) refl where
  cases : (test : Bool) → is_feed b ≡ test → is_feed b ≡ true
  cases true e = e
  cases false e =
      let long = some_first b (slice_split is_feed text) part more (sym (slice_split-cons_no is_feed b text e) ∙ is) in
      absurd (omega (arith, long, none))

left_out : (rest : List ℕ) → slice_split is_feed (without_returns (10 ∷ rest))
    ≡ each_but_last without_return (slice_split is_feed (10 ∷ rest))
    → slice_split is_feed (without_returns (13 ∷ 10 ∷ rest))
    ≡ each_but_last without_return (slice_split is_feed (13 ∷ 10 ∷ rest))
left_out rest before = let s = split_cons rest in before ∙ rw s.2 refl

kept_feed : (text : List ℕ) → slice_split is_feed (without_returns text)
    ≡ each_but_last without_return (slice_split is_feed text)
    → slice_split is_feed (without_returns (10 ∷ text))
    ≡ each_but_last without_return (slice_split is_feed (10 ∷ text))
kept_feed text before = let s = split_cons text in ap (λ parts. [] ∷ parts) before ∙ rw s.2 refl

kept_other : (b : ℕ) (text : List ℕ) → is_feed b ≡ false → ((b == 13) && begins_with_feed text) ≡ false
    → slice_split is_feed (without_returns text) ≡ each_but_last without_return (slice_split is_feed text)
    → slice_split is_feed (without_returns (b ∷ text))
    ≡ each_but_last without_return (slice_split is_feed (b ∷ text))
kept_other b text no_feed kept before =
    let s = split_cons text in
    let other : 0 < length s.1 → length s.0 ≡ 0 → (b == 13) ≡ false =
    λ some none. test (b == 13) (begins_with_feed text) kept (feed_first text s.0 s.1 s.2 some none) in
    rw kept
    (slice_split-cons_no is_feed b (without_returns text) no_feed
    ∙ ap (λ parts. onto_first b parts) (before ∙ ap (λ parts. each_but_last without_return parts) s.2)
    ∙ onto_each b s.0 s.1 other
    ∙ ap (λ parts. each_but_last without_return (onto_first b parts)) (sym s.2)
    ∙ ap (λ parts. each_but_last without_return parts) (sym (slice_split-cons_no is_feed b text no_feed))) where
      test : (x y : Bool) → (x && y) ≡ false → y ≡ true → x ≡ false
      test true y none is = absurd (cc)
      test false y none is = refl

both : (x y : Bool) → (x && y) ≡ true → (x ≡ true) × (y ≡ true)
both true y is = (refl, is)
both false y is = absurd (cc)

returned : (b : ℕ) (text : List ℕ) → ((b == 13) && begins_with_feed text) ≡ true
    → slice_split is_feed (without_returns text) ≡ each_but_last without_return (slice_split is_feed text)
    → slice_split is_feed (without_returns (b ∷ text))
    ≡ each_but_last without_return (slice_split is_feed (b ∷ text))
returned b [] out before = let h = both (b == 13) false out in absurd (let n = h.1 in cc)
returned b (x ∷ rest) out before =
    let h = both (b == 13) (x == 10) out in
    let first : b ≡ 13 = eqb-true _ _ h.0 in
    let second : x ≡ 10 = eqb-true _ _ h.1 in
    rw (first, second) (left_out rest (rw second at before))

split_returns : (text : List ℕ) → slice_split is_feed (without_returns text)
    ≡ each_but_last without_return (slice_split is_feed text)
split_returns [] = refl
split_returns (b ∷ text) =
    cases (split_returns text) (is_feed b) ((b == 13) && begins_with_feed text) refl refl where
      cases : slice_split is_feed (without_returns text) ≡ each_but_last without_return (slice_split is_feed text)
          → (feed out : Bool) → is_feed b ≡ feed → ((b == 13) && begins_with_feed text) ≡ out
          → slice_split is_feed (without_returns (b ∷ text)) ≡ each_but_last without_return (slice_split is_feed (b ∷ text))
      cases before true out f o = let e : b ≡ 10 = eqb-true _ _ f in rw e (kept_feed text before)
      cases before false false f o = kept_other b text f o before
      cases before false true f o = returned b text o before

pub lines_without : (text : List ℕ)
    → lines (without_returns text) ≡ without_empty_last (each_but_last without_return (slice_split is_feed text))
lines_without text = ap (λ parts. without_empty_last parts) (split_returns text)

-- ---- lines that are kept

-- no part has a line feed
abbrev Free : List (List ℕ) → Type 0
Free [] = Unit {0}
Free (part ∷ more) = NoFeed part × Free more

onto_free : (b : ℕ) (part : List ℕ) (more : List (List ℕ)) → is_feed b ≡ false → Free (part ∷ more)
    → Free (onto_first b (part ∷ more))
onto_free b part more other free = (rw other free.0, free.1)

split_free : (text : List ℕ) → Free (slice_split is_feed text)
split_free [] = (refl, tt)
split_free (b ∷ text) = cases (split_free text) (is_feed b) refl where
  cases : Free (slice_split is_feed text) → (test : Bool) → is_feed b ≡ test → Free (slice_split is_feed (b ∷ text))
  cases rest true e = rw (slice_split-cons_yes is_feed b text e) (refl, rest)
  cases rest false e =
      let s = split_cons text in
      rw (slice_split-cons_no is_feed b text e, s.2) (onto_free b s.0 s.1 e (rw s.2 at rest))

last_line : (b : ℕ) (last : List ℕ) → without_empty_last ((b ∷ last) ∷ []) ≡ (b ∷ last) ∷ []
last_line b last = let some : (length (b ∷ last) == 0) ≡ false = grind arith in rw some refl

last_kept : (last : List ℕ) → NoFeed last
    → lines (if is_passed_over last then [] else last) ≡ filter (λ line. not (is_passed_over line)) (without_empty_last (last ∷ []))
last_kept [] free = refl
last_kept (b ∷ last) free = cases (b == 35) refl where
  cases : (test : Bool) → (b == 35) ≡ test
      → lines (if b == 35 then [] else b ∷ last)
      ≡ filter (λ line. not (is_passed_over line)) (without_empty_last ((b ∷ last) ∷ []))
  cases true e =
      rw (last_line b last) (rw e refl)
  cases false e =
      rw (last_line b last) (rw e (lines-last (b ∷ last) free (omega arith)))

parts_kept : (parts : List (List ℕ)) → Free parts
    → lines (kept_parts parts) ≡ filter (λ line. not (is_passed_over line)) (without_empty_last parts)
parts_kept [] free = refl
parts_kept (last ∷ []) free = last_kept last free.0
parts_kept (part ∷ next ∷ more) free = cases (parts_kept (next ∷ more) free.1) (is_passed_over part) refl where
  cases : lines (kept_parts (next ∷ more))
      ≡ filter (λ line. not (is_passed_over line)) (without_empty_last (next ∷ more)) → (test : Bool) → is_passed_over part ≡ test
      → lines (kept_parts (part ∷ next ∷ more))
      ≡ filter (λ line. not (is_passed_over line)) (without_empty_last (part ∷ next ∷ more))
  cases rest true e = rw e rest
  cases rest false e = rw e (lines-first part (kept_parts (next ∷ more)) free.0 ∙ ap (λ ls. part ∷ ls) rest)

pub lines_of_kept : (text : List ℕ)
    → lines (kept_lines text) ≡ filter (λ line. not (is_passed_over line)) (lines text)
lines_of_kept text = parts_kept (slice_split is_feed text) (split_free text)
