-- Laws of `lines` and `whole_lines`.
use Rattle.std.proofs.Common.{◌≡◌, ℕ, ◌<◌, Bool, true, false, cond, List, [], ◌∷◌, ◌++◌, length, ◌⊎◌, inl, inr, refl}
use Rattle.std.proofs.Common.{ap, ◌∙◌, arith, rules}
use Rattle.std.specs.Prelude.{All}
use Rattle.std.specs.List.{slice_split, list_any, onto_first}
use Rattle.std.proofs.lemmas.List.Splits.{slice_split_none, slice_split_at, slice_split-cons_no}
use Rattle.std.proofs.lemmas.List.Elements.{All-cons}
use Rattle.std.proofs.lemmas.Bool.{or_parts}
use Rattle.std.proofs.Math.Bool.{or-true}
use Rattle.line_io.specs.Lines.{lines, whole_lines, without_empty_last, is_feed, NoFeed}

-- the first part of a list of parts that isn't empty stays
keeps_first : (part : List ℕ) (parts : List (List ℕ)) → (0 < length parts)
    → without_empty_last (part ∷ parts) ≡ part ∷ without_empty_last parts
keeps_first part [] some = absurd (omega arith)
keeps_first part (next ∷ more) some = refl

onto_first_some : (b : ℕ) (parts : List (List ℕ)) → 0 < length (onto_first b parts)
onto_first_some b [] = omega arith
onto_first_some b (part ∷ parts) = omega arith

split_some : (text : List ℕ) → 0 < length (slice_split is_feed text)
split_some [] = omega arith
split_some (b ∷ text) =
    elim (is_feed b) as (λ v. 0
    < length (cond v ([] ∷ slice_split is_feed text) (onto_first b (slice_split is_feed text))))
    [ true ↦ omega arith | false ↦ onto_first_some b (slice_split is_feed text) ]

pub all_free : (text : List ℕ) → NoFeed text → All (λ b. is_feed b ≡ false) text
all_free [] free = search rules
all_free (b ∷ text) free =
    let parts = or_parts (is_feed b) (list_any is_feed text) free in
    All-cons (λ x. is_feed x ≡ false) b text parts.0 (all_free text parts.1)

-- a line, its feed and the rest
pub lines-first : (line rest : List ℕ) → NoFeed line → lines (line ++ 10 ∷ rest) ≡ line ∷ lines rest
lines-first line rest free =
    rw (slice_split_at is_feed line 10 rest (all_free line free) refl)
    (keeps_first line (slice_split is_feed rest) (split_some rest))

last_some : (line : List ℕ) → 0 < length line → without_empty_last (line ∷ []) ≡ line ∷ []
last_some [] some = absurd (omega arith)
last_some (b ∷ line) some = search rules

-- a last line without a feed
pub lines-last : (line : List ℕ) → NoFeed line → 0 < length line → lines line ≡ line ∷ []
lines-last line free some = rw (slice_split_none is_feed line (all_free line free)) (last_some line some)

-- a byte that is no feed stands before the first line
onto_last : (b : ℕ) (parts : List (List ℕ))
    → without_empty_last (onto_first b parts) ≡ onto_first b (without_empty_last parts)
onto_last b [] = search rules
onto_last b ([] ∷ []) = search rules
onto_last b ((c ∷ part) ∷ []) = search rules
onto_last b (part ∷ next ∷ more) = refl

pub lines-onto : (b : ℕ) (text : List ℕ) → is_feed b ≡ false → lines (b ∷ text) ≡ onto_first b (lines text)
lines-onto b text other = rw (slice_split-cons_no is_feed b text other) (onto_last b (slice_split is_feed text))

pub lines-feed : (text : List ℕ) → lines (10 ∷ text) ≡ [] ∷ lines text
lines-feed text = lines-first [] text refl

bool_cases : (b : Bool) → (b ≡ true) ⊎ (b ≡ false)
bool_cases true = inl refl
bool_cases false = inr refl

-- a text has a line
pub lines-some : (text : List ℕ) → 0 < length text → 0 < length (lines text)
lines-some [] some = absurd (omega arith)
lines-some (b ∷ text) some = elim (bool_cases (is_feed b)) [
  | inl e ↦ let h : b ≡ 10 = search rules in rw h (rw (lines-feed text) (omega arith))
  | inr e ↦ rw (lines-onto b text e) (onto_first_some b (lines text))
]

onto_append : (b : ℕ) (xs ys : List (List ℕ)) → 0 < length xs → onto_first b (xs ++ ys) ≡ onto_first b xs ++ ys
onto_append b [] ys some = absurd (omega arith)
onto_append b (x ∷ xs) ys some = refl

pub whole_lines-none : (text : List ℕ) → NoFeed text → whole_lines text ≡ []
whole_lines-none [] free = refl
whole_lines-none (b ∷ text) free = rw free refl

pub any-append : (xs ys : List ℕ) → list_any is_feed xs ≡ true → list_any is_feed (xs ++ ys) ≡ true
any-append [] ys some = absurd (cc)
any-append (x ∷ xs) ys some = elim (bool_cases (is_feed x)) [
  | inl e ↦ rw e refl
  | inr e ↦ let rest : list_any is_feed xs ≡ true = rw e at some in rw (any-append xs ys rest) (or-true (is_feed x))
]

-- a text whose first byte stands in its whole lines
whole_lines-cons : (b : ℕ) (text : List ℕ) → list_any is_feed (b ∷ text) ≡ true
    → whole_lines (b ∷ text) ≡ b ∷ whole_lines text
whole_lines-cons b text some = rw some refl

whole_lines-cons_prefix : (b : ℕ) (before : List ℕ) → whole_lines (b ∷ before) ≡ b ∷ before
    → (list_any is_feed (b ∷ before) ≡ true) × (whole_lines before ≡ before)
whole_lines-cons_prefix b before w = elim (bool_cases (list_any is_feed (b ∷ before))) [
  | inl e ↦ let c = whole_lines-cons b before e in (e, cc)
  | inr e ↦ let c = whole_lines-none (b ∷ before) e in absurd (cc)
]

-- a text of whole lines before another
pub whole_lines-append : (before text : List ℕ) → whole_lines before ≡ before
    → whole_lines (before ++ text) ≡ before ++ whole_lines text
whole_lines-append [] text w = refl
whole_lines-append (b ∷ before) text w =
    let p = whole_lines-cons_prefix b before w in
    let some = any-append (b ∷ before) text p.0 in
    whole_lines-cons b (before ++ text) some ∙ ap (λ xs. b ∷ xs) (whole_lines-append before text p.1)

some_length : (text : List ℕ) → list_any is_feed text ≡ true → 0 < length text
some_length [] some = absurd (cc)
some_length (b ∷ text) some = omega arith

pub lines-append : (before text : List ℕ) → whole_lines before ≡ before
    → lines (before ++ text) ≡ lines before ++ lines text
lines-append [] text w = refl
lines-append (b ∷ before) text w =
    let p = whole_lines-cons_prefix b before w in
    let ih = lines-append before text p.1 in
    elim (bool_cases (is_feed b)) [
      | inl e ↦ let h : b ≡ 10 = search rules in
          rw (h, lines-feed (before ++ text), lines-feed before, ih) refl
      | inr e ↦
          let rest : list_any is_feed before ≡ true = rw e at p.0 in
          rw (lines-onto b (before ++ text) e, lines-onto b before e, ih)
          (onto_append b (lines before) (lines text) (lines-some before (some_length before rest)))
    ]
