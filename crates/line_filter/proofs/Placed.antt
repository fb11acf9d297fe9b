-- Lines in the places of others.
use Rattle.std.proofs.Common.{◌≡◌, ◌≢◌, ℕ, ◌+◌, ◌-◌, ◌<◌, ◌≤◌, true, false, cond, List, [], ◌∷◌, ◌++◌, drop, length, take, refl, sym, ap, ◌∙◌, append-nil, drop-drop, length-append, length-take-le, take-append-drop, arith}
use Rattle.std.specs.Prelude.{◌==◌}
use Rattle.std.specs.List.{flat_map, list_any, onto_first, slice_split}
use Rattle.std.proofs.lemmas.Bool.{lt-ltb, or_parts}
use Rattle.std.proofs.lemmas.List.{length-drop, take_all}
use Rattle.std.proofs.lemmas.List.Splits.{slice_split-cons_no}
use Rattle.std.proofs.Math.Seq.{take-append_seam}
use Rattle.line_io.specs.Limits.{line_max}
use Rattle.line_io.specs.Lines.{NoFeed, is_feed, lines, without_empty_last}
use Rattle.line_io.proofs.LineLaws.{lines-first, lines-last}
use Rattle.line_filter.specs.Mapped.{Rule, mapped_line, mapped_text}

-- ---- a whole line, and the last one

pub at_feed : (rule : Rule) (line text : List ℕ) → NoFeed line
    → mapped_text rule (line ++ 10 ∷ text) ≡ (mapped_line rule line ++ 10 ∷ []) ++ mapped_text rule text
unfolding mapped_text
at_feed rule line text free =
    ap (λ (ls : List (List ℕ)). flat_map (λ line. mapped_line rule line ++ 10 ∷ []) ls) (lines-first line text free)

pub at_end : (rule : Rule) (line : List ℕ) → NoFeed line → 0 < length line
    → mapped_text rule line ≡ mapped_line rule line ++ 10 ∷ []
unfolding mapped_text
at_end rule line free some =
    ap (λ (ls : List (List ℕ)). flat_map (λ line. mapped_line rule line ++ 10 ∷ []) ls) (lines-last line free some)
    ∙ append-nil (mapped_line rule line ++ 10 ∷ [])

pub at_nothing : (rule : Rule) → mapped_text rule [] ≡ []
unfolding mapped_text
at_nothing rule = refl

-- ---- a byte that doesn't count

onto_some : (b : ℕ) (parts : List (List ℕ)) → (line : List ℕ) × (more : List (List ℕ)) × (onto_first b parts ≡ line ∷ more)
onto_some b [] = (b ∷ [], [], refl)
onto_some b (line ∷ more) = (b ∷ line, more, refl)

pub first_part : (text : List ℕ) → (line : List ℕ) × (more : List (List ℕ)) × (slice_split is_feed text ≡ line ∷ more)
first_part [] = ([], [], refl)
first_part (b ∷ text) =
    elim (is_feed b)
    as (λ v. (line : List ℕ) × (more : List (List ℕ))
    × (cond v ([] ∷ slice_split is_feed text) (onto_first b (slice_split is_feed text)) ≡ line ∷ more))
    [ true ↦ ([], slice_split is_feed text, refl) | false ↦ onto_some b (slice_split is_feed text) ]

split_with : (line text first : List ℕ) (more : List (List ℕ)) → NoFeed line → slice_split is_feed text ≡ first ∷ more
    → slice_split is_feed (line ++ text) ≡ (line ++ first) ∷ more
split_with [] text first more free is = is
split_with (b ∷ line) text first more free is =
    let parts = or_parts (is_feed b) (list_any is_feed line) free in
    slice_split-cons_no is_feed b (line ++ text) parts.0
    ∙ ap (onto_first b) (split_with line text first more parts.1 is)

pub first_stays : (b : ℕ) (line : List ℕ) (more : List (List ℕ))
    → without_empty_last ((b ∷ line) ∷ more) ≡ (b ∷ line) ∷ without_empty_last more
first_stays b line [] = let some : (length (b ∷ line) == 0) ≡ false = grind arith in rw some refl
first_stays b line (next ∷ more) = refl

lines_with : (line text first : List ℕ) (more : List (List ℕ)) → NoFeed line → line_max < length line
    → slice_split is_feed text ≡ first ∷ more → lines (line ++ text) ≡ (line ++ first) ∷ without_empty_last more
lines_with [] text first more free long is = absurd (omega (arith, long))
lines_with (b ∷ line) text first more free long is =
    ap without_empty_last (split_with (b ∷ line) text first more free is) ∙ first_stays b (line ++ first) more

long_line : (rule : Rule) (line more : List ℕ) → line_max < length line → mapped_line rule (line ++ more) ≡ []
unfolding mapped_line
long_line rule line more long =
    let whole = length-append line more in
    rw (lt-ltb line_max (length (line ++ more)) (omega (arith, whole, long))) refl

long_text : (rule : Rule) (line text first : List ℕ) (more : List (List ℕ)) → NoFeed line → line_max < length line
    → slice_split is_feed text ≡ first ∷ more
    → mapped_text rule (line ++ text) ≡ 10 ∷ flat_map (λ line. mapped_line rule line ++ 10 ∷ []) (without_empty_last more)
unfolding mapped_text
long_text rule line text first more free long is =
    ap (λ (ls : List (List ℕ)). flat_map (λ line. mapped_line rule line ++ 10 ∷ []) ls)
    (lines_with line text first more free long is)
    ∙ ap (λ (m : List ℕ). (m ++ 10 ∷ []) ++ flat_map (λ line. mapped_line rule line ++ 10 ∷ []) (without_empty_last more))
    (long_line rule line first long)

other_byte : (b : ℕ) → b ≢ 10 → is_feed b ≡ false
other_byte b other = grind arith

pub dropped : (rule : Rule) (line : List ℕ) (b : ℕ) (text : List ℕ) → NoFeed line → line_max < length line → b ≢ 10
    → mapped_text rule (line ++ text) ≡ mapped_text rule (line ++ b ∷ text)
dropped rule line b text free long other =
    let s = first_part text in
    let split : slice_split is_feed (b ∷ text) ≡ (b ∷ s.0) ∷ s.1 =
    slice_split-cons_no is_feed b text (other_byte b other) ∙ ap (onto_first b) s.2 in
    long_text rule line text s.0 s.1 free long s.2
    ∙ sym (long_text rule line (b ∷ text) (b ∷ s.0) s.1 free long split)

-- ---- bytes that are given, and bytes that were taken

front : (n : ℕ) (xs ys : List ℕ) → length xs ≡ n → take n (xs ++ ys) ≡ xs
front n xs ys long = rw (sym long) (take-append_seam xs ys)

pub given_into : (given n : ℕ) (ready copied rest : List ℕ) → copied ≡ take n (drop given ready)
    → n ≤ length (drop given ready) → take n (copied ++ rest) ++ drop (given + n) ready ≡ drop given ready
given_into given n ready copied rest is fits =
    let long : length copied ≡ n = ap length is ∙ length-take-le n (drop given ready) fits in
    rw (front n copied rest long, ← drop-drop n given ready, is) (take-append-drop n (drop given ready))

pub nothing_dropped : (xs : List ℕ) (n : ℕ) → n ≡ length xs → drop n xs ≡ []
nothing_dropped [] n is = rw is refl
nothing_dropped (x ∷ xs) n is = rw is (nothing_dropped xs (length xs) refl)

pub some_ready : (xs : List ℕ) → 0 < length xs → xs ≢ []
some_ready [] some = λ is. omega (arith, some)
some_ready (x ∷ xs) some = λ is. cc

pub none_held : (rule : Rule) (line : List ℕ) → length line ≡ 0 → mapped_text rule line ≡ []
none_held rule [] none = at_nothing rule
none_held rule (b ∷ line) none = absurd (omega (arith, none))

-- the bytes of a slice from a place on
pub after_place : (xs : List ℕ) (at : ℕ) → take (length xs - at) (drop at xs) ≡ drop at xs
after_place xs at =
    let count = length-drop at xs in
    take_all (length xs - at) (drop at xs) (omega (arith, count))
