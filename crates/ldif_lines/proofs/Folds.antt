-- The lines of a dump whose folds are undone, byte by byte.
use Rattle.std.proofs.Common.{◌≡◌, ℕ, ◌≤◌, ◌<◌, Bool, true, false, List, [], ◌∷◌, ◌++◌, length, drop, refl, sym, ap, ◌∙◌, arith, append-nil, append_assoc}
use Rattle.std.specs.Prelude.{◌==◌, map, nat_lt, if◌then◌else◌}
use Rattle.std.specs.List.{list_any, onto_first}
use Rattle.std.proofs.lemmas.List.{length-append, length-take, length-take-le, take-append-le, take_all}
use Rattle.std.proofs.lemmas.Bool.{eqb-true, le-ltb, ltb-false, ltb-true, or_parts}
use Rattle.line_io.specs.Lines.{NoFeed, is_feed, lines}
use Rattle.line_io.proofs.LineLaws.{lines-feed, lines-first, lines-last, lines-onto}
use Rattle.ldif_lines.specs.Ldif.{begins_with_space, clipped, dump_lines, unfolded, with_next}
use Rattle.ldif_lines.specs.Limits.{line_most}
use Rattle.ldif_lines.specs.Rests.{grown, rest_lines}

-- ---- lines that are cut

grown_short : (q : List ℕ) (b : ℕ) → nat_lt (length q) line_most ≡ true → grown q b ≡ q ++ b ∷ []
grown_short q b e = rw e refl

grown_long : (q : List ℕ) (b : ℕ) → nat_lt (length q) line_most ≡ false → grown q b ≡ q
grown_long q b e = rw e refl

grown_clipped : (p : List ℕ) (b : ℕ) → grown (clipped p) b ≡ clipped (p ++ b ∷ [])
grown_clipped p b = cases (nat_lt (length p) line_most) refl where
  cases : (test : Bool) → nat_lt (length p) line_most ≡ test → grown (clipped p) b ≡ clipped (p ++ b ∷ [])
  cases true e =
      let short : length p < line_most = ltb-true (length p) line_most e in
      ap (λ q. grown q b) (take_all line_most p (omega (arith, short)))
      ∙ grown_short p b e
      ∙ sym (take_all line_most (p ++ b ∷ []) (omega (arith, short, length-append p (b ∷ []))))
  cases false e =
      let long : line_most ≤ length p = ltb-false (length p) line_most e in
      let full = length-take-le line_most p long in
      grown_long (clipped p) b (le-ltb _ _ (omega (arith, full))) ∙ sym (take-append-le line_most p (b ∷ []) long)

no_zero : (n : ℕ) → 0 < n → (n == 0) ≡ false
no_zero n some = grind arith

some_clipped : (x : ℕ) (p : List ℕ) → (length (clipped (x ∷ p)) == 0) ≡ false
some_clipped x p = no_zero (length (clipped (x ∷ p))) (omega (arith, length-take line_most (x ∷ p)))

-- ---- a text before lines

abbrev front : List ℕ → List (List ℕ) → List (List ℕ)
front p [] = p ∷ []
front p (line ∷ more) = (p ++ line) ∷ more

onto_one : (b : ℕ) (ls : List (List ℕ)) → onto_first b ls ≡ front (b ∷ []) ls
onto_one b [] = refl
onto_one b (line ∷ more) = refl

onto_front : (b c : ℕ) (p : List ℕ) (ls : List (List ℕ)) → onto_first b (front (c ∷ p) ls) ≡ front (b ∷ c ∷ p) ls
onto_front b c p [] = refl
onto_front b c p (line ∷ more) = refl

lines_front : (b : ℕ) (p text : List ℕ) → NoFeed (b ∷ p) → lines ((b ∷ p) ++ text) ≡ front (b ∷ p) (lines text)
lines_front b [] text free =
    let parts = or_parts (is_feed b) (list_any is_feed []) free in
    lines-onto b text parts.0 ∙ onto_one b (lines text)
lines_front b (c ∷ p) text free =
    let parts = or_parts (is_feed b) (list_any is_feed (c ∷ p)) free in
    lines-onto b ((c ∷ p) ++ text) parts.0 ∙ ap (λ ls. onto_first b ls) (lines_front c p text parts.1)
    ∙ onto_front b c p (lines text)

-- ---- lines of which the first begins with a space

abbrev spaced : List (List ℕ) → Bool
spaced [] = false
spaced (line ∷ more) = begins_with_space line

spaced_next : (line : List ℕ) (ls : List (List ℕ)) → spaced (with_next line ls) ≡ begins_with_space line
spaced_next line [] = refl
spaced_next [] (next ∷ more) = refl
spaced_next (b ∷ line) (next ∷ more) = cases (begins_with_space next) where
  cases : (test : Bool)
      → spaced (if test then (b ∷ line ++ drop 1 next) ∷ more else (b ∷ line) ∷ next ∷ more) ≡ (b == 32)
  cases true = refl
  cases false = refl

spaced_unfolded : (ls : List (List ℕ)) → spaced (unfolded ls) ≡ spaced ls
spaced_unfolded [] = refl
spaced_unfolded (line ∷ more) = spaced_next line (unfolded more)

spaced_onto : (b : ℕ) (ls : List (List ℕ)) → spaced (onto_first b ls) ≡ (b == 32)
spaced_onto b [] = refl
spaced_onto b (line ∷ more) = refl

spaced_lines : (b : ℕ) (text : List ℕ) → spaced (lines (b ∷ text)) ≡ (b == 32)
spaced_lines b text = cases (is_feed b) refl where
  cases : (test : Bool) → is_feed b ≡ test → spaced (lines (b ∷ text)) ≡ (b == 32)
  cases true e = let same : b ≡ 10 = eqb-true b 10 e in rw same (ap (λ ls. spaced ls) (lines-feed text))
  cases false e = ap (λ ls. spaced ls) (lines-onto b text e) ∙ spaced_onto b (lines text)

-- ---- lines that go on, and lines that don't

empty_next : (ls : List (List ℕ)) → with_next [] ls ≡ [] ∷ ls
empty_next [] = refl
empty_next (next ∷ more) = refl

not_joined : (line : List ℕ) (ls : List (List ℕ)) → spaced ls ≡ false → with_next line ls ≡ line ∷ ls
not_joined line [] is = refl
not_joined [] (next ∷ more) is = refl
not_joined (b ∷ line) (next ∷ more) is = let other : begins_with_space next ≡ false = is in rw other refl

joined_with : (b : ℕ) (p line : List ℕ) (ls : List (List ℕ))
    → with_next (b ∷ p) (with_next (32 ∷ line) ls) ≡ with_next (b ∷ (p ++ line)) ls
joined_with b p line [] = refl
joined_with b p line (next ∷ more) = cases (begins_with_space next) where
  cases : (test : Bool)
      → with_next (b ∷ p) (if test then (32 ∷ line ++ drop 1 next) ∷ more else (32 ∷ line) ∷ next ∷ more)
      ≡ (if test then (b ∷ (p ++ line) ++ drop 1 next) ∷ more else (b ∷ (p ++ line)) ∷ next ∷ more)
  cases true = ap (λ q. (b ∷ q) ∷ more) (sym (append_assoc p line (drop 1 next)))
  cases false = refl

joined : (b : ℕ) (p : List ℕ) (ls : List (List ℕ))
    → with_next (b ∷ p) (unfolded (onto_first 32 ls)) ≡ unfolded (front (b ∷ p) ls)
joined b p [] = ap (λ q. (b ∷ q) ∷ []) (append-nil p)
joined b p (line ∷ more) = joined_with b p line (unfolded more)

abbrev undone : List ℕ → List (List ℕ)
undone text = unfolded (lines text)

goes_on_is : (b : ℕ) (p text : List ℕ) → NoFeed (b ∷ p)
    → undone ((b ∷ p) ++ 10 ∷ 32 ∷ text) ≡ undone ((b ∷ p) ++ text)
goes_on_is b p text free =
    ap (λ ls. unfolded ls) (lines-first (b ∷ p) (32 ∷ text) free)
    ∙ ap (λ ls. with_next (b ∷ p) (unfolded ls)) (lines-onto 32 text refl)
    ∙ joined b p (lines text)
    ∙ ap (λ ls. unfolded ls) (sym (lines_front b p text free))

ends_empty : (text : List ℕ) → undone (10 ∷ text) ≡ [] ∷ undone text
ends_empty text = ap (λ ls. unfolded ls) (lines-feed text) ∙ empty_next (undone text)

ends_some : (p : List ℕ) (b : ℕ) (text : List ℕ) → NoFeed p → (b == 32) ≡ false
    → undone (p ++ 10 ∷ b ∷ text) ≡ p ∷ undone (b ∷ text)
ends_some p b text free other =
    ap (λ ls. unfolded ls) (lines-first p (b ∷ text) free)
    ∙ not_joined p (undone (b ∷ text)) (spaced_unfolded (lines (b ∷ text)) ∙ spaced_lines b text ∙ other)

ends_last : (p : List ℕ) → NoFeed p → undone (p ++ 10 ∷ []) ≡ p ∷ []
ends_last p free = ap (λ ls. unfolded ls) (lines-first p [] free)

-- ---- by the line so far

last_line : (q : List ℕ) → (length q == 0) ≡ false → rest_lines false q [] ≡ q ∷ []
last_line q some = rw some refl

goes_on : (q text : List ℕ) → (length q == 0) ≡ false → rest_lines true q (32 ∷ text) ≡ rest_lines false q text
goes_on q text some = rw some refl

abbrev rest_after : ℕ → List ℕ → List (List ℕ)
rest_after b text = if b == 10 then rest_lines true [] text else rest_lines false (b ∷ []) text

ends : (q : List ℕ) (b : ℕ) (text : List ℕ) → (length q == 0) ≡ false → (b == 32) ≡ false
    → rest_lines true q (b ∷ text) ≡ q ∷ rest_after b text
ends q b text some other = rw (some, other) refl

abbrev after_feed : Bool → List ℕ → List ℕ
after_feed true text = 10 ∷ text
after_feed false text = text

-- what holds of each line so far before a text
abbrev Rests : List ℕ → Type 0
Rests text = (has_feed : Bool) (p : List ℕ) → NoFeed p
    → rest_lines has_feed (clipped p) text ≡ map clipped (undone (p ++ after_feed has_feed text))

free_more : (p : List ℕ) (b : ℕ) → NoFeed p → is_feed b ≡ false → NoFeed (p ++ b ∷ [])
free_more [] b free other = rw other refl
free_more (x ∷ p) b free other =
    let parts = or_parts (is_feed x) (list_any is_feed p) free in
    rw parts.0 (free_more p b parts.1 other)

at_end : (p : List ℕ) → NoFeed p → rest_lines false (clipped p) [] ≡ map clipped (undone (p ++ []))
at_end [] free = refl
at_end (x ∷ p) free =
    last_line (clipped (x ∷ p)) (some_clipped x p)
    ∙ ap (λ ls. map clipped (unfolded ls))
    (sym (ap (λ t. lines (x ∷ t)) (append-nil p) ∙ lines-last (x ∷ p) free (omega arith)))

next_byte : (b : ℕ) (text : List ℕ) → Rests text → (p : List ℕ) → NoFeed p
    → rest_lines false (clipped p) (b ∷ text) ≡ map clipped (undone (p ++ b ∷ text))
next_byte b text rests p free = cases (b == 10) refl where
  cases : (test : Bool) → (b == 10) ≡ test
      → rest_lines false (clipped p) (b ∷ text) ≡ map clipped (undone (p ++ b ∷ text))
  cases true e = let same : b ≡ 10 = eqb-true b 10 e in rw same (rests true p free)
  cases false e =
      rw e
      (ap (λ q. rest_lines false q text) (grown_clipped p b)
      ∙ rests false (p ++ b ∷ []) (free_more p b free e)
      ∙ ap (λ t. map clipped (undone t)) (append_assoc p (b ∷ []) text))

other_after : (b : ℕ) (text : List ℕ) → (b == 10) ≡ false → rest_after b text ≡ rest_lines false (b ∷ []) text
other_after b text e = rw e refl

next_line : (b : ℕ) (text : List ℕ) → Rests text → rest_after b text ≡ map clipped (undone (b ∷ text))
next_line b text rests = cases (b == 10) refl where
  cases : (test : Bool) → (b == 10) ≡ test → rest_after b text ≡ map clipped (undone (b ∷ text))
  cases true e = let same : b ≡ 10 = eqb-true b 10 e in rw same (rests true [] refl)
  cases false e =
      let free : NoFeed (b ∷ []) = free_more [] b refl e in
      other_after b text e ∙ rests false (b ∷ []) free

after_one : (b : ℕ) (text : List ℕ) → Rests text → (p : List ℕ) → NoFeed p
    → rest_lines true (clipped p) (b ∷ text) ≡ map clipped (undone (p ++ 10 ∷ b ∷ text))
after_one b text rests [] free =
    ap (λ ls. [] ∷ ls) (next_line b text rests) ∙ ap (λ ls. map clipped ls) (sym (ends_empty (b ∷ text)))
after_one b text rests (x ∷ p) free = cases (b == 32) refl where
  cases : (test : Bool) → (b == 32) ≡ test
      → rest_lines true (clipped (x ∷ p)) (b ∷ text) ≡ map clipped (undone ((x ∷ p) ++ 10 ∷ b ∷ text))
  cases true e =
      let same : b ≡ 32 = eqb-true b 32 e in
      rw same
      (goes_on (clipped (x ∷ p)) text (some_clipped x p)
      ∙ rests false (x ∷ p) free
      ∙ ap (λ ls. map clipped ls) (sym (goes_on_is x p text free)))
  cases false e =
      ends (clipped (x ∷ p)) b text (some_clipped x p) e
      ∙ ap (λ ls. clipped (x ∷ p) ∷ ls) (next_line b text rests)
      ∙ ap (λ ls. map clipped ls) (sym (ends_some (x ∷ p) b text free e))

rests : (text : List ℕ) (has_feed : Bool) (p : List ℕ) → NoFeed p
    → rest_lines has_feed (clipped p) text ≡ map clipped (undone (p ++ after_feed has_feed text))
rests [] false p free = at_end p free
rests [] true p free = ap (λ ls. map clipped ls) (sym (ends_last p free))
rests (b ∷ text) false p free = next_byte b text (rests text) p free
rests (b ∷ text) true p free = after_one b text (rests text) p free

pub lines_of_dump : (text : List ℕ) → rest_lines false [] text ≡ dump_lines text
lines_of_dump text = rests text false [] refl
