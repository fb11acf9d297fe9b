-- The lines of a text that are passed over, counted by its bytes.
use Rattle.std.proofs.Common.{suc, zero, ◌≡◌, ℕ, ◌+◌, ◌-◌, ◌%◌, ◌^◌, ◌<◌, ◌≤◌, Bool, true, false, cond, List, [], ◌∷◌, ◌++◌, length, map, replicate, take, drop, get_or, slice_index, refl, sym, ap, ◌∙◌, arith, eqb, eqb-true, bit_and, bit_or, add-one, zero-add}
use Rattle.std.specs.Prelude.{◌==◌, ◌&&◌, ◌||◌, if◌then◌else◌, min}
use Rattle.std.specs.List.{filter, slice_split}
use Rattle.std.proofs.lemmas.List.Splits.{slice_split-cons_no, slice_split-cons_yes}
use Rattle.std.proofs.lemmas.Simd.{length-chunk, length-zip2, get_or-zip2, get_or-chunk, mask_l-mod}
use Rattle.std.specs.Simd.Lanes.{zip2, mask_l, top}
use Rattle.pieces.specs.FaultCounts.{one_more}
use Rattle.line_io.specs.Lines.{is_feed, without_empty_last}
use Rattle.line_filter.specs.Forms.{is_passed_over}
use Rattle.line_filter.specs.Passed.{NoneBegins, begins_passed, count_passed_over, passed_from}
use Rattle.line_filter.proofs.Kept.{split_cons}

-- ---- by lines

-- the lines that are passed over among parts
abbrev passed_parts : List (List ℕ) → ℕ
passed_parts parts = length (filter is_passed_over (without_empty_last parts))

-- the same of the parts after the first
abbrev later : List (List ℕ) → ℕ
later [] = 0
later (part ∷ more) = passed_parts more

one_first : (b : ℕ) (part : List ℕ) (more : List (List ℕ)) → (b == 10) ≡ false
    → passed_parts ((b ∷ part) ∷ more) ≡ (if begins_passed b then 1 else 0) + passed_parts more
one_first b part [] other = cases (b == 35) refl where
  cases : (test : Bool) → (b == 35) ≡ test
      → passed_parts ((b ∷ part) ∷ []) ≡ (if begins_passed b then 1 else 0) + passed_parts []
  cases true is = let some : (length (b ∷ part) == 0) ≡ false = grind arith in rw (some, is, other) refl
  cases false is = let some : (length (b ∷ part) == 0) ≡ false = grind arith in rw (some, is, other) refl
one_first b part (next ∷ more) other = cases (b == 35) refl where
  cases : (test : Bool) → (b == 35) ≡ test
      → passed_parts ((b ∷ part) ∷ next ∷ more) ≡ (if begins_passed b then 1 else 0) + passed_parts (next ∷ more)
  cases true is = rw (is, other) (omega arith)
  cases false is = rw (is, other) (sym (zero-add (passed_parts (next ∷ more))))

-- a line feed before a text
feed_before : (text : List ℕ) → passed_parts ([] ∷ slice_split is_feed text) ≡ 1 + passed_parts (slice_split is_feed text)
feed_before text = let s = split_cons text in rw s.2 (omega arith)

both_counted : (text : List ℕ) → (passed_from true text ≡ passed_parts (slice_split is_feed text))
    × (passed_from false text ≡ later (slice_split is_feed text))
both_counted [] = (refl, refl)
both_counted (b ∷ text) = cases (both_counted text) (is_feed b) refl where
  cases : (passed_from true text ≡ passed_parts (slice_split is_feed text))
      × (passed_from false text ≡ later (slice_split is_feed text)) → (test : Bool) → is_feed b ≡ test
      → (passed_from true (b ∷ text) ≡ passed_parts (slice_split is_feed (b ∷ text)))
      × (passed_from false (b ∷ text) ≡ later (slice_split is_feed (b ∷ text)))
  cases h true e =
      rw (slice_split-cons_yes is_feed b text e, e)
      (ap (λ (n : ℕ). 1 + n) h.0 ∙ sym (feed_before text), zero-add (passed_from true text) ∙ h.0)
  cases h false e =
      let s = split_cons text in
      let rest : passed_from false text ≡ passed_parts s.1 = h.1 ∙ ap later s.2 in
      rw (slice_split-cons_no is_feed b text e, s.2) (
        ap (λ (t : Bool). (if begins_passed b then 1 else 0) + passed_from t text) e
            ∙ ap (λ (n : ℕ). (if begins_passed b then 1 else 0) + n) rest ∙ sym (one_first b s.0 s.1 e),
        ap (λ (t : Bool). 0 + passed_from t text) e ∙ zero-add (passed_from false text) ∙ rest,
      )

pub by_lines : (text : List ℕ) → passed_from true text ≡ count_passed_over text
by_lines text = (both_counted text).0

-- ---- counts that stay at the greatest number

saturated : (n k most : ℕ) → min (min (n + 1) most + k) most ≡ min (n + (1 + k)) most
saturated n k most = omega arith

counted : (more : Bool) (n k : ℕ)
    → min ((if more then one_more n else n) + k) (2 ^ 64 - 1) ≡ min (n + ((if more then 1 else 0) + k)) (2 ^ 64 - 1)
counted true n k = saturated n k (2 ^ 64 - 1)
counted false n k = ap (λ x. min (n + x) (2 ^ 64 - 1)) (omega arith)

pub next_passed : (n : ℕ) (at_start : Bool) (b : ℕ) (text : List ℕ)
    → min ((if at_start && begins_passed b then one_more n else n) + passed_from (is_feed b) text) (2 ^ 64 - 1)
    ≡ min (n + passed_from at_start (b ∷ text)) (2 ^ 64 - 1)
next_passed n at_start b text = counted (at_start && begins_passed b) n (passed_from (is_feed b) text)

-- at the end
pub passed_met : (n : ℕ) (at_start : Bool) → n < 2 ^ 64 → n ≡ min (n + passed_from at_start []) (2 ^ 64 - 1)
passed_met n at_start small = omega (arith, small)

-- ---- bytes in which no line that is passed over begins

apart : (feed begins : Bool) → (feed ≡ true → begins ≡ false) → (feed && begins) ≡ false
apart true begins free = free refl
apart false begins free = refl

-- the byte after one in the rest of a list
shifted : (b : ℕ) (bytes : List ℕ) (k : ℕ) → slice_index (b ∷ bytes) (suc k + 1) ≡ slice_index bytes (k + 1)
shifted b bytes k =
    ap (λ (n : ℕ). slice_index (b ∷ bytes) n) (add-one (suc k)) ∙ sym (ap (λ (n : ℕ). slice_index bytes n) (add-one k))

within : (at_start : Bool) (b : ℕ) (bytes text : List ℕ) → NoneBegins (b ∷ bytes) 0 (length bytes)
    → passed_from at_start (b ∷ bytes ++ text)
    ≡ (if at_start && begins_passed b then 1 else 0) + passed_from (is_feed (slice_index (b ∷ bytes) (length bytes))) text
within at_start b [] text free = refl
within at_start b (c ∷ bytes) text free =
    let none : (is_feed b && begins_passed c) ≡ false = apart (is_feed b) (begins_passed c) (free 0 (omega arith) (omega arith)) in
    let rest = within (is_feed b) c bytes text
    (λ k low high is. sym (ap (λ (x : ℕ). begins_passed x) (shifted b (c ∷ bytes) k))
    ∙ free (suc k) (omega arith) (omega (arith, high)) is) in
    ap (λ (n : ℕ). (if at_start && begins_passed b then 1 else 0) + n) (rest ∙ rw none (zero-add (passed_from (is_feed (slice_index (c ∷ bytes) (length bytes))) text)))

pub free_passed : (n : ℕ) (at_start : Bool) (first last : ℕ) (bytes text : List ℕ) → 0 < length bytes
    → slice_index bytes 0 ≡ first → slice_index bytes (length bytes - 1) ≡ last → NoneBegins bytes 0 (length bytes - 1)
    → min ((if at_start && begins_passed first then one_more n else n) + passed_from (is_feed last) text) (2 ^ 64 - 1)
    ≡ min (n + passed_from at_start (bytes ++ text)) (2 ^ 64 - 1)
free_passed n at_start first last [] text some is_first is_last free = absurd (omega (arith, some))
free_passed n at_start first last (b ∷ bytes) text some is_first is_last free =
    let same : b ≡ first = is_first in
    let before : length (b ∷ bytes) - 1 ≡ length bytes = omega arith in
    let end : slice_index (b ∷ bytes) (length bytes) ≡ last =
    ap (λ (k : ℕ). slice_index (b ∷ bytes) k) (sym before) ∙ is_last in
    let whole : NoneBegins (b ∷ bytes) 0 (length bytes) = λ k low high. free k low (omega (arith, before, high)) in
    rw (sym same, sym end)
    (counted (at_start && begins_passed b) n (passed_from (is_feed (slice_index (b ∷ bytes) (length bytes))) text)
    ∙ ap (λ (x : ℕ). min (n + x) (2 ^ 64 - 1)) (sym (within at_start b bytes text whole)))

-- ---- sixteen bytes beside those after them

abbrev ones_where : Bool → ℕ
ones_where t = cond t 255 0

abbrev told_by : ℕ → ℕ → ℕ
told_by x y = bit_and (ones_where (eqb x 10)) (bit_or (ones_where (eqb y 10)) (ones_where (eqb y 35)))

abbrev beside : ℕ → List ℕ → List ℕ → List ℕ
beside n v w = zip2 bit_and (zip2 (λ a b. ones_where (eqb a b)) v (replicate n 10))
    (zip2 bit_or (zip2 (λ a b. ones_where (eqb a b)) w (replicate n 10)) (zip2 (λ a b. ones_where (eqb a b)) w (replicate n 35)))

beside_are : (n : ℕ) (v w : List ℕ) → length v ≡ n → length w ≡ n → map (top 7) (beside n v w) ≡ zip2 (λ x y. top 7 (told_by x y)) v w
beside_are zero [] w p q = refl
beside_are zero (x ∷ v) w p q = absurd (omega (arith, p))
beside_are (suc n) [] w p q = absurd (omega (arith, p))
beside_are (suc n) (x ∷ v) [] p q = absurd (omega (arith, q))
beside_are (suc n) (x ∷ v) (y ∷ w) p q =
    ap (λ (l : List Bool). top 7 (told_by x y) ∷ l) (beside_are n v w (omega (arith, p)) (omega (arith, q)))

told : (a b c : Bool) → top 7 (bit_and (ones_where a) (bit_or (ones_where b) (ones_where c))) ≡ (a && (b || c))
told true true true = refl
told true true false = refl
told true false true = refl
told true false false = refl
told false true true = refl
told false true false = refl
told false false true = refl
told false false false = refl

second_false : (a b : Bool) → (a && b) ≡ false → a ≡ true → b ≡ false
second_false a b is first = rw first at is

-- a list of answers whose mask is zero
none_set : (tests : List Bool) (j : ℕ) → mask_l tests ≡ 0 → j < length tests → get_or tests j false ≡ false
none_set [] j is low = refl
none_set (true ∷ tests) j is low = absurd (omega (arith, is))
none_set (false ∷ tests) zero is low = refl
none_set (false ∷ tests) (suc j) is low = none_set tests j (omega (arith, is)) (omega (arith, low))

pub none_begin : (bytes : List ℕ) (i : ℕ) → i + 17 ≤ length bytes
    → eqb (mask_l (map (top 7) (beside 16 (take 16 (drop i bytes)) (take 16 (drop (i + 1) bytes)))) % 2 ^ 64) 0 ≡ true
    → NoneBegins bytes i (i + 16)
none_begin bytes i room none k from below is =
    let v = take 16 (drop i bytes) in
    let w = take 16 (drop (i + 1) bytes) in
    let test = λ (x y : ℕ). top 7 (told_by x y) in
    let tests = zip2 test v w in
    let long : length v ≡ 16 = length-chunk i 16 bytes (omega (arith, room)) in
    let next : length w ≡ 16 = length-chunk (i + 1) 16 bytes (omega (arith, room)) in
    let many : length tests ≡ 16 = length-zip2 test v w (long ∙ sym next) ∙ long in
    let empty : mask_l tests ≡ 0 =
    sym (ap (λ (l : List Bool). mask_l l % 2 ^ 64) (beside_are 16 v w long next) ∙ mask_l-mod tests 64 (omega (arith, many)))
    ∙ eqb-true _ _ none in
    let j = k - i in
    let low : j < 16 = omega (arith, from, below) in
    let there : i + j ≡ k = omega (arith, from) in
    let after : i + 1 + j ≡ k + 1 = omega (arith, from) in
    let x : get_or v j 0 ≡ slice_index bytes k =
    get_or-chunk i 16 bytes j 0 low ∙ ap (λ (n : ℕ). slice_index bytes n) there in
    let y : get_or w j 0 ≡ slice_index bytes (k + 1) =
    get_or-chunk (i + 1) 16 bytes j 0 low ∙ ap (λ (n : ℕ). slice_index bytes n) after in
    let off : test (get_or v j 0) (get_or w j 0) ≡ false =
    sym (get_or-zip2 test v w j 0 0 false (omega (arith, long, low)) (omega (arith, next, low)))
    ∙ none_set tests j empty (omega (arith, many, low)) in
    second_false (is_feed (slice_index bytes k)) (begins_passed (slice_index bytes (k + 1)))
    (sym (told (eqb (slice_index bytes k) 10) (eqb (slice_index bytes (k + 1)) 10) (eqb (slice_index bytes (k + 1)) 35))
    ∙ rw (x, y) at off) is
