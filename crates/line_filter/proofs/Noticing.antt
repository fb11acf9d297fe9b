-- What is met in a text after a byte of it.
use Rattle.std.proofs.Common.{suc, ◌≡◌, ◌≢◌, ℕ, ◌+◌, ◌-◌, ◌^◌, ◌<◌, Bool, true, false, List, [], ◌∷◌, ◌++◌, length, slice_index, refl, sym, ap, ◌∙◌, arith}
use Rattle.std.specs.Prelude.{◌==◌, ◌&&◌, ◌||◌, if◌then◌else◌, codes, decimal, min, is_some, Option, None, Some}
use Rattle.memchr.specs.Find.{IsFirstByte, is_byte}
use Rattle.pieces.specs.FaultCounts.{one_more}
use Rattle.pieces.specs.Places.{LacksBelow}
use Rattle.line_filter.specs.Met.{count_returns, has_mark, has_mark_after, returns_words}
use Rattle.line_filter.specs.Rests.{after_return}
use Rattle.line_filter.specs.declared.met.Met.{Met}
use Rattle.line_filter.specs.declared.sieve.Mark.{Mark}
use Rattle.line_filter.specs.declared.sieve.Mark.TheVariants.{Due, First, Second, Past}

-- ---- counts that stay at the greatest number

saturated : (n k most : ℕ) → min (min (n + 1) most + k) most ≡ min (n + (1 + k)) most
saturated n k most = omega arith

counted : (more : Bool) (n k : ℕ)
    → min ((if more then one_more n else n) + k) (2 ^ 64 - 1) ≡ min (n + ((if more then 1 else 0) + k)) (2 ^ 64 - 1)
counted true n k = saturated n k (2 ^ 64 - 1)
counted false n k = ap (λ x. min (n + x) (2 ^ 64 - 1)) (omega arith)

-- ---- carriage returns

after_one : (b : ℕ) (text : List ℕ) → count_returns (after_return (b == 13) text) ≡ count_returns (b ∷ text)
after_one b text = cases (b == 13) refl where
  cases : (test : Bool) → (b == 13) ≡ test → count_returns (after_return (b == 13) text) ≡ count_returns (b ∷ text)
  cases true is = rw is refl
  cases false is = rw is (omega arith)

pub next_counted : (n : ℕ) (has_return : Bool) (b : ℕ) (text : List ℕ)
    → min ((if has_return && (b == 10) then one_more n else n) + count_returns (after_return (b == 13) text)) (2 ^ 64 - 1)
    ≡ min (n + count_returns (after_return has_return (b ∷ text))) (2 ^ 64 - 1)
next_counted n false b text = ap (λ x. min (n + x) (2 ^ 64 - 1)) (after_one b text)
next_counted n true b text =
    counted (b == 10) n (count_returns (after_return (b == 13) text))
    ∙ ap (λ x. min (n + ((if b == 10 then 1 else 0) + x)) (2 ^ 64 - 1)) (after_one b text)

-- bytes without a carriage return
free_counted : (bytes text : List ℕ) → LacksBelow 13 bytes (length bytes)
    → count_returns (bytes ++ text) ≡ count_returns text
free_counted [] text free = refl
free_counted (b ∷ bytes) text free =
    let here : (b == 13) ≡ false = (let other : b ≢ 13 = free 0 (omega arith) in grind arith) in
    let rest = free_counted bytes text (λ i low is. free (suc i) (omega arith) is) in
    rw here (omega (arith, rest))

-- a search that finds none
pub none_found : (bytes : List ℕ) (place : Option ℕ) → IsFirstByte (is_byte 13) bytes place → is_some place ≡ false
    → LacksBelow 13 bytes (length bytes)
none_found bytes None first none = λ k low is. first k (omega arith) low (rw is refl)
none_found bytes (Some k) first none = absurd (cc)

-- a search that finds one
pub one_found : (bytes : List ℕ) (place : Option ℕ) → IsFirstByte (is_byte 13) bytes place → is_some place ≡ true
    → (k : ℕ) × (k < length bytes) × (slice_index bytes k ≡ 13)
one_found bytes None first some = absurd (cc)
one_found bytes (Some k) first some = (k, first.0.high, (let passes = first.1 in grind arith))

pub free_passed : (n : ℕ) (has_return : Bool) (first : ℕ) (bytes text : List ℕ) → slice_index bytes 0 ≡ first
    → 0 < length bytes → LacksBelow 13 bytes (length bytes)
    → min ((if has_return && (first == 10) then one_more n else n) + count_returns (after_return false text)) (2 ^ 64 - 1)
    ≡ min (n + count_returns (after_return has_return (bytes ++ text))) (2 ^ 64 - 1)
free_passed n has_return first [] text is some free = absurd (omega arith)
free_passed n false first (b ∷ bytes) text is some free =
    ap (λ x. min (n + x) (2 ^ 64 - 1)) (sym (free_counted (b ∷ bytes) text free))
free_passed n true first (b ∷ bytes) text is some free =
    let same : b ≡ first = is in
    rw (sym same)
    (counted (b == 10) n (count_returns text)
    ∙ ap (λ x. min (n + ((if b == 10 then 1 else 0) + x)) (2 ^ 64 - 1)) (sym (free_counted (b ∷ bytes) text free)))

-- ---- marks

pub looked : (before : Bool) (old now : Bool) (is_whole : Bool) → old ≡ (is_whole || now)
    → ((before || is_whole) || now) ≡ (before || old)
looked true old now is_whole e = refl
looked false old now is_whole e = sym e

-- none is whole after bytes that are none
pub none_after : (before : Bool) → (before || false) ≡ before
none_after true = refl
none_after false = refl

pub mark_settled : (mark : Mark) (has_mark : Bool) (text other : List ℕ) → mark ≡ Past
    → (has_mark || has_mark_after mark text) ≡ (has_mark || has_mark_after mark other)
mark_settled mark has_mark text other past = rw past refl

-- ---- at the end

nothing_whole : (mark : Mark) → has_mark_after mark [] ≡ false
nothing_whole Due = refl
nothing_whole First = refl
nothing_whole Second = refl
nothing_whole Past = refl

nothing_counted : (has_return : Bool) → count_returns (after_return has_return []) ≡ 0
nothing_counted true = refl
nothing_counted false = refl

pub returns_met : (n : ℕ) (has_return : Bool) → n < 2 ^ 64
    → n ≡ min (n + count_returns (after_return has_return [])) (2 ^ 64 - 1)
returns_met n has_return small = rw (nothing_counted has_return) (omega (arith, small))

pub mark_met : (mark : Mark) (has_mark : Bool) → has_mark ≡ (has_mark || has_mark_after mark [])
mark_met mark has_mark = rw (nothing_whole mark) (sym (none_after has_mark))

pub met_same : (met : Met) {returns : ℕ} {has_mark : Bool} → met.returns ≡ returns → met.has_mark ≡ has_mark
    → met ≡ record { returns = returns; has_mark = has_mark }
met_same met {returns} {has_mark} count mark =
    ap (λ n. let m : Met = record { returns = n; has_mark = met.has_mark } in m) count
    ∙ ap (λ b. let m : Met = record { returns = returns; has_mark = b } in m) mark

-- ---- in words

pub many_words : (n : ℕ) → n ≢ 1 → decimal n ++ codes " lines end with a carriage return" ≡ returns_words n
many_words n many = let other : (n == 1) ≡ false = grind arith in rw other refl
