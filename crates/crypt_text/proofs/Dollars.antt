-- Where a `$` stands.
use Rattle.std.proofs.Common.{◌≡◌, ◌≢◌, ℕ, zero, suc, ◌+◌, ◌<◌, Bool, true, false, List, [], ◌∷◌, length, take}
use Rattle.std.proofs.Common.{refl, ap, ◌∙◌, arith, get_or, slice_index}
use Rattle.std.specs.Prelude.{◌&&◌, ◌||◌, not, if◌then◌else◌}
use Rattle.std.specs.List.{position_or_len}
use Rattle.std.proofs.lemmas.Bool.Decides.{nat_tests}
use Rattle.std.proofs.lemmas.List.Sums.{position_or_len_is}
use Rattle.pieces.specs.Places.{LacksBelow, LacksBetween}
use Rattle.crypt_text.specs.Settings.{before_last_dollar, has_dollar, is_dollar}

pub other : (b : ℕ) → b ≢ 36 → is_dollar b ≡ false
other b h = grind (arith, nat_tests, h)

pub same : (b : ℕ) → b ≡ 36 → is_dollar b ≡ true
same b e = grind (arith, nat_tests, e)

-- the first place
pub first_is : (text : List ℕ) (at : ℕ) → at < length text → LacksBelow 36 text at → slice_index text at ≡ 36
    → position_or_len is_dollar text ≡ at
first_is text at low lacks is =
    position_or_len_is is_dollar text at 0 (omega (arith, low)) (λ k below. other (get_or text k 0) (lacks k below))
    (λ inside. same (get_or text at 0) is)

-- no place
pub none_is : (text : List ℕ) → LacksBelow 36 text (length text) → position_or_len is_dollar text ≡ length text
none_is text lacks =
    position_or_len_is is_dollar text (length text) 0 (omega arith)
    (λ k below. other (get_or text k 0) (lacks k below)) (λ inside. absurd (omega (arith, inside)))

pub or_true : (t : Bool) → (t || true) ≡ true
or_true true = refl
or_true false = refl

pub has_at : (text : List ℕ) (at : ℕ) → at < length text → slice_index text at ≡ 36 → has_dollar text ≡ true
has_at [] at low is = absurd (omega (arith, low))
has_at (b ∷ text) zero low is = rw (same b is) refl
has_at (b ∷ text) (suc at) low is = rw (has_at text at (omega (arith, low)) is) (or_true (is_dollar b))

pub has_none : (text : List ℕ) → LacksBelow 36 text (length text) → has_dollar text ≡ false
has_none [] lacks = refl
has_none (b ∷ text) lacks =
    rw (other b (lacks 0 (omega arith))) (has_none text (λ k below. lacks (suc k) (omega (arith, below))))

pub not_here : (t : Bool) (b : ℕ) (rest : List ℕ) → (if t && not true then [] else b ∷ rest) ≡ b ∷ rest
not_here true b rest = refl
not_here false b rest = refl

-- the last place
pub last_is : (text : List ℕ) (at : ℕ) → at < length text → LacksBetween 36 text (at + 1) (length text)
    → slice_index text at ≡ 36 → before_last_dollar text ≡ take at text
unfolding before_last_dollar
last_is [] at low lacks is = absurd (omega (arith, low))
last_is (b ∷ text) zero low lacks is =
    let none = has_none text (λ k below. lacks (suc k) (omega arith) (omega (arith, below))) in
    rw (same b is, none) refl
last_is (b ∷ text) (suc at) low lacks is =
    let some = has_at text at (omega (arith, low)) is in
    let rest = last_is text at (omega (arith, low)) (λ k past below. lacks (suc k) (omega (arith, past)) (omega (arith, below))) is in
    rw some (not_here (is_dollar b) b (before_last_dollar text)) ∙ ap (λ (xs : List ℕ). b ∷ xs) rest

pub no_last : (text : List ℕ) → LacksBelow 36 text (length text) → before_last_dollar text ≡ text
unfolding before_last_dollar
no_last [] lacks = refl
no_last (b ∷ text) lacks =
    let rest = no_last text (λ k below. lacks (suc k) (omega (arith, below))) in
    rw (other b (lacks 0 (omega arith))) (ap (λ (xs : List ℕ). b ∷ xs) rest)
