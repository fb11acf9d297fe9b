-- Equality by the sign bit of the exclusive or.
use Rattle.std.proofs.Common.{◌≡◌, ◌≢◌, ℕ, suc, ◌+◌, ◌-◌, ◌/◌, ◌%◌, ◌^◌, ◌==◌, ◌<◌, ◌≤◌, Bool, true, false, cond}
use Rattle.std.proofs.Common.{bit_or, bit_xor, refl, sym, ap, ◌∙◌, arith, inl, inr}
use Rattle.std.proofs.Math.Nat.{div-eq_of_lt-le, mod-eq_of_lt, pow-suc, mod_self, zero-div}
use Rattle.std.proofs.lemmas.Nat.{xor_lt, or_lt, le_or_l, le_or_r}
use Rattle.std.specs.Int.Bits.{xor_assoc, xor_self, xor_zero_l, xor_zero_r}
use Rattle.std.proofs.lemmas.Bool.{cases_eq, eq-eqb, ne_eqb}

pub xor_equal : (a b : ℕ) → bit_xor a b ≡ 0 → a ≡ b
xor_equal a b e =
    let whole : bit_xor (bit_xor a b) b ≡ a = rw (xor_assoc a b b, xor_self b) (xor_zero_r a) in
    sym whole ∙ rw e (xor_zero_l b)

-- the highest bit of x or of what it lacks to 2 ^ (h + 1), turned round
clear_sign : ℕ → ℕ → ℕ
clear_sign h x = bit_xor (bit_or x ((0 + (2 ^ suc h - x)) % 2 ^ suc h) / 2 ^ h) 1

clear_sign_of_zero : (h : ℕ) → clear_sign h 0 ≡ 1
unfolding clear_sign
clear_sign_of_zero h =
    let plain : 0 + (2 ^ suc h - 0) ≡ 2 ^ suc h = omega arith in
    let none : (0 + (2 ^ suc h - 0)) % 2 ^ suc h ≡ 0 = ap (λ (x : ℕ). x % 2 ^ suc h) plain ∙ mod_self (2 ^ suc h) in
    ap (λ (x : ℕ). bit_xor (bit_or 0 x / 2 ^ h) 1) none ∙ ap (λ (x : ℕ). bit_xor x 1) (zero-div (2 ^ h))

clear_sign_of_nonzero : (h x : ℕ) → x < 2 ^ suc h → x ≢ 0 → clear_sign h x ≡ 0
unfolding clear_sign
clear_sign_of_nonzero h x lt some =
    let twice = pow-suc 2 h in
    let plain : 0 + (2 ^ suc h - x) ≡ 2 ^ suc h - x = omega arith in
    let rest : (0 + (2 ^ suc h - x)) % 2 ^ suc h ≡ 2 ^ suc h - x = mod-eq_of_lt (omega arith) ∙ plain in
    let l = le_or_l x (2 ^ suc h - x) in
    let r = le_or_r x (2 ^ suc h - x) in
    let small = or_lt (suc h) x (2 ^ suc h - x) lt (omega arith) in
    let one : bit_or x (2 ^ suc h - x) / 2 ^ h ≡ 1 = div-eq_of_lt-le {k = 1} (2 ^ h) (omega arith) (omega arith) in
    ap (λ (k : ℕ). bit_xor (bit_or x k / 2 ^ h) 1) rest ∙ ap (λ (k : ℕ). bit_xor k 1) one

pub sign_equal : (h a b : ℕ) → a < 2 ^ suc h → b < 2 ^ suc h
    → bit_xor (bit_or (bit_xor a b) ((0 + (2 ^ suc h - bit_xor a b)) % 2 ^ suc h) / 2 ^ h) 1 ≡ cond (a == b) 1 0
unfolding clear_sign
sign_equal h a b la lb = elim (cases_eq a b) [
  | inl e ↦
      let same : bit_xor a b ≡ 0 = rw e (xor_self b) in
      ap (λ (x : ℕ). clear_sign h x) same ∙ clear_sign_of_zero h ∙ rw (eq-eqb a b e) refl
  | inr ne ↦ clear_sign_of_nonzero h (bit_xor a b) (xor_lt (suc h) a b la lb) (λ e. ne (xor_equal a b e))
      ∙ rw (ne_eqb a b ne) refl
]

pub bit_at_most_one : (b : Bool) (n : ℕ) → n ≡ cond b 1 0 → n ≤ 1
bit_at_most_one true n e = omega arith
bit_at_most_one false n e = omega arith

pub bit_tells : (b : Bool) (n : ℕ) → n ≡ cond b 1 0 → (n == 1) ≡ b
bit_tells true n e = rw e refl
bit_tells false n e = rw e refl
