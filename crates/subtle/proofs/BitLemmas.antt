-- Numbers of at most one, and the truth values that they stand for.
use Rattle.std.specs.Prelude.{◌≡◌, ℕ, Bool, true, false, not, zero, suc, ◌==◌, ◌≤◌, bit_xor}
use Rattle.std.specs.Bool.{beq}
use Rattle.std.proofs.Common.{refl, arith}

-- the exclusive or of two bits tells whether they differ
pub bit_xor_differs : (m n : ℕ) → m ≤ 1 → n ≤ 1 → (bit_xor m n == 1) ≡ not (beq (m == 1) (n == 1))
bit_xor_differs zero zero h k = refl
bit_xor_differs zero (suc zero) h k = refl
bit_xor_differs (suc zero) zero h k = refl
bit_xor_differs (suc zero) (suc zero) h k = refl
bit_xor_differs (suc (suc m)) n h k = absurd (omega arith)
bit_xor_differs zero (suc (suc n)) h k = absurd (omega arith)
bit_xor_differs (suc zero) (suc (suc n)) h k = absurd (omega arith)

-- the exclusive or of a bit with one turns it round
pub bit_xor_one : (n : ℕ) → n ≤ 1 → (bit_xor n 1 == 1) ≡ not (n == 1)
bit_xor_one zero h = refl
bit_xor_one (suc zero) h = refl
bit_xor_one (suc (suc n)) h = absurd (omega arith)

pub not_not : (a : Bool) → not (not a) ≡ a
not_not true = refl
not_not false = refl
