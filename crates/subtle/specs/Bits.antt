-- A proof that the model of `Choice` cites: its field comes back from its truth value. No public clause names this word.
use Rattle.std.specs.Prelude.{◌≡◌, ℕ, zero, suc, ◌==◌, ◌≤◌, if◌then◌else◌}
use Rattle.std.proofs.Common.{refl, ap, not-suc-le-zero, le_of_suc-le-suc}
use Rattle.subtle.specs.declared.choice.Choice.TheInside.{Inside}

-- a number of at most one is told by the test whether it is one
bit_is : (n : ℕ) → n ≤ 1 → (if n == 1 then 1 else 0) ≡ n
bit_is zero h = refl
bit_is (suc zero) h = refl
bit_is (suc (suc n)) h = absurd (not-suc-le-zero (le_of_suc-le-suc h))

pub same_bit : (a : Inside) → a.0 ≤ 1 → record { 0 = if a.0 == 1 then 1 else 0 } ≡ a
same_bit a h = ap wrap (bit_is a.0 h)
  where
    wrap : ℕ → Inside
    wrap n = record { 0 = n }
