-- What an accepted record says.
use Rattle.std.proofs.Common.{◌≡◌, ℕ, ◌≤◌, Bool, true, false, refl, ap, sym, ◌∙◌, arith, Some, None}
use Rattle.std.specs.Prelude.{◌&&◌, ◌==◌, codes, is_none, length, nat_eq, nat_le}
use Rattle.std.specs.Cmp.Lexicographic.{pointwise}
use Rattle.phc.specs.declared.password_hash.PasswordHash.{PasswordHash}
use Rattle.scrypt_plain.specs.declared.profile.Cost.{Cost}
use Rattle.std.proofs.lemmas.Bool.Decides.{nat_tests}
use Rattle.scrypt_plain.specs.Bounds.{in_bounds}
use Rattle.scrypt_plain.specs.Profile.{cost_of, is_cost_in_bounds, scrypt_accepts}

-- the last three of six facts
last_three : (a b c d e f : Bool) → a && b && c && d && e && f ≡ true → (d ≡ true) × (e ≡ true) × (f ≡ true)
last_three true true true true true true h = (refl, refl, refl)
last_three true true true true true false h = cc
last_three true true true true false f h = cc
last_three true true true false e f h = cc
last_three true true false d e f h = cc
last_three true false c d e f h = cc
last_three false b c d e f h = cc

module _ (parsed : PasswordHash) (n : ℕ) (accepted : scrypt_accepts parsed n ≡ true) where
  facts : (is_cost_in_bounds (cost_of parsed) ≡ true) × (nat_le 10 n ≡ true) × (nat_le n 64 ≡ true)
  unfolding scrypt_accepts
  facts = last_three (pointwise nat_eq parsed.algorithm (codes "scrypt")) (is_none parsed.version)
      (length parsed.params == 3)
      (is_cost_in_bounds (cost_of parsed)) (nat_le 10 n) (nat_le n 64) accepted

  pub accepted_cost : is_cost_in_bounds (cost_of parsed) ≡ true
  accepted_cost = facts.0

  pub accepted_least : 10 ≤ n
  accepted_least = let least = facts.1 in grind (arith, nat_tests, least)

  pub accepted_most : n ≤ 64
  accepted_most = let most = facts.2 in grind (arith, nat_tests, most)

  pub accepted_bounds : (cost : Cost) → cost_of parsed ≡ Some cost
      → in_bounds cost.ln cost.r cost.p ≡ true
  accepted_bounds cost is = sym (ap is_cost_in_bounds is) ∙ accepted_cost

  pub no_cost : cost_of parsed ≡ None → ⊥
  no_cost none = cc (sym (ap is_cost_in_bounds none) ∙ accepted_cost)
