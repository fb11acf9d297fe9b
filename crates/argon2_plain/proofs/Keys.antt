-- What an accepted record says.
use Rattle.std.proofs.Common.{◌≡◌, ℕ, ◌≤◌, Bool, true, false, refl, ap, sym, ◌∙◌, arith, Some, None}
use Rattle.std.specs.Prelude.{◌&&◌, ◌==◌, length, nat_le}
use Rattle.phc.specs.declared.password_hash.PasswordHash.{PasswordHash}
use Rattle.argon2_plain.specs.declared.params.Params.{Params}
use Rattle.std.proofs.lemmas.Bool.Decides.{nat_tests}
use Rattle.argon2_plain.specs.Bounds.{in_bounds}
use Rattle.argon2_plain.specs.Profile.{argon2_accepts, are_taken, is_version, params_of}

-- the first and the last two of five facts
three_of_five : (a b c d e : Bool) → a && b && c && d && e ≡ true → (a ≡ true) × (d ≡ true) × (e ≡ true)
three_of_five true true true true true h = (refl, refl, refl)
three_of_five true true true true false h = cc
three_of_five true true true false e h = cc
three_of_five true true false d e h = cc
three_of_five true false c d e h = cc
three_of_five false b c d e h = cc

module _ (parsed : PasswordHash) (n : ℕ) (accepted : argon2_accepts parsed n ≡ true) where
  facts : (are_taken (params_of parsed) ≡ true) × (nat_le 10 n ≡ true) × (nat_le n 64 ≡ true)
  unfolding argon2_accepts
  facts = three_of_five (are_taken (params_of parsed)) (is_version parsed.version)
      (length parsed.params == 3) (nat_le 10 n) (nat_le n 64) accepted

  pub accepted_least : 10 ≤ n
  accepted_least = let least = facts.1 in grind (arith, nat_tests, least)

  pub accepted_most : n ≤ 64
  accepted_most = let most = facts.2 in grind (arith, nat_tests, most)

  pub accepted_bounds : (params : Params) → params_of parsed ≡ Some params
      → in_bounds params.passes params.memory params.lanes ≡ true
  accepted_bounds params is = sym (ap are_taken is) ∙ facts.0

  pub no_params : params_of parsed ≡ None → ⊥
  no_params none = cc (sym (ap are_taken none) ∙ facts.0)
