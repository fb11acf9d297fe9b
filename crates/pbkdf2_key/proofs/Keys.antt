-- What an accepted record says.
use Rattle.std.proofs.Common.{◌≡◌, ℕ, ◌≤◌, true, ap, sym, ◌∙◌, arith, Some, None}
use Rattle.std.specs.Prelude.{◌&&◌, nat_le}
use Rattle.std.proofs.lemmas.Bool.{and_parts}
use Rattle.std.proofs.lemmas.Bool.Decides.{nat_tests}
use Rattle.phc.specs.declared.password_hash.PasswordHash.{PasswordHash}
use Rattle.pbkdf2_key.specs.Profile.{are_params, are_rounds, pbkdf2_accepts, rounds_of}
use Rattle.pbkdf2_key.specs.declared.profile.Pbkdf2Hash.{Pbkdf2Hash}

module _ (hash : Pbkdf2Hash) (parsed : PasswordHash) (n : ℕ) (accepted : pbkdf2_accepts hash parsed n ≡ true) where
  most : nat_le n 64 ≡ true
  unfolding pbkdf2_accepts
  most = (and_parts _ (nat_le n 64) accepted).1

  least : nat_le 10 n ≡ true
  unfolding pbkdf2_accepts
  least = (and_parts _ (nat_le 10 n) (and_parts _ (nat_le n 64) accepted).0).1

  params : are_params parsed n ≡ true
  unfolding pbkdf2_accepts
  params = (and_parts _ (are_params parsed n) (and_parts _ (nat_le 10 n) (and_parts _ (nat_le n 64) accepted).0).0).1

  rounds : are_rounds (rounds_of parsed) ≡ true
  rounds = (and_parts (are_rounds (rounds_of parsed)) _ params).0

  pub accepted_least : 10 ≤ n
  accepted_least = grind (arith, nat_tests, least)

  pub accepted_most : n ≤ 64
  accepted_most = grind (arith, nat_tests, most)

  in_range : (c : ℕ) → rounds_of parsed ≡ Some c → (nat_le 1 c && nat_le c 10000000) ≡ true
  in_range c is = sym (ap are_rounds is) ∙ rounds

  pub rounds_least : (c : ℕ) → rounds_of parsed ≡ Some c → 1 ≤ c
  rounds_least c is = let h =
      (and_parts (nat_le 1 c) (nat_le c 10000000) (in_range c is)).0 in grind (arith, nat_tests, h)

  pub no_rounds : rounds_of parsed ≡ None → ⊥
  no_rounds none = cc (sym (ap are_rounds none) ∙ rounds)
