-- What is owed for a line of users, by its length and by whether there is a user.
use Rattle.std.proofs.Common.{◌≡◌, ℕ, true, false, List, [], ◌∷◌, ◌++◌, length, refl, Option}
use Rattle.std.specs.Prelude.{nat_lt, codes}
use Rattle.shadow_fields.specs.Fields.{has_user, rest_of, user_of}
use Rattle.shadow_check.specs.Lines.{line_is_good, line_may_lack, line_output}
use Rattle.any_check.specs.declared.numbers.SchemeCosts.{SchemeCosts}
use Rattle.shadow_check.specs.Users.{user_is_good, user_may_lack, user_output}

module _ (limits : Option SchemeCosts) (l : List ℕ) where
  pub long_output : nat_lt 8192 (length l) ≡ true → user_output limits l ≡ codes "toolong" ++ 10 ∷ []
  unfolding user_output
  long_output long = rw long refl

  pub long_good : nat_lt 8192 (length l) ≡ true → user_is_good limits l ≡ false
  unfolding user_is_good
  long_good long = rw long refl

  module _ (short : nat_lt 8192 (length l) ≡ false) where
    pub of_user : has_user l ≡ true →
        (user_output limits l ≡ user_of l ++ 9 ∷ line_output limits (rest_of l))
        × (user_is_good limits l ≡ line_is_good limits (rest_of l))
        × (user_may_lack limits l ≡ line_may_lack limits (rest_of l))
    unfolding user_output user_is_good user_may_lack
    of_user user = (rw (short, user) refl, rw (short, user) refl, rw (short, user) refl)

    pub of_none : has_user l ≡ false →
        (user_output limits l ≡ codes "badline" ++ 10 ∷ []) × (user_is_good limits l ≡ false)
    unfolding user_output user_is_good
    of_none none = (rw (short, none) refl, rw (short, none) refl)
