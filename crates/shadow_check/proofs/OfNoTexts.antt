-- What is owed for a line of passwords, by its length and by whether there is a user.
use Rattle.std.proofs.Common.{◌≡◌, ℕ, Bool, true, false, List, [], ◌∷◌, ◌++◌, length, refl}
use Rattle.std.specs.Prelude.{nat_lt, codes}
use Rattle.shadow_fields.specs.Fields.{has_user, user_of}
use Rattle.shadow_check.specs.NoText.{left_output, no_text_is_good, no_text_output}

module _ (has_text : List ℕ → Bool) (l : List ℕ) where
  pub long_output : nat_lt 8192 (length l) ≡ true → no_text_output has_text l ≡ codes "toolong" ++ 10 ∷ []
  unfolding no_text_output
  long_output long = rw long refl

  pub long_good : nat_lt 8192 (length l) ≡ true → no_text_is_good has_text l ≡ false
  unfolding no_text_is_good
  long_good long = rw long refl

  module _ (short : nat_lt 8192 (length l) ≡ false) where
    pub of_user : has_user l ≡ true → (no_text_output has_text l ≡ left_output (has_text (user_of l)) (user_of l))
        × (no_text_is_good has_text l ≡ has_text (user_of l))
    unfolding no_text_output no_text_is_good
    of_user user = (rw (short, user) refl, rw (short, user) refl)

    pub of_none : has_user l ≡ false →
        (no_text_output has_text l ≡ codes "badline" ++ 10 ∷ []) × (no_text_is_good has_text l ≡ false)
    unfolding no_text_output no_text_is_good
    of_none none = (rw (short, none) refl, rw (short, none) refl)
