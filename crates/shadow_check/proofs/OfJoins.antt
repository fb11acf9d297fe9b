-- What is owed for a line of texts, by its length, by whether there is a user, and by what the user's text is.
use Rattle.std.proofs.Common.{◌≡◌, ◌≢◌, ℕ, Bool, true, false, List, [], ◌∷◌, ◌++◌, length, refl, Option, Result, Err}
use Rattle.std.specs.Prelude.{nat_lt, codes}
use Rattle.stored_check.specs.declared.error.StoredError.TheVariants.{OutOfMemory}
use Rattle.shadow_fields.specs.Fields.{has_user, text_of_line, user_of}
use Rattle.any_check.specs.declared.numbers.SchemeCosts.{SchemeCosts}
use Rattle.any_check.specs.declared.error.AnyError.{AnyError}
use Rattle.any_check.specs.declared.error.AnyError.TheVariants.{Stored}
use Rattle.shadow_check.specs.Join.{is_join_match, join_may_lack, join_word, joined_is_good}
use Rattle.shadow_check.specs.Join.{joined_may_lack, joined_output, joined_answer}
use Rattle.shadow_check.specs.declared.answer.JoinAnswer.TheVariants.{Checked}

-- ---- an answer that is known

pub checked_known : (r : Result Bool AnyError) → r ≢ Err (Stored OutOfMemory)
    → Checked r ≢ Checked (Err (Stored OutOfMemory))
checked_known r known = λ h. known cc

-- ---- a line

module _ (limits : Option SchemeCosts) (find : List ℕ → Option (List ℕ)) (l : List ℕ) where
  pub long_output : nat_lt 8192 (length l) ≡ true → joined_output limits find l ≡ codes "toolong" ++ 10 ∷ []
  unfolding joined_output
  long_output long = rw long refl

  pub long_good : nat_lt 8192 (length l) ≡ true → joined_is_good limits find l ≡ false
  unfolding joined_is_good
  long_good long = rw long refl

  module _ (short : nat_lt 8192 (length l) ≡ false) where
    pub of_user : has_user l ≡ true →
        (joined_output limits find l ≡ user_of l ++ 9 ∷ (join_word (joined_answer limits find l) ++ 10 ∷ []))
        × (joined_is_good limits find l ≡ is_join_match (joined_answer limits find l))
        × (joined_may_lack limits find l ≡ join_may_lack limits (find (user_of l)) (text_of_line l))
    unfolding joined_output joined_is_good joined_may_lack
    of_user user = (rw (short, user) refl, rw (short, user) refl, rw (short, user) refl)

    pub of_none : has_user l ≡ false →
        (joined_output limits find l ≡ codes "badline" ++ 10 ∷ []) × (joined_is_good limits find l ≡ false)
    unfolding joined_output joined_is_good
    of_none none = (rw (short, none) refl, rw (short, none) refl)
