-- A run that keeps the passwords of the texts' users alone answers as one that keeps all.
use Rattle.std.proofs.Common.{◌≡◌, ℕ, Bool, true, false, List, length, refl, Option}
use Rattle.std.specs.Prelude.{nat_lt}
use Rattle.shadow_fields.specs.Fields.{has_user, user_of}
use Rattle.shadow_fields.specs.Passwords.{password_of}
use Rattle.shadow_fields.specs.Wanted.{has_line, wanted_password}
use Rattle.shadow_fields.proofs.LoadedWanted.{has_line_of}
use Rattle.any_check.specs.declared.numbers.SchemeCosts.{SchemeCosts}
use Rattle.shadow_check.specs.Join.{joined_is_good, joined_may_lack, joined_output}
use Rattle.shadow_check.specs.Laws.{FewerAnswersAlike}

module _ (limits : Option SchemeCosts) (texts passwords : List (List ℕ)) (line : List ℕ) where
  -- a line's output, whether the line is good, and whether memory may be missing
  abbrev Alike : Type 0
  Alike = (joined_output limits (wanted_password (has_line texts) passwords) line
      ≡ joined_output limits (password_of passwords) line)
      × (joined_is_good limits (wanted_password (has_line texts) passwords) line
      ≡ joined_is_good limits (password_of passwords) line)
      × (joined_may_lack limits (wanted_password (has_line texts) passwords) line
      ≡ joined_may_lack limits (password_of passwords) line)

  by_cases : (long user : Bool) → nat_lt 8192 (length line) ≡ long → has_user line ≡ user
      → (long ≡ false → user ≡ true → has_line texts (user_of line) ≡ true) → Alike
  unfolding joined_output joined_is_good joined_may_lack
  by_cases true user is_long is_user has = (rw is_long refl, rw is_long refl, rw is_long refl)
  by_cases false false is_long is_user has =
      (rw (is_long, is_user) refl, rw (is_long, is_user) refl, rw (is_long, is_user) refl)
  by_cases false true is_long is_user has = (
    rw (is_long, is_user, has refl refl) refl,
    rw (is_long, is_user, has refl refl) refl,
    rw (is_long, is_user, has refl refl) refl,
  )

pub alike : FewerAnswersAlike
alike limits texts passwords i line here =
    by_cases limits texts passwords line (nat_lt 8192 (length line)) (has_user line) refl refl
    (λ short user. has_line_of texts i line here (rw (short, user) refl))
