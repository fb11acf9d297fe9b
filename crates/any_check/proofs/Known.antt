-- What an answer says of a verdict, where it is the verdict, or want of memory.
use Rattle.std.proofs.Common.{◌≡◌, ◌≢◌, ℕ, Bool, true, false, List, length, sym, ◌∙◌, inl, inr}
use Rattle.std.proofs.Common.{Option, Some, None, Err, Result}
use Rattle.std.specs.Prelude.{nat_lt, if◌then◌else◌}
use Rattle.stored_check.specs.declared.error.StoredError.TheVariants.{OutOfMemory}
use Rattle.any_check.proofs.Causes.{never_wanting}
use Rattle.any_check.specs.Cost.{is_costly, verdict_within}
use Rattle.any_check.specs.Given.{given_may_lack, given_verdict}
use Rattle.any_check.specs.Records.{accepted, tag}
use Rattle.any_check.specs.Table.{IsAnyVerdict}
use Rattle.any_check.specs.declared.numbers.SchemeCosts.{SchemeCosts}
use Rattle.any_check.specs.declared.error.AnyError.{AnyError}
use Rattle.any_check.specs.declared.error.AnyError.TheVariants.{Stored}

abbrev Other : Result Bool AnyError → Type 0
Other r = r ≢ Err (Stored OutOfMemory)

other_by : (t : Bool) (x y : Result Bool AnyError) → Other x → Other y → Other (if t then x else y)
other_by true x y hx hy = hx
other_by false x y hx hy = hy

within_other : (limits : SchemeCosts) (password stored : List ℕ) → Other (verdict_within accepted tag limits password stored)
unfolding verdict_within
within_other limits password stored = other_by (nat_lt 4096 (length password)) _ _ (λ h. cc)
    (other_by (is_costly accepted limits stored) _ _ (λ h. cc) (never_wanting accepted tag password stored))

-- no verdict is want of memory
pub given_other : (limits : Option SchemeCosts) (password stored : List ℕ) → Other (given_verdict limits password stored)
given_other None password stored = never_wanting accepted tag password stored
given_other (Some limits) password stored = within_other limits password stored

-- the answer for a password and a stored text
pub verdict_lacks_memory : (limits : Option SchemeCosts) (password stored : List ℕ) (r : Result Bool AnyError)
    → IsAnyVerdict (given_verdict limits password stored) (given_may_lack limits password stored) r
    → r ≡ Err (Stored OutOfMemory) → given_may_lack limits password stored ≡ true
verdict_lacks_memory limits password stored r (inl is) h = absurd (given_other limits password stored (sym is ∙ h))
verdict_lacks_memory limits password stored r (inr lacks) h = lacks.1

pub verdict_is_known : (limits : Option SchemeCosts) (password stored : List ℕ) (r : Result Bool AnyError)
    → IsAnyVerdict (given_verdict limits password stored) (given_may_lack limits password stored) r
    → Other r → r ≡ given_verdict limits password stored
verdict_is_known limits password stored r (inl is) h = is
verdict_is_known limits password stored r (inr lacks) h = absurd (h lacks.0)
