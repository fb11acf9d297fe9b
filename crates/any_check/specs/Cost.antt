-- The bound on cost: which valid texts ask for more than it allows, and the verdict under it.
use Rattle.std.specs.Prelude.{ℕ, Bool, false, List, length, nat_lt, Result, Err, if◌then◌else◌}
use Rattle.phc.specs.declared.password_hash.PasswordHash.{PasswordHash}
use Rattle.scheme_list.specs.Schemes.{row_of}
use Rattle.phc_kdf.specs.Limits.{password_max}
use Rattle.stored_check.specs.declared.error.StoredError.TheVariants.{PasswordTooLong}
use Rattle.any_check.specs.Kinds.{text_kind}
use Rattle.any_check.specs.Numbers.{costs_of, is_above}
use Rattle.any_check.specs.Table.{any_may_lack, any_verdict}
use Rattle.any_check.specs.declared.error.AnyError.{AnyError}
use Rattle.any_check.specs.declared.error.AnyError.TheVariants.{Stored, TooCostly}
use Rattle.any_check.specs.declared.kinds.TextKind.{TextKind}
use Rattle.any_check.specs.declared.kinds.TextKind.TheVariants.{NoScheme, Invalid, Valid}
use Rattle.any_check.specs.declared.numbers.SchemeCosts.{SchemeCosts}

-- by what the text is: a valid one is measured by the limit of its family
abbrev pub kind_costs : SchemeCosts → TextKind → Bool
kind_costs limits NoScheme = false
kind_costs limits Invalid = false
kind_costs limits (Valid text) = is_above (costs_of limits (row_of text.scheme).family) text.costs

-- the text is valid, and its cost is above the bound
unfoldable pub is_costly : (PasswordHash → List ℕ → ℕ → Bool) → SchemeCosts → List ℕ → Bool
is_costly accepted limits stored = kind_costs limits (text_kind accepted stored)

-- ---- the verdict under a bound

-- a password that is too long comes first, then a cost above the bound
unfoldable pub verdict_within : (PasswordHash → List ℕ → ℕ → Bool) → (List ℕ → PasswordHash → List ℕ → ℕ → List ℕ)
    → SchemeCosts → List ℕ → List ℕ → Result Bool AnyError
verdict_within accepted tag limits password stored =
    if nat_lt password_max (length password) then Err (Stored PasswordTooLong)
    else if is_costly accepted limits stored then Err TooCostly
    else any_verdict accepted tag password stored

-- memory may be wanting under a bound: never for a text whose cost is above it
unfoldable pub within_may_lack : (PasswordHash → List ℕ → ℕ → Bool) → (PasswordHash → Bool)
    → (List ℕ → PasswordHash → List ℕ → ℕ → List ℕ) → SchemeCosts → List ℕ → List ℕ → Bool
within_may_lack accepted needs_memory tag limits password stored =
    if is_costly accepted limits stored then false else any_may_lack accepted needs_memory tag password stored
