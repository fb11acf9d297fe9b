-- The verdict, with a bound on cost or without one.
use Rattle.std.specs.Prelude.{ℕ, Bool, List, Option, Some, None, Result}
use Rattle.any_check.specs.Cost.{verdict_within, within_may_lack}
use Rattle.any_check.specs.Records.{accepted, needs_memory, tag}
use Rattle.any_check.specs.Table.{any_may_lack, any_verdict}
use Rattle.any_check.specs.declared.numbers.SchemeCosts.{SchemeCosts}
use Rattle.any_check.specs.declared.error.AnyError.{AnyError}

-- the verdict, with or without a bound on cost
abbrev pub given_verdict : Option SchemeCosts → List ℕ → List ℕ → Result Bool AnyError
given_verdict None password stored = any_verdict accepted tag password stored
given_verdict (Some limits) password stored = verdict_within accepted tag limits password stored

-- where memory may be wanting
abbrev pub given_may_lack : Option SchemeCosts → List ℕ → List ℕ → Bool
given_may_lack None password stored = any_may_lack accepted needs_memory tag password stored
given_may_lack (Some limits) password stored = within_may_lack accepted needs_memory tag limits password stored
