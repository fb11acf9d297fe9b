-- What a text asks for, in the measure of a survey: its memory and its work, or its rounds or its cost. And which texts an upgrade
-- leaves as they are.
use Rattle.std.specs.Prelude.{ℕ, true, ◌==◌, ◌&&◌, ◌||◌, Bool, false, nat_lt, not}
use Rattle.scheme_list.specs.Schemes.{place, row_of}
use Rattle.scheme_list.specs.declared.schemes.CostFamily.{CostFamily}
use Rattle.scheme_list.specs.declared.schemes.CostFamily.TheVariants as family
use Rattle.any_check.specs.Numbers.{is_above, of_cost, of_ln_r_p, of_ln_r_t, of_m_t_p, of_rounds}
use Rattle.any_check.specs.declared.kinds.TextKind.{TextKind}
use Rattle.any_check.specs.declared.kinds.TextKind.TheVariants.{NoScheme, Invalid, Valid}
use Rattle.any_check.specs.declared.numbers.Costs.{Costs}
use Rattle.any_check.specs.declared.numbers.TextCosts.{TextCosts}
use Rattle.any_make.specs.Costs.{scheme_of}
use Rattle.any_make.specs.declared.scheme.MakeCost.{MakeCost}
use Rattle.any_make.specs.declared.scheme.MakeCost.TheVariants as cost
use Rattle.shadow_survey.specs.Leasts.{memory, work}

-- ---- memory and work, in KiB

abbrev pub costs_memory : TextCosts → ℕ
costs_memory text = memory (row_of text.scheme).family text.costs

-- the work by the family; yescrypt, whose texts name no parts, goes through its memory once
abbrev pub family_work : CostFamily → Costs → ℕ
family_work family.Yescrypt costs = memory family.Yescrypt costs
family_work other costs = work other costs

abbrev pub costs_work : TextCosts → ℕ
costs_work text = family_work (row_of text.scheme).family text.costs

-- both texts ask for such a number, and the first for less of it
abbrev pub is_fewer : ℕ → ℕ → Bool
is_fewer new old = nat_lt 0 new && nat_lt new old

-- The same of their rounds or costs: the numbers of schemes that take no memory. Those of an old text whose scheme is weak by itself
-- don't count.
abbrev pub has_less : TextCosts → TextCosts → Bool
has_less new old =
    not (row_of old.scheme).is_weak
    && (is_fewer new.costs.rounds old.costs.rounds || is_fewer new.costs.cost old.costs.cost)

-- the first has less memory or less work than the second, or fewer rounds or a lower cost than one that isn't weak by its scheme
abbrev pub is_weaker : TextCosts → TextCosts → Bool
is_weaker new old =
    nat_lt (costs_memory new) (costs_memory old) || nat_lt (costs_work new) (costs_work old) || has_less new old

-- the same of two texts: nothing is weaker than a text without a verdict
abbrev pub is_weaker_kind : TextKind → TextKind → Bool
is_weaker_kind (Valid new) (Valid old) = is_weaker new old
is_weaker_kind new (Valid old) = true
is_weaker_kind new NoScheme = false
is_weaker_kind new Invalid = false

-- ---- what stays

-- the numbers of a cost
abbrev pub numbers_of : MakeCost → Costs
numbers_of (cost.ShaCrypt family rounds) = of_rounds rounds
numbers_of (cost.Scrypt c) = of_ln_r_p c.ln c.r c.p
numbers_of (cost.Bcrypt n) = of_cost n
numbers_of (cost.Yescrypt c) = of_ln_r_t c.ln c.r c.t
numbers_of (cost.Argon2id c) = of_m_t_p c.memory c.passes c.lanes
numbers_of (cost.Pbkdf2 hash rounds) = of_rounds rounds

-- what a text of this cost asks for
abbrev pub costs_of_make : MakeCost → TextCosts
costs_of_make c = record { scheme = scheme_of c; costs = numbers_of c }

-- of two texts the second is of the scheme of the first, and none of its numbers is lower
abbrev pub is_as_high : TextCosts → TextCosts → Bool
is_as_high fresh old = place old.scheme == place fresh.scheme && not (is_above old.costs fresh.costs)

-- An upgrade to this cost leaves a text as it is: the text is of that scheme with at least these numbers, or a text of this cost is
-- weaker.
abbrev pub keeps_kind : MakeCost → TextKind → Bool
keeps_kind c NoScheme = false
keeps_kind c Invalid = false
keeps_kind c (Valid old) = is_as_high (costs_of_make c) old || is_weaker (costs_of_make c) old
