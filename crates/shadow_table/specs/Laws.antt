-- Laws over the rules.
use Rattle.std.specs.Prelude.{◌≡◌, ◌≤◌, ◌⊎◌, ℕ, List, None, Option, Ok, Err}
use Rattle.any_check.specs.Given.{given_verdict}
use Rattle.any_check.specs.Kinds.{text_kind}
use Rattle.any_check.specs.Records.{accepted}
use Rattle.any_check.specs.declared.error.AnyError.TheVariants.{TooCostly}
use Rattle.any_check.specs.declared.kinds.TextKind.TheVariants.{Valid}
use Rattle.any_check.specs.declared.numbers.SchemeCosts.{SchemeCosts}
use Rattle.any_check.specs.declared.numbers.TextCosts.{TextCosts}
use Rattle.pw_file.specs.Answers.{check_answer, upgrade_answer}
use Rattle.std.specs.Prelude.{Some, false, true}
use Rattle.scheme_list.specs.Schemes.{row_of}
use Rattle.shadow_table.specs.AnyTexts.{any_texts}
use Rattle.shadow_table.specs.Rules.{is_too_costly}
use Rattle.shadow_table.specs.Strength.{costs_memory, costs_work}
use Rattle.shadow_table.specs.declared.rules.TableRules.{TableRules}

-- what a text asked for, and what the text in its place asks for: no less memory and no less work; and where both ask for rounds or
-- for a cost, and the old one isn't weak by its scheme, no fewer and no lower
pub record IsNoWeaker (old fresh : TextCosts) : Type 0 where
  pub memory : costs_memory old ≤ costs_memory fresh
  pub work : costs_work old ≤ costs_work fresh
  pub rounds : (row_of old.scheme).is_weak ≡ false → (fresh.costs.rounds ≡ 0) ⊎ (old.costs.rounds ≤ fresh.costs.rounds)
  pub cost : (row_of old.scheme).is_weak ≡ false → (fresh.costs.cost ≡ 0) ⊎ (old.costs.cost ≤ fresh.costs.cost)

-- An upgrade that puts a fresh text in the place of a user's was asked for by a password that matched the old text. What both texts
-- ask for is known: the fresh one is no weaker. A check of the password by the fresh text is a match.
pub record IsUpgrade (r : TableRules) (password old fresh : List ℕ) : Type 0 where
  pub matched : given_verdict None password old ≡ Ok true
  pub old_costs : TextCosts
  pub fresh_costs : TextCosts
  pub old_is : text_kind accepted old ≡ Valid old_costs
  pub fresh_is : text_kind accepted fresh ≡ Valid fresh_costs
  pub no_weaker : IsNoWeaker old_costs fresh_costs
  pub matches : check_answer (any_texts r) (Some fresh) password ≡ Ok true

-- each answer of `upgrade` that says `upgraded` is of this kind
abbrev pub NeverWeakens : Type 0
NeverWeakens = (r : TableRules) (old password salt : List ℕ)
    → upgrade_answer (any_texts r) (Some old) password salt ≡ Ok true
    → IsUpgrade r password old ((any_texts r).fresh password salt)

-- `too-costly` is answered where it is the verdict under the bound.
abbrev pub CostlyByVerdict : Type 0
CostlyByVerdict = (limits : Option SchemeCosts) (password text : List ℕ) → is_too_costly limits password text ≡ true
    → given_verdict limits password text ≡ Err TooCostly
