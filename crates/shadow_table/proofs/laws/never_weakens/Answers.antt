use Rattle.shadow_table.proofs.Upgrades.{never_weakens}
use Rattle.shadow_table.proofs.laws.never_weakens.Goals as goal

pub returns : goal.returns
returns c = record { law = never_weakens c.valid_is_verdict.ensures.some }
