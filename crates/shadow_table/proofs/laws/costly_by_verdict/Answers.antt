use Rattle.shadow_table.proofs.Upgrades.{costly_by_verdict}
use Rattle.shadow_table.proofs.laws.costly_by_verdict.Goals as goal

pub returns : goal.returns
returns c = record { law = costly_by_verdict }
