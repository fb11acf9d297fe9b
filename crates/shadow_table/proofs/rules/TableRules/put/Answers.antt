use Rattle.shadow_table.proofs.Upgrades.{not_put}
use Rattle.shadow_table.proofs.rules.TableRules.put.Goals as goal

pub returns-in_default-clause-put : goal.returns-in_default-clause-put
returns-in_default-clause-put c =
    not_put c.args.self.now c.args.password.now c.args.old.now c.args.fresh.now c.in_default.ensures.text
