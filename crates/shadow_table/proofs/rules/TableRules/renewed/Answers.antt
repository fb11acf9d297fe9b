use Rattle.std.proofs.Common.{◌≡◌, Ok, false, rules, sym}
use Rattle.pieces.proofs.FaultLaws.{value_found}
use Rattle.phc.specs.Grammar.{salt_fault}
use Rattle.any_check.specs.Kinds.{text_kind}
use Rattle.any_check.specs.Records.{accepted}
use Rattle.any_make.specs.Made.{made}
use Rattle.shadow_table.specs.Rules.{bytes_of_salt}
use Rattle.shadow_table.specs.Strength.{keeps_kind}
use Rattle.shadow_table.proofs.Upgrades.{put_stays}
use Rattle.shadow_table.proofs.rules.TableRules.renewed.Goals as goal

pub returns-in-Ok-made_text-clause-stays : goal.returns-in-Ok-made_text-clause-stays
returns-in-Ok-made_text-clause-stays c =
    let r = c.args.self.now in
    let other : keeps_kind r.upgrade_to (text_kind accepted c.args.old.now) ≡ false = search rules in
    let salt = (value_found (bytes_of_salt c.args.salt.now) c.in-Ok.salt (salt_fault c.args.salt.now) (sym c.in-Ok.ensures.salt)).1 in
    let at : made r.upgrade_to c.args.password.now (bytes_of_salt c.args.salt.now) ≡ Ok c.as_slice.result.now = search rules in
    put_stays r c.args.password.now c.args.salt.now c.args.old.now c.as_slice.result.now c.put.result other at c.put.ensures.put
