use Rattle.std.proofs.Common.{refl, inr, rules}
use Rattle.subtle.proofs.GreaterSteps.{told_by_steps}
use Rattle.subtle.proofs.order.U128ConstantTimeGreater.ct_gt.Goals as goal

pub returns : goal.returns
returns c = told_by_steps 128 c.args.self.now c.args.other.now _ _ _ (inr (inr (inr (inr refl)))) (search rules)
    (search rules) c.smeared_128-under.ensures c.smeared_128-over.ensures c.from_u8.ensures
