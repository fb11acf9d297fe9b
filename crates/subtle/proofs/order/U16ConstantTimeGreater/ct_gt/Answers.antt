use Rattle.std.proofs.Common.{refl, inl, inr, rules}
use Rattle.subtle.proofs.GreaterSteps.{told_by_steps}
use Rattle.subtle.proofs.order.U16ConstantTimeGreater.ct_gt.Goals as goal

pub returns : goal.returns
returns c = told_by_steps 16 c.args.self.now c.args.other.now _ _ _ (inr (inl refl)) (search rules) (search rules)
    c.smeared_16-under.ensures c.smeared_16-over.ensures c.from_u8.ensures
