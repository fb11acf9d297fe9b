use Rattle.std.proofs.Common.{refl, inl, rules}
use Rattle.subtle.proofs.GreaterSteps.{told_by_steps}
use Rattle.subtle.proofs.order.U8ConstantTimeGreater.ct_gt.Goals as goal

pub returns : goal.returns
returns c = told_by_steps 8 c.args.self.now c.args.other.now _ _ _ (inl refl) (search rules) (search rules)
    c.smeared_8-under.ensures c.smeared_8-over.ensures c.from_u8.ensures
