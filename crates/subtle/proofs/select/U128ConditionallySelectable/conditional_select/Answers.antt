use Rattle.std.proofs.Common.{◌∙◌, rules, arith}
use Rattle.subtle.proofs.Masking.{selected}
use Rattle.subtle.proofs.select.U128ConditionallySelectable.conditional_select.Goals as goal

pub returns : goal.returns
returns c = selected 128 c.args.choice c.args.a.now c.args.b.now _ (omega arith) (search rules) (search rules)
    (c.from-mask.ensures ∙ c.unwrap_u8.ensures)
