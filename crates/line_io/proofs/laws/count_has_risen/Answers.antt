use Rattle.line_io.proofs.laws.count_has_risen.Goals as goal

pub returns : goal.returns
returns c before now = ((λ h. h), λ h. h)
