use Rattle.pieces.proofs.Fronts.{left_none, left_some}
use Rattle.pieces.proofs.is_end.Goals as goal

pub returns-in-None : goal.returns-in-None
returns-in-None c = record { end = λ k. rw c.in-None.is (left_none k) }

pub returns-in-Some : goal.returns-in-Some
returns-in-Some c = record { end = λ k. rw c.in-Some.is (left_some k _) }
