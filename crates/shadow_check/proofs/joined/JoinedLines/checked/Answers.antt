use Rattle.std.proofs.Common.{ap}
use Rattle.shadow_check.specs.declared.answer.JoinAnswer.TheVariants.{Checked}
use Rattle.shadow_check.proofs.OfJoins.{checked_known}
use Rattle.shadow_check.proofs.joined.JoinedLines.checked.Goals as goal

pub returns-in-Some : goal.returns-in-Some
returns-in-Some c = record {
  answered = (
    checked_known c.in-Some.answer c.in-Some.ensures.answered.0,
    ap Checked c.in-Some.ensures.answered.1,
  );
}
