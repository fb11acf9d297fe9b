use Rattle.pieces.proofs.Fronts.{behind_is}
use Rattle.pieces.proofs.behind.Goals as goal

pub returns : goal.returns
returns c = record {
  rest = behind_is c.args.text.now c.args.front.now c.strip_prefix.result
      c.strip_prefix.ensures.cases;
}
