use Rattle.std.proofs.Common.{ap, sym, drop}
use Rattle.pieces.proofs.Fronts.{behind_cut}
use Rattle.mcf.proofs.body_of.Goals as goal

pub returns-in-Some : goal.returns-in-Some
returns-in-Some c = record {
  pieces =
      sym (ap (drop 1) (behind_cut 36 c.args.s.now c.in-Some.body.now (sym c.in-Some.ensures.rest)));
}

pub returns-in-None : goal.returns-in-None
returns-in-None c = record { pieces = sym (ap (drop 1) c.first_piece.ensures.pieces) }
