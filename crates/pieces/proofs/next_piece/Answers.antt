use Rattle.std.proofs.Common.{rules}
use Rattle.pieces.proofs.next_piece.Goals as goal

pub returns-in-Some-clause-piece : goal.returns-in-Some-clause-piece
returns-in-Some-clause-piece c = search rules
