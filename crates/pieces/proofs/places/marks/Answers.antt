use Rattle.pieces.proofs.MarkLaws.{marks_of}
use Rattle.pieces.proofs.places.marks.Goals as goal

pub returns : goal.returns
returns c = record { marks = marks_of c.args.wanted c.args.bytes.now c.args.i c.requires.room }
