use Rattle.std.proofs.Common.{length}
use Rattle.pbkdf2_key.proofs.Blocks.{IsFilled}
use Rattle.pbkdf2_key.proofs.derive.fill.Given as goal

abbrev pub invariant-outputs : goal.invariant-outputs
invariant-outputs g l = IsFilled g.P.Prf.code g.row.N l.password l.salt l.rounds l.out (length l.fn.out) l.i
