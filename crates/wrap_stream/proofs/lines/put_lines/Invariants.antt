use Rattle.std.proofs.Common.{◌≤◌, ◌+◌, ◌-◌, ◌*◌, length, min, ◌∷◌, []}
use Rattle.wrap_stream.proofs.Laying.{Laying}
use Rattle.wrap_stream.proofs.lines.put_lines.Given as goal

abbrev pub invariant-lines : goal.invariant-lines
invariant-lines l = record {
  so_far : Laying l.width (10 ∷ []) l.room l.chars l.out l.done l.at l.left;
  within : l.done ≤ length l.chars;
  line : l.left ≤ l.width;
  fits : 4 * l.at + 5 * (length l.chars - l.done) + 4 ≤ 4 * length l.out + min l.left 4;
}

abbrev pub decreases-lines : goal.decreases-lines
decreases-lines l = length l.chars - l.done
