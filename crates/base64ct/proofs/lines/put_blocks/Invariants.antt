use Rattle.std.proofs.Common.{length, ◌-◌, ◌≡◌, ◌≤◌, ◌%◌}
use Rattle.base64ct.proofs.Wrapping.{Striding}
use Rattle.base64ct.proofs.lines.put_blocks.Given as goal

abbrev pub invariant-strides : goal.invariant-strides
invariant-strides g l = (l.done ≤ length l.input) × (l.done % 3 ≡ 0)
    × Striding g.A.Alphabet.alphabet l.width l.ending l.input l.fn.out l.out l.position l.done l.at l.room l.left

abbrev pub decreases-strides : goal.decreases-strides
decreases-strides g l = length l.input - l.done
