use Rattle.std.proofs.Common.{length, ◌-◌, ◌≡◌, ◌<◌, ◌≤◌}
use Rattle.base64ct.proofs.LineWrites.{Lining}
use Rattle.base64ct.proofs.lines.put_lines.Given as goal

abbrev pub invariant-lines : goal.invariant-lines
invariant-lines l = (l.done ≤ length l.chars) × (l.done < length l.chars → l.left ≡ 0)
    × Lining l.width l.ending l.chars l.fn.out l.out l.position l.done l.at l.room l.left

abbrev pub decreases-lines : goal.decreases-lines
decreases-lines l = length l.chars - l.done
