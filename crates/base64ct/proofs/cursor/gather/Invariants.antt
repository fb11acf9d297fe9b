use Rattle.std.proofs.Common.{length, ◌-◌, ◌≡◌, ◌<◌, ◌≤◌, take, drop}
use Rattle.base64ct.specs.Wrapping.{characters_from, put_before}
use Rattle.base64ct.proofs.cursor.gather.Given as goal

abbrev pub invariant-lines : goal.invariant-lines
invariant-lines l = (l.count ≤ length l.buffer) × (length l.buffer ≡ length l.fn.buffer) × (l.place ≤ length l.body)
    × (l.count < length l.buffer → l.place < length l.body → l.left ≡ 0)
    × (characters_from l.width l.room (drop l.at l.body)
    ≡ put_before (take l.count l.buffer) (characters_from l.width l.left (drop l.place l.body)))

abbrev pub decreases-lines : goal.decreases-lines
decreases-lines l = length l.buffer - l.count
