use Rattle.std.proofs.Common.{length, ◌-◌, ◌≡◌, ◌+◌, ◌≤◌, ◌<◌, take, drop}
use Rattle.base64ct.specs.Wrapping.{characters_from, put_before}
use Rattle.base64ct.proofs.cursor.next_block.Given as goal

abbrev pub invariant-characters : goal.invariant-characters
invariant-characters l =
    (characters_from l.width l.room (drop l.at l.body)
    ≡ put_before (take l.count l.block) (characters_from l.width l.left (drop l.place l.body)))
    × (l.place ≤ length l.body) × (l.count ≤ 4) × (l.at + l.count ≤ l.place) × (l.at < l.place → 0 < l.count)
    × (0 < l.count → l.at < l.place) × (length l.block ≡ 4)

abbrev pub decreases-characters : goal.decreases-characters
decreases-characters l = length l.body - l.place
