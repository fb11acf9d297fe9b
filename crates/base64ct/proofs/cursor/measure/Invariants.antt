use Rattle.std.proofs.Common.{length, ◌-◌, ◌≡◌, ◌*◌, ◌≤◌, ◌<◌}
use Rattle.base64ct.proofs.Fills.{Scanned}
use Rattle.base64ct.proofs.cursor.measure.Given as goal

abbrev pub invariant-scan : goal.invariant-scan
invariant-scan g l = (l.at < length l.body) × (4 * l.count ≤ l.at) × Scanned l.width l.body l.at l.room l.count
    × (length l.last ≡ 3)

abbrev pub decreases-scan : goal.decreases-scan
decreases-scan g l = length l.body - l.at
