use Rattle.std.proofs.Common.{ℕ, ◌<◌, ◌-◌, slice_index}
use Rattle.pieces.proofs.text.is_ascii.Given as goal

abbrev pub invariant-loop-i : goal.invariant-loop-i
invariant-loop-i l = record { ascii : (k : ℕ) → k < l.i → slice_index l.bytes k < 128 }

abbrev pub decreases-loop-i : goal.decreases-loop-i
decreases-loop-i l = l.last - l.i
