use Rattle.std.proofs.Common.{◌≤◌, ◌-◌, length}
use Rattle.pieces.specs.Places.{IsLastBelow}
use Rattle.pieces.proofs.places.last_place.Given as goal

abbrev pub invariant-places : goal.invariant-places
invariant-places l = record { within : l.from ≤ length l.bytes; last : IsLastBelow l.wanted l.bytes l.from l.last }

abbrev pub decreases-places : goal.decreases-places
decreases-places l = length l.bytes - l.from
