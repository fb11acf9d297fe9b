use Rattle.std.proofs.Common.{◌≤◌, ◌+◌, ◌-◌, length, take}
use Rattle.wrap_stream.specs.Reading.{at}
use Rattle.wrap_stream.specs.Turns.{AreGathered}
use Rattle.wrap_stream.specs.declared.place.Place.TheVariants.{Within}
use Rattle.wrap_stream.proofs.gather.gather.Given as goal

abbrev pub invariant-lines : goal.invariant-lines
invariant-lines l = record {
  so_far : AreGathered l.width (at (Within l.room) l.waiting) (take l.taken l.text) (take l.len l.chars) l.left;
  within : l.taken ≤ length l.text;
  fits : l.len ≤ length l.chars;
  few : l.len ≤ length l.waiting + l.taken;
}

abbrev pub decreases-lines : goal.decreases-lines
decreases-lines l = length l.chars - l.len
