use Rattle.std.proofs.Common.{◌≡◌, ◌+◌, ◌-◌, true, slice_index}
use Rattle.std.specs.Prelude.{IsTrue}
use Rattle.mcf.specs.Clean.{AreGood}
use Rattle.mcf.specs.Grammar.{is_field_byte}
use Rattle.mcf.proofs.clean.are_fields.Given as goal

abbrev pub invariant-loop-i : goal.invariant-loop-i
invariant-loop-i l = record {
  so_far : IsTrue l.all → AreGood l.bytes 0 l.i;
  behind : IsTrue l.all → AreGood l.bytes l.last (l.last + 16);
  first : IsTrue l.all → is_field_byte (slice_index l.bytes 0) ≡ true;
  final : IsTrue l.all → is_field_byte (slice_index l.bytes (l.last + 16)) ≡ true;
}

abbrev pub decreases-loop-i : goal.decreases-loop-i
decreases-loop-i l = l.last - l.i
