use Rattle.std.proofs.Common.{length}
use Rattle.shadow_table.proofs.fields.+has_wide_control.Given as goal

abbrev pub decreases-has_wide_control : goal.decreases-has_wide_control
decreases-has_wide_control l = length l.bytes.now
