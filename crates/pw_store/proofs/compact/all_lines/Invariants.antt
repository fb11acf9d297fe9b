use Rattle.std.proofs.Common.{◌≡◌, take}
use Rattle.std.specs.List.{flat_map}
use Rattle.pw_file.specs.Replies.{row_line}
use Rattle.pw_store.proofs.compact.all_lines.Given as goal

abbrev pub invariant-loop-i : goal.invariant-loop-i
invariant-loop-i g l = l.lines.items ≡ flat_map row_line (take l.i l.table)
