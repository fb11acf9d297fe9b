use Rattle.std.proofs.Common.{◌≡◌, ◌++◌, drop, true}
use Rattle.ldif_lines.specs.Rests.{rows_from}
use Rattle.ldif_lines.proofs.entry.push_rows.Given as goal

abbrev pub invariant-loop-b : goal.invariant-loop-b
invariant-loop-b l = l.rows ++ rows_from l.name l.begins (drop l.b-index l.texts) ≡ rows_from l.name true l.texts
