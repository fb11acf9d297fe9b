use Rattle.std.proofs.Common.{◌≡◌, []}
use Rattle.pw_file.specs.History.{Rows}
use Rattle.pw_store.specs.Staged.{Undoes, lines_of, undo_of}
use Rattle.pw_store.proofs.group.Group.take_back.Given as goal

abbrev pub invariant-loop-replaced : goal.invariant-loop-replaced
invariant-loop-replaced g l = record {
  none : lines_of l.self ≡ [];
  back : (rows : Rows) → Undoes rows (undo_of l.fn.self) l.fn.table → Undoes rows (undo_of l.self) l.table;
}

abbrev pub decreases-loop-replaced : goal.decreases-loop-replaced
decreases-loop-replaced g l = goal.left-loop-replaced g l
