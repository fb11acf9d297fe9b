use Rattle.std.proofs.Common.{◌≡◌, ℕ, ◌+◌, ◌<◌, List, ◌++◌, length, take, slice_get, refl, sym, ap, ◌∙◌, Option, Some, None}
use Rattle.std.specs.Option.{option_map}
use Rattle.std.specs.List.{flat_map}
use Rattle.pw_file.specs.Replies.{row_line}
use Rattle.pw_file.proofs.Output.{row_more, row_there}
use Rattle.pw_store.proofs.compact.all_lines.Goals as goal

pub loop-i-preserved : goal.loop-i-preserved
loop-i-preserved g c =
    let within : c.loop-i.i < length c.args.table.now = rw (sym c.len-i-end.ensures.len) c.loop-i-test.true in
    by_row within (slice_get c.args.table.now c.loop-i.i) refl
  where
    by_row : c.loop-i.i < length c.args.table.now → (row : Option (List ℕ × List ℕ)) → slice_get c.args.table.now c.loop-i.i ≡ row
        → c.push_row.new.lines.items ≡ flat_map row_line (take (c.loop-i.i + 1) c.args.table.now)
    by_row within None at = absurd (row_there c.args.table.now c.loop-i.i within (ap (option_map row_line) (sym at)))
    by_row within (Some row) at =
        c.in_ok-push_row.ensures.some row at ∙ ap (λ (t : List ℕ). t ++ row_line row) c.loop-i.invariant
        ∙ sym (row_more c.args.table.now c.loop-i.i (row_line row) (ap (option_map row_line) (sym at)))
