use Rattle.std.proofs.Common.{rules, arith, length, ◌≡◌, ◌≤◌, ap, ◌+◌}
use Rattle.pieces.proofs.ZeroedCells.{zeros_after}
use Rattle.pieces.proofs.short_bytes.ShortBytes.push_all.Goals as goal

pub invariant_of-self : goal.invariant_of-self
invariant_of-self g c =
    let written : length c.copy_from_slice.new.self ≡ length c.args.s.now = ap length c.copy_from_slice.ensures.after in
    let fits : c.self.inside.len + length c.args.s.now ≤ g.row.N = search rules in (
      fits,
      search rules,
      zeros_after g.row.N c.self.inside.len _ c.self.inside.cells c.copy_from_slice.new.self _
          (omega (arith, written)) (omega (arith, written)) fits c.self.invariant.1 c.self.invariant.2,
    )
