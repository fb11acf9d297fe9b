use Rattle.std.proofs.Common.{◌∙◌}
use Rattle.line_filter.specs.Met.{mark_with, returns_with}
use Rattle.line_filter.proofs.Noticing.{mark_met, met_same, returns_met}
use Rattle.line_filter.proofs.noticed.Noticing.met.Goals as goal

pub returns : goal.returns
unfolding mark_with returns_with
returns c = record {
  met =
      let s = c.args.self.now in
      met_same c.met_of.result (c.met_of.ensures.returns ∙ returns_met s.returns s.has_return c.met_of.ensures.small)
      (c.met_of.ensures.has_mark ∙ mark_met s.mark s.has_mark);
}
