use Rattle.std.proofs.Common.{sym, ◌∙◌}
use Rattle.line_filter.proofs.Noticing.{none_found, one_found}
use Rattle.line_filter.proofs.noticed.has_return.Goals as goal

pub returns : goal.returns
returns c = record {
  free = λ none. none_found c.args.bytes.now c.memchr.result c.memchr.ensures (sym c.is_some.ensures ∙ none);
  met = λ some. one_found c.args.bytes.now c.memchr.result c.memchr.ensures (sym c.is_some.ensures ∙ some);
}
