use Rattle.std.proofs.Common.{refl}
use Rattle.line_filter.specs.MappedSteps.{mapped_after, mapped_shown, pending_of, waiting_of}
use Rattle.line_filter.proofs.mapping.Mapping.new.Goals as goal

pub returns : goal.returns
unfolding mapped_shown mapped_after waiting_of pending_of
returns c = record {
  shown = λ rule text. rw (c.new.ensures.none, c.new-2.ensures.none, c.new-3.ensures.none) refl;
}
