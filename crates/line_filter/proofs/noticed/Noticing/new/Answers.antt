use Rattle.std.proofs.Common.{refl, zero-add}
use Rattle.line_filter.specs.Met.{count_returns, mark_with, returns_with}
use Rattle.line_filter.proofs.noticed.Noticing.new.Goals as goal

pub returns : goal.returns
unfolding mark_with returns_with
returns c = record { met = λ text. rw (zero-add (count_returns text)) refl }
