use Rattle.std.proofs.Common.{sym, ap, ◌∙◌}
use Rattle.file_device.specs.Calls.{faults, is_renewed, seen}
use Rattle.file_device.proofs.Steps.{none_failed, none_seen, none_stale}
use Rattle.file_device.proofs.opening.read_renewed.Goals as goal

pub returns-in_default-clause-seen : goal.returns-in_default-clause-seen
returns-in_default-clause-seen c = c.new.ensures.items ∙ sym (ap seen c.new-in_default.ensures.none ∙ none_seen)

pub returns-in_default-clause-healthy : goal.returns-in_default-clause-healthy
returns-in_default-clause-healthy c = ap faults c.new-in_default.ensures.none ∙ none_failed

pub returns-in_default-clause-renewed : goal.returns-in_default-clause-renewed
returns-in_default-clause-renewed c = ap is_renewed c.new-in_default.ensures.none ∙ none_stale
