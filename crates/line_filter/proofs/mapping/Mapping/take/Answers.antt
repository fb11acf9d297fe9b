use Rattle.std.proofs.Common.{◌∙◌, refl}
use Rattle.line_filter.specs.MappedSteps.{mapped_after, mapped_shown, pending_of, waiting_of}
use Rattle.line_filter.proofs.mapping.Mapping.take.Goals as goal

pub refill-requires : goal.refill-requires
unfolding waiting_of
refill-requires g c = record { given = c.requires.given }

pub returns-clause-shown : goal.returns-clause-shown
unfolding mapped_shown mapped_after waiting_of pending_of
returns-clause-shown g c text =
    c.refill.ensures.shown text ∙ rw (c.from_slice-self.ensures.bytes, c.requires.none) refl
