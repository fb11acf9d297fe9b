use Rattle.std.proofs.Common.{length, arith, refl, ◌∙◌}
use Rattle.std.proofs.lemmas.List.{append-nil}
use Rattle.base64ct.specs.LineEndings.{ending_bytes}
use Rattle.base64ct.proofs.Encoders.{none_read, none_stand}
use Rattle.base64ct.proofs.encoder.Encoder.new_wrapped.Goals as goal

pub invariant_of-result : goal.invariant_of-result
invariant_of-result g c = (
  none_stand g.E.Alphabet.alphabet c.args.width (ending_bytes c.args.ending) c.args.output.now _
      (none_read g.E.Alphabet.alphabet c.args.width (length (ending_bytes c.args.ending))),
  λ i. omega arith,
  omega arith,
  omega arith,
)

pub returns-clause-new : goal.returns-clause-new
returns-clause-new g c =
    (append-nil _ ∙ none_read g.E.Alphabet.alphabet c.args.width (length (ending_bytes c.args.ending)), refl, refl)
