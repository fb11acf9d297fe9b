use Rattle.std.proofs.Common.{[], arith, refl, ◌∙◌}
use Rattle.std.proofs.lemmas.List.{append-nil}
use Rattle.base64ct.proofs.Encoders.{none_read, none_stand}
use Rattle.base64ct.proofs.encoder.Encoder.new.Goals as goal

pub invariant_of-result : goal.invariant_of-result
invariant_of-result g c = (
  none_stand g.E.Alphabet.alphabet 18446744073709551615 [] c.args.output.now _
      (none_read g.E.Alphabet.alphabet 18446744073709551615 0),
  λ i. omega arith,
  omega arith,
  omega arith,
)

pub returns-clause-new : goal.returns-clause-new
returns-clause-new g c = (append-nil _ ∙ none_read g.E.Alphabet.alphabet 18446744073709551615 0, refl, refl)
