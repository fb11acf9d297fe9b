use Rattle.std.proofs.Common.{refl, arith}
use Rattle.base64ct.specs.Alphabets.{base64, base64_steps}
use Rattle.base64ct.specs.StepsAgree.{base64_agrees}
use Rattle.base64ct.proofs.StepLaws.{decoded_value}
use Rattle.base64ct.proofs.alphabet.standard.decode_standard.Goals as goal

pub returns : goal.returns
returns c =
    decoded_value base64 base64_steps c.args.c _ refl base64_agrees (omega arith)
    (rw (
      c.range_step.ensures,
      c.range_step-2.ensures,
      c.range_step-3.ensures,
      c.one_step.ensures,
      c.one_step-2.ensures,
    ) refl)
