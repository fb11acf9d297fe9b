use Rattle.std.proofs.Common.{refl, arith}
use Rattle.base64ct.specs.Alphabets.{base64_crypt, base64_crypt_steps}
use Rattle.base64ct.specs.StepsAgree.{base64_crypt_agrees}
use Rattle.base64ct.proofs.StepLaws.{decoded_value}
use Rattle.base64ct.proofs.alphabet.crypt.decode_crypt.Goals as goal

pub returns : goal.returns
returns c =
    decoded_value base64_crypt base64_crypt_steps c.args.c _ refl base64_crypt_agrees (omega arith)
    (rw (c.range_step.ensures, c.range_step-2.ensures, c.range_step-3.ensures) refl)
