use Rattle.std.proofs.Common.{ℕ, refl, arith}
use Rattle.base64ct.specs.Alphabets.{base64_crypt, base64_crypt_steps}
use Rattle.base64ct.specs.StepsAgree.{base64_crypt_agrees}
use Rattle.base64ct.proofs.StepLaws.{next_sum, last_sum}
use Rattle.base64ct.proofs.alphabet.crypt.encode_crypt.Goals as goal

pub returns : goal.returns
returns c =
    let v : ℕ = c.args.value in let next = next_sum base64_crypt_steps v in
    let first = next 0 c.first_sum-sum.result c.add_past_sum-sum.result c.first_sum-sum.ensures
    c.first_sum-sum.type_inv (c.add_past_sum-sum.ensures v) in
    let second = next 1 c.add_past_sum-sum.result c.add_past_sum-sum-2.result first
    c.add_past_sum-sum.type_inv (c.add_past_sum-sum-2.ensures v) in
    last_sum base64_crypt base64_crypt_steps v _ 2 c.add_past_sum-sum-2.result refl base64_crypt_agrees (omega arith)
    refl second c.add_past_sum-sum-2.type_inv c.low_byte.ensures
