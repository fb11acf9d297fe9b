use Rattle.std.proofs.Common.{ℕ, refl, arith}
use Rattle.base64ct.specs.Alphabets.{base64, base64_steps}
use Rattle.base64ct.specs.StepsAgree.{base64_agrees}
use Rattle.base64ct.proofs.StepLaws.{next_sum, last_sum}
use Rattle.base64ct.proofs.alphabet.standard.encode_standard.Goals as goal

pub returns : goal.returns
returns c =
    let v : ℕ = c.args.value in let next = next_sum base64_steps v in
    let first = next 0 c.first_sum-sum.result c.add_past_value-sum.result c.first_sum-sum.ensures
    c.first_sum-sum.type_inv c.add_past_value-sum.ensures in
    let second = next 1 c.add_past_value-sum.result c.add_past_value-sum-2.result first
    c.add_past_value-sum.type_inv c.add_past_value-sum-2.ensures in
    let third = next 2 c.add_past_value-sum-2.result c.add_past_value-sum-3.result second
    c.add_past_value-sum-2.type_inv c.add_past_value-sum-3.ensures in
    let fourth = next 3 c.add_past_value-sum-3.result c.add_past_value-sum-4.result third
    c.add_past_value-sum-3.type_inv c.add_past_value-sum-4.ensures in
    last_sum base64 base64_steps v _ 4 c.add_past_value-sum-4.result refl base64_agrees (omega arith)
    refl fourth c.add_past_value-sum-4.type_inv c.low_byte.ensures
