use Rattle.std.proofs.Common.{arith, rules, inl, inr}
use Rattle.base64ct.specs.Encoding.{EachBelow}
use Rattle.yescrypt_plain.proofs.Fields.{field_len}
use Rattle.yescrypt_plain.proofs.field.push_salt.Goals as goal

pub returns-in-Err-clause-appended : goal.returns-in-Err-clause-appended
returns-in-Err-clause-appended g c =
    let below : EachBelow 256 c.args.salt.now = λ i. omega (arith, c.type_inv.salt i) in
    let len = field_len c.args.salt.now below in
    let most = c.requires.most in
    elim (c.in-Err.ensures.refused.0 (search rules)) [
      | inl long ↦ absurd (omega (arith, long, most))
      | inr full ↦ absurd (omega (arith, full, len, most))
    ]
