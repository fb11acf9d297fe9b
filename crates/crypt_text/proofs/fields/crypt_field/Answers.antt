use Rattle.std.proofs.Common.{◌∙◌, ap, arith, length, rules, inl, inr}
use Rattle.base64ct.specs.Encoding.{EachBelow}
use Rattle.yescrypt_plain.proofs.Fields.{field_len}
use Rattle.crypt_text.proofs.fields.crypt_field.Goals as goal

pub returns-in-Err : goal.returns-in-Err
returns-in-Err c =
    let below : EachBelow 256 c.args.bytes.now = λ i. omega (arith, c.type_inv.bytes i) in
    let len = field_len c.args.bytes.now below in
    let most = c.requires in
    elim (c.in-Err.ensures.refused.0 (search rules)) [
      | inl long ↦ absurd (omega (arith, long, most))
      | inr full ↦ absurd (omega (arith, full, len, most))
    ]

pub returns-in-Ok-clause-len : goal.returns-in-Ok-clause-len
returns-in-Ok-clause-len c =
    let below : EachBelow 256 c.args.bytes.now = λ i. omega (arith, c.type_inv.bytes i) in
    let len = field_len c.args.bytes.now below in
    ap length (c.from_slice.ensures.bytes ∙ c.as_bytes.ensures.value ∙ c.in-Ok.ensures.written) ∙ len
