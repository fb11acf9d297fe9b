use Rattle.std.proofs.Common.{◌≡◌, ℕ, List, Some, sym, ap, ◌∙◌}
use Rattle.sha_crypt.specs.Digest.{sha_crypt_digest}
use Rattle.sha_crypt.specs.HashField.{field_bytes}
use Rattle.sha_crypt.specs.Views.{fields_of}
use Rattle.sha_crypt.proofs.HashFields.{answer_same}
use Rattle.sha_crypt.proofs.check.check_parts.Goals as goal

pub returns-clause-answer : goal.returns-clause-answer
returns-clause-answer g c =
    let found : field_bytes g.row.N c.args.parts.hash.now ≡ Some c.in-Some.bytes =
    sym (c.counted_bytes.ensures.bytes ∙ ap (field_bytes g.row.N) c.as_bytes.ensures.value) ∙ c.in-Some.is in
    let digest_is : c.sha_crypt_digest-digest.result
    ≡ sha_crypt_digest g.H.Hasher.hash c.args.password.now c.args.parts.salt.now c.args.parts.rounds =
    c.sha_crypt_digest-digest.ensures
    ∙ ap (λ (s : List ℕ). sha_crypt_digest g.H.Hasher.hash c.args.password.now s c.args.parts.rounds)
    c.as_bytes-2.ensures.value in
    c.answer_of.ensures.answer
    ∙ answer_same g.H.Hasher.hash c.args.places.now c.args.password.now g.row.N (fields_of c.args.parts)
    c.in-Some.bytes c.sha_crypt_digest-digest.result c.in_order-wanted.result _ found digest_is
    c.in_order-wanted.ensures.value c.in_order-wanted.ensures.small (c.from.ensures ∙ c.same_bytes.ensures.answer)
