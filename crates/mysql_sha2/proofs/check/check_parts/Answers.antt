use Rattle.std.proofs.Common.{List, ℕ, ap, ◌∙◌, Ok}
use Rattle.sha_crypt.specs.HashField.{in_order, map_sha256}
use Rattle.mysql_sha2.proofs.check.check_parts.Goals as goal

pub returns-clause-answer : goal.returns-clause-answer
returns-clause-answer g c =
    ap Ok
    (c.same_digests.ensures.answer
    ∙ ap (λ (x : List ℕ). g.C.Compare.same x c.args.parts.now.placed)
    (c.in_order.ensures.value ∙ ap (λ (d : List ℕ). in_order map_sha256 d) c.sha256_whole_salt-digest.ensures.digest))
