use Rattle.std.proofs.Common.{◌≡◌, ℕ, List, ◌++◌, length, take, drop, ap, ◌∙◌, rules}
use Rattle.std.proofs.Math.Seq.{take-append_seam}
use Rattle.base64ct.specs.Encoding.{EachBelow}
use Rattle.any_check.specs.Records.{accepted, tag}
use Rattle.any_check.specs.Table.{any_verdict}
use Rattle.any_make.proofs.Matches.{made_matches}
use Rattle.any_make.proofs.make.make_text.Goals as goal

pub returns-else-out-bytes-clause-matches : goal.returns-else-out-bytes-clause-matches
returns-else-out-bytes-clause-matches c =
    let small : EachBelow 256 c.args.salt.now = search rules in
    let bytes : List ℕ = c.as_slice-bytes.result.now in
    let rest : List ℕ = drop (length bytes) c.args.out.now in
    let written : take (length bytes) (c.copy_from_slice.new.self ++ rest) ≡ c.in-Ok.text =
    ap (λ (t : List ℕ). take (length bytes) (t ++ rest)) c.copy_from_slice.ensures.after
    ∙ take-append_seam bytes rest ∙ c.as_slice-bytes.ensures.value in
    ap (any_verdict accepted tag c.args.password.now) written
    ∙ made_matches c.args.cost c.args.password.now c.args.salt.now c.in-Ok.text small c.in-Ok.ensures.text
