use Rattle.std.proofs.Common.{ℕ, List, ◌++◌, sym, ap, ◌∙◌}
use Rattle.sha2.specs.Sha256.{compress, digest_bytes, padding}
use Rattle.sha2_lanes.specs.Lanes.{state}
use Rattle.pbkdf2_lanes.proofs.Digests.{length-digest, sha256_after}
use Rattle.pbkdf2_lanes.proofs.rounds.digest_after.Goals as goal

pub returns : goal.returns
returns c j p lt len held =
    let m = digest_bytes (state j c.args.s) 8 in
    let b = m ++ padding 96 in
    ap (λ (x : List ℕ). digest_bytes x 8) (c.compress_lanes.ensures.states j b lt (c.filled.ensures j lt)
    ∙ ap (λ (x : List ℕ). compress x b) held)
    ∙ sym (sha256_after p m len (length-digest (state j c.args.s)))
