use Rattle.std.proofs.Common.{ℕ, List, ◌++◌, ap, ◌∙◌}
use Rattle.sha2.specs.Sha256.{sha256}
use Rattle.pbkdf2_lanes.proofs.rounds.code_of.Goals as goal

pub returns : goal.returns
returns c j p q lt lp lq inner outer =
    c.digest_after.ensures j q lt lq outer
    ∙ ap (λ (x : List ℕ). sha256 (q ++ x)) (c.digest_after-middle.ensures j p lt lp inner)
