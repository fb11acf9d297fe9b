use Rattle.std.proofs.Common.{◌∙◌}
use Rattle.sha1_crypt.specs.Digest.{first_message}
use Rattle.sha1_crypt.proofs.Rounds.{one_more, one_round}
use Rattle.sha1_crypt.proofs.digest.sha1_crypt.Goals as goal

pub turns-init : goal.turns-init
turns-init c =
    c.first_code-code.ensures c.args.password.now c.new-keyed.ensures
    ∙ one_round c.args.password.now (first_message c.args.salt.now c.args.rounds)

pub turns-preserved : goal.turns-preserved
turns-preserved c =
    one_more c.args.password.now (first_message c.args.salt.now c.args.rounds) _ _ c.turns.turn c.turns.invariant
    (c.code_of-code.ensures c.args.password.now c.new-keyed.ensures)
