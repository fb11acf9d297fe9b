use Rattle.phpass_plain.proofs.Turns.{first_digest, one_turn}
use Rattle.phpass_plain.proofs.digest.phpass.Goals as goal

pub turns-init : goal.turns-init
turns-init c = first_digest c.args.password.now c.args.salt.now _ c.digest_of_both-digest.ensures

pub turns-preserved : goal.turns-preserved
turns-preserved c =
    one_turn c.args.password.now c.args.salt.now _ _ c.turns.turn c.turns.invariant c.digest_of_both-digest-in-turns.ensures
