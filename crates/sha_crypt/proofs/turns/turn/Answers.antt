use Rattle.sha_crypt.proofs.Rounds.{after_rounds_more}
use Rattle.sha_crypt.proofs.turns.turn.Goals as goal

pub rounds-preserved : goal.rounds-preserved
rounds-preserved g c = λ a before_is.
    after_rounds_more g.H.Hasher.hash a _ _ _ _ c.rounds.i (c.rounds.invariant a before_is) c.round-c.ensures
