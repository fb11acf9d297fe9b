use Rattle.md5.specs.Md5.{md5}
use Rattle.sha_crypt.proofs.Rounds.{after_rounds_more}
use Rattle.md5_plain.proofs.turns.turn.Goals as goal

pub rounds-preserved : goal.rounds-preserved
rounds-preserved c = λ a before_is.
    after_rounds_more md5 a _ _ _ _ c.rounds.i (c.rounds.invariant a before_is) c.round-c.ensures
