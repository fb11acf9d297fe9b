use Rattle.blake2b.proofs.compress.rounds.Goals as goal

pub returns : goal.returns
returns c = c.last_rounds.ensures c.args.v.now (c.middle_rounds.ensures c.args.v.now c.first_rounds.ensures)
