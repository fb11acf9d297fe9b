use Rattle.sha2_lanes.specs.Lanes.{state}
use Rattle.pbkdf2_lanes.proofs.Digests.{below_eight, digest_xor}
use Rattle.pbkdf2_lanes.proofs.rounds.sums.Goals as goal

pub returns : goal.returns
returns c j lt =
    digest_xor _ (state j c.args.s) (state j c.args.v) 8
    (below_eight _ (c.exclusive-a.ensures j lt) (c.exclusive-b.ensures j lt) (c.exclusive-c.ensures j lt)
    (c.exclusive-d.ensures j lt) (c.exclusive-e.ensures j lt) (c.exclusive-f.ensures j lt) (c.exclusive-g.ensures j lt)
    (c.exclusive-h.ensures j lt))
