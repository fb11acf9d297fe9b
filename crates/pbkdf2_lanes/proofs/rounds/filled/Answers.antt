use Rattle.pbkdf2_lanes.proofs.Digests.{words_of_digest}
use Rattle.pbkdf2_lanes.proofs.rounds.filled.Goals as goal

pub returns : goal.returns
returns c j lt =
    rw (
      c.known-a.ensures.same,
      c.known-b.ensures.same,
      c.known-c.ensures.same,
      c.known-d.ensures.same,
      c.known-e.ensures.same,
      c.known-f.ensures.same,
      c.known-g.ensures.same,
      c.known-h.ensures.same,
      c.splat-one.ensures j lt,
      c.splat-zero.ensures j lt,
      c.splat-size.ensures j lt,
    )
    (words_of_digest _ _ _ _ _ _ _ _ (c.known-a.ensures.fit j lt) (c.known-b.ensures.fit j lt)
    (c.known-c.ensures.fit j lt) (c.known-d.ensures.fit j lt) (c.known-e.ensures.fit j lt)
    (c.known-f.ensures.fit j lt) (c.known-g.ensures.fit j lt) (c.known-h.ensures.fit j lt))
