use Rattle.std.proofs.Common.{refl}
use Rattle.sha2.specs.Sha256.{first_words}
use Rattle.pbkdf2_lanes.proofs.states.block_words.Goals as goal

pub returns : goal.returns
unfolding first_words
returns c lane lt =
    rw (
      c.word-a.ensures lane lt,
      c.word-b.ensures lane lt,
      c.word-c.ensures lane lt,
      c.word-d.ensures lane lt,
      c.word-e.ensures lane lt,
      c.word-f.ensures lane lt,
      c.word-g.ensures lane lt,
      c.word-h.ensures lane lt,
      c.word-i.ensures lane lt,
      c.word-j.ensures lane lt,
      c.word-k.ensures lane lt,
      c.word-l.ensures lane lt,
      c.word-m.ensures lane lt,
      c.word-n.ensures lane lt,
      c.word-o.ensures lane lt,
      c.word-p.ensures lane lt,
    )
    refl
