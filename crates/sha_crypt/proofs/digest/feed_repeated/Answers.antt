use Rattle.sha_crypt.proofs.Repeats.{holds_repeated}
use Rattle.sha_crypt.proofs.digest.feed_repeated.Goals as goal

pub returns : goal.returns
returns g c = λ m h.
    holds_repeated (λ x. g.H.Hasher.holds c.feed.new.self x) m c.args.len g.row.N c.args.digest.now
    c.told-digest c.requires (c.feed.ensures _ (c.feed_copies.ensures m h))
