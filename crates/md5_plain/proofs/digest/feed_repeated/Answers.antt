use Rattle.std.proofs.Common.{arith}
use Rattle.md5.specs.Md5.{Holds}
use Rattle.sha_crypt.proofs.Repeats.{holds_repeated}
use Rattle.md5_plain.proofs.digest.feed_repeated.Goals as goal

pub returns : goal.returns
returns c = λ m h.
    holds_repeated (λ x. Holds c.update.new.self x) m c.args.len 16 c.args.digest.now
    c.told-digest (omega arith) (c.update.ensures _ (c.feed_copies.ensures m h))
