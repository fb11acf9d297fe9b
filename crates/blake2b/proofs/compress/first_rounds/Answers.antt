use Rattle.std.proofs.Common.{refl}
use Rattle.blake2b.proofs.Folding.{round_more, rounds_none}
use Rattle.blake2b.proofs.compress.first_rounds.Goals as goal

pub returns : goal.returns
returns c =
    let m = c.args.m.now in
    let v = c.args.v.now in
    let s0 = rounds_none m v in
    let s1 = round_more 0 m v _ _ _ s0 refl c.round.ensures in
    let s2 = round_more 1 m v _ _ _ s1 refl c.round-2.ensures in
    let s3 = round_more 2 m v _ _ _ s2 refl c.round-3.ensures in
    round_more 3 m v _ _ _ s3 refl c.round-4.ensures
