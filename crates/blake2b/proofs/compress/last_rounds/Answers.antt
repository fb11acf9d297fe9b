use Rattle.std.proofs.Common.{refl}
use Rattle.blake2b.proofs.Folding.{round_more}
use Rattle.blake2b.proofs.compress.last_rounds.Goals as goal

pub returns : goal.returns
returns c = λ before e.
    let m = c.args.m.now in
    let s8 = e in
    let s9 = round_more 8 m before _ _ _ s8 refl c.round.ensures in
    let s10 = round_more 9 m before _ _ _ s9 refl c.round-2.ensures in
    let s11 = round_more 10 m before _ _ _ s10 refl c.round-3.ensures in
    round_more 11 m before _ _ _ s11 refl c.round-4.ensures
