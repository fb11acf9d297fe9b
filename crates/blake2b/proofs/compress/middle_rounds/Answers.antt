use Rattle.std.proofs.Common.{refl}
use Rattle.blake2b.proofs.Folding.{round_more}
use Rattle.blake2b.proofs.compress.middle_rounds.Goals as goal

pub returns : goal.returns
returns c = λ before e.
    let m = c.args.m.now in
    let s4 = e in
    let s5 = round_more 4 m before _ _ _ s4 refl c.round.ensures in
    let s6 = round_more 5 m before _ _ _ s5 refl c.round-2.ensures in
    let s7 = round_more 6 m before _ _ _ s6 refl c.round-3.ensures in
    round_more 7 m before _ _ _ s7 refl c.round-4.ensures
