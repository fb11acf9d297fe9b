use Rattle.std.proofs.Common.{rules, arith, ◌≡◌, Some}
use Rattle.pbkdf2_key.specs.Profile.{pbkdf2_key, rounds_of}
use Rattle.pbkdf2_key.proofs.Keys.{accepted_least, accepted_most, no_rounds, rounds_least}
use Rattle.pbkdf2_key.proofs.profile.Pbkdf2PlainPhcKdf.derive.Goals as goal

pub derive_with-requires-clause-rounds_least : goal.derive_with-requires-clause-rounds_least
derive_with-requires-clause-rounds_least c =
    rounds_least c.args.self.now.hash c.args.parsed.now _ c.requires.taken c.in-Some.rounds (search rules)

pub derive_with-requires-clause-key_length_least : goal.derive_with-requires-clause-key_length_least
derive_with-requires-clause-key_length_least c = let least =
    accepted_least c.args.self.now.hash c.args.parsed.now _ c.requires.taken in omega (arith, least)

pub derive_with-requires-clause-key_length_most : goal.derive_with-requires-clause-key_length_most
derive_with-requires-clause-key_length_most c =
    accepted_most c.args.self.now.hash c.args.parsed.now _ c.requires.taken

pub unreachable-requires : goal.unreachable-requires
unreachable-requires c = no_rounds c.args.self.now.hash c.args.parsed.now _ c.requires.taken (search rules)

pub returns-clause-key : goal.returns-clause-key
unfolding pbkdf2_key
returns-clause-key c =
    let is : rounds_of c.args.parsed.now ≡ Some c.in-Some.rounds = search rules in
    rw is c.derive_with.ensures.key
