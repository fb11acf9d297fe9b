use Rattle.std.proofs.Common.{rules}
use Rattle.scrypt_plain.proofs.Keys.{accepted_bounds, accepted_least, accepted_most, no_cost}
use Rattle.scrypt_plain.proofs.profile.taken_cost.Goals as goal

pub unreachable-requires : goal.unreachable-requires
unreachable-requires c = no_cost c.args.parsed.now c.args.length c.requires.taken (search rules)

pub returns-clause-bounds : goal.returns-clause-bounds
returns-clause-bounds c =
    accepted_bounds c.args.parsed.now c.args.length c.requires.taken c.in-Some.cost (search rules)

pub returns-clause-least : goal.returns-clause-least
returns-clause-least c = accepted_least c.args.parsed.now c.args.length c.requires.taken

pub returns-clause-most : goal.returns-clause-most
returns-clause-most c = accepted_most c.args.parsed.now c.args.length c.requires.taken
