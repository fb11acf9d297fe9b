use Rattle.std.proofs.Common.{rules}
use Rattle.argon2_plain.proofs.Keys.{accepted_bounds, accepted_least, accepted_most, no_params}
use Rattle.argon2_plain.proofs.profile.taken_params.Goals as goal

pub unreachable-requires : goal.unreachable-requires
unreachable-requires c = no_params c.args.parsed.now c.args.length c.requires.taken (search rules)

pub returns-clause-bounds : goal.returns-clause-bounds
returns-clause-bounds c =
    accepted_bounds c.args.parsed.now c.args.length c.requires.taken c.in-Some.params (search rules)

pub returns-clause-least : goal.returns-clause-least
returns-clause-least c = accepted_least c.args.parsed.now c.args.length c.requires.taken

pub returns-clause-most : goal.returns-clause-most
returns-clause-most c = accepted_most c.args.parsed.now c.args.length c.requires.taken
