use Rattle.std.proofs.Common.{◌∙◌}
use Rattle.stored_check.proofs.Walk.{same_encoding}
use Rattle.stored_check.proofs.check.same_encoding.Goals as goal

pub returns-clause-same : goal.returns-clause-same
returns-clause-same c = c.from.ensures ∙ c.same_bytes.ensures.answer
    ∙ same_encoding c.args.hash.now c.args.key.now c.requires.hash c.requires.key
