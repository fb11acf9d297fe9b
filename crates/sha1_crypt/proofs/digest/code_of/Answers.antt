use Rattle.std.proofs.Common.{[]}
use Rattle.sha1_crypt.proofs.digest.code_of.Goals as goal

pub returns : goal.returns
returns c = λ password h.
    c.finalize.ensures password c.args.message.now (c.update.ensures password [] (c.copy-state.ensures password [] h))
