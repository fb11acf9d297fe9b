use Rattle.std.proofs.Common.{[]}
use Rattle.hmac_sha1.proofs.code.hmac_sha1.Goals as goal

pub returns : goal.returns
returns c =
    c.finalize.ensures c.args.key.now c.args.message.now (c.update.ensures c.args.key.now [] c.new-state.ensures)
