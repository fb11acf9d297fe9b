use Rattle.std.proofs.Common.{◌≡◌, rules}
use Rattle.line_log.proofs.memory.note_replace.Goals as goal

pub returns-clause-call : goal.returns-clause-call
returns-clause-call c =
    let same : c.in_ok-bytes.bytes.items ≡ c.args.bytes.now = search rules in
    (c.in_ok-bytes.bytes, same, c.in_ok-push.ensures.items)
