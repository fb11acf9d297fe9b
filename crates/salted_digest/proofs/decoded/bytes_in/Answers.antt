use Rattle.std.proofs.Common.{sym, arith}
use Rattle.salted_digest.proofs.Encoded.{no_sized_bytes}
use Rattle.salted_digest.proofs.decoded.bytes_in.Goals as goal

pub returns-in-Err-clause-bytes : goal.returns-in-Err-clause-bytes
returns-in-Err-clause-bytes c =
    sym (no_sized_bytes c.args.size c.args.text.now (λ fits. (c.in-Err.ensures.decoded (omega (arith, fits, c.requires.room))).1))
