use Rattle.std.proofs.Common.{bit_xor, arith}
use Rattle.word_lists.proofs.Zips.{zip2_over_more}
use Rattle.word_lists.proofs.xor_bytes.Goals as goal

pub bytes-preserved : goal.bytes-preserved
bytes-preserved c =
    zip2_over_more bit_xor c.args.to.now c.args.with.now c.bytes.to c.bytes.i c.requires.same_length (omega arith)
    c.bytes.invariant
