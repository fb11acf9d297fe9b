use Rattle.std.proofs.Common.{◌≡◌, ◌++◌, take, drop}
use Rattle.word_lists.specs.Lists.{xor_bytes}
use Rattle.word_lists.proofs.xor_bytes.Given as goal

abbrev pub invariant-bytes : goal.invariant-bytes
invariant-bytes l = l.to ≡ xor_bytes (take l.i l.fn.to) (take l.i l.with) ++ drop l.i l.fn.to
