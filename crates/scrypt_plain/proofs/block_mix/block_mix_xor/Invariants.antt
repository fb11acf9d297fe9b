use Rattle.std.proofs.Common.{◌*◌}
use Rattle.word_lists.specs.Lists.{xor_bytes}
use Rattle.scrypt_plain.specs.Layout.{row_bytes}
use Rattle.scrypt_plain.proofs.Rows.{IsMixing}
use Rattle.scrypt_plain.proofs.block_mix.block_mix_xor.Given as goal

abbrev pub invariant-pairs : goal.invariant-pairs
invariant-pairs l =
    IsMixing l.r (xor_bytes (row_bytes (2 * l.r) l.from) (row_bytes (2 * l.r) l.with)) l.x l.to l.i
