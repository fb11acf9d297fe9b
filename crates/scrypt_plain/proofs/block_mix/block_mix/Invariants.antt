use Rattle.std.proofs.Common.{◌*◌}
use Rattle.scrypt_plain.specs.Layout.{row_bytes}
use Rattle.scrypt_plain.proofs.Rows.{IsMixing}
use Rattle.scrypt_plain.proofs.block_mix.block_mix.Given as goal

abbrev pub invariant-pairs : goal.invariant-pairs
invariant-pairs l = IsMixing l.r (row_bytes (2 * l.r) l.row) l.x l.next l.i
