use Rattle.std.proofs.Common.{◌≡◌, ℕ, ◌<◌}
use Rattle.scrypt_plain.specs.Bytes.{bytes}
use Rattle.scrypt_plain.specs.Layout.{block_bytes, row_block}
use Rattle.scrypt_plain.proofs.ro_mix.write_row.Given as goal

abbrev pub invariant-copies : goal.invariant-copies
invariant-copies l = (k : ℕ) → k < l.i → block_bytes (row_block l.to k) ≡ bytes (row_block l.from k)
