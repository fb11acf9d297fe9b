use Rattle.std.proofs.Common.{◌≡◌, ℕ, ◌*◌, ◌≤◌}
use Rattle.scrypt_plain.specs.Scrypt.{table_row}
use Rattle.scrypt_plain.specs.Layout.{row_bytes}
use Rattle.word_lists.specs.Lists.{piece}
use Rattle.scrypt_plain.proofs.ro_mix.fill_table.Given as goal

abbrev pub invariant-rows : goal.invariant-rows
invariant-rows l = (k : ℕ) → k ≤ l.i
    → row_bytes (2 * l.r) (piece (32 * l.r) l.table k)
    ≡ table_row l.r (row_bytes (2 * l.r) (piece (32 * l.r) l.fn.table 0)) k
