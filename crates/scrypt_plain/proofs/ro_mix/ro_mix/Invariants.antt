use Rattle.std.proofs.Common.{◌≡◌, ◌*◌, ◌^◌}
use Rattle.scrypt_plain.specs.Bytes.{bytes}
use Rattle.scrypt_plain.specs.Scrypt.{ro_mix_state}
use Rattle.scrypt_plain.specs.Layout.{row_bytes}
use Rattle.scrypt_plain.proofs.ro_mix.ro_mix.Given as goal

abbrev pub invariant-turns : goal.invariant-turns
invariant-turns l = row_bytes (2 * l.r) l.x ≡ ro_mix_state l.r (2 ^ l.ln) (bytes l.fn.part) (2 * l._turn)
