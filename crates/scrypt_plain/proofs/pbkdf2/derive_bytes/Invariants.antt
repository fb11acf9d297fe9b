use Rattle.std.proofs.Common.{◌≡◌, ◌*◌, take}
use Rattle.scrypt_plain.specs.Bytes.{bytes}
use Rattle.scrypt_plain.specs.Pbkdf2.{pbkdf2_blocks}
use Rattle.scrypt_plain.proofs.pbkdf2.derive_bytes.Given as goal

abbrev pub invariant-outputs : goal.invariant-outputs
invariant-outputs l = take (32 * l.i) l.out ≡ pbkdf2_blocks l.password (bytes l.words) l.i
