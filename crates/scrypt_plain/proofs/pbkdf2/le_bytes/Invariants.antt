use Rattle.std.proofs.Common.{◌≡◌, ◌*◌, length, take}
use Rattle.scrypt_plain.specs.Bytes.{bytes}
use Rattle.scrypt_plain.proofs.pbkdf2.le_bytes.Given as goal

abbrev pub invariant-words : goal.invariant-words
invariant-words l = (length l.out ≡ 64) × (take (4 * l.i) l.out ≡ bytes (take l.i l.words))
