use Rattle.std.proofs.Common.{◌≡◌, ◌*◌, take}
use Rattle.scrypt_plain.specs.Bytes.{bytes}
use Rattle.scrypt_plain.proofs.pbkdf2.put_words.Given as goal

abbrev pub invariant-words : goal.invariant-words
invariant-words l = bytes (take l.i l.out) ≡ take (4 * l.i) l.digest
