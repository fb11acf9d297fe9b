-- A key is a list of 32 bytes.
use Rattle.std.proofs.Common.{◌≡◌, ℕ, List, length}
use Rattle.base64ct.specs.Encoding.{EachBelow}
use Rattle.sha2.specs.Sha256.{sha256}
use Rattle.sha2.proofs.Facts256.{length-sha256}
use Rattle.scrypt_plain.specs.Scrypt.{scrypt}
use Rattle.scrypt_plain.specs.Lengths.{length-pbkdf2_once}
use Rattle.scrypt_plain.proofs.KeyBytes.{digest_below}
use Rattle.yescrypt_plain.specs.Yescrypt.{yescrypt}

sha256_below : (m : List ℕ) → EachBelow 256 (sha256 m)
unfolding sha256
sha256_below m = digest_below _ 8

pub key_long : (password salt : List ℕ) (ln r t : ℕ) → length (yescrypt password salt ln r t) ≡ 32
unfolding yescrypt
key_long password salt ln r t = length-sha256 _

pub key_below : (password salt : List ℕ) (ln r t : ℕ) → EachBelow 256 (yescrypt password salt ln r t)
unfolding yescrypt
key_below password salt ln r t = sha256_below _

pub scrypt_key_long : (password salt : List ℕ) (n r p : ℕ) → length (scrypt password salt n r p 32) ≡ 32
scrypt_key_long password salt n r p = length-pbkdf2_once password _ 32
