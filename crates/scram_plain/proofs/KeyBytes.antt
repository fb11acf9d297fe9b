-- Each of the two keys is a list of 32 bytes.
use Rattle.std.proofs.Common.{◌≡◌, ℕ, zero, suc, List, length, arith}
use Rattle.std.specs.Prelude.{slice_index}
use Rattle.std.specs.Int.{w32, to_be_bytes}
use Rattle.base64ct.specs.Encoding.{EachBelow}
use Rattle.base64ct.proofs.GoodBlocks.{below-append}
use Rattle.hmac_plain.specs.Hmac.{hmac, hmac_sha256}
use Rattle.hmac_plain.specs.Lengths.{length-hmac_sha256}
use Rattle.pieces.proofs.NumberBytes.{high_first}
use Rattle.sha2.specs.Sha256.{digest_bytes, sha256}
use Rattle.sha2.proofs.Facts256.{length-sha256}
use Rattle.scram_plain.specs.Keys.{server_key, stored_key}

digest_bytes_below : (h : List ℕ) (n : ℕ) → EachBelow 256 (digest_bytes h n)
unfolding digest_bytes
digest_bytes_below h zero = λ i. omega arith
digest_bytes_below h (suc n) =
    below-append (digest_bytes h n) (to_be_bytes w32 (slice_index h n)) (digest_bytes_below h n) (high_first 4 (slice_index h n))

sha256_below : (m : List ℕ) → EachBelow 256 (sha256 m)
unfolding sha256
sha256_below m = digest_bytes_below _ 8

hmac_below : (key text : List ℕ) → EachBelow 256 (hmac_sha256 key text)
unfolding hmac
hmac_below key text = sha256_below _

-- a list is a key
pub record IsKey (key : List ℕ) : Type 0 where
  pub long : length key ≡ 32
  pub below : EachBelow 256 key

pub stored_is_key : (salted : List ℕ) → IsKey (stored_key salted)
unfolding stored_key
stored_is_key salted = record { long = length-sha256 _; below = sha256_below _ }

pub server_is_key : (salted : List ℕ) → IsKey (server_key salted)
unfolding server_key
server_is_key salted = record { long = length-hmac_sha256 salted _; below = hmac_below salted _ }
