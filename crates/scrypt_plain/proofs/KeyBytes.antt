-- A key is a list of bytes.
use Rattle.std.proofs.Common.{ℕ, zero, suc, ◌+◌, ◌/◌, ◌<◌, List, [], ◌∷◌, ◌++◌, take, slice_index}
use Rattle.std.proofs.Common.{arith}
use Rattle.std.specs.Int.{w32, to_be_bytes}
use Rattle.sha2.specs.Sha256.{sha256, digest_bytes}
use Rattle.base64ct.proofs.GoodBlocks.{below-append}
use Rattle.pieces.proofs.NumberBytes.{high_first}
use Rattle.hmac_plain.specs.Hmac as of_any
use Rattle.scrypt_plain.specs.Hmac.{hmac}
use Rattle.scrypt_plain.specs.Laws.{AreBytes}
use Rattle.scrypt_plain.specs.Pbkdf2.{pbkdf2_blocks}
use Rattle.scrypt_plain.specs.Scrypt.{scrypt}

bytes_take : (k : ℕ) (xs : List ℕ) → AreBytes xs → AreBytes (take k xs)
bytes_take zero xs b i = omega arith
bytes_take (suc k) [] b i = omega arith
bytes_take (suc k) (x ∷ xs) b zero = b zero
bytes_take (suc k) (x ∷ xs) b (suc i) = bytes_take k xs (λ j. b (suc j)) i

pub digest_below : (h : List ℕ) (n : ℕ) → AreBytes (digest_bytes h n)
unfolding digest_bytes
digest_below h zero i = omega arith
digest_below h (suc n) i =
    below-append (digest_bytes h n) (to_be_bytes w32 (slice_index h n)) (digest_below h n)
    (high_first 4 (slice_index h n)) i

pub hmac_bytes : (key text : List ℕ) → AreBytes (hmac key text)
unfolding of_any.hmac sha256
hmac_bytes key text = digest_below _ 8

blocks_bytes : (p s : List ℕ) (i : ℕ) → AreBytes (pbkdf2_blocks p s i)
unfolding pbkdf2_blocks
blocks_bytes p s zero i = omega arith
blocks_bytes p s (suc k) i =
    below-append (pbkdf2_blocks p s k) (hmac p (s ++ to_be_bytes w32 (k + 1))) (blocks_bytes p s k)
    (hmac_bytes p (s ++ to_be_bytes w32 (k + 1))) i

-- each number of a key is below 256
pub scrypt_bytes : (password salt : List ℕ) (n r p len : ℕ) → AreBytes (scrypt password salt n r p len)
scrypt_bytes password salt n r p len =
    bytes_take len (pbkdf2_blocks password _ ((len + 31) / 32)) (blocks_bytes password _ ((len + 31) / 32))
