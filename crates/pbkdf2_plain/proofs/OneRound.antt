-- One round of PBKDF2 is the derivation that scrypt makes.
use Rattle.std.proofs.Common.{◌≡◌, ℕ, zero, suc, ◌+◌, ◌/◌, List, ◌++◌, take, refl, ap, ap₂, ◌∙◌, arith}
use Rattle.std.specs.Int.{div_ceil}
use Rattle.hmac_plain.specs.Hmac.{hmac_sha256}
use Rattle.hmac_plain.specs.Lengths.{length-hmac_sha256}
use Rattle.pbkdf2_key.specs.Pbkdf2.{output_blocks, pbkdf2, pbkdf2_sha256}
use Rattle.pbkdf2_key.proofs.Blocks.{block_first}
use Rattle.scrypt_plain.specs.Pbkdf2.{pbkdf2_blocks, pbkdf2_once}

-- one round with SHA-256 is the derivation that scrypt makes
blocks_of_one_round : (p s : List ℕ) (n : ℕ) → output_blocks hmac_sha256 32 p s 1 n ≡ pbkdf2_blocks p s n
unfolding output_blocks pbkdf2_blocks
blocks_of_one_round p s zero = refl
blocks_of_one_round p s (suc n) = ap₂ ◌++◌ (blocks_of_one_round p s n) (block_first hmac_sha256 32 p s (n + 1) length-hmac_sha256)

pub one_round : (p s : List ℕ) (n : ℕ) → pbkdf2_sha256 p s 1 n ≡ pbkdf2_once p s n
unfolding pbkdf2
one_round p s n =
    let count : div_ceil n 32 ≡ (n + 31) / 32 = omega arith in
    ap (λ (k : ℕ). take n (output_blocks hmac_sha256 32 p s 1 k)) count ∙ ap (take n) (blocks_of_one_round p s ((n + 31) / 32))
