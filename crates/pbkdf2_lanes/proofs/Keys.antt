-- Keys of at most 32 bytes, which are one block or its beginning.
use Rattle.std.proofs.Common.{◌≡◌, ℕ, ◌≤◌, List, take, arith, sym}
use Rattle.std.proofs.lemmas.List.{take_all}
use Rattle.hmac_plain.specs.Hmac.{hmac_sha256}
use Rattle.hmac_plain.specs.Lengths.{length-hmac_sha256}
use Rattle.pbkdf2_key.specs.Pbkdf2.{output_block, output_blocks, pbkdf2, pbkdf2_sha256}
use Rattle.pbkdf2_key.specs.Lengths.{length-output_block}
use Rattle.pbkdf2_key.proofs.Blocks.{shorter}

-- the key of 32 bytes is the first block
pub key_is_block : (password salt : List ℕ) (rounds : ℕ)
    → output_block hmac_sha256 32 password salt 1 rounds ≡ pbkdf2_sha256 password salt rounds 32
unfolding pbkdf2 output_blocks
key_is_block password salt rounds =
    let block = output_block hmac_sha256 32 password salt 1 rounds in
    let size = length-output_block hmac_sha256 32 length-hmac_sha256 password salt 1 rounds in
    sym (take_all 32 block (omega (arith, size)))

-- a shorter key is the beginning
pub first_bytes : (password salt : List ℕ) (rounds n : ℕ) → n ≤ 32
    → pbkdf2_sha256 password salt rounds n ≡ take n (pbkdf2_sha256 password salt rounds 32)
first_bytes password salt rounds n le = shorter hmac_sha256 32 (omega arith) length-hmac_sha256 password salt rounds n 32 le
