-- How long codes are: proofs, which are here since implementations of traits name some of them. No public clause names
-- these words.
use Rattle.std.proofs.Common.{◌≡◌, ℕ, List, ◌++◌, length}
use Rattle.sha2.specs.Sha256.{sha256}
use Rattle.sha2.specs.Sha512.{sha384, sha512}
use Rattle.sha2.proofs.Facts256.{length-sha256}
use Rattle.sha2.proofs.Facts512.{length-sha384, length-sha512}
use Rattle.word_lists.specs.Lists.{xor_bytes}
use Rattle.hmac_plain.specs.Hmac.{block_key, hmac, hmac_sha256, hmac_sha384, hmac_sha512, ipad, opad}

-- a code is as long as a digest
pub length-hmac : (H : List ℕ → List ℕ) (b n : ℕ) → ((m : List ℕ) → length (H m) ≡ n) → (key text : List ℕ)
    → length (hmac H b key text) ≡ n
unfolding hmac
length-hmac H b n long key text =
    long (xor_bytes (block_key H b key) (opad b) ++ H (xor_bytes (block_key H b key) (ipad b) ++ text))

pub length-hmac_sha256 : (key text : List ℕ) → length (hmac_sha256 key text) ≡ 32
length-hmac_sha256 = length-hmac sha256 64 32 length-sha256

pub length-hmac_sha384 : (key text : List ℕ) → length (hmac_sha384 key text) ≡ 48
length-hmac_sha384 = length-hmac sha384 128 48 length-sha384

pub length-hmac_sha512 : (key text : List ℕ) → length (hmac_sha512 key text) ≡ 64
length-hmac_sha512 = length-hmac sha512 128 64 length-sha512
