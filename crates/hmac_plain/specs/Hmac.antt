-- HMAC (RFC 2104, section 2) with any hash function H that works on blocks of b bytes, on lists of bytes; and those with
-- SHA-256, whose blocks have 64 bytes, and SHA-384 and SHA-512, whose blocks have 128 (FIPS 180-4, section 1).
use Rattle.std.specs.Prelude.{ℕ, ◌-◌, List, ◌++◌, cond, length, replicate, nat_lt}
use Rattle.sha2.specs.Sha256.{sha256}
use Rattle.sha2.specs.Sha512.{sha384, sha512}
use Rattle.word_lists.specs.Lists.{xor_bytes}

-- the key, or its digest where the key is longer than a block
abbrev pub short_key : (List ℕ → List ℕ) → ℕ → List ℕ → List ℕ
short_key H b key = cond (nat_lt b (length key)) (H key) key

-- the key as one block: filled with zeros at its end
abbrev pub block_key : (List ℕ → List ℕ) → ℕ → List ℕ → List ℕ
block_key H b key = short_key H b key ++ replicate (b - length (short_key H b key)) 0

-- the byte 36 (hex) repeated to a block
abbrev pub ipad : ℕ → List ℕ
ipad b = replicate b 0x36

-- the byte 5c (hex) repeated to a block
abbrev pub opad : ℕ → List ℕ
opad b = replicate b 0x5c

-- H(K xor opad, H(K xor ipad, text))
unfoldable pub hmac : (List ℕ → List ℕ) → ℕ → List ℕ → List ℕ → List ℕ
hmac H b key text = H (xor_bytes (block_key H b key) (opad b) ++ H (xor_bytes (block_key H b key) (ipad b) ++ text))

-- HMAC-SHA-256
abbrev pub hmac_sha256 : List ℕ → List ℕ → List ℕ
hmac_sha256 = hmac sha256 64

-- HMAC-SHA-384
abbrev pub hmac_sha384 : List ℕ → List ℕ → List ℕ
hmac_sha384 = hmac sha384 128

-- HMAC-SHA-512
abbrev pub hmac_sha512 : List ℕ → List ℕ → List ℕ
hmac_sha512 = hmac sha512 128
