-- The keys of Argon2 and PBKDF2 are bytes, 32 of them; scrypt's crate says it of its own.
use Rattle.std.proofs.Common.{◌≡◌, ℕ, zero, suc, ◌+◌, ◌^◌, List, [], ◌∷◌, length, slice_index, arith}
use Rattle.std.specs.Prelude.{replicate}
use Rattle.std.specs.Int.{w64, div_ceil, to_be_bytes, to_le_bytes}
use Rattle.std.proofs.lemmas.Nat.{xor_of_8}
use Rattle.sha2.specs.Sha256.{sha256}
use Rattle.sha2.specs.Sha512 as of_512
use Rattle.base64ct.specs.Encoding.{EachBelow}
use Rattle.base64ct.proofs.Encodings.{below-take}
use Rattle.base64ct.proofs.GoodBlocks.{below-append}
use Rattle.pieces.proofs.NumberBytes.{high_first, low_first}
use Rattle.blake2b.specs.Blake2b.{blake2b}
use Rattle.blake2b.specs.Words.{bytes}
use Rattle.argon2_plain.specs.Argon2.{tag_from, variable_hash}
use Rattle.argon2_plain.specs.Lengths.{length-tag_from}
use Rattle.pbkdf2_key.specs.Lengths.{length-pbkdf2_sha256, length-pbkdf2_sha512}
use Rattle.pbkdf2_key.specs.Pbkdf2.{Prf, output_block, output_blocks, pbkdf2, u}
use Rattle.any_make.specs.declared.scheme.Pbkdf2Hash.{Pbkdf2Hash}
use Rattle.any_make.specs.declared.scheme.Pbkdf2Hash.TheVariants.{Sha256, Sha512}
use Rattle.word_lists.specs.Lists.{xor_bytes}
use Rattle.hmac_plain.specs.Hmac.{hmac, hmac_sha256, hmac_sha512}
use Rattle.scrypt_plain.proofs.KeyBytes.{digest_below, scrypt_bytes}
use Rattle.yescrypt_plain.specs.declared.params.ScryptParams.{ScryptParams}
use Rattle.yescrypt_plain.proofs.KeyBytes as of_crypt
use Rattle.any_make.specs.Records.{argon2_key, pbkdf2_key, scrypt_key}
use Rattle.any_make.specs.declared.scheme.Argon2Cost.{Argon2Cost}

none_below : EachBelow 256 []
none_below i = omega arith

-- ---- Argon2

words_below : (ws : List ℕ) → EachBelow 256 (bytes ws)
words_below [] = none_below
words_below (w ∷ ws) = below-append (to_le_bytes w64 w) (bytes ws) (low_first 0 8 w) (words_below ws)

hash_below : (key message : List ℕ) (n : ℕ) → EachBelow 256 (blake2b key message n)
unfolding blake2b
hash_below key message n = below-take 256 n (bytes _) (omega arith) (words_below _)

pub argon2_below : (c : Argon2Cost) (password salt : List ℕ) → EachBelow 256 (argon2_key c password salt)
unfolding tag_from variable_hash
argon2_below c password salt = hash_below [] _ 32

pub argon2_long : (c : Argon2Cost) (password salt : List ℕ) → length (argon2_key c password salt) ≡ 32
argon2_long c password salt = length-tag_from _ _ 32

-- ---- PBKDF2

-- all codes of a pseudorandom function are bytes
abbrev AreCodes : Prf → Type 0
AreCodes prf = (key text : List ℕ) → EachBelow 256 (prf key text)

code_below_256 : AreCodes hmac_sha256
unfolding hmac sha256
code_below_256 key text = digest_below _ 8

digest_below_512 : (h : List ℕ) (n : ℕ) → EachBelow 256 (of_512.digest_bytes h n)
unfolding of_512.digest_bytes
digest_below_512 h zero = none_below
digest_below_512 h (suc n) =
    below-append (of_512.digest_bytes h n) (to_be_bytes w64 (slice_index h n)) (digest_below_512 h n)
    (high_first 8 (slice_index h n))

code_below_512 : AreCodes hmac_sha512
unfolding hmac of_512.sha512
code_below_512 key text = digest_below_512 _ 8

xor_below : (xs ys : List ℕ) → EachBelow 256 xs → EachBelow 256 ys → EachBelow 256 (xor_bytes xs ys)
xor_below [] ys hx hy = none_below
xor_below (x ∷ xs) [] hx hy = none_below
xor_below (x ∷ xs) (y ∷ ys) hx hy = elim [
  | zero ↦ xor_of_8 x y (hx 0) (hy 0)
  | suc i ↦ xor_below xs ys (λ j. hx (suc j)) (λ j. hy (suc j)) i
]

zeros_below : (n : ℕ) → EachBelow 256 (replicate n 0)
zeros_below zero = none_below
zeros_below (suc n) = elim [ zero ↦ omega arith | suc i ↦ zeros_below n i ]

module _ (prf : Prf) (h_len : ℕ) (codes_are : AreCodes prf) where
  more_below : (p s : List ℕ) (i j : ℕ) → EachBelow 256 (u prf p s i (suc j))
  unfolding u
  more_below p s i j = codes_are p (u prf p s i j)

  block_below : (p s : List ℕ) (i c : ℕ) → EachBelow 256 (output_block prf h_len p s i c)
  unfolding output_block
  block_below p s i zero = zeros_below h_len
  block_below p s i (suc c) =
      xor_below (output_block prf h_len p s i c) (u prf p s i (suc c)) (block_below p s i c) (more_below p s i c)

  blocks_below : (p s : List ℕ) (c n : ℕ) → EachBelow 256 (output_blocks prf h_len p s c n)
  unfolding output_blocks
  blocks_below p s c zero = none_below
  blocks_below p s c (suc n) =
      below-append (output_blocks prf h_len p s c n) (output_block prf h_len p s (n + 1) c) (blocks_below p s c n)
      (block_below p s (n + 1) c)

  key_below : (p s : List ℕ) (c n : ℕ) → EachBelow 256 (pbkdf2 prf h_len p s c n)
  unfolding pbkdf2
  key_below p s c n =
      below-take 256 n (output_blocks prf h_len p s c (div_ceil n h_len)) (omega arith) (blocks_below p s c (div_ceil n h_len))

pub pbkdf2_below : (hash : Pbkdf2Hash) (rounds : ℕ) (password salt : List ℕ)
    → EachBelow 256 (pbkdf2_key hash rounds password salt)
pbkdf2_below Sha256 rounds password salt = key_below hmac_sha256 32 code_below_256 password salt rounds 32
pbkdf2_below Sha512 rounds password salt = key_below hmac_sha512 64 code_below_512 password salt rounds 32

pub pbkdf2_long : (hash : Pbkdf2Hash) (rounds : ℕ) (password salt : List ℕ)
    → length (pbkdf2_key hash rounds password salt) ≡ 32
pbkdf2_long Sha256 rounds password salt = length-pbkdf2_sha256 password salt rounds 32
pbkdf2_long Sha512 rounds password salt = length-pbkdf2_sha512 password salt rounds 32

-- ---- scrypt

pub scrypt_below : (c : ScryptParams) (password salt : List ℕ) → EachBelow 256 (scrypt_key c password salt)
scrypt_below c password salt = scrypt_bytes password salt (2 ^ c.ln) c.r c.p 32

pub scrypt_long : (c : ScryptParams) (password salt : List ℕ) → length (scrypt_key c password salt) ≡ 32
scrypt_long c password salt = of_crypt.scrypt_key_long password salt (2 ^ c.ln) c.r c.p
