-- PBKDF2 (RFC 8018, section 5.2) over any pseudorandom function PRF whose outputs have hLen bytes, on lists of bytes; and
-- the three of this crate.
--
-- The standard asks for a count c of at least 1 and a key of at most (2^32 - 1) * hLen bytes. Here c = 0 gives zeros, and
-- INT(i) is the number of a block below 2^32; the conditions of the calls and the profile keep within both.
use Rattle.std.specs.Prelude.{ℕ, zero, suc, ◌+◌, List, [], ◌++◌, replicate, take}
use Rattle.std.specs.Int.{w32, div_ceil, to_be_bytes}
use Rattle.word_lists.specs.Lists.{xor_bytes}
use Rattle.hmac_plain.specs.Hmac.{hmac_sha256, hmac_sha512}
use Rattle.hmac_sha1.specs.Hmac.{hmac_sha1}

-- a pseudorandom function, of a key and a text
abbrev pub Prf : Type 0
Prf = List ℕ → List ℕ → List ℕ

-- U_j of block i: U_1 = PRF(P, S || INT(i)), U_2 = PRF(P, U_1) and so on, so that S || INT(i) stands at 0. INT(i) is
-- four bytes, the highest first.
unfoldable pub u : Prf → List ℕ → List ℕ → ℕ → ℕ → List ℕ
u prf p s i zero = s ++ to_be_bytes w32 i
u prf p s i (suc j) = prf p (u prf p s i j)

-- T_i = U_1 xor U_2 xor .. xor U_c
unfoldable pub output_block : Prf → ℕ → List ℕ → List ℕ → ℕ → ℕ → List ℕ
output_block prf h_len p s i zero = replicate h_len 0
output_block prf h_len p s i (suc c) = xor_bytes (output_block prf h_len p s i c) (u prf p s i (suc c))

-- T_1 to T_n, one after another
unfoldable pub output_blocks : Prf → ℕ → List ℕ → List ℕ → ℕ → ℕ → List ℕ
output_blocks prf h_len p s c zero = []
output_blocks prf h_len p s c (suc n) = output_blocks prf h_len p s c n ++ output_block prf h_len p s (n + 1) c

-- PBKDF2(P, S, c, dkLen): as many blocks of hLen bytes as it takes, dkLen / hLen rounded up, the last cut
unfoldable pub pbkdf2 : Prf → ℕ → List ℕ → List ℕ → ℕ → ℕ → List ℕ
pbkdf2 prf h_len p s c dk_len = take dk_len (output_blocks prf h_len p s c (div_ceil dk_len h_len))

-- with HMAC-SHA-1, whose outputs have 20 bytes
abbrev pub pbkdf2_sha1 : List ℕ → List ℕ → ℕ → ℕ → List ℕ
pbkdf2_sha1 = pbkdf2 hmac_sha1 20

-- with HMAC-SHA-256, whose outputs have 32 bytes
abbrev pub pbkdf2_sha256 : List ℕ → List ℕ → ℕ → ℕ → List ℕ
pbkdf2_sha256 = pbkdf2 hmac_sha256 32

-- with HMAC-SHA-512, whose outputs have 64 bytes
abbrev pub pbkdf2_sha512 : List ℕ → List ℕ → ℕ → ℕ → List ℕ
pbkdf2_sha512 = pbkdf2 hmac_sha512 64
