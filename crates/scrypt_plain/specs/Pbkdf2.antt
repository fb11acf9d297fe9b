-- PBKDF2 (RFC 8018, section 5.2) over HMAC-SHA-256 with an iteration count of 1, on lists of bytes.
use Rattle.std.specs.Prelude.{ℕ, zero, suc, ◌+◌, ◌/◌, List, [], ◌++◌, take}
use Rattle.std.specs.Int.{w32, to_be_bytes}
use Rattle.scrypt_plain.specs.Hmac.{hmac}

-- T_1 to T_i, one after another: T_i = U_1 = HMAC(P, S || INT(i)), where INT(i) is four bytes, the
-- highest first
unfoldable pub pbkdf2_blocks : List ℕ → List ℕ → ℕ → List ℕ
pbkdf2_blocks p s zero = []
pbkdf2_blocks p s (suc i) = pbkdf2_blocks p s i ++ hmac p (s ++ to_be_bytes w32 (i + 1))

-- PBKDF2(P, S, 1, dkLen): as many blocks of 32 bytes as it takes, the last cut
abbrev pub pbkdf2_once : List ℕ → List ℕ → ℕ → List ℕ
pbkdf2_once p s dk_len = take dk_len (pbkdf2_blocks p s ((dk_len + 31) / 32))
