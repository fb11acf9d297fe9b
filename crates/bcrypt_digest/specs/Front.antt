-- The digests that makers put in front of bcrypt, since it takes 72 bytes and stops at a zero byte: SHA-2 (FIPS 180-4) or HMAC
-- (RFC 2104), written in hexadecimal digits or in Base64 with padding (RFC 4648, table 1).
use Rattle.std.specs.Prelude.{ℕ, ◌||◌, ◌==◌, Bool, List, [], ◌∷◌, reverse, if◌then◌else◌, codes}
use Rattle.base64ct.specs.Alphabets.{base64}
use Rattle.base64ct.specs.Encoding.{encoding}
use Rattle.hex.specs.Hex.{encode_lower}
use Rattle.hmac_plain.specs.Hmac.{hmac_sha256, hmac_sha384}
use Rattle.sha2.specs.Sha256.{sha256}
use Rattle.bcrypt_digest.specs.declared.front.Front.{Front}
use Rattle.bcrypt_digest.specs.declared.front.Front.TheVariants.{Hex, Plain, Salted, WordPress}

-- a blank, a tab, a line feed, a carriage return, a zero byte or a vertical tab: the characters of PHP's trim
abbrev pub is_trimmed : ℕ → Bool
is_trimmed c = c == 32 || c == 9 || c == 10 || c == 13 || c == 0 || c == 11

-- without such characters at the front
abbrev pub without_front : List ℕ → List ℕ
without_front [] = []
without_front (c ∷ rest) = if is_trimmed c then without_front rest else c ∷ rest

-- without such characters at both ends
abbrev pub trimmed : List ℕ → List ℕ
trimmed password = reverse (without_front (reverse (without_front password)))

-- What bcrypt gets for a password, of which the salt's characters are the key of passlib's version 2.
-- Django: BCryptSHA256PasswordHasher. passlib: bcrypt_sha256, version 1 and 2. WordPress 6.8: wp_hash_password.
unfoldable pub front_text : Front → List ℕ → List ℕ → List ℕ
front_text Hex salt password = encode_lower (sha256 password)
front_text Plain salt password = encoding base64 (sha256 password)
front_text Salted salt password = encoding base64 (hmac_sha256 salt password)
front_text WordPress salt password = encoding base64 (hmac_sha384 (codes "wp-sha384") (trimmed password))
