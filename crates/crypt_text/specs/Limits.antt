-- The limits of crypt(3), as libxcrypt has them.
use Rattle.std.specs.Prelude.{ℕ}

-- the most bytes of a phrase
abbrev pub phrase_max : ℕ
phrase_max = 511

-- the most bytes of a setting of `$7$` and `$y$`, with all that follows the salt
abbrev pub setting_max : ℕ
setting_max = 339

-- room for the longest text and a zero byte behind it (CRYPT_OUTPUT_SIZE): `$7$`, eleven parameters, a salt of 325, `$` and a hash of 43
-- are 383 bytes
abbrev pub text_max : ℕ
text_max = 384
