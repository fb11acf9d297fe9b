-- The text that an upgrade makes.
use Rattle.std.specs.Prelude.{ℕ, ◌^◌, List, [], ◌∷◌, ◌++◌, codes, unwrap_or}
use Rattle.phc.specs.Encoded.{decoding, encoding}
use Rattle.scrypt_plain.specs.Scrypt.{scrypt}

-- the key of an upgraded text, at N = 2 ^ 14, r = 8 and p = 1 (RFC 7914, section 2)
abbrev pub upgraded_key : List ℕ → List ℕ → List ℕ
upgraded_key password salt = scrypt password (unwrap_or (decoding salt) []) (2 ^ 14) 8 1 32

-- the text that an upgrade makes of a password and the text of a salt
unfoldable pub upgraded_text : List ℕ → List ℕ → List ℕ
upgraded_text password salt = codes "$scrypt$ln=14,r=8,p=1$" ++ (salt ++ 36 ∷ encoding (upgraded_key password salt))
