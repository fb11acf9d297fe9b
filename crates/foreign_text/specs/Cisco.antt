-- Texts of Cisco's IOS: the types 8 and 9 of `enable secret`, whose costs are fixed (by their published form).
use Rattle.std.specs.Prelude.{ℕ, Bool, ◌&&◌, ◌||◌, ◌==◌, List, [], ◌∷◌, length, Some, Ok, Err, if◌then◌else◌, codes}
use Rattle.std.specs.Char.{is_ascii_alphanumeric}
use Rattle.std.specs.List.{list_all}
use Rattle.base64ct.specs.Alphabets.{base64_crypt}
use Rattle.pieces.specs.Characters.{dollar}
use Rattle.pieces.specs.Pieces.{behind, or_behind, pieces_at}
use Rattle.foreign_text.specs.Answers.{Answer, stored_or_unread}
use Rattle.foreign_text.specs.Fields.{field_bytes}
use Rattle.foreign_text.specs.Records.{with_kdf}
use Rattle.foreign_text.specs.declared.fault.ForeignFault.TheVariants.{Form}
use Rattle.foreign_text.specs.declared.kdf.Kdf.{Kdf}
use Rattle.foreign_text.specs.declared.kdf.Kdf.TheVariants.{Pbkdf2, Scrypt}
use Rattle.foreign_text.specs.declared.kdf.Pbkdf2Hash.TheVariants.{Sha256}

-- a character of crypt(3)'s alphabet
abbrev pub is_crypt_byte : ℕ → Bool
is_crypt_byte b = is_ascii_alphanumeric b || b == 46 || b == 47

-- so many of these
abbrev pub is_crypt_field : ℕ → List ℕ → Bool
is_crypt_field n field = (length field == n) && list_all is_crypt_byte field

-- Of the salt its 14 characters count. The 43 characters of the key have the high bits first, as in RFC 4648.
abbrev pub cisco_sized : Kdf → List ℕ → List ℕ → Answer
cisco_sized kdf salt key =
    if is_crypt_field 14 salt && is_crypt_field 43 key
    then with_kdf (Ok kdf) (Some salt) (field_bytes base64_crypt key)
    else Err Form

-- exactly a salt and a key
abbrev pub cisco_fields : Kdf → List (List ℕ) → Answer
cisco_fields kdf [] = Err Form
cisco_fields kdf (salt ∷ []) = Err Form
cisco_fields kdf (salt ∷ (key ∷ [])) = cisco_sized kdf salt key
cisco_fields kdf (salt ∷ (key ∷ (one ∷ more))) = Err Form

abbrev pub cisco_type : Kdf → List ℕ → Answer
cisco_type kdf rest = cisco_fields kdf (pieces_at dollar rest)

-- Type 8, `$8$SALT$KEY`, is PBKDF2 with 20,000 rounds of SHA-256; type 9, `$9$SALT$KEY`, is scrypt with N = 2^14, r = 1 and p = 1.
-- Type 5 is md5-crypt, whose text stays as it is.
unfoldable pub cisco : List ℕ → Answer
cisco text =
    or_behind (cisco_type (Pbkdf2 Sha256 20000)) (behind text (codes "$8$"))
    (or_behind (cisco_type (Scrypt 14 1 1)) (behind text (codes "$9$")) (stored_or_unread text))
