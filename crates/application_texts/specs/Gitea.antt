-- Gitea's and Forgejo's texts (modules/auth/password/hash): the columns `passwd_hash_algo`, `passwd` and `salt` of the table `user`, with colons
-- between them. Argon2's aren't read.
use Rattle.std.specs.Prelude.{ℕ, ◌==◌, List, length, Option, Some, Result, Ok, Err, if◌then◌else◌, codes}
use Rattle.pieces.specs.Characters.{dollar}
use Rattle.pieces.specs.Pieces.{behind, or_behind, pieces_at}
use Rattle.foreign_text.specs.Answers.{Answer, as_it_is}
use Rattle.foreign_text.specs.Characters.{colon}
use Rattle.foreign_text.specs.Fields.{four_of, in_four, in_three, in_two, number_of, pbkdf2_cost, scrypt_cost, small_hex, three_of, two_of}
use Rattle.foreign_text.specs.Records.{if_sized, is_size, with_kdf}
use Rattle.foreign_text.specs.declared.fault.ForeignFault.{ForeignFault}
use Rattle.foreign_text.specs.declared.fault.ForeignFault.TheVariants.{Unread}
use Rattle.foreign_text.specs.declared.fault.Unread.TheVariants.{Other}
use Rattle.foreign_text.specs.declared.kdf.Kdf.{Kdf}
use Rattle.foreign_text.specs.declared.kdf.Kdf.TheVariants.{Pbkdf2, Scrypt}
use Rattle.foreign_text.specs.declared.kdf.Pbkdf2Hash.TheVariants.{Sha256}

-- of a salt of ten characters, the older form, the characters count; another is in hexadecimal digits with small letters
abbrev pub gitea_salt : List ℕ → Option (List ℕ)
gitea_salt salt = if length salt == 10 then Some salt else small_hex salt

-- a key of a length, in hexadecimal digits with small letters, and a salt
abbrev pub gitea_made : Result Kdf ForeignFault → Option ℕ → List ℕ → List ℕ → Answer
gitea_made kdf size key salt = if_sized (is_size size (small_hex key)) (with_kdf kdf (gitea_salt salt) (small_hex key))

-- `KEY:SALT` of an algorithm without parameters, with a key of 50 bytes
abbrev pub gitea_plain : Kdf → List ℕ → Answer
gitea_plain kdf rest = in_two (gitea_made (Ok kdf) (Some 50)) (two_of (pieces_at colon rest))

-- PBKDF2 with HMAC-SHA-256: `ROUNDS$LENGTH:KEY:SALT`
abbrev pub pbkdf2_numbers : List ℕ → List ℕ → List ℕ → List ℕ → Answer
pbkdf2_numbers key salt rounds size = gitea_made (pbkdf2_cost Sha256 rounds) (number_of size) key salt

abbrev pub pbkdf2_fields : List ℕ → List ℕ → List ℕ → Answer
pbkdf2_fields numbers key salt = in_two (pbkdf2_numbers key salt) (two_of (pieces_at dollar numbers))

abbrev pub gitea_pbkdf2 : List ℕ → Answer
gitea_pbkdf2 rest = in_three pbkdf2_fields (three_of (pieces_at colon rest))

-- scrypt: `N$R$P$LENGTH:KEY:SALT`
abbrev pub scrypt_numbers : List ℕ → List ℕ → List ℕ → List ℕ → List ℕ → List ℕ → Answer
scrypt_numbers key salt n r p size = gitea_made (scrypt_cost n r p) (number_of size) key salt

abbrev pub scrypt_fields : List ℕ → List ℕ → List ℕ → Answer
scrypt_fields numbers key salt = in_four (scrypt_numbers key salt) (four_of (pieces_at dollar numbers))

abbrev pub gitea_scrypt : List ℕ → Answer
gitea_scrypt rest = in_three scrypt_fields (three_of (pieces_at colon rest))

-- bcrypt: `KEY:SALT` or `COST:KEY:SALT`, where the key is bcrypt's text, and the others aren't used
abbrev pub bcrypt_two : List ℕ → List ℕ → Answer
bcrypt_two key salt = as_it_is (codes "$2") key

abbrev pub bcrypt_three : List ℕ → List ℕ → List ℕ → Answer
bcrypt_three cost key salt = as_it_is (codes "$2") key

abbrev pub bcrypt_plain : List ℕ → Answer
bcrypt_plain rest = in_two bcrypt_two (two_of (pieces_at colon rest))

abbrev pub bcrypt_cost : List ℕ → Answer
bcrypt_cost rest = in_three bcrypt_three (three_of (pieces_at colon rest))

unfoldable pub gitea_bcrypt : List ℕ → Answer
gitea_bcrypt text =
    or_behind bcrypt_plain (behind text (codes "bcrypt:"))
    (or_behind bcrypt_cost (behind text (codes "bcrypt$")) (Err (Unread Other)))

-- with parameters; scrypt without them has N = 2^16, r = 16 and p = 2
unfoldable pub gitea_others : List ℕ → Answer
gitea_others text =
    or_behind gitea_pbkdf2 (behind text (codes "pbkdf2$"))
    (or_behind gitea_scrypt (behind text (codes "scrypt$"))
    (or_behind (gitea_plain (Scrypt 16 16 2)) (behind text (codes "scrypt:")) (gitea_bcrypt text)))

-- by the algorithm
unfoldable pub gitea : List ℕ → Answer
gitea text =
    or_behind (gitea_plain (Pbkdf2 Sha256 10000)) (behind text (codes "pbkdf2:"))
    (or_behind (gitea_plain (Pbkdf2 Sha256 10000)) (behind text (codes "pbkdf2_v1:"))
    (or_behind (gitea_plain (Pbkdf2 Sha256 50000)) (behind text (codes "pbkdf2_v2:"))
    (or_behind (gitea_plain (Pbkdf2 Sha256 320000)) (behind text (codes "pbkdf2_hi:")) (gitea_others text))))
