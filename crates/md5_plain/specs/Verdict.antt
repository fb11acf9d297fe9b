-- The verdict on the fields of a text of md5-crypt, `salt$hash`.
use Rattle.std.specs.Prelude.{ℕ, Bool, List, [], ◌∷◌, nat_eq, nat_lt, length, Option, Some, None, Result, Ok, Err}
use Rattle.std.specs.Prelude.{if◌then◌else◌, codes}
use Rattle.std.specs.Cmp.Lexicographic.{pointwise}
use Rattle.pieces.specs.Lists.{is_empty}
use Rattle.sha_crypt.specs.HashField.{is_hash_field}
use Rattle.md5_plain.specs.Digest.{md5_crypt_digest}
use Rattle.md5_plain.specs.Field.{md5_field}
use Rattle.md5_plain.specs.declared.magic.Magic.{Magic}
use Rattle.md5_plain.specs.declared.magic.Magic.TheVariants as of_magic
use Rattle.md5_plain.specs.declared.error.Md5Fault.{Md5Fault}
use Rattle.md5_plain.specs.declared.error.Md5Fault.TheVariants.{NoSalt, NoHash, Trailing, SaltTooLong, Base64}

-- the magic of an identifier, if it has one
abbrev pub magic_of : List ℕ → Option Magic
magic_of id =
    if pointwise nat_eq id (codes "1") then Some of_magic.Md5
    else (if pointwise nat_eq id (codes "apr1") then Some of_magic.Apr1 else None)

-- a salt and the text of a hash
pub record Md5Fields : Type 0 where
  pub salt : List ℕ
  pub hash : List ℕ

-- the fields by their form: the first three faults
abbrev pub split_fields : List (List ℕ) → Result Md5Fields Md5Fault
split_fields [] = Err NoSalt
split_fields (salt ∷ []) = Err NoHash
split_fields (salt ∷ (hash ∷ more)) = if is_empty more then Ok (record { salt = salt; hash = hash }) else Err Trailing

-- the last two faults: the salt has more than 8 bytes; the text of the hash is the hash field of no digest
abbrev pub checked_fields : Result Md5Fields Md5Fault → Result Md5Fields Md5Fault
checked_fields (Err e) = Err e
checked_fields (Ok f) =
    if nat_lt 8 (length f.salt) then Err SaltTooLong
    else (if is_hash_field 16 f.hash then Ok f else Err Base64)

-- the fields behind the identifier, `salt$hash`, or their first fault
unfoldable pub md5_fields : List (List ℕ) → Result Md5Fields Md5Fault
md5_fields fields = checked_fields (split_fields fields)

-- the fault of the fields; or whether the text of the hash is the hash field of the password's digest
abbrev pub fields_verdict : Magic → List ℕ → Result Md5Fields Md5Fault → Result Bool Md5Fault
fields_verdict magic password (Err e) = Err e
fields_verdict magic password (Ok f) = Ok (pointwise nat_eq (md5_field (md5_crypt_digest password f.salt magic)) f.hash)

-- the verdict on a password and the fields behind an identifier with this magic, or the first fault of the fields
unfoldable pub md5_verdict : Magic → List ℕ → List (List ℕ) → Result Bool Md5Fault
md5_verdict magic password fields = fields_verdict magic password (md5_fields fields)
