-- The fields of a stored text behind its identifier: the first fault, or a record of them.
--
-- Drepper's text 'Unix crypt using SHA-256 and SHA-512' ('Specification', also crypt(5)) fixes the form
-- `[rounds=N$]salt$hash`, 5,000 rounds where none are named, the range 1,000 to 999,999,999, and that the first 16
-- bytes of the salt count. There rounds out of range are clamped, and a longer salt is cut; here both are faults, and
-- so are rounds that aren't a plain decimal, so that each record has one text. The order of the faults is ours. Earlier
-- texts, here and in the crates above, are those that the parser of the Rust crate sha-crypt 0.5.0 takes: in these the
-- rounds may have zeros and one `+` in front, and the salt any length. `old_fields` reads them.
use Rattle.std.specs.Prelude.{ℕ, ◌^◌, Bool, false, true, ◌&&◌, ◌||◌, List, [], ◌∷◌, ◌==◌, nat_lt}
use Rattle.std.specs.Prelude.{nat_le, length, take, Option, Some, None, Result, Ok, Err, if◌then◌else◌, codes}
use Rattle.std.specs.Str.{all_ascii_digits}
use Rattle.pieces.specs.Numbers.{has_leading_zero, number_after}
use Rattle.pieces.specs.Pieces.{behind}
use Rattle.pieces.specs.Lists.{is_empty}
use Rattle.sha_crypt.specs.declared.errors.CheckError.{CheckError}
use Rattle.sha_crypt.specs.declared.errors.CheckError.TheVariants.{InvalidFormat, Crypt}
use Rattle.sha_crypt.specs.declared.errors.CryptError.TheVariants.{RoundsError}
use Rattle.sha_crypt.specs.declared.errors.FormatFault.TheVariants.{NoFields, NoSalt, RoundsNotNumber, NoHash, Trailing}
use Rattle.sha_crypt.specs.declared.errors.FormatFault.TheVariants.{SaltTooLong, Base64}
use Rattle.sha_crypt.specs.Limits.{rounds_default, rounds_max, rounds_min, salt_max_len}

-- ---- the number of rounds

-- the number of one or more digits, below 2 ^ 64
abbrev pub number_of_digits : List ℕ → Option ℕ
number_of_digits s = if nat_le 1 (length s) && all_ascii_digits s
    && nat_lt (number_after 0 s) (2 ^ 64) then Some (number_after 0 s) else None

-- a plain decimal: digits, without a leading zero unless it is `0` alone
abbrev pub plain_number : List ℕ → Option ℕ
plain_number s = if has_leading_zero s then None else number_of_digits s

-- in an earlier text: digits, with or without zeros and one `+` in front
abbrev pub old_number : List ℕ → Option ℕ
old_number [] = None
old_number (b ∷ s) = if b == 43 then number_of_digits s else number_of_digits (b ∷ s)

-- ---- the fields by their form

-- rounds, whether they are written, a salt and the text of a hash
pub record ShaFields : Type 0 where
  pub rounds : ℕ
  pub written : Bool
  pub salt : List ℕ
  pub hash : List ℕ

-- the rounds are in range
abbrev pub fields_in_range : ℕ → Bool → List ℕ → List ℕ → Result ShaFields CheckError
fields_in_range rounds written salt hash =
    if nat_lt rounds rounds_min || nat_lt rounds_max rounds then Err (Crypt RoundsError)
    else Ok (record { rounds = rounds; written = written; salt = salt; hash = hash })

-- from the salt on: exactly a salt and a hash
abbrev pub from_salt : ℕ → Bool → List (List ℕ) → Result ShaFields CheckError
from_salt rounds written [] = Err (InvalidFormat NoSalt)
from_salt rounds written (salt ∷ []) = Err (InvalidFormat NoHash)
from_salt rounds written (salt ∷ (hash ∷ more)) =
    if is_empty more then fields_in_range rounds written salt hash else Err (InvalidFormat Trailing)

-- behind a piece that gives the rounds
abbrev pub with_rounds : Option ℕ → List (List ℕ) → Result ShaFields CheckError
with_rounds None pieces = Err (InvalidFormat RoundsNotNumber)
with_rounds (Some rounds) pieces = from_salt rounds true pieces

-- by what stands behind `rounds=` in the first piece; `number` reads the rounds
abbrev pub by_rounds : (List ℕ → Option ℕ) → Option (List ℕ) → List ℕ → List (List ℕ) → Result ShaFields CheckError
by_rounds number None first pieces = from_salt rounds_default false (first ∷ pieces)
by_rounds number (Some digits) first pieces =
    if is_empty pieces then Err (InvalidFormat NoSalt) else with_rounds (number digits) pieces

-- the fields by their form: all faults but those of the salt's length and of the hash
abbrev pub split_fields : (List ℕ → Option ℕ) → List (List ℕ) → Result ShaFields CheckError
split_fields number [] = Err (InvalidFormat NoFields)
split_fields number (first ∷ pieces) = by_rounds number (behind first (codes "rounds=")) first pieces

-- ---- the last faults

-- a salt of more than 16 bytes is a fault
abbrev pub short_salt : Result ShaFields CheckError → Result ShaFields CheckError
short_salt (Err e) = Err e
short_salt (Ok f) = if nat_lt salt_max_len (length f.salt) then Err (InvalidFormat SaltTooLong) else Ok f

-- the text of the hash is a hash field
abbrev pub checked_hash : (List ℕ → Bool) → Result ShaFields CheckError → Result ShaFields CheckError
checked_hash is_hash_field (Err e) = Err e
checked_hash is_hash_field (Ok f) = if is_hash_field f.hash then Ok f else Err (InvalidFormat Base64)

-- all faults but the last
abbrev pub formed : List (List ℕ) → Result ShaFields CheckError
formed pieces = short_salt (split_fields plain_number pieces)

-- the fields behind the identifier, or their first fault; `is_hash_field` tells the hash fields
unfoldable pub sha_fields : (List ℕ → Bool) → List (List ℕ) → Result ShaFields CheckError
sha_fields is_hash_field pieces = checked_hash is_hash_field (formed pieces)

-- ---- earlier texts

-- the same with the rounds as an earlier text may have them, and a salt of any length
unfoldable pub old_fields : (List ℕ → Bool) → List (List ℕ) → Result ShaFields CheckError
old_fields is_hash_field pieces = checked_hash is_hash_field (split_fields old_number pieces)

-- the fields with the bytes of the salt that count
abbrev pub cut_salt : ShaFields → ShaFields
cut_salt f = record f { salt = take salt_max_len f.salt }
