-- The texts of bcrypt, `$2b$cost$salt-and-hash` (OpenBSD's crypt(3); crypt(5)), cut at each `$`: the first fault, or a
-- cost, a salt and a hash. The order of the faults is ours.
use Rattle.std.specs.Prelude.{ℕ, ◌+◌, ◌-◌, ◌*◌, ◌==◌, ◌&&◌, ◌||◌, Bool, List, [], ◌∷◌, length, take, drop}
use Rattle.std.specs.Prelude.{nat_eq, nat_le, slice_index, Option, Some, None, Result, Ok, Err, if◌then◌else◌, codes}
use Rattle.std.specs.Cmp.Lexicographic.{pointwise}
use Rattle.std.specs.List.{list_all}
use Rattle.pieces.specs.Characters.{dollar, is_crypt_character}
use Rattle.pieces.specs.Lists.{is_empty}
use Rattle.pieces.specs.Pieces.{pieces_at}
use Rattle.bcrypt_plain.specs.Field.{field_bytes}
use Rattle.bcrypt_plain.specs.declared.error.BcryptFault.{BcryptFault}
use Rattle.bcrypt_plain.specs.declared.error.BcryptFault.TheVariants.{NoDollar, WrongId, NoCost, NoHash, Trailing}
use Rattle.bcrypt_plain.specs.declared.error.BcryptFault.TheVariants.{Cost, Length, Character, SpareBits}
use Rattle.bcrypt_plain.specs.declared.error.BcryptFault.TheVariants as of_fault
use Rattle.bcrypt_plain.specs.declared.version.Version.{Version}
use Rattle.bcrypt_plain.specs.declared.version.Version.TheVariants.{Current, Obsolete}

-- ---- the pieces

-- what an identifier says, if it is one of bcrypt's
abbrev pub version_of : List ℕ → Option Version
version_of id =
    if pointwise nat_eq id (codes "2a") || pointwise nat_eq id (codes "2b") || pointwise nat_eq id (codes "2y") then
    Some Current
    else (if pointwise nat_eq id (codes "2") || pointwise nat_eq id (codes "2x") then Some Obsolete else None)

-- the text of a cost, and the characters behind it
pub record Fields : Type 0 where
  pub cost : List ℕ
  pub rest : List ℕ

-- behind the identifier: exactly a cost and what follows it
abbrev pub split_fields : List (List ℕ) → Result Fields BcryptFault
split_fields [] = Err NoCost
split_fields (cost ∷ []) = Err NoHash
split_fields (cost ∷ (rest ∷ more)) = if is_empty more then Ok (record { cost = cost; rest = rest }) else Err Trailing

-- by what the identifier says
abbrev pub by_version : Option Version → List (List ℕ) → Result Fields BcryptFault
by_version None pieces = Err WrongId
by_version (Some Obsolete) pieces = Err of_fault.Obsolete
by_version (Some Current) pieces = split_fields pieces

-- by the pieces behind the first `$`
abbrev pub from_identifier : List (List ℕ) → Result Fields BcryptFault
from_identifier [] = Err WrongId
from_identifier (id ∷ pieces) = by_version (version_of id) pieces

-- by all pieces of a text
abbrev pub from_front : List (List ℕ) → Result Fields BcryptFault
from_front [] = Err NoDollar
from_front (front ∷ others) = if is_empty front then from_identifier others else Err NoDollar

-- the fields of a text by their form
unfoldable pub text_fields : List ℕ → Result Fields BcryptFault
text_fields text = from_front (pieces_at dollar text)

-- ---- the cost

-- `0` to `9`
abbrev pub is_digit : ℕ → Bool
is_digit c = nat_le 48 c && nat_le c 57

-- two digits
abbrev pub is_two_digits : List ℕ → Bool
is_two_digits t = length t == 2 && is_digit (slice_index t 0) && is_digit (slice_index t 1)

-- the number that they write
abbrev pub two_digit_number : List ℕ → ℕ
two_digit_number t = 10 * (slice_index t 0 - 48) + (slice_index t 1 - 48)

-- a cost is one of 4 to 31
abbrev pub is_cost : ℕ → Bool
is_cost n = nat_le 4 n && nat_le n 31

-- the cost that a text writes, always by two digits
abbrev pub cost_of : List ℕ → Option ℕ
cost_of t = if is_two_digits t && is_cost (two_digit_number t) then Some (two_digit_number t) else None

-- ---- the salt and the hash

-- a cost, the 16 bytes of a salt and the 23 of a hash
pub record Parts : Type 0 where
  pub cost : ℕ
  pub salt : List ℕ
  pub hash : List ℕ

-- why 53 characters are not those of a salt and a hash: one is outside of the alphabet, or the bits that are left over
-- behind the bytes of the salt or of the hash are not zero
abbrev pub encoding_fault : List ℕ → BcryptFault
encoding_fault rest = if list_all is_crypt_character rest then SpareBits else Character

-- the parts, where there are a salt and a hash
abbrev pub by_bytes : ℕ → Option (List ℕ) → Option (List ℕ) → BcryptFault → Result Parts BcryptFault
by_bytes cost (Some salt) (Some hash) fault = Ok (record { cost = cost; salt = salt; hash = hash })
by_bytes cost salt hash fault = Err fault

-- by the 53 characters
abbrev pub by_rest : ℕ → List ℕ → Result Parts BcryptFault
by_rest cost rest =
    if length rest == 53 then
    by_bytes cost (field_bytes 22 (take 22 rest)) (field_bytes 31 (drop 22 rest)) (encoding_fault rest)
    else Err Length

-- by the cost
abbrev pub by_cost : Option ℕ → List ℕ → Result Parts BcryptFault
by_cost None rest = Err Cost
by_cost (Some cost) rest = by_rest cost rest

-- by the fields
abbrev pub parts_of : Result Fields BcryptFault → Result Parts BcryptFault
parts_of (Err e) = Err e
parts_of (Ok f) = by_cost (cost_of f.cost) f.rest

-- the parts of a text, or its first fault
unfoldable pub text_parts : List ℕ → Result Parts BcryptFault
text_parts text = parts_of (text_fields text)

-- ---- the cost of a text

-- of its parts
abbrev pub parts_cost : Result Parts BcryptFault → Result ℕ BcryptFault
parts_cost (Err e) = Err e
parts_cost (Ok p) = Ok p.cost

-- the cost that a valid text names, or the first fault
abbrev pub text_cost : List ℕ → Result ℕ BcryptFault
text_cost text = parts_cost (text_parts text)
