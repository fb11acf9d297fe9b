-- The texts `$y$parameters$salt$hash` and `$7$parameters-and-salt$hash` of crypt(5), cut at each `$`: the first fault, or
-- the parameters, the salt and the hash. The order of the faults is ours.
use Rattle.std.specs.Prelude.{ℕ, ◌&&◌, Bool, List, [], ◌∷◌, codes, drop, length, nat_eq, nat_le, Option, Some, None, Result, Ok, Err}
use Rattle.std.specs.Prelude.{if◌then◌else◌}
use Rattle.std.specs.Cmp.Lexicographic.{pointwise}
use Rattle.std.specs.List.{list_all}
use Rattle.pieces.specs.Characters.{dollar, is_crypt_character}
use Rattle.pieces.specs.Lists.{is_empty}
use Rattle.pieces.specs.Pieces.{pieces_at}
use Rattle.yescrypt_plain.specs.Field.{hash_bytes, salt_bytes}
use Rattle.yescrypt_plain.specs.Params.{scrypt_params, yescrypt_params}
use Rattle.yescrypt_plain.specs.declared.error.TextFault.{TextFault}
use Rattle.yescrypt_plain.specs.declared.error.TextFault.TheVariants as fault
use Rattle.yescrypt_plain.specs.declared.params.ScryptParams.{ScryptParams}
use Rattle.yescrypt_plain.specs.declared.params.YescryptParams.{YescryptParams}

-- ---- the pieces

-- the pieces behind an identifier
abbrev pub from_identifier : List ℕ → List (List ℕ) → Result (List (List ℕ)) TextFault
from_identifier id [] = Err fault.WrongId
from_identifier id (first ∷ pieces) = if pointwise nat_eq first id then Ok pieces else Err fault.WrongId

-- the same by all pieces of a text
abbrev pub from_front : List ℕ → List (List ℕ) → Result (List (List ℕ)) TextFault
from_front id [] = Err fault.NoDollar
from_front id (front ∷ others) = if is_empty front then from_identifier id others else Err fault.NoDollar

-- the pieces of a text behind its identifier
unfoldable pub pieces_behind : List ℕ → List ℕ → Result (List (List ℕ)) TextFault
pieces_behind id text = from_front id (pieces_at dollar text)

-- ---- `$y$`

-- the three fields
pub record YescryptFields : Type 0 where
  pub params : List ℕ
  pub salt : List ℕ
  pub hash : List ℕ

-- behind the identifier: exactly these
abbrev pub split_yescrypt : List (List ℕ) → Result YescryptFields TextFault
split_yescrypt [] = Err fault.NoParams
split_yescrypt (params ∷ []) = Err fault.NoSalt
split_yescrypt (params ∷ (salt ∷ [])) = Err fault.NoHash
split_yescrypt (params ∷ (salt ∷ (hash ∷ more))) =
    if is_empty more then Ok (record { params = params; salt = salt; hash = hash }) else Err fault.Trailing

-- parameters that are taken, 1 to 64 bytes of a salt and 32 of a hash
pub record YescryptMeaning : Type 0 where
  pub params : YescryptParams
  pub salt : List ℕ
  pub hash : List ℕ

-- by the hash, the salt, and the parameters
abbrev pub yescrypt_by_hash : YescryptParams → List ℕ → Option (List ℕ) → Result YescryptMeaning TextFault
yescrypt_by_hash params salt None = Err fault.Hash
yescrypt_by_hash params salt (Some hash) = Ok (record { params = params; salt = salt; hash = hash })

abbrev pub yescrypt_by_salt : YescryptParams → Option (List ℕ) → List ℕ → Result YescryptMeaning TextFault
yescrypt_by_salt params None hash = Err fault.Salt
yescrypt_by_salt params (Some salt) hash = yescrypt_by_hash params salt (hash_bytes hash)

abbrev pub yescrypt_by_params :
    Result YescryptParams TextFault → List ℕ → List ℕ → Result YescryptMeaning TextFault
yescrypt_by_params (Err e) salt hash = Err e
yescrypt_by_params (Ok params) salt hash = yescrypt_by_salt params (salt_bytes salt) hash

-- by the fields
abbrev pub yescrypt_of : Result YescryptFields TextFault → Result YescryptMeaning TextFault
yescrypt_of (Err e) = Err e
yescrypt_of (Ok f) = yescrypt_by_params (yescrypt_params f.params) f.salt f.hash

-- by the pieces behind the identifier
abbrev pub yescrypt_fields : Result (List (List ℕ)) TextFault → Result YescryptFields TextFault
yescrypt_fields (Err e) = Err e
yescrypt_fields (Ok pieces) = split_yescrypt pieces

-- what a text says, or its first fault
unfoldable pub yescrypt_text : List ℕ → Result YescryptMeaning TextFault
yescrypt_text text = yescrypt_of (yescrypt_fields (pieces_behind (codes "y") text))

-- ---- `$7$`

-- the two fields: the parameters stand before the salt, with nothing between
pub record ScryptFields : Type 0 where
  pub front : List ℕ
  pub hash : List ℕ

-- behind the identifier: exactly these
abbrev pub split_scrypt : List (List ℕ) → Result ScryptFields TextFault
split_scrypt [] = Err fault.NoParams
split_scrypt (front ∷ []) = Err fault.NoHash
split_scrypt (front ∷ (hash ∷ more)) =
    if is_empty more then Ok (record { front = front; hash = hash }) else Err fault.Trailing

-- parameters that are taken, the characters of a salt, which stand for themselves, and 32 bytes of a hash
pub record ScryptMeaning : Type 0 where
  pub params : ScryptParams
  pub salt : List ℕ
  pub hash : List ℕ

-- at most 86 of these characters
abbrev pub is_scrypt_salt : List ℕ → Bool
is_scrypt_salt salt = nat_le (length salt) 86 && list_all is_crypt_character salt

-- by the hash, the salt, and the parameters
abbrev pub scrypt_by_hash : ScryptParams → List ℕ → Option (List ℕ) → Result ScryptMeaning TextFault
scrypt_by_hash params salt None = Err fault.Hash
scrypt_by_hash params salt (Some hash) = Ok (record { params = params; salt = salt; hash = hash })

abbrev pub scrypt_by_salt : ScryptParams → List ℕ → List ℕ → Result ScryptMeaning TextFault
scrypt_by_salt params salt hash =
    if is_scrypt_salt salt then scrypt_by_hash params salt (hash_bytes hash) else Err fault.Salt

abbrev pub scrypt_by_params : Result ScryptParams TextFault → List ℕ → List ℕ → Result ScryptMeaning TextFault
scrypt_by_params (Err e) salt hash = Err e
scrypt_by_params (Ok params) salt hash = scrypt_by_salt params salt hash

-- by the fields
abbrev pub scrypt_of : Result ScryptFields TextFault → Result ScryptMeaning TextFault
scrypt_of (Err e) = Err e
scrypt_of (Ok f) = scrypt_by_params (scrypt_params f.front) (drop 11 f.front) f.hash

-- by the pieces behind the identifier
abbrev pub scrypt_fields : Result (List (List ℕ)) TextFault → Result ScryptFields TextFault
scrypt_fields (Err e) = Err e
scrypt_fields (Ok pieces) = split_scrypt pieces

-- what a text says, or its first fault
unfoldable pub scrypt_text : List ℕ → Result ScryptMeaning TextFault
scrypt_text text = scrypt_of (scrypt_fields (pieces_behind (codes "7") text))

-- ---- the costs of a text

-- of what a text `$y$` says
abbrev pub yescrypt_meaning_costs : Result YescryptMeaning TextFault → Result YescryptParams TextFault
yescrypt_meaning_costs (Err e) = Err e
yescrypt_meaning_costs (Ok m) = Ok m.params

-- the parameters of a valid text `$y$`, or the first fault
abbrev pub yescrypt_costs : List ℕ → Result YescryptParams TextFault
yescrypt_costs text = yescrypt_meaning_costs (yescrypt_text text)

-- of what a text `$7$` says
abbrev pub scrypt_meaning_costs : Result ScryptMeaning TextFault → Result ScryptParams TextFault
scrypt_meaning_costs (Err e) = Err e
scrypt_meaning_costs (Ok m) = Ok m.params

-- the parameters of a valid text `$7$`, or the first fault
abbrev pub scrypt_costs : List ℕ → Result ScryptParams TextFault
scrypt_costs text = scrypt_meaning_costs (scrypt_text text)
