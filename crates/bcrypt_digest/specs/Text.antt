-- The texts of bcrypt with a digest in front: which digest, and the text of bcrypt beneath; or the first fault. The order of the
-- faults is ours, and that of bcrypt's texts.
use Rattle.std.specs.Prelude.{ℕ, ◌+◌, ◌-◌, ◌*◌, ◌/◌, ◌%◌, ◌==◌, ◌&&◌, Bool, List, [], ◌∷◌, ◌++◌, length, nat_le, slice_index}
use Rattle.std.specs.Prelude.{Option, Some, None, Result, Ok, Err, if◌then◌else◌, codes}
use Rattle.pieces.specs.Characters.{dollar}
use Rattle.pieces.specs.Lists.{is_empty}
use Rattle.pieces.specs.Pieces.{begins, behind, or_behind, pieces_at}
use Rattle.bcrypt_plain.specs.Made.{two_digits}
use Rattle.bcrypt_plain.specs.Text.{is_cost, is_digit}
use Rattle.bcrypt_plain.specs.declared.error.BcryptFault.{BcryptFault}
use Rattle.bcrypt_plain.specs.declared.error.BcryptFault.TheVariants.{Cost, Length, NoHash, Trailing, WrongId}
use Rattle.bcrypt_digest.specs.declared.front.Front.{Front}
use Rattle.bcrypt_digest.specs.declared.front.Front.TheVariants.{Hex, Plain, Salted, WordPress}
use Rattle.bcrypt_digest.specs.declared.text.DigestParts.{DigestParts}

-- a text of bcrypt that is there as it is: it has 60 bytes
abbrev pub beneath : Front → List ℕ → Result DigestParts BcryptFault
beneath front text = if length text == 60 then Ok (record { front = front; under = text }) else Err Length

-- WordPress 6.8: `$wp` and a text of PHP's password_hash, whose identifier is `2y`
abbrev pub wordpress : List ℕ → Result DigestParts BcryptFault
wordpress rest = if begins rest (codes "$2y$") then beneath WordPress rest else Err WrongId

-- Django writes `bcrypt_sha256$` and a text of bcrypt: here `$bcrypt-sha256-hex` and that text
abbrev pub django : List ℕ → Result DigestParts BcryptFault
django rest = if begins rest (codes "$2") then beneath Hex rest else Err WrongId

-- ---- passlib (passlib.hash.bcrypt_sha256)

-- the digest, the identifier of the text beneath, and the text of a cost
pub record Parameters : Type 0 where
  pub front : Front
  pub id : List ℕ
  pub cost : List ℕ

abbrev pub with_cost : Front → List ℕ → List ℕ → Option Parameters
with_cost front id cost = Some (record { front = front; id = id; cost = cost })

-- `v=2,t=2b,r=COST`, or `2b,COST` and `2a,COST` of version 1
abbrev pub passlib_form : List ℕ → Option Parameters
passlib_form parameters =
    or_behind (with_cost Salted (codes "2b")) (behind parameters (codes "v=2,t=2b,r="))
    (or_behind (with_cost Plain (codes "2b")) (behind parameters (codes "2b,"))
    (or_behind (with_cost Plain (codes "2a")) (behind parameters (codes "2a,")) None))

-- a number that is a cost
abbrev pub if_cost : ℕ → Option ℕ
if_cost n = if is_cost n then Some n else None

-- the cost that a decimal without a zero in front writes
abbrev pub passlib_cost : List ℕ → Option ℕ
passlib_cost (d ∷ []) = if is_digit d then if_cost (d - 48) else None
passlib_cost (d ∷ e ∷ []) = if nat_le 49 d && is_digit d && is_digit e then if_cost (10 * (d - 48) + (e - 48)) else None
passlib_cost other = None

-- the text of bcrypt: a cost by two digits, the 22 characters of a salt and the 31 of a hash
abbrev pub made_text : List ℕ → ℕ → List ℕ → List ℕ → List ℕ
made_text id cost salt hash = codes "$" ++ id ++ codes "$" ++ two_digits cost ++ codes "$" ++ salt ++ hash

-- the text of a cost, a salt and a hash
abbrev pub passlib_made : Parameters → Option ℕ → List ℕ → List ℕ → Result DigestParts BcryptFault
passlib_made p None salt hash = Err Cost
passlib_made p (Some cost) salt hash =
    if length salt == 22 && length hash == 31
    then Ok (record { front = p.front; under = made_text p.id cost salt hash }) else Err Length

abbrev pub passlib_sized : Parameters → List ℕ → List ℕ → Result DigestParts BcryptFault
passlib_sized p salt hash = passlib_made p (passlib_cost p.cost) salt hash

-- after the parameters: exactly a salt and a hash
abbrev pub passlib_hash : Parameters → List (List ℕ) → Result DigestParts BcryptFault
passlib_hash p [] = Err NoHash
passlib_hash p (salt ∷ []) = Err NoHash
passlib_hash p (salt ∷ (hash ∷ more)) = if is_empty more then passlib_sized p salt hash else Err Trailing

-- by what the parameters say
abbrev pub passlib_by : Option Parameters → List (List ℕ) → Result DigestParts BcryptFault
passlib_by None pieces = Err WrongId
passlib_by (Some p) pieces = passlib_hash p pieces

-- by the pieces after `$bcrypt-sha256$`
abbrev pub passlib : List (List ℕ) → Result DigestParts BcryptFault
passlib [] = Err WrongId
passlib (parameters ∷ pieces) = passlib_by (passlib_form parameters) pieces

abbrev pub passlib_text : List ℕ → Result DigestParts BcryptFault
passlib_text rest = passlib (pieces_at dollar rest)

-- ---- all of them

-- the digest of a text and the text of bcrypt beneath, or the first fault
unfoldable pub digest_parts : List ℕ → Result DigestParts BcryptFault
digest_parts text =
    or_behind wordpress (behind text (codes "$wp"))
    (or_behind django (behind text (codes "$bcrypt-sha256-hex"))
    (or_behind passlib_text (behind text (codes "$bcrypt-sha256$")) (Err WrongId)))
