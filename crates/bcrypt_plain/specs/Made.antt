-- The text of a password, a salt and a cost; and the text that is made, or why none is.
use Rattle.std.specs.Prelude.{◌≡◌, ◌≤◌, ℕ, ◌+◌, ◌/◌, ◌%◌, List, [], ◌∷◌, ◌++◌, length, nat_lt, Option, Some, None, Result, codes}
use Rattle.std.specs.Prelude.{if◌then◌else◌}
use Rattle.std.specs.List.{join_with_byte}
use Rattle.base64ct.specs.Encoding.{EachBelow}
use Rattle.pieces.specs.Characters.{dollar}
use Rattle.pieces.specs.Faults.{value_or_fault}
use Rattle.bcrypt_plain.specs.Bcrypt.{bcrypt}
use Rattle.bcrypt_plain.specs.Check.{has_zero}
use Rattle.bcrypt_plain.specs.Field.{bcrypt_field}
use Rattle.bcrypt_plain.specs.Text.{is_cost, version_of}
use Rattle.bcrypt_plain.specs.declared.error.MakeFault.{MakeFault}
use Rattle.bcrypt_plain.specs.declared.error.MakeFault.TheVariants.{Cost, PasswordTooLong, ZeroByte}
use Rattle.bcrypt_plain.specs.declared.version.Version.TheVariants.{Current}

-- a number below 100 by two digits
abbrev pub two_digits : ℕ → List ℕ
two_digits n = (48 + n / 10) ∷ (48 + n % 10) ∷ []

-- the text of an identifier, a cost, a salt and a hash: its pieces, each behind a `$`
abbrev pub text_of : List ℕ → ℕ → List ℕ → List ℕ → List ℕ
text_of id cost salt hash =
    join_with_byte dollar ([] ∷ id ∷ two_digits cost ∷ (bcrypt_field salt ++ bcrypt_field hash) ∷ [])

-- a text is `$id$cost$salt-and-hash` with an identifier that is checked, a cost of 4 to 31 by two digits, the field of a
-- salt of 16 bytes, and the field of the password's hash for them
abbrev pub IsHashText : List ℕ → List ℕ → Type 0
IsHashText password text =
    (id : List ℕ) × (cost : ℕ) × (salt : List ℕ) × (version_of id ≡ Some Current) × (4 ≤ cost) × (cost ≤ 31)
    × (length salt ≡ 16) × EachBelow 256 salt × (text ≡ text_of id cost salt (bcrypt password salt cost))

-- the text of a password, a salt and a cost
abbrev pub bcrypt_text : List ℕ → List ℕ → ℕ → List ℕ
bcrypt_text password salt cost = text_of (codes "2b") cost salt (bcrypt password salt cost)

-- the first cause that none is made: the cost is none, the password has more bytes than count, or it has a zero byte
abbrev pub make_fault : List ℕ → ℕ → Option MakeFault
make_fault password cost =
    if is_cost cost then
    (if nat_lt 72 (length password) then Some PasswordTooLong else (if has_zero password then Some ZeroByte else None))
    else Some Cost

-- the text, or that cause
unfoldable pub made : List ℕ → List ℕ → ℕ → Result (List ℕ) MakeFault
made password salt cost = value_or_fault (bcrypt_text password salt cost) (make_fault password cost)
