-- Laws over the definitions.
use Rattle.std.specs.Prelude.{◌≡◌, ◌↔◌, ◌≤◌, ℕ, false, List, Ok, length, take}
use Rattle.std.specs.List.{list_any}
use Rattle.base64ct.specs.Encoding.{EachBelow}
use Rattle.bcrypt_plain.specs.Bcrypt.{bcrypt}
use Rattle.bcrypt_plain.specs.Check.{bcrypt_answer, has_zero}
use Rattle.bcrypt_plain.specs.Field.{bcrypt_field}
use Rattle.bcrypt_plain.specs.Made.{IsHashText, bcrypt_text}
use Rattle.bcrypt_plain.specs.Measure.{is_ones, measured_bcrypt}

-- of a password the first 72 bytes count
abbrev pub FirstBytesCount : Type 0
FirstBytesCount =
    (password salt : List ℕ) (cost : ℕ) → bcrypt password salt cost ≡ bcrypt (take 72 password) salt cost

-- two salts, or two hashes, with one field are equal
abbrev pub FieldOnce : Type 0
FieldOnce = (x y : List ℕ) → EachBelow 256 x → EachBelow 256 y → bcrypt_field x ≡ bcrypt_field y → x ≡ y

-- the text that is made of a password matches it
abbrev pub MadeMatches : Type 0
MadeMatches =
    (password salt : List ℕ) (cost : ℕ) → length salt ≡ 16 → EachBelow 256 salt → 4 ≤ cost → cost ≤ 31
    → has_zero password ≡ false → bcrypt_answer password (bcrypt_text password salt cost) ≡ Ok tt

-- a password passes the check of exactly these texts, unless it has a zero byte
abbrev pub MatchesExactly : Type 0
MatchesExactly =
    (password text : List ℕ)
    → (bcrypt_answer password text ≡ Ok tt) ↔ ((has_zero password ≡ false) × IsHashText password text)

-- the measure of `2a` changes no hash of a password without a byte of 255
abbrev pub MeasureNeedsOnes : Type 0
MeasureNeedsOnes =
    (password salt : List ℕ) (cost : ℕ) → list_any is_ones password ≡ false
    → measured_bcrypt password salt cost ≡ bcrypt password salt cost
