-- The text of a password, a salt and costs; and the text that is made, or why none is.
use Rattle.std.specs.Prelude.{◌≡◌, ◌≤◌, ◌⊎◌, ℕ, ◌^◌, ◌&&◌, true, List, [], ◌∷◌, ◌++◌, length, nat_le, Option, Result, Err, codes, is_ok}
use Rattle.std.specs.List.{join_with_byte}
use Rattle.base64ct.specs.Encoding.{EachBelow}
use Rattle.pieces.specs.Characters.{dollar}
use Rattle.pieces.specs.Faults.{first_fault, unless, value_or_fault}
use Rattle.scrypt_plain.specs.Scrypt.{scrypt}
use Rattle.phc_kdf.specs.Limits.{password_max}
use Rattle.yescrypt_plain.specs.Field.{crypt_field}
use Rattle.yescrypt_plain.specs.Params.{in_bounds, scrypt_in_bounds, scrypt_params_text, yescrypt_params_text}
use Rattle.yescrypt_plain.specs.Text.{is_scrypt_salt}
use Rattle.yescrypt_plain.specs.Yescrypt.{yescrypt}
use Rattle.yescrypt_plain.specs.declared.error.MakeError.{MakeError}
use Rattle.yescrypt_plain.specs.declared.error.MakeError.TheVariants.{Cost, Salt, PasswordTooLong, OutOfMemory}
use Rattle.yescrypt_plain.specs.declared.params.ScryptParams.{ScryptParams}
use Rattle.yescrypt_plain.specs.declared.params.YescryptParams.{YescryptParams}

-- ---- `$y$`

-- the text of parameters, a salt and a hash: its pieces, each behind a `$`
abbrev pub yescrypt_text_of : YescryptParams → List ℕ → List ℕ → List ℕ
yescrypt_text_of params salt hash =
    join_with_byte dollar ([] ∷ codes "y" ∷ yescrypt_params_text params ∷ crypt_field salt ∷ crypt_field hash ∷ [])

-- the text of a password, a salt and parameters
abbrev pub yescrypt_hash_text : List ℕ → List ℕ → YescryptParams → List ℕ
yescrypt_hash_text password salt params =
    yescrypt_text_of params salt (yescrypt password salt params.ln params.r params.t)

-- a text is that of the password for some parameters that are taken and some salt of 1 to 64 bytes
abbrev pub IsYescryptText : List ℕ → List ℕ → Type 0
IsYescryptText password text =
    (params : YescryptParams) × (salt : List ℕ) × (in_bounds params ≡ true) × (1 ≤ length salt) × (length salt ≤ 64)
    × EachBelow 256 salt × (text ≡ yescrypt_hash_text password salt params)

-- the first cause that no text is made
abbrev pub yescrypt_make_fault : List ℕ → List ℕ → YescryptParams → Option MakeError
yescrypt_make_fault password salt params =
    first_fault
    (unless (in_bounds params) Cost ∷ unless (nat_le 1 (length salt) && nat_le (length salt) 64) Salt
    ∷ unless (nat_le (length password) password_max) PasswordTooLong ∷ [])

-- the text, or that cause
unfoldable pub yescrypt_made : List ℕ → List ℕ → YescryptParams → Result (List ℕ) MakeError
yescrypt_made password salt params =
    value_or_fault (yescrypt_hash_text password salt params) (yescrypt_make_fault password salt params)

-- ---- `$7$`

-- the text of parameters, the characters of a salt, and a hash
abbrev pub scrypt_text_of : ScryptParams → List ℕ → List ℕ → List ℕ
scrypt_text_of params salt hash =
    join_with_byte dollar ([] ∷ codes "7" ∷ (scrypt_params_text params ++ salt) ∷ crypt_field hash ∷ [])

-- the text of a password, a salt and parameters
abbrev pub scrypt_hash_text : List ℕ → List ℕ → ScryptParams → List ℕ
scrypt_hash_text password salt params =
    scrypt_text_of params salt (scrypt password salt (2 ^ params.ln) params.r params.p 32)

-- a text is that of the password for some parameters that are taken and some salt of at most 86 characters
abbrev pub IsScryptText : List ℕ → List ℕ → Type 0
IsScryptText password text =
    (params : ScryptParams) × (salt : List ℕ) × (scrypt_in_bounds params ≡ true)
    × (is_scrypt_salt salt ≡ true) × (text ≡ scrypt_hash_text password salt params)

-- the first cause that no text is made
abbrev pub scrypt_make_fault : List ℕ → List ℕ → ScryptParams → Option MakeError
scrypt_make_fault password salt params =
    first_fault
    (unless (scrypt_in_bounds params) Cost
    ∷ unless (nat_le 1 (length salt) && is_scrypt_salt salt) Salt
    ∷ unless (nat_le (length password) password_max) PasswordTooLong ∷ [])

-- the text, or that cause
unfoldable pub scrypt_made : List ℕ → List ℕ → ScryptParams → Result (List ℕ) MakeError
scrypt_made password salt params =
    value_or_fault (scrypt_hash_text password salt params) (scrypt_make_fault password salt params)

-- ---- memory

-- an error is the one that is expected; or memory was refused, where a text would have been made
abbrev pub IsMakeError : Result (List ℕ) MakeError → MakeError → Type 0
IsMakeError expected e = (expected ≡ Err e) ⊎ ((e ≡ OutOfMemory) × (is_ok expected ≡ true))
