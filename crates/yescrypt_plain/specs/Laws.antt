-- Laws over the definitions.
use Rattle.std.specs.Prelude.{◌≡◌, ◌↔◌, ◌≤◌, ℕ, true, List, Ok, length}
use Rattle.base64ct.specs.Encoding.{EachBelow}
use Rattle.phc_kdf.specs.Limits.{password_max}
use Rattle.yescrypt_plain.specs.Check.{scrypt_answer, yescrypt_answer}
use Rattle.yescrypt_plain.specs.Made.{IsScryptText, IsYescryptText, scrypt_hash_text, yescrypt_hash_text}
use Rattle.yescrypt_plain.specs.Params.{in_bounds, scrypt_in_bounds, yescrypt_params, yescrypt_params_text}
use Rattle.yescrypt_plain.specs.Text.{is_scrypt_salt}
use Rattle.yescrypt_plain.specs.declared.params.ScryptParams.{ScryptParams}
use Rattle.yescrypt_plain.specs.declared.params.YescryptParams.{YescryptParams}

-- a field is read as some parameters exactly where it is their one spelling, and they are taken
abbrev pub OneSpelling : Type 0
OneSpelling =
    (text : List ℕ) (params : YescryptParams)
    → (yescrypt_params text ≡ Ok params) ↔ ((in_bounds params ≡ true) × (text ≡ yescrypt_params_text params))

-- a password passes the check of exactly these texts `$y$`, unless it is too long
abbrev pub YescryptMatchesExactly : Type 0
YescryptMatchesExactly =
    (password text : List ℕ)
    → (yescrypt_answer password text ≡ Ok tt) ↔ ((length password ≤ password_max) × IsYescryptText password text)

-- the text `$y$` that is made of a password matches it
abbrev pub YescryptMadeMatches : Type 0
YescryptMadeMatches =
    (password salt : List ℕ) (params : YescryptParams) → in_bounds params ≡ true → 1 ≤ length salt
    → length salt ≤ 64 → EachBelow 256 salt → length password ≤ password_max
    → yescrypt_answer password (yescrypt_hash_text password salt params) ≡ Ok tt

-- a password passes the check of exactly these texts `$7$`, unless it is too long
abbrev pub ScryptMatchesExactly : Type 0
ScryptMatchesExactly =
    (password text : List ℕ)
    → (scrypt_answer password text ≡ Ok tt) ↔ ((length password ≤ password_max) × IsScryptText password text)

-- the text `$7$` that is made of a password matches it
abbrev pub ScryptMadeMatches : Type 0
ScryptMadeMatches =
    (password salt : List ℕ) (params : ScryptParams) → scrypt_in_bounds params ≡ true
    → is_scrypt_salt salt ≡ true → length password ≤ password_max
    → scrypt_answer password (scrypt_hash_text password salt params) ≡ Ok tt
