-- The answers of the checks of a password against a stored text.
use Rattle.std.specs.Prelude.{◌≡◌, ◌⊎◌, ℕ, ◌^◌, Bool, true, false, List, length, nat_eq, nat_lt, Result, Ok, Err, if◌then◌else◌}
use Rattle.std.specs.Cmp.Lexicographic.{pointwise}
use Rattle.scrypt_plain.specs.Scrypt.{scrypt}
use Rattle.phc_kdf.specs.Limits.{password_max}
use Rattle.yescrypt_plain.specs.Text.{ScryptMeaning, YescryptMeaning, scrypt_text, yescrypt_text}
use Rattle.yescrypt_plain.specs.Yescrypt.{yescrypt}
use Rattle.yescrypt_plain.specs.declared.error.CheckError.{CheckError}
use Rattle.yescrypt_plain.specs.declared.error.CheckError.TheVariants.{InvalidFormat, PasswordTooLong, OutOfMemory, HashMismatch}
use Rattle.yescrypt_plain.specs.declared.error.TextFault.{TextFault}

-- an answer: success, or the cause that there is none
abbrev pub Answer : Type 0
Answer = Result (Unit {0}) CheckError

-- of a valid text, by whether its hash is that of the password
abbrev pub verdict : List ℕ → Bool → Answer
verdict password matches =
    if nat_lt password_max (length password) then Err PasswordTooLong
    else (if matches then Ok tt else Err HashMismatch)

-- ---- `$y$`

-- the hash is yescrypt's key for the password, and the salt and the parameters of the text
abbrev pub yescrypt_matches : List ℕ → YescryptMeaning → Bool
yescrypt_matches password m =
    pointwise nat_eq (yescrypt password m.salt m.params.ln m.params.r m.params.t) m.hash

-- the fault of the text, or the verdict
abbrev pub yescrypt_verdict : List ℕ → Result YescryptMeaning TextFault → Answer
yescrypt_verdict password (Err e) = Err (InvalidFormat e)
yescrypt_verdict password (Ok m) = verdict password (yescrypt_matches password m)

-- the same, where another test than equality of all bytes decides
abbrev pub yescrypt_verdict_by : (List ℕ → List ℕ → Bool) → List ℕ → Result YescryptMeaning TextFault → Answer
yescrypt_verdict_by same password (Err e) = Err (InvalidFormat e)
yescrypt_verdict_by same password (Ok m) =
    verdict password (same (yescrypt password m.salt m.params.ln m.params.r m.params.t) m.hash)

-- the answer for a password and a text `$y$`
unfoldable pub yescrypt_answer : List ℕ → List ℕ → Answer
yescrypt_answer password text = yescrypt_verdict password (yescrypt_text text)

-- ---- `$7$`

-- the hash is scrypt's key of 32 bytes for the password, and the salt and the parameters of the text
abbrev pub scrypt_matches : List ℕ → ScryptMeaning → Bool
scrypt_matches password m =
    pointwise nat_eq (scrypt password m.salt (2 ^ m.params.ln) m.params.r m.params.p 32) m.hash

-- the fault of the text, or the verdict
abbrev pub scrypt_verdict : List ℕ → Result ScryptMeaning TextFault → Answer
scrypt_verdict password (Err e) = Err (InvalidFormat e)
scrypt_verdict password (Ok m) = verdict password (scrypt_matches password m)

-- the same, where another test than equality of all bytes decides
abbrev pub scrypt_verdict_by : (List ℕ → List ℕ → Bool) → List ℕ → Result ScryptMeaning TextFault → Answer
scrypt_verdict_by same password (Err e) = Err (InvalidFormat e)
scrypt_verdict_by same password (Ok m) =
    verdict password (same (scrypt password m.salt (2 ^ m.params.ln) m.params.r m.params.p 32) m.hash)

-- the answer for a password and a text `$7$`
unfoldable pub scrypt_answer : List ℕ → List ℕ → Answer
scrypt_answer password text = scrypt_verdict password (scrypt_text text)

-- ---- memory

-- the text and the password had no fault, and the hash was compared
abbrev pub is_verdict : Answer → Bool
is_verdict (Ok done) = true
is_verdict (Err HashMismatch) = true
is_verdict (Err PasswordTooLong) = false
is_verdict (Err OutOfMemory) = false
is_verdict (Err (InvalidFormat fault)) = false

-- an answer is the one that is expected; or memory was refused, where the hash would have been compared
abbrev pub IsAnswer : Answer → Answer → Type 0
IsAnswer expected answer = (answer ≡ expected) ⊎ ((answer ≡ Err OutOfMemory) × (is_verdict expected ≡ true))
