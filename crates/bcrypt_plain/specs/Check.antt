-- The answer of a check of a password against a stored text.
use Rattle.std.specs.Prelude.{ℕ, ◌==◌, Bool, true, false, List, nat_eq, Result, Ok, Err, if◌then◌else◌}
use Rattle.std.specs.Cmp.Lexicographic.{pointwise}
use Rattle.std.specs.List.{list_any}
use Rattle.bcrypt_plain.specs.Bcrypt.{bcrypt}
use Rattle.bcrypt_plain.specs.Text.{Parts, text_parts}
use Rattle.bcrypt_plain.specs.declared.error.BcryptError.{BcryptError}
use Rattle.bcrypt_plain.specs.declared.error.BcryptError.TheVariants.{InvalidFormat, ZeroByte, HashMismatch}
use Rattle.bcrypt_plain.specs.declared.error.BcryptFault.{BcryptFault}

-- a zero byte stands in a password
abbrev pub has_zero : List ℕ → Bool
has_zero password = list_any (λ c. c == 0) password

-- the hash of a text is that of the password, for the cost and the salt of the text
abbrev pub hash_matches : List ℕ → Parts → Bool
hash_matches password p = pointwise nat_eq (bcrypt password p.salt p.cost) p.hash

-- the fault of the text; or that of the password; or whether the hash matches
abbrev pub parts_answer : List ℕ → Result Parts BcryptFault → Result (Unit {0}) BcryptError
parts_answer password (Err e) = Err (InvalidFormat e)
parts_answer password (Ok p) =
    if has_zero password then Err ZeroByte else (if hash_matches password p then Ok tt else Err HashMismatch)

-- the same, where another test than equality of all bytes decides
abbrev pub answer_by : (List ℕ → List ℕ → Bool) → List ℕ → Result Parts BcryptFault → Result (Unit {0}) BcryptError
answer_by same password (Err e) = Err (InvalidFormat e)
answer_by same password (Ok p) =
    if has_zero password then Err ZeroByte
    else (if same (bcrypt password p.salt p.cost) p.hash then Ok tt else Err HashMismatch)

-- the answer for a password and a stored text
unfoldable pub bcrypt_answer : List ℕ → List ℕ → Result (Unit {0}) BcryptError
bcrypt_answer password text = parts_answer password (text_parts text)

-- the text and the password had no fault, and the hash was compared
abbrev pub is_verdict : Result (Unit {0}) BcryptError → Bool
is_verdict (Ok done) = true
is_verdict (Err HashMismatch) = true
is_verdict (Err ZeroByte) = false
is_verdict (Err (InvalidFormat fault)) = false
