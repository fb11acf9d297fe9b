-- The answer of a check: that of bcrypt for the text beneath, on the text of the password's digest.
use Rattle.std.specs.Prelude.{ℕ, List, take, drop, Result, Ok, Err}
use Rattle.bcrypt_plain.specs.Check.{bcrypt_answer}
use Rattle.bcrypt_plain.specs.Text.{text_cost}
use Rattle.bcrypt_plain.specs.declared.error.BcryptError.{BcryptError}
use Rattle.bcrypt_plain.specs.declared.error.BcryptError.TheVariants.{InvalidFormat}
use Rattle.bcrypt_plain.specs.declared.error.BcryptFault.{BcryptFault}
use Rattle.bcrypt_digest.specs.Front.{front_text}
use Rattle.bcrypt_digest.specs.Text.{digest_parts}
use Rattle.bcrypt_digest.specs.declared.text.DigestParts.{DigestParts}

-- the 22 characters of the salt in a text of bcrypt, behind `$2b$12$`
abbrev pub salt_of : List ℕ → List ℕ
salt_of under = take 22 (drop 7 under)

-- what bcrypt gets for a password
abbrev pub digest_text : DigestParts → List ℕ → List ℕ
digest_text l password = front_text l.front (salt_of l.under) password

-- the answer for a password and the text beneath
abbrev pub under_answer : List ℕ → DigestParts → Result (Unit {0}) BcryptError
under_answer password l = bcrypt_answer (digest_text l password) l.under

abbrev pub answer_of : List ℕ → Result DigestParts BcryptFault → Result (Unit {0}) BcryptError
answer_of password (Err e) = Err (InvalidFormat e)
answer_of password (Ok l) = under_answer password l

-- the answer for a password and a stored text, or the first fault of the text
unfoldable pub digest_answer : List ℕ → List ℕ → Result (Unit {0}) BcryptError
digest_answer password text = answer_of password (digest_parts text)

-- the cost of the text beneath
abbrev pub under_cost : DigestParts → Result ℕ BcryptFault
under_cost l = text_cost l.under

abbrev pub cost_of : Result DigestParts BcryptFault → Result ℕ BcryptFault
cost_of (Err e) = Err e
cost_of (Ok l) = under_cost l

-- the cost that a valid text names, or the first fault
unfoldable pub digest_cost : List ℕ → Result ℕ BcryptFault
digest_cost text = cost_of (digest_parts text)
