-- The answer of a text by the text of bcrypt beneath.
use Rattle.std.proofs.Common.{◌≡◌, ℕ, Bool, true, false, List, refl, sym, ap, ◌∙◌, Result, Ok, Err}
use Rattle.std.specs.Prelude.{◌↔◌, is_ok, if◌then◌else◌}
use Rattle.bcrypt_plain.specs.Check.{bcrypt_answer, has_zero, hash_matches, is_verdict, parts_answer}
use Rattle.bcrypt_plain.specs.Made.{IsHashText}
use Rattle.bcrypt_plain.specs.Text.{Parts, parts_cost, text_parts}
use Rattle.bcrypt_plain.specs.declared.error.BcryptError.{BcryptError}
use Rattle.bcrypt_plain.specs.declared.error.BcryptError.TheVariants.{HashMismatch, InvalidFormat}
use Rattle.bcrypt_plain.specs.declared.error.BcryptFault.{BcryptFault}
use Rattle.bcrypt_plain.proofs.ReadTexts as of_bcrypt
use Rattle.bcrypt_digest.specs.Check.{answer_of, cost_of, digest_answer, digest_cost, digest_text, salt_of, under_answer}
use Rattle.bcrypt_digest.specs.Laws.{MatchesExactly, VerdictWhereCost}
use Rattle.bcrypt_digest.specs.Text.{digest_parts}
use Rattle.bcrypt_digest.specs.declared.text.DigestParts.{DigestParts}
use Rattle.bcrypt_digest.proofs.FrontTexts.{all_bytes_count}

no_zero : (p : DigestParts) (password : List ℕ) → has_zero (digest_text p password) ≡ false
no_zero p password = (all_bytes_count p.front (salt_of p.under) password).1

-- ---- a verdict where there is a cost

compared : (same : Bool) → is_verdict (if same then Ok tt else Err HashMismatch) ≡ true
compared true = refl
compared false = refl

by_bcrypt : (password : List ℕ) → has_zero password ≡ false → (r : Result Parts BcryptFault)
    → is_verdict (parts_answer password r) ≡ is_ok (parts_cost r)
by_bcrypt password none (Err e) = refl
by_bcrypt password none (Ok q) = rw none (compared (hash_matches password q))

by_parts : (password : List ℕ) (r : Result DigestParts BcryptFault) → is_verdict (answer_of password r) ≡ is_ok (cost_of r)
unfolding bcrypt_answer
by_parts password (Err e) = refl
by_parts password (Ok p) = by_bcrypt (digest_text p password) (no_zero p password) (text_parts p.under)

pub verdict_where_cost : VerdictWhereCost
unfolding digest_answer digest_cost
verdict_where_cost password text = by_parts password (digest_parts text)

-- ---- a match of exactly the texts of the hash

-- the text of bcrypt beneath is one of the hash of the password's digest
abbrev IsHashed : List ℕ → List ℕ → Type 0
IsHashed password text = (p : DigestParts) × (digest_parts text ≡ Ok p) × IsHashText (digest_text p password) p.under

abbrev success : Result (Unit {0}) BcryptError
success = Ok tt

no_success : (e : BcryptFault) → Err (InvalidFormat e) ≡ success → ⊥
no_success e h = cc

passed_by : (password text : List ℕ) (r : Result DigestParts BcryptFault) → digest_parts text ≡ r
    → answer_of password r ≡ Ok tt → IsHashed password text
passed_by password text (Err e) is h = absurd (no_success e h)
passed_by password text (Ok p) is h =
    (p, is, ((of_bcrypt.matches_exactly (digest_text p password) p.under).0 h).1)

passed : (password text : List ℕ) → digest_answer password text ≡ Ok tt → IsHashed password text
unfolding digest_answer
passed password text h = passed_by password text (digest_parts text) refl h

passes : (password text : List ℕ) → IsHashed password text → digest_answer password text ≡ Ok tt
unfolding digest_answer
passes password text h =
    ap (answer_of password) h.1
    ∙ (of_bcrypt.matches_exactly (digest_text h.0 password) h.0.under).1 (no_zero h.0 password, h.2)

pub matches_exactly : MatchesExactly
matches_exactly password text = (passed password text, passes password text)
