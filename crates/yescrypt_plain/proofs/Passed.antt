-- Which passwords pass a check, where memory is not refused.
use Rattle.std.proofs.Common.{◌≡◌, ℕ, ◌≤◌, List, length, sym, subst, inl, inr, Ok, Err}
use Rattle.std.specs.Prelude.{◌↔◌}
use Rattle.phc_kdf.specs.Limits.{password_max}
use Rattle.yescrypt_plain.specs.Check.{Answer, IsAnswer, scrypt_answer, yescrypt_answer}
use Rattle.yescrypt_plain.specs.Made.{IsScryptText, IsYescryptText}
use Rattle.yescrypt_plain.specs.declared.error.CheckError.TheVariants.{OutOfMemory}
use Rattle.yescrypt_plain.proofs.ScryptTexts.{scrypt_matches_exactly}
use Rattle.yescrypt_plain.proofs.YescryptTexts.{yescrypt_matches_exactly}

answered : (P : Type 0) (expected answer : Answer) → IsAnswer expected answer → (answer ≡ Err OutOfMemory → ⊥)
    → (expected ≡ Ok tt) ↔ P → (answer ≡ Ok tt) ↔ P
answered P expected answer is memory h = elim is [
  | inl same ↦ subst (λ (r : Answer). (r ≡ Ok tt) ↔ P) (sym same) h
  | inr refused ↦ absurd (memory refused.0)
]

pub yescrypt_passed : (password text : List ℕ) (answer : Answer) → IsAnswer (yescrypt_answer password text) answer
    → (answer ≡ Err OutOfMemory → ⊥)
    → (answer ≡ Ok tt) ↔ ((length password ≤ password_max) × IsYescryptText password text)
yescrypt_passed password text answer is memory =
    answered ((length password ≤ password_max) × IsYescryptText password text) (yescrypt_answer password text) answer is
    memory (yescrypt_matches_exactly password text)

pub scrypt_passed : (password text : List ℕ) (answer : Answer) → IsAnswer (scrypt_answer password text) answer
    → (answer ≡ Err OutOfMemory → ⊥)
    → (answer ≡ Ok tt) ↔ ((length password ≤ password_max) × IsScryptText password text)
scrypt_passed password text answer is memory =
    answered ((length password ≤ password_max) × IsScryptText password text) (scrypt_answer password text) answer is
    memory (scrypt_matches_exactly password text)
