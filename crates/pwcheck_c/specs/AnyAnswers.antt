-- The answers to a password and a stored text of every scheme, as bytes.
use Rattle.std.specs.Prelude.{◌≡◌, ◌≢◌, ◌⊎◌, ℕ, Bool, true, false, List, Some, Result, Ok, Err, if◌then◌else◌}
use Rattle.stored_check.specs.declared.error.StoredError.TheVariants.{OutOfMemory}
use Rattle.any_check.specs.Given.{given_may_lack, given_verdict}
use Rattle.any_check.specs.Numbers.{of_cost, of_ln_r_p, of_ln_r_t, of_m_t_p, of_rounds}
use Rattle.any_check.specs.Table.{any_word}
use Rattle.any_check.specs.declared.numbers.SchemeCosts.{SchemeCosts}
use Rattle.any_check.specs.declared.error.AnyError.{AnyError}
use Rattle.any_check.specs.declared.error.AnyError.TheVariants as of_any
use Rattle.pwcheck_c.specs.Answers.{answer_word, cause_answer}
use Rattle.pwcheck_c.specs.Verdicts.{are_text}
use Rattle.pwcheck_c.specs.declared.any.Limits.{Limits}
use Rattle.pwcheck_c.specs.declared.answer.Answer.{Answer}
use Rattle.pwcheck_c.specs.declared.answer.Answer.TheVariants.{Checked, NotText}

-- ---- a password and a stored text

-- the bounds by the families of `any_check`: one on PBKDF2 with each hash function
abbrev pub bounds_of : Limits → SchemeCosts
bounds_of l = record {
  sha_crypt = of_rounds l.sha_rounds;
  bcrypt = of_cost l.bcrypt_cost;
  yescrypt = of_ln_r_t l.yescrypt_ln l.yescrypt_r l.yescrypt_t;
  scrypt = of_ln_r_p l.scrypt_ln l.scrypt_r l.scrypt_p;
  pbkdf2_sha256 = of_rounds l.pbkdf2_rounds;
  pbkdf2_sha512 = of_rounds l.pbkdf2_rounds;
  argon2 = of_m_t_p l.argon2_memory l.argon2_passes l.argon2_lanes;
}

-- the verdict on two texts, or the first cause that there is none
abbrev pub text_answer : Limits → List ℕ → List ℕ → Answer
text_answer limits password stored = cause_answer (given_verdict (Some (bounds_of limits)) password stored)

-- the same of two lists of bytes
unfoldable pub any_answer : Limits → List ℕ → List ℕ → Answer
any_answer limits password stored = if are_text password stored then text_answer limits password stored else NotText

-- memory may be wanting
unfoldable pub any_may_lack : Limits → List ℕ → List ℕ → Bool
any_may_lack limits password stored =
    if are_text password stored then given_may_lack (Some (bounds_of limits)) password stored else false

-- an answer is that one; or want of memory, where that may be
abbrev pub IsAnyAnswer : Limits → List ℕ → List ℕ → Answer → Type 0
IsAnyAnswer limits password stored a =
    (a ≡ any_answer limits password stored)
    ⊎ ((a ≡ Checked (Err OutOfMemory)) × (any_may_lack limits password stored ≡ true))

-- the same of two texts
abbrev pub IsTextAnswer : Limits → List ℕ → List ℕ → Answer → Type 0
IsTextAnswer limits password stored a =
    (a ≡ text_answer limits password stored)
    ⊎ ((a ≡ Checked (Err OutOfMemory)) × (given_may_lack (Some (bounds_of limits)) password stored ≡ true))

-- ---- a law: the word of an answer is the word of `any_check`, but for want of memory and a cost above the bound

abbrev pub HasAnyWord : Type 0
HasAnyWord =
    (r : Result Bool AnyError) → r ≢ Err (of_any.Stored OutOfMemory) → r ≢ Err of_any.TooCostly
    → answer_word (cause_answer r) ≡ any_word r
