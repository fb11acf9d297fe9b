-- Want of memory is told apart from the verdicts of `check_stored`.
use Rattle.std.proofs.Common.{◌≡◌, ℕ, Bool, true, List, sym, ◌∙◌, inl, inr, Result, Ok, Err}
use Rattle.std.specs.Prelude.{OnErr}
use Rattle.scrypt_plain.specs.Profile.{accepted, key}
use Rattle.stored_check.specs.Verdict.{IsVerdict}
use Rattle.stored_check.specs.declared.error.StoredError.{StoredError}
use Rattle.stored_check.specs.declared.error.StoredError.TheVariants.{OutOfMemory}
use Rattle.stored_check.proofs.Causes.{never_memory}
use Rattle.pw_file.specs.StoredTexts.{may_lack, verdict_on}

-- an answer that says of want of memory is no verdict
pub want_is_lack : (password text : List ℕ) (answer : Result Bool StoredError)
    → IsVerdict (verdict_on password text) (may_lack password text) answer → answer ≡ Err OutOfMemory
    → may_lack password text ≡ true
want_is_lack password text answer (inl is) want = absurd (never_memory accepted key password text (sym is ∙ want))
want_is_lack password text answer (inr (is, may)) want = may

pub wants : {E : Type 0} → (password text : List ℕ) (answer : Result Bool StoredError)
    (told : Result (Result Bool StoredError) E)
    → IsVerdict (verdict_on password text) (may_lack password text) answer
    → OnErr told (answer ≡ Err OutOfMemory) → OnErr told (may_lack password text ≡ true)
wants password text answer (Ok a) is want = tt
wants password text answer (Err e) is want = want_is_lack password text answer is want
