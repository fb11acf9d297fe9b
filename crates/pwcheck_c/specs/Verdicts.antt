-- The answers to a password and a stored text, as bytes.
use Rattle.std.specs.Prelude.{◌≡◌, ◌⊎◌, ℕ, Bool, true, ◌&&◌, if◌then◌else◌, List, Result, Err}
use Rattle.std.specs.Str.{is_utf8}
use Rattle.scrypt_plain.specs.Profile.{accepted, key, needs_memory}
use Rattle.sha_crypt.specs.declared.errors.CheckError.{CheckError}
use Rattle.sha_crypt.specs.declared.errors.CheckError.TheVariants.{InvalidFormat}
use Rattle.sha_crypt.specs.declared.errors.FormatFault.TheVariants.{NoDollar, WrongId}
use Rattle.stored_check.specs.Verdict.{may_lack_memory, sha_verdict, verdict}
use Rattle.stored_check.specs.declared.error.StoredError.TheVariants.{OutOfMemory, PasswordTooLong}
use Rattle.pwcheck_c.specs.Inputs.{is_password}
use Rattle.pwcheck_c.specs.declared.answer.Answer.{Answer}
use Rattle.pwcheck_c.specs.declared.answer.Answer.TheVariants.{NotText, OtherIdentifier, Checked}

-- both are UTF-8
abbrev pub are_text : List ℕ → List ℕ → Bool
are_text password stored = is_utf8 password && is_utf8 stored

-- ---- any stored text

-- the verdict, or the first cause that there is none
unfoldable pub answer : List ℕ → List ℕ → Answer
answer password stored = if are_text password stored then Checked (verdict accepted key password stored) else NotText

-- both are UTF-8, the stored text is valid, its identifier is neither `5` nor `6`
unfoldable pub may_lack : List ℕ → List ℕ → Bool
may_lack password stored = are_text password stored && may_lack_memory accepted needs_memory key password stored

-- an answer is that of the two; or want of memory, where that may be
abbrev pub IsAnswer : List ℕ → List ℕ → Answer → Type 0
IsAnswer password stored a =
    (a ≡ answer password stored) ⊎ ((a ≡ Checked (Err OutOfMemory)) × (may_lack password stored ≡ true))

-- ---- a text of one family of SHA-crypt

-- by what the check of the family says
abbrev pub of_family : Result (Unit {0}) CheckError → Answer
of_family (Err (InvalidFormat NoDollar)) = OtherIdentifier
of_family (Err (InvalidFormat (WrongId family))) = OtherIdentifier
of_family checked = Checked (sha_verdict checked)

-- the answer of a family's check to two texts, for a password of at most 4,096 bytes
abbrev pub short_answer : (List ℕ → List ℕ → Result (Unit {0}) CheckError) → List ℕ → List ℕ → Answer
short_answer check password stored =
    if is_password password then of_family (check password stored) else Checked (Err PasswordTooLong)

-- the answer of a family's check, whose causes stand in the order of `answer`
unfoldable pub family_answer : (List ℕ → List ℕ → Result (Unit {0}) CheckError) → List ℕ → List ℕ → Answer
family_answer check password stored =
    if are_text password stored then short_answer check password stored else NotText
