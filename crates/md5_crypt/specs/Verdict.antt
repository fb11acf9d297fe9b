-- The verdict where the identifiers `1` and `apr1` are md5-crypt's.
use Rattle.std.specs.Prelude.{◌≡◌, ◌⊎◌, ℕ, ◌&&◌, Bool, true, false, List, nat_lt, length, Option, Some, None, is_none}
use Rattle.std.specs.Prelude.{Result, Ok, Err, if◌then◌else◌}
use Rattle.mcf.specs.Grammar.{mcf, Parts}
use Rattle.mcf.specs.declared.error.Error as mcf_error
use Rattle.phc.specs.declared.password_hash.PasswordHash.{PasswordHash}
use Rattle.md5_plain.specs.Verdict.{magic_of, md5_verdict}
use Rattle.md5_plain.specs.declared.magic.Magic.{Magic}
use Rattle.md5_plain.specs.declared.error.Md5Fault.{Md5Fault}
use Rattle.phc_kdf.specs.Limits.{password_max}
use Rattle.stored_check.specs.Verdict.{mcf_name, may_lack_memory, verdict}
use Rattle.stored_check.specs.declared.error.StoredError.{StoredError}
use Rattle.stored_check.specs.declared.error.StoredError.TheVariants.{PasswordTooLong, Mcf, OutOfMemory}
use Rattle.md5_crypt.specs.declared.error.LegacyError.{LegacyError}
use Rattle.md5_crypt.specs.declared.error.LegacyError.TheVariants.{Md5, Stored}

-- the verdict of md5-crypt's texts
abbrev pub md5_answer : Result Bool Md5Fault → Result Bool LegacyError
md5_answer (Err e) = Err (Md5 e)
md5_answer (Ok b) = Ok b

-- a verdict on other texts
abbrev pub stored_answer : Result Bool StoredError → Result Bool LegacyError
stored_answer (Err e) = Err (Stored e)
stored_answer (Ok b) = Ok b

-- By the meanings of a key derivation, for other texts.
module _ (accepted : PasswordHash → List ℕ → ℕ → Bool) (tag : List ℕ → PasswordHash → List ℕ → ℕ → List ℕ) where
  -- by the magic of the identifier
  abbrev pub legacy_parts_answer : List ℕ → List ℕ → Option Magic → Parts → Result Bool LegacyError
  legacy_parts_answer password stored (Some magic) p = md5_answer (md5_verdict magic password p.fields)
  legacy_parts_answer password stored None p = stored_answer (verdict accepted tag password stored)

  -- by what the modular crypt format says of the text
  abbrev pub legacy_text_answer : List ℕ → List ℕ → Result Parts mcf_error.Error → Result Bool LegacyError
  legacy_text_answer password stored (Err e) = Err (Stored (Mcf (mcf_name e)))
  legacy_text_answer password stored (Ok p) = legacy_parts_answer password stored (magic_of p.id) p

  -- the verdict on a password and a stored text, or the first cause that there is none
  unfoldable pub legacy_verdict : List ℕ → List ℕ → Result Bool LegacyError
  legacy_verdict password stored =
      if nat_lt password_max (length password) then Err (Stored PasswordTooLong)
      else legacy_text_answer password stored (mcf stored)

-- ---- want of memory

-- the text has an identifier without a magic
abbrev pub is_other : Result Parts mcf_error.Error → Bool
is_other (Err e) = false
is_other (Ok p) = is_none (magic_of p.id)

-- the text is valid, its identifier is none of the four of md5-crypt and SHA-crypt, and the derivation may need memory
-- for its record
unfoldable pub legacy_may_lack : (PasswordHash → List ℕ → ℕ → Bool) → (PasswordHash → Bool)
    → (List ℕ → PasswordHash → List ℕ → ℕ → List ℕ) → List ℕ → List ℕ → Bool
legacy_may_lack accepted needs_memory tag password stored =
    is_other (mcf stored) && may_lack_memory accepted needs_memory tag password stored

-- the answer is the verdict; or want of memory, where that may be
abbrev pub IsLegacyVerdict : Result Bool LegacyError → Bool → Result Bool LegacyError → Type 0
IsLegacyVerdict verdict may_lack answer = (answer ≡ verdict) ⊎ ((answer ≡ Err (Stored OutOfMemory)) × (may_lack ≡ true))
