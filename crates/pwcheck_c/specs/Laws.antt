-- Laws over the definitions.
use Rattle.std.specs.Prelude.{◌≡◌, ℕ, false, true, List, Ok, is_ok, is_some}
use Rattle.base64ct.specs.Encoding.{EachBelow}
use Rattle.any_check.specs.Cost.{is_costly}
use Rattle.any_check.specs.Records as any
use Rattle.any_make.specs.Made.{made}
use Rattle.any_make.specs.declared.scheme.MakeCost.{MakeCost}
use Rattle.scrypt_plain.specs.Profile.{accepted, key}
use Rattle.sha_crypt.specs.Simple.{made_text}
use Rattle.sha_crypt.specs.Families.{sha256_answer, sha512_answer}
use Rattle.sha_crypt.specs.Simple.{sha256_text, sha512_text}
use Rattle.sha_crypt.specs.declared.errors.Family.{Family}
use Rattle.stored_check.specs.Verdict.{verdict}
use Rattle.pwcheck_c.specs.AnyAnswers.{any_answer, bounds_of}
use Rattle.pwcheck_c.specs.Costs.{stored_cost}
use Rattle.pwcheck_c.specs.Inputs.{is_password, scrypt_text_takes, text_takes}
use Rattle.pwcheck_c.specs.Texts.{scrypt_text}
use Rattle.pwcheck_c.specs.Verdicts.{answer, family_answer}
use Rattle.pwcheck_c.specs.declared.any.Limits.{Limits}
use Rattle.pwcheck_c.specs.declared.answer.Answer.TheVariants.{Checked}

-- the check of the family answers a text that SHA-256-crypt makes of a password with a match
abbrev pub Sha256Matches : Type 0
Sha256Matches = (password salt : List ℕ) (rounds : ℕ) → text_takes password salt rounds ≡ true
    → family_answer sha256_answer password (sha256_text password salt rounds) ≡ Checked (Ok true)

-- the same of SHA-512-crypt
abbrev pub Sha512Matches : Type 0
Sha512Matches = (password salt : List ℕ) (rounds : ℕ) → text_takes password salt rounds ≡ true
    → family_answer sha512_answer password (sha512_text password salt rounds) ≡ Checked (Ok true)

-- the check of any text answers it with a match too
abbrev pub ShaMatches : Type 0
ShaMatches = (family : Family) (password salt : List ℕ) (rounds : ℕ) → text_takes password salt rounds ≡ true
    → answer password (made_text family password salt rounds) ≡ Checked (Ok true)

-- and so it answers a text that scrypt makes, where memory is found
abbrev pub ScryptMatches : Type 0
ScryptMatches = (password salt : List ℕ) (ln r p : ℕ) → scrypt_text_takes password salt ln r p ≡ true
    → EachBelow 256 salt → answer password (scrypt_text password salt ln r p) ≡ Checked (Ok true)

-- The check of every scheme answers a text that is made of a password with a match, for every salt, within limits that the
-- cost of the text isn't above, where memory is found.
abbrev pub MadeMatches : Type 0
MadeMatches =
    (limits : Limits) (c : MakeCost) (password salt text : List ℕ) → EachBelow 256 salt → made c password salt ≡ Ok text
    → is_costly any.accepted (bounds_of limits) text ≡ false → any_answer limits password text ≡ Checked (Ok true)

-- a stored text has a cost exactly where there is a verdict on it
abbrev pub CostOfValid : Type 0
CostOfValid = (password stored : List ℕ) → is_password password ≡ true
    → is_some (stored_cost stored) ≡ is_ok (verdict accepted key password stored)
