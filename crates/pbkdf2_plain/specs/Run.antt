-- What is owed for the lines of a password file: scrypt's verdict for the identifier `scrypt`, else
-- that of PBKDF2 with SHA-256.
use Rattle.std.specs.Prelude.{ℕ, Bool, ◌&&◌, List, codes, Result, is_ok}
use Rattle.line_program.specs.PlainOutput.{plain_rules}
use Rattle.line_program.specs.Rules.{LineRules}
use Rattle.mcf.specs.Grammar.{mcf}
use Rattle.scrypt_plain.specs.Profile as scrypt
use Rattle.stored_check.specs.Verdict.{verdict}
use Rattle.stored_check.specs.declared.error.StoredError.{StoredError}
use Rattle.phc_kdf.specs.Either.{Accepted, Tag, either_accepted, either_tag}
use Rattle.pbkdf2_key.specs.Profile.{pbkdf2_accepts, pbkdf2_key}
use Rattle.pbkdf2_plain.specs.Laws.{has_identifier}
use Rattle.pbkdf2_key.specs.declared.profile.Pbkdf2Hash.TheVariants.{Sha256}

-- the records that are taken
abbrev pub accepted : Accepted
accepted = either_accepted (codes "scrypt") scrypt.accepted (λ parsed salt n. pbkdf2_accepts Sha256 parsed n)

-- and their keys
abbrev pub tag : Tag
tag = either_tag (codes "scrypt") scrypt.key (λ password parsed salt n. pbkdf2_key Sha256 password parsed salt n)

-- the verdict on a password and a stored text, or the first cause that there is none
abbrev pub verdict_of_either : List ℕ → List ℕ → Result Bool StoredError
verdict_of_either password stored = verdict accepted tag password stored

-- memory may be wanting: the text is valid, and its identifier is `scrypt`
abbrev pub is_costly : List ℕ → List ℕ → Bool
is_costly password stored = is_ok (verdict_of_either password stored) && has_identifier (codes "scrypt") (mcf stored)

-- the rules of a run
abbrev pub either_rules : LineRules
either_rules = plain_rules verdict_of_either is_costly
