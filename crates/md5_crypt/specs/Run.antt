-- What is owed for the lines of a password file: the verdict with scrypt, where md5-crypt's texts have one too.
use Rattle.std.specs.Prelude.{ℕ, Bool, false, ◌&&◌, List, Result, Ok, Err, is_none, is_ok}
use Rattle.line_program.specs.PlainOutput.{plain_rules}
use Rattle.line_program.specs.Rules.{LineRules}
use Rattle.mcf.specs.Grammar.{mcf, Parts}
use Rattle.mcf.specs.declared.error.Error as mcf_error
use Rattle.scrypt_plain.specs.Profile as scrypt
use Rattle.stored_check.specs.Verdict.{scheme_of}
use Rattle.md5_plain.specs.Verdict.{magic_of}
use Rattle.md5_crypt.specs.Verdict.{legacy_verdict}
use Rattle.md5_crypt.specs.declared.error.LegacyError.{LegacyError}

-- the verdict on a password and a stored text, or the first cause that there is none
abbrev pub verdict_with_scrypt : List ℕ → List ℕ → Result Bool LegacyError
verdict_with_scrypt password stored = legacy_verdict scrypt.accepted scrypt.key password stored

-- the identifier of a text is none of `1`, `apr1`, `5` and `6`
abbrev pub has_other_identifier : Result Parts mcf_error.Error → Bool
has_other_identifier (Err e) = false
has_other_identifier (Ok p) = is_none (magic_of p.id) && is_none (scheme_of p.id)

-- memory may be wanting: the text is valid, and has such an identifier
abbrev pub is_costly : List ℕ → List ℕ → Bool
is_costly password stored = is_ok (verdict_with_scrypt password stored) && has_other_identifier (mcf stored)

-- the rules of a run
abbrev pub legacy_rules : LineRules
legacy_rules = plain_rules verdict_with_scrypt is_costly
