-- Jenkins's texts, `passwordHash` of a user's config.xml (hudson.security.HudsonPrivateSecurityRealm).
use Rattle.std.specs.Prelude.{ℕ, List, codes}
use Rattle.pieces.specs.Characters.{dollar}
use Rattle.pieces.specs.Pieces.{behind, or_behind, pieces_at}
use Rattle.foreign_text.specs.Answers.{Answer, as_it_is, stored_or_unread}
use Rattle.foreign_text.specs.Characters.{colon}
use Rattle.foreign_text.specs.Fields.{in_two, pbkdf2_cost, small_hex, two_of}
use Rattle.foreign_text.specs.Records.{with_kdf}
use Rattle.foreign_text.specs.declared.kdf.Pbkdf2Hash.TheVariants.{Sha512}

-- rounds and a salt, and a key: both in hexadecimal digits with small letters
abbrev pub jenkins_fields : List ℕ → List ℕ → List ℕ → Answer
jenkins_fields key rounds salt = with_kdf (pbkdf2_cost Sha512 rounds) (small_hex salt) (small_hex key)

abbrev pub jenkins_halves : List ℕ → List ℕ → Answer
jenkins_halves cost key = in_two (jenkins_fields key) (two_of (pieces_at colon cost))

-- `ROUNDS:SALT$KEY`
abbrev pub jenkins_pbkdf2 : List ℕ → Answer
jenkins_pbkdf2 rest = in_two jenkins_halves (two_of (pieces_at dollar rest))

-- `#jbcrypt:$2a$..`; `$PBKDF2$HMACSHA512:ROUNDS:SALT$KEY` where it runs by the rules of FIPS 140
unfoldable pub jenkins : List ℕ → Answer
jenkins text =
    or_behind (as_it_is (codes "$2")) (behind text (codes "#jbcrypt:"))
    (or_behind jenkins_pbkdf2 (behind text (codes "$PBKDF2$HMACSHA512:")) (stored_or_unread text))
