-- PostgreSQL's texts (`rolpassword` of pg_authid; PostgreSQL 10 and later).
use Rattle.std.specs.Prelude.{ℕ, List, Err, if◌then◌else◌, codes}
use Rattle.pieces.specs.Characters.{dollar}
use Rattle.pieces.specs.Pieces.{behind, or_behind, pieces_at}
use Rattle.scram_plain.specs.declared.preparation.Preparation.TheVariants.{SaslPrep}
use Rattle.foreign_text.specs.Answers.{Answer, stored_or_unread}
use Rattle.foreign_text.specs.Fields.{in_two, two_of}
use Rattle.foreign_text.specs.Names.{begins}
use Rattle.foreign_text.specs.Scram.{scram_fields}
use Rattle.foreign_text.specs.declared.fault.ForeignFault.TheVariants.{Unread}
use Rattle.foreign_text.specs.declared.fault.Unread.TheVariants.{Md5}

-- `ROUNDS:SALT` and `STORED:SERVER`
abbrev pub postgres_halves : List ℕ → List ℕ → Answer
postgres_halves cost keys =
    in_two (λ rounds salt. in_two (λ stored server. scram_fields SaslPrep rounds salt stored server) (two_of (pieces_at 58 keys)))
    (two_of (pieces_at 58 cost))

-- the same with a `$` between them
abbrev pub postgres_scram : List ℕ → Answer
postgres_scram rest = in_two postgres_halves (two_of (pieces_at dollar rest))

-- `md5DIGEST` is a digest of MD5 over the password and the user
abbrev pub postgres_other : List ℕ → Answer
postgres_other text = if begins text (codes "md5") then Err (Unread Md5) else stored_or_unread text

-- `SCRAM-SHA-256$ROUNDS:SALT$STORED:SERVER`, of passwords that SASLprep prepares
unfoldable pub postgres : List ℕ → Answer
postgres text = or_behind postgres_scram (behind text (codes "SCRAM-SHA-256$")) (postgres_other text)
