use Rattle.std.proofs.Common.{◌≡◌, Bool, true, false, Ok, sym}
use Rattle.std.specs.Prelude.{IsTrue}
use Rattle.std.proofs.lemmas.Bool.{false≢true}
use Rattle.phc.specs.Record.{IsRecord, is_printable, phc_text, record_text}
use Rattle.phc.specs.declared.password_hash.PasswordHash.{PasswordHash}
use Rattle.phc.proofs.ParsedBack.{parses_back}
use Rattle.phc.proofs.password_hash.PasswordHash.is_printable.Goals as goal

by_answer : (r : PasswordHash) (answer : Bool) → IsRecord r → answer ≡ is_printable r → IsTrue answer
    → phc_text (record_text r) ≡ Ok r
by_answer r true valid is h = parses_back r valid (sym is)
by_answer r false valid is h = absurd (false≢true h)

pub returns-clause-parses_back : goal.returns-clause-parses_back
returns-clause-parses_back c =
    by_answer c.args.self.now c.has_printable_parts.result c.promised_by_parts.ensures c.has_printable_parts.ensures
