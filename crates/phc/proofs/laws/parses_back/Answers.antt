use Rattle.std.proofs.Common.{sym, ◌∙◌}
use Rattle.std.proofs.lemmas.Bool.{false≢true}
use Rattle.phc.specs.Record.{record_text}
use Rattle.phc.proofs.ParsedBack.{parses_back}
use Rattle.phc.proofs.Readable.{read_is}
use Rattle.phc.proofs.laws.parses_back.Goals as goal

pub returns : goal.returns
returns c = record {
  printable = parses_back;
  other = λ r other same. false≢true (sym other ∙ (read_is (record_text r) r same).printable);
}
