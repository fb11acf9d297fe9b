use Rattle.set_lines.specs.Sets.{set_of}
use Rattle.store_run.proofs.Refused.{no_command, refused_rows, refused_word}
use Rattle.store_run.proofs.laws.no_user_no_change.Goals as goal

pub returns : goal.returns
returns c = record {
  command = no_command;
  change = λ r s line none. (
    refused_rows r s (set_of line) (no_command r line none),
    refused_word r s (set_of line) (no_command r line none),
  );
}
