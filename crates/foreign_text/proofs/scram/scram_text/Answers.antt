use Rattle.std.proofs.Common.{rules}
use Rattle.foreign_text.proofs.PaddedTexts.{joined}
use Rattle.foreign_text.proofs.scram.scram_text.Goals as goal

pub returns : goal.returns
returns c = search (rules, joined)
