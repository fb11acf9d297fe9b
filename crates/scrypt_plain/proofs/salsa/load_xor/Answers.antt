use Rattle.std.proofs.Common.{ap₂, ◌∙◌}
use Rattle.word_lists.specs.Lists.{xor_bytes}
use Rattle.scrypt_plain.proofs.salsa.load_xor.Goals as goal

pub returns : goal.returns
returns c = c.xor_blocks.ensures ∙ ap₂ xor_bytes c.load.ensures c.load-2.ensures
