use Rattle.base64ct.proofs.GoodBlocks.{encoding_by_blocks}
use Rattle.base64ct.proofs.laws.encoding_by_blocks.Goals as goal

pub returns : goal.returns
returns c = λ a t lawful. encoding_by_blocks a t lawful
