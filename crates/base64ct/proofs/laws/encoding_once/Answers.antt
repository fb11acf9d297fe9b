use Rattle.base64ct.proofs.Encodings.{encoding_once}
use Rattle.base64ct.proofs.laws.encoding_once.Goals as goal

pub returns : goal.returns
returns c = λ a b d lawful hb hd e. encoding_once a b d lawful hb hd e
