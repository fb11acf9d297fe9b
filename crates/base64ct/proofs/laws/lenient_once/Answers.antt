use Rattle.base64ct.proofs.CountedAnswers.{lenient_once}
use Rattle.base64ct.proofs.laws.lenient_once.Goals as goal

pub returns : goal.returns
returns c = λ a t b d lawful hb hd. lenient_once a t b d lawful hb hd
