use Rattle.base64ct.proofs.DecodingLaws.{decoding-Some, decoding-None, decoding_is, undecodable}
use Rattle.base64ct.proofs.laws.decoding_tells.Goals as goal

pub returns-clause-some : goal.returns-clause-some
returns-clause-some c = λ a t b lawful. ((λ h. decoding-Some a t b h), (λ h. decoding_is a t b lawful h.0 h.1))

pub returns-clause-none : goal.returns-clause-none
returns-clause-none c = λ a t lawful. ((λ h. undecodable a t lawful h), (λ h. decoding-None a t h))
