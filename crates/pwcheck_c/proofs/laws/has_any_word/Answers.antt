use Rattle.pwcheck_c.proofs.AnyWords.{any_words}
use Rattle.pwcheck_c.proofs.laws.has_any_word.Goals as goal

pub returns : goal.returns
returns c = record { words = any_words }
