use Rattle.line_filter.proofs.Passed.{none_begin}
use Rattle.line_filter.proofs.passing.begin_none.Goals as goal

pub returns : goal.returns
returns c = record { free = λ none. none_begin c.args.bytes.now c.args.i c.requires.room none }
