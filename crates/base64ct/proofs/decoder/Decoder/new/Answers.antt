use Rattle.std.proofs.Common.{◌≡◌, arith, Some}
use Rattle.base64ct.specs.Wrapping.{characters_from, without_end}
use Rattle.base64ct.proofs.Firsts.{one_line}
use Rattle.base64ct.proofs.Ends.{end_short}
use Rattle.base64ct.proofs.decoder.Decoder.new.Goals as goal

pub returns-clause-answer : goal.returns-clause-answer
returns-clause-answer g c = λ not.
    let same : characters_from 18446744073709551615 18446744073709551615 (without_end c.args.input.now)
    ≡ Some (without_end c.args.input.now) =
    one_line 18446744073709551615 18446744073709551615 (without_end c.args.input.now)
    (omega (arith, end_short c.args.input.now)) in
    rw (← same) (c.new_wrapped.ensures.answer not (omega arith))
