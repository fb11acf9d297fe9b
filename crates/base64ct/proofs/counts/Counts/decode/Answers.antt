use Rattle.std.proofs.Common.{refl}
use Rattle.base64ct.proofs.counts.Counts.decode.Goals as goal

pub returns-clause-answer : goal.returns-clause-answer
returns-clause-answer g c = λ ok room.
    let equal = rw (c.padded.ensures, c.low_first.ensures) at c.decode_with-answer.ensures.equal in
    equal (λ x y. refl) ok room

pub returns-clause-decoded : goal.returns-clause-decoded
returns-clause-decoded g c = λ room.
    let decoded = rw (c.padded.ensures, c.low_first.ensures) at c.decode_with-answer.ensures.decoded in
    decoded (λ x y. refl) room
