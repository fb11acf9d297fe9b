use Rattle.std.proofs.Common.{◌==◌, ◌∙◌, rules}
use Rattle.subtle.proofs.SignBits.{sign_equal, bit_at_most_one, bit_tells}
use Rattle.subtle.proofs.equal.U8ConstantTimeEq.ct_eq.Goals as goal

pub from_u8-requires : goal.from_u8-requires
from_u8-requires c = bit_at_most_one (c.args.self.now == c.args.other.now) _
    (sign_equal 7 c.args.self.now c.args.other.now (search rules) (search rules))

pub returns : goal.returns
returns c = c.from_u8.ensures
    ∙ bit_tells (c.args.self.now == c.args.other.now) _
    (sign_equal 7 c.args.self.now c.args.other.now (search rules) (search rules))
