use Rattle.std.proofs.Common.{◌==◌, ◌∙◌, rules, arith}
use Rattle.subtle.proofs.SignBits.{sign_equal, bit_at_most_one, bit_tells}
use Rattle.subtle.proofs.equal.U32ConstantTimeEq.ct_eq.Goals as goal

pub overflow_cast-sign : goal.overflow_cast-sign
overflow_cast-sign c = let small =
    bit_at_most_one (c.args.self.now == c.args.other.now) _
    (sign_equal 31 c.args.self.now c.args.other.now (search rules) (search rules)) in omega (arith, small)

pub from_u8-requires : goal.from_u8-requires
from_u8-requires c = bit_at_most_one (c.args.self.now == c.args.other.now) _
    (sign_equal 31 c.args.self.now c.args.other.now (search rules) (search rules))

pub returns : goal.returns
returns c = c.from_u8.ensures
    ∙ bit_tells (c.args.self.now == c.args.other.now) _
    (sign_equal 31 c.args.self.now c.args.other.now (search rules) (search rules))
