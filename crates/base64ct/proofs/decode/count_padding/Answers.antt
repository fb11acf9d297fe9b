use Rattle.std.proofs.Common.{arith}
use Rattle.base64ct.proofs.Padding.{one_counted}
use Rattle.base64ct.proofs.decode.count_padding.Goals as goal

pub returns-in-len1 : goal.returns-in-len1
returns-in-len1 c = one_counted c.args.src.now c.from.result (omega arith) c.from.ensures
