use Rattle.std.proofs.Common.{arith}
use Rattle.base64ct.proofs.Padding.{one_counted}
use Rattle.pwcheck_c.proofs.lengths.count_padding.Goals as goal

pub returns-in-len1-clause-count : goal.returns-in-len1-clause-count
returns-in-len1-clause-count c = one_counted c.args.src.now c.from.result (omega arith) c.from.ensures
