use Rattle.std.proofs.Common.{rules}
use Rattle.sha_crypt.proofs.fields.fields_in_range.Goals as goal

pub returns-then-rounds-lt-ROUNDS_MIN : goal.returns-then-rounds-lt-ROUNDS_MIN
returns-then-rounds-lt-ROUNDS_MIN c = search rules
