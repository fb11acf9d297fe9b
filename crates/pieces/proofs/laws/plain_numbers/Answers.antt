use Rattle.std.proofs.Common.{sym}
use Rattle.pieces.proofs.PlainNumbers.{decimal_back, decimal_read, found}
use Rattle.pieces.proofs.laws.plain_numbers.Goals as goal

pub returns : goal.returns
returns c = record {
  texts = λ bound n s within. (
    (λ h. ((found bound s n h).below, sym (decimal_back bound s n within h))),
    λ h. rw h.1 (decimal_read bound n within h.0),
  );
}
