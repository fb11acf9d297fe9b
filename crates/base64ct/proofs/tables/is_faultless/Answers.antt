use Rattle.base64ct.proofs.CountedReading.{both_at_once}
use Rattle.base64ct.proofs.tables.is_faultless.Goals as goal

pub returns : goal.returns
returns c = both_at_once c.args.fault c.unwrap_u8.result c.args.passed
    (rw (← c.not-differs.ensures) c.unwrap_u8.ensures)
