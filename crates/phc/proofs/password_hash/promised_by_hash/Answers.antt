use Rattle.phc.proofs.Readable.{bytes_told}
use Rattle.phc.proofs.password_hash.promised_by_hash.Goals as goal

pub returns-in-Some : goal.returns-in-Some
returns-in-Some c =
    bytes_told 10 64 c.args.hash c.in-Some.hash c.as_bytes.result.now c.in-Some.is c.as_bytes.ensures.bytes
    c.promised_by_bytes.ensures c.as_bytes.ensures.least c.as_bytes.ensures.most
