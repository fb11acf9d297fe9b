use Rattle.phc.proofs.Readable.{bytes_told}
use Rattle.phc.proofs.password_hash.promised_by_salt.Goals as goal

pub returns-in-Some : goal.returns-in-Some
returns-in-Some c =
    bytes_told 8 48 c.args.salt c.in-Some.salt c.as_bytes.result.now c.in-Some.is c.as_bytes.ensures.bytes
    c.promised_by_bytes.ensures c.as_bytes.ensures.least c.as_bytes.ensures.most
