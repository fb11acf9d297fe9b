use Rattle.phc.proofs.EncodedBytes.{salt_of_text}
use Rattle.phc.proofs.salt.SaltString.to_salt.Goals as goal

pub invariant_of-result : goal.invariant_of-result
invariant_of-result c =
    let salt = salt_of_text c.as_str.result.now c.decoded.result c.as_str.ensures.valid c.decoded.ensures in
    (salt.0, salt.1)

pub returns-clause-text : goal.returns-clause-text
returns-clause-text c =
    let salt = salt_of_text c.as_str.result.now c.decoded.result c.as_str.ensures.valid c.decoded.ensures in
    rw c.as_str.ensures.text at salt.2
