use Rattle.phc.proofs.EncodedBytes.{salt_utf8}
use Rattle.phc.proofs.salt.SaltString.as_str.Goals as goal

pub from_utf8_unchecked-requires : goal.from_utf8_unchecked-requires
from_utf8_unchecked-requires c = rw c.as_slice.ensures.value (salt_utf8 _ c.self.invariant)
