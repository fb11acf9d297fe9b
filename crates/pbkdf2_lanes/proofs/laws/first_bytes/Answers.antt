use Rattle.pbkdf2_lanes.proofs.Keys as keys
use Rattle.pbkdf2_lanes.proofs.laws.first_bytes.Goals as goal

pub returns : goal.returns
returns c = keys.first_bytes
