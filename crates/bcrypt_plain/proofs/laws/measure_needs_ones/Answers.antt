use Rattle.bcrypt_plain.proofs.Measured.{measured_same}
use Rattle.bcrypt_plain.proofs.laws.measure_needs_ones.Goals as goal

pub returns : goal.returns
returns c = record { same = measured_same }
