use Rattle.file_device.proofs.Leaving.{leaves}
use Rattle.file_device.proofs.laws.a_read_may_be_left.Goals as goal

pub returns : goal.returns
returns c = record { law = leaves c.args._device.now.record.calls }
