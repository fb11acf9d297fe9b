use Rattle.std.proofs.Common.{refl}
use Rattle.file_device.proofs.Steps.{cause, count, on_ok, time, torn, written}
use Rattle.file_device.proofs.Leaving.{leaves}
use Rattle.file_device.proofs.device.FileDeviceDevice.write_at.Goals as goal

pub returns-clause-written : goal.returns-clause-written
returns-clause-written c = on_ok c.note.result _ c.note.ensures.result (written c.note.new.self.record.calls c.args.self.now.record.calls _ c.args.at c.args.bytes.now c.note.ensures.call)

pub returns-clause-crash : goal.returns-clause-crash
returns-clause-crash c = torn c.note.new.self.record.calls c.args.self.now.record.calls _ c.args.at c.args.bytes.now c.note.ensures.call

pub returns-clause-time : goal.returns-clause-time
returns-clause-time c = time c.note.new.self.record.calls c.args.self.now.record.calls _ c.note.ensures.call

pub returns-clause-count : goal.returns-clause-count
returns-clause-count c = count c.note.new.self.record.calls c.args.self.now.record.calls _ c.note.ensures.call

pub returns-clause-cause : goal.returns-clause-cause
returns-clause-cause c = cause c.note.new.self.record.calls c.args.self.now.record.calls _ c.note.ensures.call c.note.result _ c.note.ensures.result refl

pub returns-clause-leaves : goal.returns-clause-leaves
returns-clause-leaves c = λ left. leaves c.note.new.self.record.calls
