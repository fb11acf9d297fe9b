use Rattle.std.proofs.Common.{refl}
use Rattle.file_device.proofs.Steps.{cause, count, cut_in_part, cut_short, on_ok, time}
use Rattle.file_device.proofs.Leaving.{leaves}
use Rattle.file_device.proofs.device.FileDeviceDevice.cut.Goals as goal

pub returns-clause-cut : goal.returns-clause-cut
returns-clause-cut c = on_ok c.note.result _ c.note.ensures.result (cut_short c.note.new.self.record.calls c.args.self.now.record.calls _ c.args.len c.note.ensures.call)

pub returns-clause-crash : goal.returns-clause-crash
returns-clause-crash c = cut_in_part c.note.new.self.record.calls c.args.self.now.record.calls _ c.args.len c.note.ensures.call

pub returns-clause-time : goal.returns-clause-time
returns-clause-time c = time c.note.new.self.record.calls c.args.self.now.record.calls _ c.note.ensures.call

pub returns-clause-count : goal.returns-clause-count
returns-clause-count c = count c.note.new.self.record.calls c.args.self.now.record.calls _ c.note.ensures.call

pub returns-clause-cause : goal.returns-clause-cause
returns-clause-cause c = cause c.note.new.self.record.calls c.args.self.now.record.calls _ c.note.ensures.call c.note.result _ c.note.ensures.result refl

pub returns-clause-leaves : goal.returns-clause-leaves
returns-clause-leaves c = λ left. leaves c.note.new.self.record.calls
