use Rattle.std.proofs.Common.{refl}
use Rattle.file_device.proofs.Steps.{cause, count, held, left_as_before, of_ok, on_ok, same_replacement, seen_as_before, time}
use Rattle.file_device.proofs.Leaving.{leaves}
use Rattle.file_device.proofs.device.FileDeviceDevice.sync_replacement.Goals as goal

pub returns-clause-durable : goal.returns-clause-durable
returns-clause-durable c = on_ok c.note.result _ c.note.ensures.result (λ done. held c.note.new.self.record.calls c.args.self.now.record.calls _ c.note.ensures.call
    (of_ok c.sync_made-done.result c.sync_made-done.ensures.healthy done) done)

pub returns-clause-replacement : goal.returns-clause-replacement
returns-clause-replacement c = same_replacement c.note.new.self.record.calls c.args.self.now.record.calls _ c.note.ensures.call

pub returns-clause-seen : goal.returns-clause-seen
returns-clause-seen c = seen_as_before c.note.new.self.record.calls c.args.self.now.record.calls _ c.note.ensures.call refl

pub returns-clause-crash : goal.returns-clause-crash
returns-clause-crash c = left_as_before c.note.new.self.record.calls c.args.self.now.record.calls _ c.note.ensures.call (λ x left. left)

pub returns-clause-time : goal.returns-clause-time
returns-clause-time c = time c.note.new.self.record.calls c.args.self.now.record.calls _ c.note.ensures.call

pub returns-clause-count : goal.returns-clause-count
returns-clause-count c = count c.note.new.self.record.calls c.args.self.now.record.calls _ c.note.ensures.call

pub returns-clause-cause : goal.returns-clause-cause
returns-clause-cause c = cause c.note.new.self.record.calls c.args.self.now.record.calls _ c.note.ensures.call c.note.result _ c.note.ensures.result refl

pub returns-clause-leaves : goal.returns-clause-leaves
returns-clause-leaves c = λ left. leaves c.note.new.self.record.calls
