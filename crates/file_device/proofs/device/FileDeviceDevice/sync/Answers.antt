use Rattle.std.proofs.Common.{◌≡◌, List, ◌∷◌, is_ok, refl, ap, ◌∙◌}
use Rattle.file_device.specs.Calls.{Call, Synced}
use Rattle.file_device.proofs.Steps.{cause, count, no_more_when_synced, of_ok, on_ok, same_when_synced, synced, time}
use Rattle.file_device.proofs.Leaving.{leaves}
use Rattle.file_device.proofs.device.FileDeviceDevice.sync.Goals as goal

call : (c : goal.After-note) → c.note.new.self.record.calls ≡ Synced (is_ok c.sync_file-done.result) ∷ c.args.self.now.record.calls
call c = c.note.ensures.call ∙ ap (λ (calls : List Call). Synced (is_ok c.sync_file-done.result) ∷ calls) c.sync_file-done.ensures.calls

pub returns-clause-durable : goal.returns-clause-durable
returns-clause-durable c = on_ok c.note.result _ c.note.ensures.result (λ done. synced c.note.new.self.record.calls c.args.self.now.record.calls _ (call c)
    (record { healthy = of_ok c.sync_file-done.result c.sync_file-done.ensures.healthy done; renewed = c.args.self.now.renewed }) done)

pub returns-clause-seen : goal.returns-clause-seen
returns-clause-seen c = same_when_synced c.note.new.self.record.calls c.args.self.now.record.calls _ (call c)

pub returns-clause-crash : goal.returns-clause-crash
returns-clause-crash c = no_more_when_synced c.note.new.self.record.calls c.args.self.now.record.calls _ (call c)

pub returns-clause-time : goal.returns-clause-time
returns-clause-time c = time c.note.new.self.record.calls c.args.self.now.record.calls _ (call c)

pub returns-clause-count : goal.returns-clause-count
returns-clause-count c = count c.note.new.self.record.calls c.args.self.now.record.calls _ (call c)

pub returns-clause-cause : goal.returns-clause-cause
returns-clause-cause c = cause c.note.new.self.record.calls c.args.self.now.record.calls _ (call c) c.note.result _ c.note.ensures.result refl

pub returns-clause-leaves : goal.returns-clause-leaves
returns-clause-leaves c = λ left. leaves c.note.new.self.record.calls
