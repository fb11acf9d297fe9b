use Rattle.std.proofs.Common.{◌≡◌, List, ◌∷◌, is_ok, refl, ap, ◌∙◌}
use Rattle.file_device.specs.Calls.{Call, Replaced}
use Rattle.file_device.proofs.Steps.{cause, count, old_or_new, on_ok, replaced, time}
use Rattle.file_device.proofs.Leaving.{leaves}
use Rattle.file_device.proofs.device.FileDeviceDevice.replace.Goals as goal

call : (c : goal.After-note) → c.note.new.self.record.calls ≡ Replaced (is_ok c.take_replacement-done.result) ∷ c.args.self.now.record.calls
call c = c.note.ensures.call ∙ ap (λ (calls : List Call). Replaced (is_ok c.take_replacement-done.result) ∷ calls) c.take_replacement-done.ensures.calls

pub returns-clause-replaced : goal.returns-clause-replaced
returns-clause-replaced c = on_ok c.note.result _ c.note.ensures.result (replaced c.note.new.self.record.calls c.args.self.now.record.calls _ (call c))

pub returns-clause-crash : goal.returns-clause-crash
returns-clause-crash c = old_or_new c.note.new.self.record.calls c.args.self.now.record.calls _ (call c)

pub returns-clause-time : goal.returns-clause-time
returns-clause-time c = time c.note.new.self.record.calls c.args.self.now.record.calls _ (call c)

pub returns-clause-count : goal.returns-clause-count
returns-clause-count c = count c.note.new.self.record.calls c.args.self.now.record.calls _ (call c)

pub returns-clause-cause : goal.returns-clause-cause
returns-clause-cause c = cause c.note.new.self.record.calls c.args.self.now.record.calls _ (call c) c.note.result _ c.note.ensures.result refl

pub returns-clause-leaves : goal.returns-clause-leaves
returns-clause-leaves c = λ left. leaves c.note.new.self.record.calls
