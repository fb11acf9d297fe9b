use Rattle.std.proofs.Common.{◌≡◌, List, ◌∷◌, is_ok, refl, ap, ◌∙◌}
use Rattle.file_device.specs.Calls.{Call, Began}
use Rattle.file_device.proofs.Steps.{begun, cause, count, left_as_before, on_ok, seen_as_before, time}
use Rattle.file_device.proofs.Leaving.{leaves}
use Rattle.file_device.proofs.device.FileDeviceDevice.begin_replacement.Goals as goal

call : (c : goal.After-note) → c.note.new.self.record.calls ≡ Began (is_ok c.make_replacement-done.result) ∷ c.args.self.now.record.calls
call c = c.note.ensures.call ∙ ap (λ (calls : List Call). Began (is_ok c.make_replacement-done.result) ∷ calls) c.make_replacement-done.ensures.calls

pub returns-clause-begun : goal.returns-clause-begun
returns-clause-begun c = on_ok c.note.result _ c.note.ensures.result (begun c.note.new.self.record.calls c.args.self.now.record.calls _ (call c))

pub returns-clause-seen : goal.returns-clause-seen
returns-clause-seen c = seen_as_before c.note.new.self.record.calls c.args.self.now.record.calls _ (call c) refl

pub returns-clause-crash : goal.returns-clause-crash
returns-clause-crash c = left_as_before c.note.new.self.record.calls c.args.self.now.record.calls _ (call c) (λ x left. left)

pub returns-clause-time : goal.returns-clause-time
returns-clause-time c = time c.note.new.self.record.calls c.args.self.now.record.calls _ (call c)

pub returns-clause-count : goal.returns-clause-count
returns-clause-count c = count c.note.new.self.record.calls c.args.self.now.record.calls _ (call c)

pub returns-clause-cause : goal.returns-clause-cause
returns-clause-cause c = cause c.note.new.self.record.calls c.args.self.now.record.calls _ (call c) c.note.result _ c.note.ensures.result refl

pub returns-clause-leaves : goal.returns-clause-leaves
returns-clause-leaves c = λ left. leaves c.note.new.self.record.calls
