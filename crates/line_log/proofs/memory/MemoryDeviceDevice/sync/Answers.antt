use Rattle.std.proofs.Common.{◌∙◌}
use Rattle.line_log.specs.Memory.{Start}
use Rattle.line_log.specs.declared.memory.Call.TheVariants.{Sync}
use Rattle.line_log.proofs.Kept.{elapses_push, elapses_still, still, sync_keeps}
use Rattle.std.proofs.Common.{sym}
use Rattle.line_log.proofs.Kept.{leaves_push}
use Rattle.line_log.proofs.memory.MemoryDeviceDevice.sync.Goals as goal

pub returns-in-Err-clause-crash : goal.returns-in-Err-clause-crash
returns-in-Err-clause-crash c = still (Start c.args.self.now) c.args.self.now.calls.items c.note_sync.new.calls.items c.in-Err.ensures.err

pub returns-in-Err-clause-time : goal.returns-in-Err-clause-time
returns-in-Err-clause-time c = elapses_still (Start c.args.self.now) c.args.self.now.calls.items c.note_sync.new.calls.items c.in-Err.ensures.err

pub returns-in-Ok-clause-durable : goal.returns-in-Ok-clause-durable
returns-in-Ok-clause-durable c = λ f now. (sync_keeps (Start c.args.self.now) c.args.self.now.calls.items c.note_sync.new.calls.items c.in-Ok.ensures.call.0 c.in-Ok.ensures.call.2 f now).1 ∙ (c.in-Ok.ensures.call.1 ∙ c.deref.ensures.value)

pub returns-in-Ok-clause-crash : goal.returns-in-Ok-clause-crash
returns-in-Ok-clause-crash c = λ f now. (sync_keeps (Start c.args.self.now) c.args.self.now.calls.items c.note_sync.new.calls.items c.in-Ok.ensures.call.0 c.in-Ok.ensures.call.2 f now).0

pub returns-in-Ok-clause-time : goal.returns-in-Ok-clause-time
returns-in-Ok-clause-time c = elapses_push (Start c.args.self.now) c.args.self.now.calls.items c.note_sync.new.calls.items (Sync c.in-Ok.ensures.call.0) c.in-Ok.ensures.call.2

pub returns-in-Ok-clause-leaves : goal.returns-in-Ok-clause-leaves
returns-in-Ok-clause-leaves c = λ left. leaves_push (Start c.args.self.now) c.args.self.now.calls.items c.note_sync.new.calls.items (Sync c.in-Ok.ensures.call.0) c.args.self.now.bytes.items c.in-Ok.ensures.call.2
    (left, sym (c.in-Ok.ensures.call.1 ∙ c.deref.ensures.value))
