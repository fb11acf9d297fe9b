use Rattle.std.proofs.Common.{length}
use Rattle.line_log.specs.Memory.{After, Start}
use Rattle.line_log.specs.declared.memory.Call.TheVariants.{Write}
use Rattle.line_log.proofs.Kept.{elapses_push, elapses_still, write_follows, write_same, write_still}
use Rattle.std.proofs.Common.{ℕ, List, subst}
use Rattle.line_log.specs.Device.{Holds}
use Rattle.line_log.proofs.DoneCalls.{torn_by, torn_same}
use Rattle.line_log.proofs.Kept.{leaves_push}
use Rattle.line_log.proofs.memory.MemoryDeviceDevice.write_at.Goals as goal

pub returns-in_default-clause-crash : goal.returns-in_default-clause-crash
returns-in_default-clause-crash c = write_same (After (Start c.args.self.now) c.args.self.now.calls.items) c.args.at (length c.args.bytes.now)

pub returns-in-Err-clause-crash : goal.returns-in-Err-clause-crash
returns-in-Err-clause-crash c = write_still (Start c.args.self.now) c.args.self.now.calls.items c.note_write.new.calls.items c.args.at (length c.args.bytes.now) c.in-Err.ensures.err

pub returns-in-Err-clause-time : goal.returns-in-Err-clause-time
returns-in-Err-clause-time c = elapses_still (Start c.args.self.now) c.args.self.now.calls.items c.note_write.new.calls.items c.in-Err.ensures.err

pub returns-then-failed-clause-crash : goal.returns-then-failed-clause-crash
returns-then-failed-clause-crash c = write_follows (Start c.args.self.now) c.args.self.now.calls.items c.note_write.new.calls.items c.args.at c.in-Ok-note_write.ensures.call.0 c.args.bytes.now c.in-Ok-note_write.ensures.call.1 c.in-Ok-note_write.ensures.call.2

pub returns-then-failed-clause-time : goal.returns-then-failed-clause-time
returns-then-failed-clause-time c = elapses_push (Start c.args.self.now) c.args.self.now.calls.items c.note_write.new.calls.items (Write c.args.at c.in-Ok-note_write.ensures.call.0) c.in-Ok-note_write.ensures.call.2

pub returns-clause-crash : goal.returns-clause-crash
returns-clause-crash c = write_follows (Start c.args.self.now) c.args.self.now.calls.items c.note_write.new.calls.items c.args.at c.in-Ok-note_write.ensures.call.0 c.args.bytes.now c.in-Ok-note_write.ensures.call.1 c.in-Ok-note_write.ensures.call.2

pub returns-clause-time : goal.returns-clause-time
returns-clause-time c = elapses_push (Start c.args.self.now) c.args.self.now.calls.items c.note_write.new.calls.items (Write c.args.at c.in-Ok-note_write.ensures.call.0) c.in-Ok-note_write.ensures.call.2

pub returns-then-failed-clause-leaves : goal.returns-then-failed-clause-leaves
returns-then-failed-clause-leaves c =
    let copy = c.in-Ok-note_write.ensures.call.0 in
    let old = c.args.self.now.bytes.items in
    λ left. leaves_push (Start c.args.self.now) c.args.self.now.calls.items c.note_write.new.calls.items (Write c.args.at copy) old c.in-Ok-note_write.ensures.call.2
    (old, left, torn_same c.args.at (length copy.items) old)

pub returns-clause-leaves : goal.returns-clause-leaves
returns-clause-leaves c =
    let copy = c.in-Ok-note_write.ensures.call.0 in
    let old = c.args.self.now.bytes.items in
    let new = c.in-Ok.next.items in
    let holds = subst (λ (f : List ℕ). Holds f c.args.at c.args.bytes.now new) c.deref.ensures.value c.in-Ok.ensures.holds in
    λ left. leaves_push (Start c.args.self.now) c.args.self.now.calls.items c.note_write.new.calls.items (Write c.args.at copy) new c.in-Ok-note_write.ensures.call.2
    (old, left, torn_by c.args.at c.args.bytes.now copy.items old new c.in-Ok-note_write.ensures.call.1 holds)
