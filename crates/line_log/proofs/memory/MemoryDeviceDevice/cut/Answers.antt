use Rattle.line_log.specs.Memory.{Start}
use Rattle.line_log.specs.declared.memory.Call.TheVariants.{CutTo}
use Rattle.line_log.proofs.Kept.{cut_follows, cut_still, elapses_push, elapses_still}
use Rattle.line_log.proofs.DoneCalls.{cut_by, cut_unchanged}
use Rattle.line_log.proofs.Kept.{leaves_push}
use Rattle.line_log.proofs.memory.MemoryDeviceDevice.cut.Goals as goal

pub returns-in-Err-clause-crash : goal.returns-in-Err-clause-crash
returns-in-Err-clause-crash c = cut_still (Start c.args.self.now) c.args.self.now.calls.items c.note_cut.new.calls.items c.args.len c.in-Err.ensures.err

pub returns-in-Err-clause-time : goal.returns-in-Err-clause-time
returns-in-Err-clause-time c = elapses_still (Start c.args.self.now) c.args.self.now.calls.items c.note_cut.new.calls.items c.in-Err.ensures.err

pub returns-then-failed-clause-crash : goal.returns-then-failed-clause-crash
returns-then-failed-clause-crash c = cut_follows (Start c.args.self.now) c.args.self.now.calls.items c.note_cut.new.calls.items c.args.len c.in-Ok.ensures.call

pub returns-then-failed-clause-time : goal.returns-then-failed-clause-time
returns-then-failed-clause-time c = elapses_push (Start c.args.self.now) c.args.self.now.calls.items c.note_cut.new.calls.items (CutTo c.args.len) c.in-Ok.ensures.call

pub returns-clause-crash : goal.returns-clause-crash
returns-clause-crash c = cut_follows (Start c.args.self.now) c.args.self.now.calls.items c.note_cut.new.calls.items c.args.len c.in-Ok.ensures.call

pub returns-clause-time : goal.returns-clause-time
returns-clause-time c = elapses_push (Start c.args.self.now) c.args.self.now.calls.items c.note_cut.new.calls.items (CutTo c.args.len) c.in-Ok.ensures.call

pub returns-then-failed-clause-leaves : goal.returns-then-failed-clause-leaves
returns-then-failed-clause-leaves c =
    let old = c.args.self.now.bytes.items in
    λ left. leaves_push (Start c.args.self.now) c.args.self.now.calls.items c.note_cut.new.calls.items (CutTo c.args.len) old c.in-Ok.ensures.call
    (old, left, cut_unchanged c.args.len old)

pub returns-clause-leaves : goal.returns-clause-leaves
returns-clause-leaves c =
    let old = c.args.self.now.bytes.items in
    let new = c.truncate.new.self.items in
    λ left. leaves_push (Start c.args.self.now) c.args.self.now.calls.items c.note_cut.new.calls.items (CutTo c.args.len) new c.in-Ok.ensures.call
    (old, left, cut_by c.args.len old new c.truncate.ensures.items)
