use Rattle.std.proofs.Common.{inl, ◌∙◌}
use Rattle.line_log.specs.Memory.{Start}
use Rattle.line_log.specs.declared.memory.Call.TheVariants.{Replace}
use Rattle.line_log.proofs.Kept.{elapses_push, elapses_still, replace_leaves, still}
use Rattle.std.proofs.Common.{inr, sym}
use Rattle.line_log.proofs.Kept.{hold_same, leaves_push}
use Rattle.line_log.proofs.memory.MemoryDeviceDevice.replace.Goals as goal

pub returns-in-Err-clause-crash : goal.returns-in-Err-clause-crash
returns-in-Err-clause-crash c = λ f now. inl (still (Start c.args.self.now) c.args.self.now.calls.items c.note_replace.new.calls.items c.in-Err.ensures.err f now)

pub returns-in-Err-clause-time : goal.returns-in-Err-clause-time
returns-in-Err-clause-time c = elapses_still (Start c.args.self.now) c.args.self.now.calls.items c.note_replace.new.calls.items c.in-Err.ensures.err

pub returns-then-failed-clause-crash : goal.returns-then-failed-clause-crash
returns-then-failed-clause-crash c = replace_leaves (Start c.args.self.now) c.args.self.now.calls.items c.note_replace.new.calls.items c.in-Ok-note_replace.ensures.call.0 c.args.self.now.is_replacement_synced c.args.self.now.replacement.items (c.in-Ok-note_replace.ensures.call.1 ∙ c.deref-2.ensures.value) c.in-Ok-note_replace.ensures.call.2

pub returns-then-failed-clause-time : goal.returns-then-failed-clause-time
returns-then-failed-clause-time c = elapses_push (Start c.args.self.now) c.args.self.now.calls.items c.note_replace.new.calls.items (Replace c.in-Ok-note_replace.ensures.call.0 c.args.self.now.is_replacement_synced) c.in-Ok-note_replace.ensures.call.2

pub returns-clause-crash : goal.returns-clause-crash
returns-clause-crash c = replace_leaves (Start c.args.self.now) c.args.self.now.calls.items c.note_replace.new.calls.items c.in-Ok-note_replace.ensures.call.0 c.args.self.now.is_replacement_synced c.args.self.now.replacement.items (c.in-Ok-note_replace.ensures.call.1 ∙ c.deref-2.ensures.value) c.in-Ok-note_replace.ensures.call.2

pub returns-clause-time : goal.returns-clause-time
returns-clause-time c = elapses_push (Start c.args.self.now) c.args.self.now.calls.items c.note_replace.new.calls.items (Replace c.in-Ok-note_replace.ensures.call.0 c.args.self.now.is_replacement_synced) c.in-Ok-note_replace.ensures.call.2

pub returns-then-failed-clause-leaves : goal.returns-then-failed-clause-leaves
returns-then-failed-clause-leaves c = λ left. leaves_push (Start c.args.self.now) c.args.self.now.calls.items c.note_replace.new.calls.items (Replace c.in-Ok-note_replace.ensures.call.0 c.args.self.now.is_replacement_synced) c.args.self.now.bytes.items c.in-Ok-note_replace.ensures.call.2
    (inl left)

pub returns-clause-leaves : goal.returns-clause-leaves
returns-clause-leaves c =
    let copy = c.in-Ok-note_replace.ensures.call.0 in
    let synced = c.args.self.now.is_replacement_synced in
    let new = c.in-Ok.next.items in
    let from = c.in-Ok.ensures.items_if_clones_equal (λ x y is. is) ∙ c.deref.ensures.value in
    let kept = c.in-Ok-note_replace.ensures.call.1 ∙ c.deref-2.ensures.value in
    λ left. leaves_push (Start c.args.self.now) c.args.self.now.calls.items c.note_replace.new.calls.items (Replace copy synced) new c.in-Ok-note_replace.ensures.call.2
    (inr (hold_same synced copy.items new (from ∙ sym kept)))
