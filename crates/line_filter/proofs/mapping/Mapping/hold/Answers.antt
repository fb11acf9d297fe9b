use Rattle.std.proofs.Common.{◌∙◌, ◌∷◌, ◌++◌, [], ap, append_assoc, arith, List, ℕ}
use Rattle.line_filter.specs.Mapped.{mapped_text}
use Rattle.line_filter.specs.MappedSteps.{mapped_after, waiting_of}
use Rattle.line_filter.proofs.Placed.{dropped}
use Rattle.line_filter.proofs.mapping.Mapping.hold.Goals as goal

pub returns-then-len-lt-LINE_ROOM-clause-shown : goal.returns-then-len-lt-LINE_ROOM-clause-shown
unfolding mapped_after waiting_of
returns-then-len-lt-LINE_ROOM-clause-shown c rule text =
    ap (λ (xs : List ℕ). waiting_of c.args.self.now ++ mapped_text rule xs)
    (ap (λ (line : List ℕ). line ++ text) c.push_all.ensures.appended ∙ append_assoc c.args.self.now.line (c.args.b ∷ []) text)

pub returns-else-len-lt-LINE_ROOM-clause-shown : goal.returns-else-len-lt-LINE_ROOM-clause-shown
unfolding mapped_after
returns-else-len-lt-LINE_ROOM-clause-shown c rule text =
    ap (λ (xs : List ℕ). waiting_of c.args.self.now ++ xs)
    (dropped rule c.args.self.now.line c.args.b text c.args.self.now.free
    (omega (arith, c.len.ensures.value, c.if-len-lt-LINE_ROOM.false)) c.requires.other)
