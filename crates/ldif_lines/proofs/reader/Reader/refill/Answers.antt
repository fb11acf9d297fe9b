use Rattle.std.proofs.Common.{◌∙◌, ◌++◌, ap, drop, drop-drop, sym, List, ℕ}
use Rattle.ldif_lines.specs.Steps.{pending, shown, shown_by}
use Rattle.ldif_lines.proofs.Colons.{after_place}
use Rattle.line_filter.proofs.Placed.{nothing_dropped}
use Rattle.ldif_lines.proofs.reader.Reader.refill.Goals as goal

pub returns-clause-shown : goal.returns-clause-shown
unfolding shown_by pending
returns-clause-shown c text =
    let r = c.args.self.now in
    ap (λ (rest : List ℕ). shown c.pour-count.new.dump (rest ++ text)) (sym (drop-drop c.pour-count.result r.at r.piece))
    ∙ rw (c.as_slice.ensures.value, after_place r.piece r.at) at (c.pour-count.ensures.shown text)

pub returns-clause-all : goal.returns-clause-all
unfolding pending
returns-clause-all c given =
    let r = c.args.self.now in
    sym (drop-drop c.pour-count.result r.at r.piece)
    ∙ nothing_dropped (drop r.at r.piece) c.pour-count.result
    (rw (c.as_slice.ensures.value, after_place r.piece r.at) at (c.pour-count.ensures.all given))
