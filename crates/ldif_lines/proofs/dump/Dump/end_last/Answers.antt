use Rattle.std.proofs.Common.{◌∙◌, ◌++◌, [], ap, refl, sym, List, ℕ}
use Rattle.ldif_lines.specs.Rests.{given_lines}
use Rattle.ldif_lines.specs.Steps.{held, shown, waiting}
use Rattle.ldif_lines.proofs.Given.{last_is, nothing_last}
use Rattle.ldif_lines.proofs.dump.Dump.end_last.Goals as goal

pub returns-then-has_line-clause-given : goal.returns-then-has_line-clause-given
unfolding shown waiting
returns-then-has_line-clause-given c =
    let d = c.args.self.now in
    c.end_line.ensures.given []
    ∙ ap (λ (ls : List (List ℕ)). waiting d ++ given_lines (held d.entry) ls)
    (sym (last_is d.has_feed d.line (sym c.has_line.ensures ∙ c.if-has_line.true)))

pub returns-else-has_line-clause-given : goal.returns-else-has_line-clause-given
unfolding shown waiting
returns-else-has_line-clause-given c =
    let d = c.args.self.now in
    let none = nothing_last d.has_feed d.line (sym c.has_line.ensures ∙ c.if-has_line.false) in
    rw (none.0, none.1) refl
