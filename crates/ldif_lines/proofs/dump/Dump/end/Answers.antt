use Rattle.std.proofs.Common.{◌∙◌, ◌++◌, [], ap, append-nil, List, ℕ}
use Rattle.ldif_lines.specs.Rests.{fresh, held_rows}
use Rattle.ldif_lines.specs.Steps.{shown, waiting}
use Rattle.ldif_lines.proofs.Given.{nothing_held}
use Rattle.ldif_lines.proofs.dump.Dump.end.Goals as goal

pub returns-clause-shown : goal.returns-clause-shown
unfolding shown waiting
returns-clause-shown c =
    let all = shown c.args.self.now [] in
    rw (
      c.clear.ensures.fresh,
      c.close.ensures.has_feed ∙ c.end_last.ensures.has_feed,
      c.close.ensures.line ∙ c.end_last.ensures.line,
    )
    (ap (λ (w : List ℕ). w ++ held_rows fresh) (c.close.ensures.waiting ∙ c.end_last.ensures.given)
    ∙ ap (λ (r : List ℕ). all ++ r) nothing_held ∙ append-nil all)

pub returns-clause-waiting : goal.returns-clause-waiting
unfolding waiting
returns-clause-waiting c = c.close.ensures.waiting ∙ c.end_last.ensures.given
