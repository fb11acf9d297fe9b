use Rattle.std.proofs.Common.{◌≡◌, ◌∙◌, ◌++◌, ◌∷◌, [], ap, false, sym, List, ℕ}
use Rattle.ldif_lines.specs.Rests.{given_lines, rest_lines}
use Rattle.ldif_lines.specs.Steps.{held, shown, waiting}
use Rattle.ldif_lines.proofs.Given.{line_joined, line_whole}
use Rattle.ldif_lines.proofs.dump.Dump.take_after.Goals as goal

pub returns-then-goes_on : goal.returns-then-goes_on
unfolding shown waiting
returns-then-goes_on c =
    let d = c.args.self.now in
    record {
      shown = λ text. rw c.requires.has_feed
          (ap (λ (ls : List (List ℕ)). waiting d ++ given_lines (held d.entry) ls)
          (sym (line_joined d.line c.args.b text (sym c.goes_on.ensures ∙ c.if-goes_on.true))));
    }

pub returns : goal.returns
unfolding shown waiting
returns c =
    let d = c.args.self.now in
    let b = c.args.b in
    let e = c.end_line.new.self in
    record {
      shown = λ text.
          let ended : shown e (b ∷ text) ≡ waiting d ++ given_lines (held d.entry) (d.line ∷ rest_lines false [] (b ∷ text)) =
          rw (c.end_line.ensures.has_feed, c.end_line.ensures.line) (c.end_line.ensures.given (rest_lines false [] (b ∷ text))) in
          rw c.requires.has_feed
          (c.take.ensures.shown text ∙ ended
          ∙ ap (λ (ls : List (List ℕ)). waiting d ++ given_lines (held d.entry) ls)
          (sym (line_whole d.line b text (sym c.goes_on.ensures ∙ c.if-goes_on.false))));
    }
