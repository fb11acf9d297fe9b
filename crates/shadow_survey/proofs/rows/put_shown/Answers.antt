use Rattle.std.proofs.Common.{◌≡◌, ◌+◌, ◌<◌, ◌∷◌, ◌++◌, ◌∙◌, sym, ap, take, length, slice_index, List, ℕ, rules}
use Rattle.line_io.proofs.Gathering.{puts_more}
use Rattle.shadow_survey.specs.Rows.{shown, shown_after}
use Rattle.shadow_survey.proofs.Putting.{before_next, shown_next}
use Rattle.shadow_survey.proofs.rows.put_shown.Goals as goal

pub loop-i-preserved : goal.loop-i-preserved
loop-i-preserved g c =
    let text = c.args.text.now in
    let format = c.args.format in
    let front = shown_after format 0 (take c.loop-i.i text) in
    let within : c.loop-i.i < length text = search rules in
    let byte : c.as_slice.result.now ≡ shown format (slice_index (0 ∷ text) c.loop-i.i) (slice_index text c.loop-i.i) =
    c.as_slice.ensures.value ∙ c.shown.ensures
    ∙ ap (λ (b : ℕ). shown format b (slice_index text c.loop-i.i)) c.loop-i.invariant.1 in
    let more : shown_after format 0 (take (c.loop-i.i + 1) text) ≡ front ++ c.as_slice.result.now =
    shown_next format 0 text c.loop-i.i within ∙ ap (λ (t : List ℕ). front ++ t) (sym byte) in (
      rw more (puts_more _ _ _ _ _ _ c.args.out.now c.loop-i.out c.put.new.self front c.as_slice.result.now
          c.loop-i.invariant.0 c.put.ensures.puts),
      sym (before_next 0 text c.loop-i.i),
    )
