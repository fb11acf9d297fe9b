use Rattle.std.proofs.Common.{◌∙◌, ◌∷◌, [], sym}
use Rattle.line_filter.specs.Steps.{shown_after, shown_kept, waiting}
use Rattle.line_filter.proofs.Shown.{mark_is, mark_past, mark_due, mark_first, mark_second}
use Rattle.line_filter.proofs.sieve.Sieve.end_mark.Goals as goal

pub returns-in-First-clause-shown : goal.returns-in-First-clause-shown
unfolding shown_after shown_kept waiting
returns-in-First-clause-shown c =
    let s = c.args.self.now in
    c.take.ensures.shown []
    ∙ sym (mark_is s [] (239 ∷ []) (mark_first s.mark [] c.in-First.is))

pub returns-in-Second-clause-shown : goal.returns-in-Second-clause-shown
unfolding shown_after shown_kept waiting
returns-in-Second-clause-shown c =
    let s = c.args.self.now in
    c.take-in-Second-2.ensures.shown []
    ∙ c.take-in-Second.ensures.shown (187 ∷ [])
    ∙ sym (mark_is s [] (239 ∷ 187 ∷ []) (mark_second s.mark [] c.in-Second.is))

pub returns-in-Due-clause-shown : goal.returns-in-Due-clause-shown
unfolding shown_after shown_kept waiting
returns-in-Due-clause-shown c =
    let s = c.args.self.now in sym (mark_is s [] [] (mark_due s.mark [] c.in-Due.is))

pub returns-in-Past-clause-shown : goal.returns-in-Past-clause-shown
returns-in-Past-clause-shown c =
    let s = c.args.self.now in sym (mark_is s [] [] (mark_past s.mark [] c.in-Past.is))
