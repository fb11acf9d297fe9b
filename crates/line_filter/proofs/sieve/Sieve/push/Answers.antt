use Rattle.std.proofs.Common.{◌∙◌, ◌∷◌, sym}
use Rattle.line_filter.proofs.Shown.{mark_is, mark_past}
use Rattle.line_filter.proofs.sieve.Sieve.push.Goals as goal

pub returns-in-Past-clause-shown : goal.returns-in-Past-clause-shown
returns-in-Past-clause-shown c text =
    let s = c.args.self.now in
    let now = c.take.new.self in
    let b = c.args.b in
    mark_is now text text (mark_past now.mark text (c.take.ensures.mark ∙ c.in-Past.is))
    ∙ c.take.ensures.shown text
    ∙ sym (mark_is s (b ∷ text) (b ∷ text) (mark_past s.mark (b ∷ text) c.in-Past.is))
