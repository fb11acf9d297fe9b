use Rattle.std.proofs.Common.{ℕ, ◌++◌, List, [], ◌∷◌, ◌∙◌, ap}
use Rattle.line_log.specs.Log.{header}
use Rattle.line_log.proofs.rewrite.write_replacement.Goals as goal

pub returns-clause-replacement : goal.returns-clause-replacement
returns-clause-replacement g c =
    c.sync_replacement.ensures.replacement
    ∙ c.in_ok-append_replacement-3.ensures.appended
    ∙ ap (λ (t : List ℕ). t ++ 35 ∷ []) (c.in_ok-append_replacement-2.ensures.appended
    ∙ ap (λ (t : List ℕ). t ++ c.args.lines.now) (c.in_ok-append_replacement.ensures.appended ∙ ap (λ (t : List ℕ). t ++ header) c.in_ok-begin_replacement.ensures.begun)
    ∙ ap (λ (t : List ℕ). header ++ t) c.requires.whole)
