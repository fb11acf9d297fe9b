use Rattle.std.proofs.Common.{rules, ◌≡◌, true, [], ◌∷◌, ◌++◌, sym, ap, ◌∙◌}
use Rattle.line_io.proofs.Gathering.{puts_more}
use Rattle.pwcheck_run.specs.Answer.{answer_text, answer_word, counts_text, has_verdict}
use Rattle.pwcheck_run.specs.declared.form.Form.TheVariants.{Counted}
use Rattle.pwcheck_run.proofs.Known.{with_counts}
use Rattle.pwcheck_run.proofs.line_answer.put_answer.Goals as goal

pub returns-then-has_verdict : goal.returns-then-has_verdict
returns-then-has_verdict g c =
    let line = c.args.line.now in
    let counted : c.args.form ≡ Counted = search rules in
    let verdict : has_verdict line.answer ≡ true = search rules in
    let word : c.as_bytes-word.result.now ≡ answer_word line.answer = search rules in
    let counts : c.as_slice.result.now ≡ counts_text line.looks line.sames = search rules in
    let text : c.as_bytes-word.result.now ++ (c.as_slice.result.now ++ 10 ∷ [])
    ≡ answer_text c.args.form line.answer line.looks line.sames =
    ap (λ w. w ++ (c.as_slice.result.now ++ 10 ∷ [])) word ∙ ap (λ n. answer_word line.answer ++ (n ++ 10 ∷ [])) counts
    ∙ sym (with_counts c.args.form line.answer line.looks line.sames counted verdict) in
    record {
      puts = rw text at
          (puts_more _ _ _ _ _ _ c.args.out.now c.put.new.self c.put_line.new.self _ _ c.put.ensures.puts
          c.put_line.ensures.puts);
    }
