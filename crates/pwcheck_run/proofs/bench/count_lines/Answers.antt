use Rattle.std.proofs.Common.{arith, ◌≡◌, ℕ, ap, ◌∙◌}
use Rattle.std.proofs.lemmas.Bool.{false≢true}
use Rattle.pwcheck_run.specs.Bench.{count_lines, says_match, says_mismatch, says_neither}
use Rattle.pwcheck_run.proofs.MadeLines.{as_number, at_most_one, none_counted, of_line, one_counted, other_is}
use Rattle.pwcheck_run.proofs.bench.count_lines.Goals as goal

pub lines-init : goal.lines-init
lines-init c = record {
  matches = none_counted says_match c.args.n;
  mismatches = none_counted says_mismatch c.args.n;
  others = none_counted says_neither c.args.n;
  few_matches = omega arith;
  few_mismatches = omega arith;
  few_others = omega arith;
}

pub lines-preserved : goal.lines-preserved
lines-preserved c =
    let known = of_line c.check_line-answer.result _ c.check_line-answer.ensures
    (λ e. false≢true (rw e at c.if-eq.ensures)) in
    record {
      matches = one_counted says_match c.args.n c.lines.i c.lines.matches _ c.check_line-answer.result
          c.lines.invariant.matches known
          (as_number c.is_match.result (says_match c.check_line-answer.result) c.is_match.ensures);
      mismatches = one_counted says_mismatch c.args.n c.lines.i c.lines.mismatches _ c.check_line-answer.result
          c.lines.invariant.mismatches known
          (as_number c.is_mismatch.result (says_mismatch c.check_line-answer.result) c.is_mismatch.ensures);
      others = one_counted says_neither c.args.n c.lines.i c.lines.others _ c.check_line-answer.result
          c.lines.invariant.others known
          (as_number c.is_err.result (says_neither c.check_line-answer.result)
          (c.is_err.ensures.value ∙ other_is c.check_line-answer.result));
      few_matches = omega (arith, c.lines.invariant.few_matches, at_most_one c.is_match.result);
      few_mismatches = omega (arith, c.lines.invariant.few_mismatches, at_most_one c.is_mismatch.result);
      few_others = omega (arith, c.lines.invariant.few_others, at_most_one c.is_err.result);
    }

pub returns : goal.returns
returns c =
    let same : c.lines.i ≡ c.args.n = omega arith in (
      c.lines.invariant.matches ∙ ap (λ (k : ℕ). count_lines says_match c.args.n k) same,
      c.lines.invariant.mismatches ∙ ap (λ (k : ℕ). count_lines says_mismatch c.args.n k) same,
      c.lines.invariant.others ∙ ap (λ (k : ℕ). count_lines says_neither c.args.n k) same,
    )
