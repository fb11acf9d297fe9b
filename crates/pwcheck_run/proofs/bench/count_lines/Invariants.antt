use Rattle.std.proofs.Common.{◌≡◌, ◌≤◌}
use Rattle.pwcheck_run.specs.Bench.{count_lines, says_match, says_mismatch, says_neither}
use Rattle.pwcheck_run.proofs.bench.count_lines.Given as goal

-- the counts of the lines so far, each at most their number
abbrev pub invariant-lines : goal.invariant-lines
invariant-lines l = record {
  matches : l.matches ≡ count_lines says_match l.n l.i;
  mismatches : l.mismatches ≡ count_lines says_mismatch l.n l.i;
  others : l.others ≡ count_lines says_neither l.n l.i;
  few_matches : l.matches ≤ l.i;
  few_mismatches : l.mismatches ≤ l.i;
  few_others : l.others ≤ l.i;
}
