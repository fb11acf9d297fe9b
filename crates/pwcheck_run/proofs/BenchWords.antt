-- The number of lines that words name.
use Rattle.std.proofs.Common.{◌≡◌, ℕ, ◌^◌, ◌<◌, List, [], ◌∷◌, sym, ap, ◌∙◌, arith, Option}
use Rattle.std.specs.Prelude.{◌⊎◌, codes}
use Rattle.std.specs.Fmt.{decimal}
use Rattle.std.specs.Io.KnownBytes.{Appends}
use Rattle.std.proofs.lemmas.Fmt.{digits_value-decimal}
use Rattle.pieces.specs.Numbers.{number_after}
use Rattle.pieces.proofs.PlainNumbers.{own}
use Rattle.line_io.specs.Devices.{AppendsPrefix}
use Rattle.pwcheck_run.specs.Bench.{summary}
use Rattle.pwcheck_run.specs.BenchOutcome.{BenchOutcome}
use Rattle.pwcheck_run.specs.Words.{IsBench, IsNumbered}
use Rattle.pwcheck_run.proofs.Verdicts.{bench_counted}

second : List (List ℕ) → List ℕ
second (a ∷ b ∷ words) = b
second (a ∷ []) = []
second [] = []

pub one_number : (verb : List ℕ) (least most n m : ℕ) (words : List (List ℕ)) → most < 2 ^ 64
    → IsNumbered verb least most n words → IsNumbered verb least most m words → n ≡ m
unfolding second
one_number verb least most n m words small hn hm =
    let same : decimal n ≡ decimal m = ap second (sym hn.2 ∙ hm.2) in
    sym (digits_value-decimal own n (omega (arith, hn.1, small))) ∙ ap (number_after 0) same
    ∙ digits_value-decimal own m (omega (arith, hm.1, small))

-- what was done for the number that was found
pub bench_outcome : (n m status : ℕ) (words : List (List ℕ)) (written written_now : Option (List ℕ)) → IsBench n words
    → IsBench m words
    → (status ≡ 0) ⊎ ((status ≡ 4) ⊎ (status ≡ 5)) → (status ≡ 0 → Appends written written_now (summary m))
    → (status ≡ 4 → AppendsPrefix written written_now (summary m))
    → BenchOutcome n status written written_now
bench_outcome n m status words written written_now hn hm statuses done part =
    let same : m ≡ n = one_number (codes "bench") 1 2000 m n words (omega arith) hm hn in
    record {
      statuses = statuses;
      done = λ h. rw same at (done h);
      write_fault = λ h. rw same at (part h);
      counted = bench_counted n;
    }
