-- What a run of `bench` did, for each status.
use Rattle.std.specs.Prelude.{◌≡◌, ◌⊎◌, ℕ, ◌+◌, ◌-◌, ◌/◌, ◌≤◌, List, Option}
use Rattle.std.specs.Io.KnownBytes.{Appends}
use Rattle.line_io.specs.Devices.{AppendsPrefix}
use Rattle.pwcheck_run.specs.Bench.{matches, mismatches, others, summary}

-- The law of the counts: no line is invalid, so that each matches or not, and of each four lines three match.
pub record IsCounted (n : ℕ) : Type 0 where
  pub valid : others n ≡ 0
  pub all : matches n + mismatches n ≡ n
  pub most : n - n / 4 ≤ matches n

-- The table of statuses, for n lines. The sink had taken `written`, and has now taken `written_now`.
pub record BenchOutcome (n status : ℕ) (written written_now : Option (List ℕ)) : Type 0 where
  pub statuses : (status ≡ 0) ⊎ ((status ≡ 4) ⊎ (status ≡ 5))
  -- 0: the summary was written
  pub done : status ≡ 0 → Appends written written_now (summary n)
  -- 4: a write failed; what was written is the beginning of the summary
  pub write_fault : status ≡ 4 → AppendsPrefix written written_now (summary n)
  pub counted : IsCounted n
