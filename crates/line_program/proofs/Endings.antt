-- What is owed where a text stands behind the replies.
use Rattle.std.proofs.Common.{◌≡◌, ℕ, ◌<◌, ◌≤◌, List, [], ◌++◌, Option, None, Some, sym, ap, ◌∙◌, append_assoc, arith, rules}
use Rattle.std.specs.Io.KnownBytes.{Appends}
use Rattle.line_io.specs.Devices.{AppendsPrefix, WhereTold}
use Rattle.line_io.specs.Lines.{lines}
use Rattle.line_io.specs.Runs.{IsPrefix}
use Rattle.line_io.proofs.Moved.{append-nil, appends_more}
use Rattle.line_program.specs.Outcome.{output}
use Rattle.line_program.specs.Rules.{StateRules, after_lines, from_state}
use Rattle.line_program.proofs.Told.{told_as}
use Rattle.line_program.specs.Outcome.{EndedOutcome, StateOutcome, ended_output}

-- more is written behind a run
pub told_more : (left left_now written written_mid written_now : Option (List ℕ)) (more : List ℕ)
    (P Q : List ℕ → List ℕ → List ℕ → Type 0)
    → ((held taken added : List ℕ) → P held taken added → Q held taken (added ++ more))
    → Appends written_mid written_now more → WhereTold left left_now written written_mid P
    → WhereTold left left_now written written_now Q
told_more None left_now written written_mid written_now more P Q f a w = search rules
told_more (Some held) left_now None written_mid written_now more P Q f a w = search rules
told_more (Some held) left_now (Some t) written_mid written_now more P Q f a w = (
  w.0,
  w.1 ++ more,
  w.2,
  appends_more (Some t) written_mid written_now w.1 more w.3 a,
  f held w.0 w.1 w.4,
)

prefix_more : (part all more : List ℕ) → IsPrefix part all → IsPrefix part (all ++ more)
prefix_more part all more p = (p.0 ++ more, sym (append_assoc part p.0 more) ∙ ap (λ xs. xs ++ more) p.1)

prefix_behind : (all part more : List ℕ) → IsPrefix part more → IsPrefix (all ++ part) (all ++ more)
prefix_behind all part more p = (p.0, append_assoc all part p.0 ∙ ap (λ xs. all ++ xs) p.1)

module _ {St : Type 0} (r : StateRules St) (ending : St → List ℕ) (s s_now : St) (status max : ℕ)
    (held taken added : List ℕ) where
  -- the run ended before the end of its input: nothing more is written
  pub ended_other : 1 < status → StateOutcome r s s_now status max held taken added
      → EndedOutcome r ending s status max held taken added
  ended_other high o = record {
    done = λ h. absurd (omega arith);
    verdict = λ h. absurd (omega arith);
    read_fault = o.0.read_fault;
    write_fault = λ h. prefix_more added (output (from_state r s) held) (ending (after_lines r s (lines held)))
        (o.0.write_fault h);
    want_of_memory = o.0.want_of_memory;
    budget = o.0.budget;
    bounded = o.0.bounded;
    beginning = prefix_more added (output (from_state r s) held) (ending (after_lines r s (lines held)))
        o.0.beginning;
  }

  whole : status ≤ 1 → StateOutcome r s s_now status max held taken added
      → added ++ ending s_now ≡ ended_output r ending s held
  whole low o = ap (λ xs. xs ++ ending s_now) (o.0.done low).2
      ∙ ap (λ t. output (from_state r s) held ++ ending t) (o.1 low)

  -- its text is written
  pub ended_whole : status ≤ 1 → StateOutcome r s s_now status max held taken added
      → EndedOutcome r ending s status max held taken (added ++ ending s_now)
  ended_whole low o = record {
    done = λ h. ((o.0.done low).0, (o.0.done low).1, whole low o);
    verdict = o.0.verdict;
    read_fault = λ h. absurd (omega arith);
    write_fault = λ h. absurd (omega arith);
    want_of_memory = λ h. absurd (omega arith);
    budget = λ h. absurd (omega arith);
    bounded = o.0.bounded;
    beginning = ([], append-nil (added ++ ending s_now) ∙ whole low o);
  }

  -- a write of its text failed
  pub ended_cut : (part : List ℕ) → status ≤ 1 → IsPrefix part (ending s_now)
      → StateOutcome r s s_now status max held taken added
      → EndedOutcome r ending s 4 max held taken (added ++ part)
  ended_cut part low p o =
      let begins : IsPrefix (added ++ part) (ended_output r ending s held) =
      rw (whole low o) at (prefix_behind added part (ending s_now) p) in
      record {
        done = λ h. absurd (omega arith);
        verdict = λ h. absurd (omega arith);
        read_fault = λ h. absurd (omega arith);
        write_fault = λ h. begins;
        want_of_memory = λ h. absurd (omega arith);
        budget = λ h. absurd (omega arith);
        bounded = o.0.bounded;
        beginning = begins;
      }

module _ {St : Type 0} (r : StateRules St) (ending : St → List ℕ) (s s_now : St) (status max : ℕ)
    (left left_now written written_mid : Option (List ℕ))
    (o : WhereTold left left_now written written_mid
    (λ held taken added. StateOutcome r s s_now status max held taken added)) where
  pub told_other : 1 < status → WhereTold left left_now written written_mid
      (λ held taken added. EndedOutcome r ending s status max held taken added)
  told_other high =
      told_as left left_now written written_mid
      (λ held taken added. StateOutcome r s s_now status max held taken added)
      (λ held taken added. EndedOutcome r ending s status max held taken added)
      (λ held taken added p. ended_other r ending s s_now status max held taken added high p) o

  pub told_whole : (written_now : Option (List ℕ)) → status ≤ 1 → Appends written_mid written_now (ending s_now)
      → WhereTold left left_now written written_now
      (λ held taken added. EndedOutcome r ending s status max held taken added)
  told_whole written_now low a =
      told_more left left_now written written_mid written_now (ending s_now)
      (λ held taken added. StateOutcome r s s_now status max held taken added)
      (λ held taken added. EndedOutcome r ending s status max held taken added)
      (λ held taken added p. ended_whole r ending s s_now status max held taken added low p) a o

  pub told_cut : (written_now : Option (List ℕ)) → status ≤ 1 → AppendsPrefix written_mid written_now (ending s_now)
      → WhereTold left left_now written written_now
      (λ held taken added. EndedOutcome r ending s 4 max held taken added)
  told_cut written_now low a =
      told_more left left_now written written_mid written_now a.0
      (λ held taken added. StateOutcome r s s_now status max held taken added)
      (λ held taken added. EndedOutcome r ending s 4 max held taken added)
      (λ held taken added p. ended_cut r ending s s_now status max held taken added a.0 low (a.1, a.2) p) a.3 o
