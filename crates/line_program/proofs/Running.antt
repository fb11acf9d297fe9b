-- What a run over lines has answered.
use Rattle.std.proofs.Common.{◌≡◌, ℕ, ◌<◌, ◌≤◌, ◌+◌, ◌-◌, Bool, true, false, List, [], ◌∷◌, ◌++◌, length, take, Option}
use Rattle.std.proofs.Common.{Some}
use Rattle.std.proofs.Common.{Result, Ok, Err, refl, sym, ap, ◌∙◌, append_assoc, arith}
use Rattle.std.specs.Prelude.{◌&&◌, if◌then◌else◌, slice_get}
use Rattle.std.specs.Io.KnownBytes.{Appends, Consumes}
use Rattle.line_io.specs.Buffer.{pending, taken}
use Rattle.line_io.specs.Devices.{AppendsPrefix, WhereTold}
use Rattle.line_io.specs.Lines.{lines}
use Rattle.line_io.specs.Runs.{IsNew, IsCall, IsPrefix}
use Rattle.line_io.specs.declared.buffer.LineBuffer.{LineBuffer}
use Rattle.line_io.specs.declared.buffer.Line as lines_of
use Rattle.line_io.proofs.Moved.{append-nil, consumes_more, consumes_none}
use Rattle.line_io.proofs.Runs.{LinesGiven, OneMore, run_start, run_first, run_end, run_failed, run_budget}
use Rattle.line_io.proofs.Runs.{call_bounded, run_bounded}
use Rattle.line_program.specs.Next.{NextReply, TakesLine}
use Rattle.line_program.specs.Outcome.{Outcome, StoppedForMemory, output}
use Rattle.line_program.specs.Outcome.{StateOutcome}
use Rattle.line_io.specs.Output.{Puts, has_failed, waiting}
use Rattle.line_program.specs.Rules.{StateRules, after_lines, all_good, from_state, replies}
use Rattle.line_io.specs.declared.output.OutputBuffer.{OutputBuffer}
use Rattle.line_program.specs.declared.stop.Stop.{Stop}
use Rattle.line_program.specs.declared.stop.Stop.TheVariants.{End, ReadFault, WriteFault, Budget, NoMemory}
use Rattle.line_io.proofs.Gathering.{puts_none, puts_more, puts_then_none, put_whole, put_part}
use Rattle.line_program.proofs.RuleLaws.{after-append, good-last, replies-last, replies-prefix}
use Rattle.line_program.proofs.Told.{told, given_first, prefix_same, row_done, row_read_fault, row_write_fault}
use Rattle.line_program.proofs.Told.{row_memory, row_budget}

-- The lines that were answered so far, what was put for them, the state then, and whether each reply was good.
pub record Running {St : Type 0} (r : StateRules St) (s s_now : St)
    (left left_now written written_now : Option (List ℕ)) (faults faults_now : ℕ)
    (b : LineBuffer) (out : OutputBuffer) (max : ℕ) (all : Bool) : Type 0 where
  pub done : List (List ℕ)
  pub given : LinesGiven left left_now b max done
  pub first : OutputBuffer
  pub first_empty : waiting first ≡ []
  pub first_unfailed : has_failed first ≡ false
  pub put : Puts written written_now faults faults_now first out (replies r s done)
  pub unfailed : has_failed out ≡ false
  pub state : s_now ≡ after_lines r s done
  pub good : all ≡ all_good r s done

pub running_start : {St : Type 0} (r : StateRules St) (s : St) (left written : Option (List ℕ)) (faults : ℕ)
    (b : LineBuffer) (out : OutputBuffer) (max : ℕ) →
    IsNew max b → waiting out ≡ [] → has_failed out ≡ false
    → Running r s s left left written written faults faults b out max true
running_start r s left written faults b out max new empty unfailed = record {
  done = [];
  given = run_start left b max new;
  first = out;
  first_empty = empty;
  first_unfailed = unfailed;
  put = puts_none written faults out;
  unfailed = unfailed;
  state = refl;
  good = refl;
}

at_line : (ls more : List (List ℕ)) (l : List ℕ) → (take (length ls) (ls ++ l ∷ more) ≡ ls)
    × (slice_get (ls ++ l ∷ more) (length ls) ≡ Some l)
at_line [] more l = (refl, refl)
at_line (x ∷ ls) more l = let p = at_line ls more l in (ap (λ xs. x ∷ xs) p.0, p.1)

-- where the input wasn't read to its end nothing is said of the state
other_row : {St : Type 0} (r : StateRules St) (s s_now : St) (status max : ℕ) (held given added : List ℕ) → 1 < status
    → Outcome (from_state r s) status max held given added → StateOutcome r s s_now status max held given added
other_row r s s_now status max held given added high o = (o, λ h. absurd (omega arith))

module _ {St : Type 0} (r : StateRules St) (s s_now : St)
    (left left_mid left_now written written_now : Option (List ℕ)) (before now : LineBuffer) (max : ℕ)
    (done : List (List ℕ)) where
  -- what was added is the beginning of the output
  beginning : (held part : List ℕ) → (g : LinesGiven left left_mid before max done) → left ≡ Some held
      → IsPrefix part (replies r s done) → IsPrefix part (output (from_state r s) held)
  beginning held part g is p =
      let h = rw is at g in
      let more = given_first held left_mid before max done h h.consumed in
      rw more.1 (replies-prefix r s done more.0 part p)

  -- the end of the input
  pub outcome_end : (status : ℕ) (all : Bool) → s_now ≡ after_lines r s done → LinesGiven left left_mid before max done
      → IsCall lines_of.TheVariants.End left_mid left_now before now
      → Appends written written_now (replies r s done) → all ≡ all_good r s done → status ≤ 1
      → status ≡ (if all then 0 else 1)
      → WhereTold left left_now written written_now
      (λ held taken added. StateOutcome r s s_now status max held taken added)
  outcome_end status all state g c added good low is =
      told left left_now written written_now (g.bytes ++ c.takes.bytes) (replies r s done)
      (λ held taken added. StateOutcome r s s_now status max held taken added)
      (consumes_more left left_mid left_now g.bytes c.takes.bytes g.consumed c.takes.consumed) added
      (λ held rest d e k.
      let end = run_end left left_mid left_now before now max done g c held rest e k in (
        row_done (from_state r s) status max held (g.bytes ++ c.takes.bytes) (replies r s done) low end.0 end.1
            (ap (replies r s) (sym end.2))
            (is ∙ ap (λ (b : Bool). if b then 0 else 1) (good ∙ ap (all_good r s) (sym end.2))),
        λ h. state ∙ ap (after_lines r s) (sym end.2),
      ))

  -- a read failed
  pub outcome_failed : LinesGiven left left_mid before max done
      → IsCall lines_of.TheVariants.Failed left_mid left_now before now
      → Appends written written_now (replies r s done)
      → WhereTold left left_now written written_now
      (λ held taken added. StateOutcome r s s_now 3 max held taken added)
  outcome_failed g c added =
      told left left_now written written_now (g.bytes ++ c.takes.bytes) (replies r s done)
      (λ held taken added. StateOutcome r s s_now 3 max held taken added)
      (consumes_more left left_mid left_now g.bytes c.takes.bytes g.consumed c.takes.consumed) added
      (λ held rest d e k.
      other_row r s s_now 3 max held _ _ (omega arith) (row_read_fault (from_state r s) max held (g.bytes ++ c.takes.bytes) (replies r s done)
      (call_bounded lines_of.TheVariants.Failed left left_mid left_now before now max done g c)
      (ap (replies r s) (sym (run_failed left left_mid left_now before now max done g c)))
      (beginning held (replies r s done) g d (prefix_same (replies r s done)))))

  -- more than max bytes
  pub outcome_budget : LinesGiven left left_mid before max done
      → IsCall lines_of.TheVariants.Budget left_mid left_now before now
      → Appends written written_now (replies r s done)
      → WhereTold left left_now written written_now
      (λ held taken added. StateOutcome r s s_now 6 max held taken added)
  outcome_budget g c added =
      told left left_now written written_now (g.bytes ++ c.takes.bytes) (replies r s done)
      (λ held taken added. StateOutcome r s s_now 6 max held taken added)
      (consumes_more left left_mid left_now g.bytes c.takes.bytes g.consumed c.takes.consumed) added
      (λ held rest d e k.
      let is = run_budget left left_mid left_now before now max done g c held rest k in
      other_row r s s_now 6 max held _ _ (omega arith) (row_budget (from_state r s) max held (g.bytes ++ c.takes.bytes) (replies r s done)
      (call_bounded lines_of.TheVariants.Budget left left_mid left_now before now max done g c) is.0
      (ap (replies r s) (sym is.1))
      (beginning held (replies r s done) g d (prefix_same (replies r s done)))))

  -- a write failed, after `more` was taken
  pub outcome_cut : (more : List ℕ) → (g : LinesGiven left left_mid before max done) → Consumes left_mid left_now more
      → length (g.bytes ++ more) ≤ max + 1
      → AppendsPrefix written written_now (replies r s done)
      → WhereTold left left_now written written_now
      (λ held taken added. StateOutcome r s s_now 4 max held taken added)
  outcome_cut more g c bounded part =
      told left left_now written written_now (g.bytes ++ more) part.0
      (λ held taken added. StateOutcome r s s_now 4 max held taken added)
      (consumes_more left left_mid left_now g.bytes more g.consumed c) part.3
      (λ held rest d e k.
      other_row r s s_now 4 max held _ _ (omega arith) (row_write_fault (from_state r s) max held (g.bytes ++ more) part.0 bounded
      (beginning held part.0 g d (part.1, part.2))))

-- where no more was taken
none_bounded : (left left_now : Option (List ℕ)) (b : LineBuffer) (max : ℕ) (done : List (List ℕ)) →
    (g : LinesGiven left left_now b max done) → length (g.bytes ++ []) ≤ max + 1
none_bounded left left_now b max done g = rw (append-nil g.bytes) (run_bounded left left_now b max done g)

-- the lines that are done, and the next one
behind : (all done more : List (List ℕ)) (l : List ℕ) → all ≡ (done ++ l ∷ []) ++ more → all ≡ done ++ l ∷ more
behind all done more l e = e ∙ append_assoc done (l ∷ []) more

stopped : {St : Type 0} (r : StateRules St) (s : St) (held : List ℕ) (done more : List (List ℕ)) (l : List ℕ)
    → lines held ≡ done ++ l ∷ more
    → r.may_lack_memory (after_lines r s done) l ≡ true → StoppedForMemory (from_state r s) held (replies r s done)
stopped r s held done more l all lacks =
    let p = at_line done more l in
    let firsts : take (length done) (lines held) ≡ done = rw all p.0 in
    let found : slice_get (lines held) (length done) ≡ Some l = rw all p.1 in
    (length done, l, ap (replies r s) (sym firsts), found, rw firsts lacks)

-- memory was wanting for the line behind those that are done
pub outcome_memory : {St : Type 0} (r : StateRules St) (s s_now : St) (left left_now written written_now : Option (List ℕ))
    (now : LineBuffer) (max : ℕ) (done : List (List ℕ)) (l : List ℕ)
    → (g : LinesGiven left left_now now max (done ++ l ∷ [])) → Appends written written_now (replies r s done)
    → r.may_lack_memory (after_lines r s done) l ≡ true
    → WhereTold left left_now written written_now (λ held taken added. StateOutcome r s s_now 5 max held taken added)
outcome_memory r s s_now left left_now written written_now now max done l g added lacks =
    told left left_now written written_now g.bytes (replies r s done)
    (λ held taken added. StateOutcome r s s_now 5 max held taken added)
    g.consumed added
    (λ held rest d e k.
    let h = rw d at g in
    let more = given_first held left_now now max (done ++ l ∷ []) h h.consumed in
    let all = behind (lines held) done more.0 l more.1 in
    other_row r s s_now 5 max held _ _ (omega arith) (row_memory (from_state r s) max held g.bytes (replies r s done)
    (run_bounded left left_now now max (done ++ l ∷ []) g) (stopped r s held done more.0 l all lacks)
    (rw all (replies-prefix r s done (l ∷ more.0) (replies r s done) (prefix_same (replies r s done))))))

-- ---- the steps of a run

module _ {St : Type 0} (r : StateRules St) (s s_mid s_now : St)
    (left left_mid left_now written written_mid written_now : Option (List ℕ)) (faults faults_mid faults_now : ℕ)
    (before now : LineBuffer) (out out_now : OutputBuffer) (max : ℕ) (all : Bool) where
  -- the line that was taken is the next one
  one_more : {P : List ℕ → Type 0}
      → (i : Running r s s_mid left left_mid written written_mid faults faults_mid before out max all)
      → (line : TakesLine P left_mid left_now before now)
      → OneMore left left_now before now max i.done line.3
  one_more i line = run_first line.0 left left_mid left_now before now max i.done line.3 i.given line.1 line.2 line.4
      line.5

  -- what is put for the lines so far
  put_more : (i : Running r s s_mid left left_mid written written_mid faults faults_mid before out max all)
      → (l : List ℕ)
      → Puts written_mid written_now faults_mid faults_now out out_now (r.reply s_mid l)
      → Puts written written_now faults faults_now i.first out_now (replies r s (i.done ++ l ∷ []))
  put_more i l p =
      let q : Puts written_mid written_now faults_mid faults_now out out_now (r.reply (after_lines r s i.done) l) =
      rw i.state at p in
      rw (replies-last r s i.done l)
      (puts_more written written_mid written_now faults faults_mid faults_now i.first out out_now
      (replies r s i.done) (r.reply (after_lines r s i.done) l) i.put q)

  -- a line was answered
  pub run_step : (good : Bool)
      → Running r s s_mid left left_mid written written_mid faults faults_mid before out max all
      → TakesLine (λ l. (good ≡ r.is_good s_mid l)
      × Puts written_mid written_now faults_mid faults_now out out_now (r.reply s_mid l)
      × (s_now ≡ r.after s_mid l)) left_mid left_now before now
      → has_failed out_now ≡ false
      → Running r s s_now left left_now written written_now faults faults_now now out_now max (all && good)
      × (taken before - length (pending before) < taken now - length (pending now))
      × (taken before - length (pending before) ≤ max)
  run_step good i line unfailed =
      let one = one_more i line in
      let l : List ℕ = line.3 in (
        record {
          done = i.done ++ l ∷ [];
          given = one.0;
          first = i.first;
          first_empty = i.first_empty;
          first_unfailed = i.first_unfailed;
          put = put_more i l line.6.1;
          unfailed = unfailed;
          state = line.6.2 ∙ ap (λ t. r.after t l) i.state ∙ sym (after-append r s i.done (l ∷ []));
          good = ap (λ a. a && good) i.good
              ∙ ap (λ b. all_good r s i.done && b) (line.6.0 ∙ ap (λ t. r.is_good t l) i.state)
              ∙ sym (good-last r s i.done l);
        },
        one.1,
        one.2,
      )

  -- a write of its reply failed
  pub run_cut : (good : Bool) → Running r s s_mid left left_mid written written_mid faults faults_mid before out max all
      → TakesLine (λ l. (good ≡ r.is_good s_mid l)
      × Puts written_mid written_now faults_mid faults_now out out_now (r.reply s_mid l)
      × (s_now ≡ r.after s_mid l)) left_mid left_now before now
      → WhereTold left left_now written written_now
      (λ held taken added. StateOutcome r s s_now 4 max held taken added)
  run_cut good i line =
      let one = one_more i line in
      outcome_cut r s s_now left left_now left_now written written_now now now max (i.done ++ line.3 ∷ []) [] one.0
      (consumes_none left_now) (none_bounded left left_now now max (i.done ++ line.3 ∷ []) one.0)
      (put_part written written_now faults faults_now i.first out_now (replies r s (i.done ++ line.3 ∷ []))
      (put_more i line.3 line.6.1) i.first_empty)

-- ---- the ends of a run: the last reply put nothing, and what waited was written

module _ {St : Type 0} (r : StateRules St) (s s_mid s_now : St)
    (left left_mid left_now written written_mid written_next written_now : Option (List ℕ))
    (faults faults_mid faults_next faults_now : ℕ)
    (before now : LineBuffer) (out out_next out_now : OutputBuffer) (max : ℕ) (all : Bool)
    (i : Running r s s_mid left left_mid written written_mid faults faults_mid before out max all)
    (flushed : Puts written_next written_now faults_next faults_now out_next out_now []) where
  put_last : Puts written_mid written_next faults_mid faults_next out out_next []
      → Puts written written_now faults faults_now i.first out_now (replies r s i.done)
  put_last p =
      puts_then_none written written_next written_now faults faults_next faults_now i.first out_next out_now
      (replies r s i.done)
      (puts_then_none written written_mid written_next faults faults_mid faults_next i.first out out_next
      (replies r s i.done) i.put p) flushed

  cut : Puts written_mid written_next faults_mid faults_next out out_next []
      → AppendsPrefix written written_now (replies r s i.done)
  cut p = put_part written written_now faults faults_now i.first out_now (replies r s i.done) (put_last p) i.first_empty

  -- what waited wasn't written
  pub run_stop_cut : (stop : Stop)
      → NextReply r s_mid s_now (Puts written_mid written_next faults_mid faults_next out out_next) (Err stop) left_mid
      left_now before now
      → WhereTold left left_now written written_now
      (λ held taken added. StateOutcome r s s_now 4 max held taken added)
  run_stop_cut End n = outcome_cut r s s_now left left_mid left_now written written_now before now max i.done n.0.takes.bytes
      i.given n.0.takes.consumed
      (call_bounded lines_of.TheVariants.End left left_mid left_now before now max i.done i.given n.0) (cut n.1)
  run_stop_cut ReadFault n =
      outcome_cut r s s_now left left_mid left_now written written_now before now max i.done n.0.takes.bytes i.given
      n.0.takes.consumed
      (call_bounded lines_of.TheVariants.Failed left left_mid left_now before now max i.done i.given n.0) (cut n.1)
  run_stop_cut Budget n =
      outcome_cut r s s_now left left_mid left_now written written_now before now max i.done n.0.takes.bytes i.given
      n.0.takes.consumed
      (call_bounded lines_of.TheVariants.Budget left left_mid left_now before now max i.done i.given n.0) (cut n.1)
  run_stop_cut WriteFault n =
      outcome_cut r s s_now left left_mid left_now written written_now before now max i.done [] i.given
      (rw n.0 (consumes_none left_mid)) (none_bounded left left_mid before max i.done i.given) (cut n.2)
  run_stop_cut NoMemory n =
      outcome_cut r s s_now left left_mid left_now written written_now before now max i.done n.1.takes.bytes i.given
      n.1.takes.consumed (call_bounded n.0 left left_mid left_now before now max i.done i.given n.1) (cut n.6.1)

  module _ (unfailed : has_failed out_now ≡ false) (none : waiting out_now ≡ []) where
    whole : Puts written_mid written_next faults_mid faults_next out out_next []
        → Appends written written_now (replies r s i.done)
    whole p = put_whole written written_now faults faults_now i.first out_now (replies r s i.done) (put_last p)
        i.first_empty unfailed none

    pub run_end_told : (status : ℕ)
        → NextReply r s_mid s_now (Puts written_mid written_next faults_mid faults_next out out_next) (Err End) left_mid
        left_now before now
        → status ≤ 1 → status ≡ (if all then 0 else 1)
        → WhereTold left left_now written written_now
        (λ held taken added. StateOutcome r s s_now status max held taken added)
    run_end_told status n low is =
        outcome_end r s s_now left left_mid left_now written written_now before now max i.done status all
        (n.2 ∙ i.state) i.given n.0 (whole n.1) i.good low is

    pub run_failed_told : NextReply r s_mid s_now (Puts written_mid written_next faults_mid faults_next out out_next)
        (Err ReadFault) left_mid left_now before now
        → WhereTold left left_now written written_now
        (λ held taken added. StateOutcome r s s_now 3 max held taken added)
    run_failed_told n = outcome_failed r s s_now left left_mid left_now written written_now before now max i.done i.given n.0
        (whole n.1)

    pub run_budget_told : NextReply r s_mid s_now (Puts written_mid written_next faults_mid faults_next out out_next)
        (Err Budget) left_mid left_now before now
        → WhereTold left left_now written written_now
        (λ held taken added. StateOutcome r s s_now 6 max held taken added)
    run_budget_told n = outcome_budget r s s_now left left_mid left_now written written_now before now max i.done i.given n.0
        (whole n.1)

    pub run_memory_told : NextReply r s_mid s_now (Puts written_mid written_next faults_mid faults_next out out_next)
        (Err NoMemory) left_mid left_now before now
        → WhereTold left left_now written written_now
        (λ held taken added. StateOutcome r s s_now 5 max held taken added)
    run_memory_told n =
        let one = run_first n.0 left left_mid left_now before now max i.done n.3 i.given n.1 n.2 n.4 n.5 in
        outcome_memory r s s_now left left_now written written_now now max i.done n.3 one.0 (whole n.6.1)
        (ap (λ t. r.may_lack_memory t n.3) (sym i.state) ∙ n.6.0)

-- ---- the sink's faults

-- their count never falls at a reply
pub reply_count : {St : Type 0} (r : StateRules St) (s s_now : St) (written written_now : Option (List ℕ))
    (faults faults_now : ℕ) (out out_now : OutputBuffer) (result : Result Bool Stop) (left left_now : Option (List ℕ))
    (before now : LineBuffer)
    → NextReply r s s_now (Puts written written_now faults faults_now out out_now) result left left_now before now
    → faults ≤ faults_now
reply_count r s s_now written written_now faults faults_now out out_now (Ok good) left left_now before now n = n.6.1.count
reply_count r s s_now written written_now faults faults_now out out_now (Err NoMemory) left left_now before now n =
    n.6.1.count
reply_count r s s_now written written_now faults faults_now out out_now (Err End) left left_now before now n = n.1.count
reply_count r s s_now written written_now faults faults_now out out_now (Err ReadFault) left left_now before now n =
    n.1.count
reply_count r s s_now written written_now faults faults_now out out_now (Err Budget) left left_now before now n = n.1.count
reply_count r s s_now written written_now faults faults_now out out_now (Err WriteFault) left left_now before now n =
    n.2.count
