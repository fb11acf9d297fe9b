-- The ends of a run.
use Rattle.std.proofs.Common.{◌≡◌, ◌⊎◌, inl, inr, ⊎_elim, ℕ, ◌≤◌, ◌+◌, Bool, true, false, List, [], ◌∷◌, ◌++◌, length, length-append, take, Option, Some, None, refl, sym, ap, ◌∙◌, subst, arith, rules, append_assoc}
use Rattle.std.specs.Prelude.{IfSome, ◌≢◌, ◌&&◌, if◌then◌else◌, slice_get}
use Rattle.std.specs.Io.KnownBytes.{Appends, Consumes}
use Rattle.line_io.specs.Devices.{AppendsPrefix, WhereTold}
use Rattle.line_io.specs.Lines.{lines}
use Rattle.line_io.specs.Output.{has_failed, waiting}
use Rattle.line_io.specs.Runs.{IsCall, IsPrefix}
use Rattle.line_io.specs.declared.buffer.Line as lines_of
use Rattle.line_io.specs.declared.buffer.LineBuffer.{LineBuffer}
use Rattle.line_io.specs.declared.output.OutputBuffer.{OutputBuffer}
use Rattle.line_io.proofs.Gathering.{put_whole, put_part}
use Rattle.line_io.proofs.Moved.{append-nil, consumes_more, consumes_none}
use Rattle.line_io.proofs.Runs.{LinesGiven, run_first, run_end, run_failed, run_budget, call_bounded, run_bounded}
use Rattle.line_log.specs.Device.{LeavesOnly}
use Rattle.line_log.proofs.Moments.{weaker}
use Rattle.line_program.specs.Outcome.{Outcome, output}
use Rattle.line_program.specs.Rules.{after_lines, all_good, from_state, replies}
use Rattle.line_program.proofs.RuleLaws.{replies-prefix}
use Rattle.line_program.proofs.Told.{told, given_first, prefix_same, row_done, row_read_fault, row_write_fault, row_memory, row_budget}
use Rattle.pw_file.specs.History.{Rows}
use Rattle.pw_file.specs.Policy.{TextPolicy}
use Rattle.pw_store.specs.Progress.{Begun, Held, Lacks, Progress, Stopped, ended_status, oks}
use Rattle.pw_store.specs.Run.{IsKept, IsLeftBy, IsLeftWith, State, StoreOutcome, plain_status, state, store_lacks, store_rules}
use Rattle.pw_store.specs.Store.{StandsFor}
use Rattle.pw_store.specs.declared.stop.Stop.{Stop}
use Rattle.pw_store.specs.declared.stop.Stop.TheVariants.{End, ReadFault, WriteFault, Budget, NoMemory}
use Rattle.pw_store.proofs.Fates.{first_lines}
use Rattle.pw_store.proofs.Progressing.{done_are, left_more, left_with_more, under_way_on}

-- of what is told
pub if_told : (left : Option (List ℕ)) (P : List ℕ → Type 0) → ((bytes : List ℕ) → left ≡ Some bytes → P bytes) → IfSome left P
if_told None P all = search rules
if_told (Some bytes) P all = all bytes refl

-- ---- statuses

end_verdict : (all takes : Bool) → plain_status (ended_status End all takes false) ≡ (if all && takes then 0 else 1)
end_verdict true true = refl
end_verdict true false = refl
end_verdict false true = refl
end_verdict false false = refl

end_low : (all takes : Bool) → plain_status (ended_status End all takes false) ≤ 1
end_low true true = omega arith
end_low true false = omega arith
end_low false true = omega arith
end_low false false = omega arith

pub status_range : (stop : Stop) (all takes failed : Bool) → (ended_status stop all takes failed ≤ 7) × (ended_status stop all takes failed ≢ 2)
status_range stop all takes true = (omega arith, λ is. omega (arith, is))
status_range End true true false = (omega arith, λ is. omega (arith, is))
status_range End false true false = (omega arith, λ is. omega (arith, is))
status_range End all false false = (omega arith, λ is. omega (arith, is))
status_range ReadFault all takes false = (omega arith, λ is. omega (arith, is))
status_range WriteFault all takes false = (omega arith, λ is. omega (arith, is))
status_range Budget all takes false = (omega arith, λ is. omega (arith, is))
status_range NoMemory all takes false = (omega arith, λ is. omega (arith, is))

pub good_takes : (stop : Stop) (all takes failed : Bool) → ended_status stop all takes failed ≤ 1 → takes ≡ true
good_takes stop all true failed le = refl
good_takes stop all false true le = absurd (omega (arith, le))
good_takes End all false false le = absurd (omega (arith, le))
good_takes ReadFault all false false le = absurd (omega (arith, le))
good_takes WriteFault all false false le = absurd (omega (arith, le))
good_takes Budget all false false le = absurd (omega (arith, le))
good_takes NoMemory all false false le = absurd (omega (arith, le))

pub broken_takes : (stop : Stop) (all takes failed : Bool) → ended_status stop all takes failed ≡ 7 → takes ≡ false
broken_takes stop all false failed is = refl
broken_takes stop all true true is = absurd (omega (arith, is))
broken_takes End true true false is = absurd (omega (arith, is))
broken_takes End false true false is = absurd (omega (arith, is))
broken_takes ReadFault all true false is = absurd (omega (arith, is))
broken_takes WriteFault all true false is = absurd (omega (arith, is))
broken_takes Budget all true false is = absurd (omega (arith, is))
broken_takes NoMemory all true false is = absurd (omega (arith, is))

pub read_stop : (stop : Stop) (all takes failed : Bool) → ended_status stop all takes failed ≡ 3 → stop ≡ ReadFault
read_stop ReadFault all takes failed is = refl
read_stop End all takes true is = absurd (omega (arith, is))
read_stop WriteFault all takes true is = absurd (omega (arith, is))
read_stop Budget all takes true is = absurd (omega (arith, is))
read_stop NoMemory all takes true is = absurd (omega (arith, is))
read_stop End true true false is = absurd (omega (arith, is))
read_stop End false true false is = absurd (omega (arith, is))
read_stop End all false false is = absurd (omega (arith, is))
read_stop WriteFault all takes false is = absurd (omega (arith, is))
read_stop Budget all takes false is = absurd (omega (arith, is))
read_stop NoMemory all takes false is = absurd (omega (arith, is))

pub write_stop : (stop : Stop) (all takes failed : Bool) → (stop ≡ WriteFault → failed ≡ true) → ended_status stop all takes failed ≡ 4 → failed ≡ true
write_stop stop all takes true cut is = refl
write_stop WriteFault all takes false cut is = cut refl
write_stop End true true false cut is = absurd (omega (arith, is))
write_stop End false true false cut is = absurd (omega (arith, is))
write_stop End all false false cut is = absurd (omega (arith, is))
write_stop ReadFault all takes false cut is = absurd (omega (arith, is))
write_stop Budget all takes false cut is = absurd (omega (arith, is))
write_stop NoMemory all takes false cut is = absurd (omega (arith, is))

-- what was lacking is lacking with the same rows
pub stopped_as : {T V : Type 0} (p : TextPolicy T V) (rows rows_now : Rows) (takes takes_now : Bool) (stop : Stop) (left left_now : Option (List ℕ)) (before now : LineBuffer)
    → (stop ≡ NoMemory → (takes_now ≡ takes) × (rows_now ≡ rows)) → Stopped p rows takes stop left left_now before now → Stopped p rows_now takes_now stop left left_now before now
stopped_as p rows rows_now takes takes_now End left left_now before now same has = has
stopped_as p rows rows_now takes takes_now ReadFault left left_now before now same has = has
stopped_as p rows rows_now takes takes_now WriteFault left left_now before now same has = has
stopped_as p rows rows_now takes takes_now Budget left left_now before now same has = has
stopped_as p rows rows_now takes takes_now NoMemory left left_now before now same n =
    let is = same refl in (
      n.0,
      n.1,
      n.2,
      n.3,
      n.4,
      n.5,
      subst (λ (b : Bool). Lacks p rows_now b n.3) (sym is.0) (subst (λ (r : Rows). Lacks p r takes n.3) (sym is.1) n.6),
    )

-- ---- lists

at_line : (ls more : List (List ℕ)) (l : List ℕ) → slice_get (ls ++ l ∷ more) (length ls) ≡ Some l
at_line [] more l = refl
at_line (x ∷ ls) more l = at_line ls more l

module _ {D T V : Type 0} (p : TextPolicy T V) (seen : D → List ℕ) (may_leave : D → List ℕ → Type 0) (moment : D → ℕ) (left_since : D → ℕ → List ℕ → Type 0)
    (disk_faults : D → ℕ) (from : Begun D) (asked : List (List ℕ)) (held : Held D) (out : OutputBuffer) (written : Option (List ℕ)) (faults : ℕ) (all : Bool)
    (so_far : Progress p seen may_leave moment left_since disk_faults from asked held [] out written faults all) (idle : held.count ≡ 0)
    (left left_mid left_now : Option (List ℕ)) (before now : LineBuffer) (max : ℕ) (given : LinesGiven left left_mid before max asked)
    (empty : waiting from.out ≡ []) (rest_left : held.takes ≡ true → (c : List ℕ) → may_leave held.device c → StandsFor p held.rows c) where
  lines_begin : (bytes : List ℕ) → left ≡ Some bytes → (more : List (List ℕ)) × (lines bytes ≡ asked ++ more)
  lines_begin bytes is = let g = rw is at given in given_first bytes left_mid before max asked g g.consumed

  -- ---- what a crash leaves

  leaves : (takes : Bool) → held.takes ≡ takes → (more : List (List ℕ)) (c : List ℕ) → may_leave held.device c
      → StandsFor p held.rows c ⊎ IsLeftWith p from.rows from.size so_far.fate (asked ++ more) so_far.under_way c
  leaves true is more c has = inl (rest_left is c has)
  leaves false is more c has = ⊎_elim (λ one. inl one)
      (λ other. inr (left_with_more p from.rows from.size so_far.fate asked more so_far.under_way c so_far.were_under_way other)) (so_far.kept is c has)

  kept : (part : List ℕ) (more : List (List ℕ)) → IsPrefix part (replies (store_rules p) (state from.rows from.size so_far.fate) asked)
      → IsKept p from.rows from.size so_far.fate (may_leave held.device) (asked ++ more) part
  kept part more prefix =
      let firsts_are : take (length asked) (asked ++ more) ≡ asked = first_lines asked more in
      let rows_are : held.rows ≡ (after_lines (store_rules p) (state from.rows from.size so_far.fate) (take (length asked) (asked ++ more))).rows =
      sym (ap (λ (ls : List (List ℕ)). (after_lines (store_rules p) (state from.rows from.size so_far.fate) ls).rows) firsts_are ∙ ap (λ (s : State). s.rows) so_far.now) in
      record {
        count = length asked;
        within = omega (arith, length-append asked more);
        beginning = subst (λ (ls : List (List ℕ)). IsPrefix part (replies (store_rules p) (state from.rows from.size so_far.fate) ls)) (sym firsts_are) prefix;
        under_way = so_far.under_way;
        were_under_way = under_way_on p from.rows from.size so_far.fate asked more (length asked) so_far.under_way (omega arith) so_far.were_under_way;
        leaves = λ c has. ⊎_elim (λ one. inl (subst (λ (r : Rows). StandsFor p r c) rows_are one)) (λ other. inr other) (leaves held.takes refl more c has);
      }

  row : (status : ℕ) (bytes taken added : List ℕ) → left ≡ Some bytes
      → Outcome (from_state (store_rules p) (state from.rows from.size so_far.fate)) (plain_status status) max bytes taken added
      → IsPrefix added (replies (store_rules p) (state from.rows from.size so_far.fate) asked)
      → StoreOutcome p from.rows from.size held.takes (may_leave held.device) status max bytes taken added
  row status bytes taken added is outcome prefix =
      let more = lines_begin bytes is in
      record {
        fate = so_far.fate;
        answers = outcome;
        kept = subst (λ (ls : List (List ℕ)). IsKept p from.rows from.size so_far.fate (may_leave held.device) ls added) (sym more.1) (kept added more.0 prefix);
        healthy = so_far.works;
      }

  -- what was added is the beginning of the output
  beginning : (bytes part : List ℕ) → left ≡ Some bytes → IsPrefix part (replies (store_rules p) (state from.rows from.size so_far.fate) asked)
      → IsPrefix part (output (from_state (store_rules p) (state from.rows from.size so_far.fate)) bytes)
  beginning bytes part is prefix =
      let more = lines_begin bytes is in
      rw more.1 (replies-prefix (store_rules p) (state from.rows from.size so_far.fate) asked more.0 part prefix)

  -- ---- a crash during the run

  pub crash_told : (bytes : List ℕ) → left ≡ Some bytes → LeavesOnly moment left_since from.device held.device (IsLeftBy p from.rows from.size (lines bytes))
  crash_told bytes is =
      let more = lines_begin bytes is in
      subst (λ (ls : List (List ℕ)). LeavesOnly moment left_since from.device held.device (IsLeftBy p from.rows from.size ls)) (sym more.1)
      (weaker moment left_since from.device held.device (IsLeftBy p from.rows from.size asked) (IsLeftBy p from.rows from.size (asked ++ more.0)) so_far.crash
      (λ c has. left_more p from.rows from.size asked more.0 c has))

  -- ---- a write of replies failed

  added_part : AppendsPrefix from.written written (replies (store_rules p) (state from.rows from.size so_far.fate) asked)
  added_part = subst (λ (ls : List (List ℕ)). AppendsPrefix from.written written (replies (store_rules p) (state from.rows from.size so_far.fate) ls))
      (done_are p seen may_leave moment left_since disk_faults from asked held out written faults all so_far idle)
      (put_part from.written written from.faults faults from.out out (replies (store_rules p) (state from.rows from.size so_far.fate) so_far.done) so_far.put empty)

  abbrev Told : ℕ → Type 0
  Told status = WhereTold left left_now from.written written
      (λ bytes taken added. StoreOutcome p from.rows from.size held.takes (may_leave held.device) status max bytes taken added)

  cut : (more : List ℕ) → Consumes left_mid left_now more → length (given.bytes ++ more) ≤ max + 1 → Told 4
  cut more c bounded =
      let part = added_part in
      told left left_now from.written written (given.bytes ++ more) part.0
      (λ bytes taken added. StoreOutcome p from.rows from.size held.takes (may_leave held.device) 4 max bytes taken added)
      (consumes_more left left_mid left_now given.bytes more given.consumed c) part.3
      (λ bytes rest d e k. row 4 bytes (given.bytes ++ more) part.0 d
      (row_write_fault (from_state (store_rules p) (state from.rows from.size so_far.fate)) max bytes (given.bytes ++ more) part.0 bounded
      (beginning bytes part.0 d (part.1, part.2)))
      (part.1, part.2))

  none_more : length (given.bytes ++ []) ≤ max + 1
  none_more = rw (append-nil given.bytes) (run_bounded left left_mid before max asked given)

  pub stopped_cut : (stop : Stop) (rows : Rows) (takes : Bool) → Stopped p rows takes stop left_mid left_now before now → Told 4
  stopped_cut End rows takes c = cut c.takes.bytes c.takes.consumed (call_bounded lines_of.TheVariants.End left left_mid left_now before now max asked given c)
  stopped_cut ReadFault rows takes c = cut c.takes.bytes c.takes.consumed (call_bounded lines_of.TheVariants.Failed left left_mid left_now before now max asked given c)
  stopped_cut Budget rows takes c = cut c.takes.bytes c.takes.consumed (call_bounded lines_of.TheVariants.Budget left left_mid left_now before now max asked given c)
  stopped_cut WriteFault rows takes n = cut [] (rw n.0 (consumes_none left_mid)) none_more
  stopped_cut NoMemory rows takes n = cut n.1.takes.bytes n.1.takes.consumed (call_bounded n.0 left left_mid left_now before now max asked given n.1)

  -- ---- all was written

  module _ (unfailed : has_failed out ≡ false) (none : waiting out ≡ []) where
    added_all : Appends from.written written (replies (store_rules p) (state from.rows from.size so_far.fate) asked)
    added_all = subst (λ (ls : List (List ℕ)). Appends from.written written (replies (store_rules p) (state from.rows from.size so_far.fate) ls))
        (done_are p seen may_leave moment left_since disk_faults from asked held out written faults all so_far idle)
        (put_whole from.written written from.faults faults from.out out (replies (store_rules p) (state from.rows from.size so_far.fate) so_far.done) so_far.put empty unfailed none)

    finished : (status : ℕ) (more : List ℕ) → Consumes left_mid left_now more
        → ((bytes rest : List ℕ) → left ≡ Some bytes → left_now ≡ Some rest → bytes ≡ (given.bytes ++ more) ++ rest
        → Outcome (from_state (store_rules p) (state from.rows from.size so_far.fate)) (plain_status status) max bytes (given.bytes ++ more)
        (replies (store_rules p) (state from.rows from.size so_far.fate) asked)) → Told status
    finished status more c outcome =
        told left left_now from.written written (given.bytes ++ more) (replies (store_rules p) (state from.rows from.size so_far.fate) asked)
        (λ bytes taken added. StoreOutcome p from.rows from.size held.takes (may_leave held.device) status max bytes taken added)
        (consumes_more left left_mid left_now given.bytes more given.consumed c) added_all
        (λ bytes rest d e k. row status bytes (given.bytes ++ more) (replies (store_rules p) (state from.rows from.size so_far.fate) asked) d (outcome bytes rest d e k)
        (prefix_same (replies (store_rules p) (state from.rows from.size so_far.fate) asked)))

    ended : IsCall lines_of.TheVariants.End left_mid left_now before now → Told (ended_status End all held.takes false)
    ended c = finished (ended_status End all held.takes false) c.takes.bytes c.takes.consumed
        (λ bytes rest d e k.
        let end = run_end left left_mid left_now before now max asked given c bytes rest e k in
        row_done (from_state (store_rules p) (state from.rows from.size so_far.fate)) (plain_status (ended_status End all held.takes false)) max bytes (given.bytes ++ c.takes.bytes)
        (replies (store_rules p) (state from.rows from.size so_far.fate) asked) (end_low all held.takes) end.0 end.1
        (ap (replies (store_rules p) (state from.rows from.size so_far.fate)) (sym end.2))
        (end_verdict all held.takes ∙ ap (λ (b : Bool). if b then 0 else 1) (so_far.good ∙ ap (all_good (store_rules p) (state from.rows from.size so_far.fate)) (sym end.2))))

    read_failed : IsCall lines_of.TheVariants.Failed left_mid left_now before now → Told 3
    read_failed c = finished 3 c.takes.bytes c.takes.consumed
        (λ bytes rest d e k.
        row_read_fault (from_state (store_rules p) (state from.rows from.size so_far.fate)) max bytes (given.bytes ++ c.takes.bytes)
        (replies (store_rules p) (state from.rows from.size so_far.fate) asked)
        (call_bounded lines_of.TheVariants.Failed left left_mid left_now before now max asked given c)
        (ap (replies (store_rules p) (state from.rows from.size so_far.fate)) (sym (run_failed left left_mid left_now before now max asked given c)))
        (beginning bytes (replies (store_rules p) (state from.rows from.size so_far.fate) asked) d (prefix_same (replies (store_rules p) (state from.rows from.size so_far.fate) asked))))

    over_max : IsCall lines_of.TheVariants.Budget left_mid left_now before now → Told 6
    over_max c = finished 6 c.takes.bytes c.takes.consumed
        (λ bytes rest d e k.
        let is = run_budget left left_mid left_now before now max asked given c bytes rest k in
        row_budget (from_state (store_rules p) (state from.rows from.size so_far.fate)) max bytes (given.bytes ++ c.takes.bytes)
        (replies (store_rules p) (state from.rows from.size so_far.fate) asked)
        (call_bounded lines_of.TheVariants.Budget left left_mid left_now before now max asked given c) is.0
        (ap (replies (store_rules p) (state from.rows from.size so_far.fate)) (sym is.1))
        (beginning bytes (replies (store_rules p) (state from.rows from.size so_far.fate) asked) d (prefix_same (replies (store_rules p) (state from.rows from.size so_far.fate) asked))))

    -- memory was wanting for the line behind those that were answered
    memory_row : (l : List ℕ) → LinesGiven left left_now now max (asked ++ l ∷ []) → Lacks p held.rows held.takes l
        → (bytes taken : List ℕ) → left ≡ Some bytes → length taken ≤ max + 1
        → Outcome (from_state (store_rules p) (state from.rows from.size so_far.fate)) 5 max bytes taken
        (replies (store_rules p) (state from.rows from.size so_far.fate) asked)
    memory_row l more lacks bytes taken is bounded =
        let g = rw is at more in
        let behind = given_first bytes left_now now max (asked ++ l ∷ []) g g.consumed in
        let lines_are : lines bytes ≡ asked ++ l ∷ behind.0 = behind.1 ∙ append_assoc asked (l ∷ []) behind.0 in
        let firsts_are : take (length asked) (lines bytes) ≡ asked = ap (take (length asked)) lines_are ∙ first_lines asked (l ∷ behind.0) in
        let found : slice_get (lines bytes) (length asked) ≡ Some l = ap (λ (ls : List (List ℕ)). slice_get ls (length asked)) lines_are ∙ at_line asked behind.0 l in
        let lack : store_lacks p (after_lines (store_rules p) (state from.rows from.size so_far.fate) (take (length asked) (lines bytes))) l ≡ true =
        ap (λ (ls : List (List ℕ)). store_lacks p (after_lines (store_rules p) (state from.rows from.size so_far.fate) ls) l) firsts_are
        ∙ ap (λ (s : State). store_lacks p s l) so_far.now ∙ lacks so_far.size in
        row_memory (from_state (store_rules p) (state from.rows from.size so_far.fate)) max bytes taken
        (replies (store_rules p) (state from.rows from.size so_far.fate) asked) bounded
        (length asked, l, ap (replies (store_rules p) (state from.rows from.size so_far.fate)) (sym firsts_are), found, lack)
        (beginning bytes (replies (store_rules p) (state from.rows from.size so_far.fate) asked) is (prefix_same (replies (store_rules p) (state from.rows from.size so_far.fate) asked)))

    pub stopped_told : (stop : Stop) → (Stopped p held.rows held.takes stop left_mid left_now before now) → Told (ended_status stop all held.takes false)
    stopped_told End c = ended c
    stopped_told ReadFault c = read_failed c
    stopped_told Budget c = over_max c
    stopped_told WriteFault n = stopped_cut WriteFault held.rows held.takes n
    stopped_told NoMemory n =
        let one = run_first n.0 left left_mid left_now before now max asked n.3 given n.1 n.2 n.4 n.5 in
        finished 5 n.1.takes.bytes n.1.takes.consumed
        (λ bytes rest d e k. memory_row n.3 one.0 n.6 bytes (given.bytes ++ n.1.takes.bytes) d
        (call_bounded n.0 left left_mid left_now before now max asked given n.1))

  -- by whether a write of replies failed
  pub all_told : (failed : Bool) → has_failed out ≡ failed → (has_failed out ≡ false → waiting out ≡ []) → (stop : Stop) → Stopped p held.rows held.takes stop left_mid left_now before now
      → (status : ℕ) → status ≡ ended_status stop all held.takes (has_failed out)
      → WhereTold left left_now from.written written
      (λ bytes taken added. StoreOutcome p from.rows from.size held.takes (may_leave held.device) status max bytes taken added)
  all_told true cut_off none stop n status is =
      let four : status ≡ 4 = is ∙ ap (ended_status stop all held.takes) cut_off in
      subst (λ (t : ℕ). Told t) (sym four) (stopped_cut stop held.rows held.takes n)
  all_told false unfailed none stop n status is =
      let same : status ≡ ended_status stop all held.takes false = is ∙ ap (ended_status stop all held.takes) unfailed in
      subst (λ (t : ℕ). Told t) (sym same) (stopped_told unfailed (none unfailed) stop n)

-- ---- a run that goes on

-- These lines were taken off the buffer, and the run has come so far with them.
pub record Running {D T V : Type 0} (p : TextPolicy T V) (seen : D → List ℕ) (may_leave : D → List ℕ → Type 0) (moment : D → ℕ) (left_since : D → ℕ → List ℕ → Type 0)
    (disk_faults : D → ℕ) (from : Begun D) (left left_now : Option (List ℕ)) (b : LineBuffer) (max : ℕ) (held : Held D) (out : OutputBuffer) (written : Option (List ℕ)) (faults : ℕ)
    (all : Bool) : Type 0 where
  pub asked : List (List ℕ)
  pub given : LinesGiven left left_now b max asked
  pub so_far : Progress p seen may_leave moment left_since disk_faults from asked held (oks held.count) out written faults all
