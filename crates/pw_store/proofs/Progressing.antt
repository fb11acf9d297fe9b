-- How a run goes on.
use Rattle.std.proofs.Common.{◌≡◌, ◌⊎◌, inl, inr, ⊎_elim, ℕ, zero, ◌<◌, ◌≤◌, ◌+◌, Bool, true, false, List, [], ◌∷◌, ◌++◌, length, length-append, take, drop, Option, Some, None, refl, sym, ap, ◌∙◌, subst, arith}
use Rattle.std.specs.Prelude.{◌&&◌}
use Rattle.std.specs.List.{list_all}
use Rattle.pieces.specs.FaultCounts.{HasRisen}
use Rattle.pieces.proofs.RisenCounts.{risen_since}
use Rattle.line_io.specs.Output.{Puts}
use Rattle.line_io.specs.declared.output.OutputBuffer.{OutputBuffer}
use Rattle.line_io.proofs.Gathering.{puts_none, puts_more, puts_then_none}
use Rattle.line_log.specs.Device.{LeavesOnly}
use Rattle.line_log.proofs.Moments.{and_then, weaker}
use Rattle.line_program.specs.Rules.{after_lines, all_good, replies}
use Rattle.line_program.proofs.RuleLaws.{after-append, good-last, replies-append, replies-last}
use Rattle.pw_file.specs.History.{Change, Reply, Rows, change}
use Rattle.pw_file.specs.Policy.{TextPolicy}
use Rattle.pw_file.specs.Replies.{is_good, reply_text}
use Rattle.pw_file.specs.Rules.{changed}
use Rattle.pw_file.specs.declared.reply.Word.TheVariants.{DiskFault}
use Rattle.pw_store.specs.Progress.{Begun, Held, Progress, fate_now, words}
use Rattle.pw_store.specs.Run.{Fate, IsLeftBy, IsLeftWith, State, WereUnderWay, asks_change, grown, state, store_after, store_reply, store_rules}
use Rattle.pw_store.specs.Staged.{rows_in}
use Rattle.pw_store.specs.Store.{StandsFor}
use Rattle.pw_store.proofs.Fates.{all_more, all_of, and_false, and_swap, behind, fated, first_lines, firsts, good-append, next_now, nil-append, not_both, other_after, part_of, refused_all, same_after}

same_state : (rows rows_now : Rows) (size : ℕ) (takes takes_now : Bool) → rows_now ≡ rows → takes_now ≡ takes
    → state rows size (fate_now takes) ≡ state rows_now size (fate_now takes_now)
same_state rows rows_now size takes takes_now is opened =
    ap (λ (t : Rows). state t size (fate_now takes)) (sym is) ∙ ap (λ (b : Bool). state rows_now size (fate_now b)) (sym opened)

empty_list : (xs : List (List ℕ)) → 0 ≡ length xs → xs ≡ []
empty_list [] is = refl
empty_list (x ∷ xs) is = absurd (omega (arith, is))

grouped : (xs ys : List (List ℕ)) (l : List ℕ) → (xs ++ ys) ++ l ∷ [] ≡ xs ++ (ys ++ l ∷ [])
grouped [] ys l = refl
grouped (x ∷ xs) ys l = ap (λ (m : List (List ℕ)). x ∷ m) (grouped xs ys l)

one_more : (xs : List (List ℕ)) (l : List ℕ) → length (xs ++ l ∷ []) ≡ length xs + 1
one_more xs l = length-append xs (l ∷ [])

module _ {T V : Type 0} (p : TextPolicy T V) (rows : Rows) (size : ℕ) where
  -- some of the first lines leave it
  pub left_by : (asked front more : List (List ℕ)) (now : Rows) (c : List ℕ) → asked ≡ front ++ more
      → now ≡ (after_lines (store_rules p) (state rows size None) front).rows → StandsFor p now c → IsLeftBy p rows size asked c
  left_by asked front more now c split is stands =
      let many : length asked ≡ length front + length more = ap length split ∙ length-append front more in
      let firsts_are : take (length front) asked ≡ front = ap (take (length front)) split ∙ first_lines front more in (
        length front,
        omega (arith, many),
        subst (λ (ls : List (List ℕ)). StandsFor p (after_lines (store_rules p) (state rows size None) ls).rows c) (sym firsts_are)
            (subst (λ (r : Rows). StandsFor p r c) is stands),
      )

  pub left_more : (asked more : List (List ℕ)) (c : List ℕ) → IsLeftBy p rows size asked c → IsLeftBy p rows size (asked ++ more) c
  left_more asked more c (j, le, stands) = (
    j,
    omega (arith, le, length-append asked more),
    subst (λ (ls : List (List ℕ)). StandsFor p (after_lines (store_rules p) (state rows size None) ls).rows c) (sym (firsts asked more j le)) stands,
  )

  pub under_way_on : (fate : Fate) (asked more : List (List ℕ)) (k n : ℕ) → length asked ≤ k → WereUnderWay p fate asked (length asked) n → WereUnderWay p fate (asked ++ more) k n
  under_way_on None asked more k n le none = none
  under_way_on (Some m) asked more k n le (within, changes) =
      (omega (arith, within, le), ap (list_all (asks_change p)) (part_of asked more m n within) ∙ changes)

  pub left_with_more : (fate : Fate) (asked more : List (List ℕ)) (n : ℕ) (c : List ℕ) → WereUnderWay p fate asked (length asked) n → IsLeftWith p rows size fate asked n c
      → IsLeftWith p rows size fate (asked ++ more) n c
  left_with_more None asked more n c none never = never
  left_with_more (Some m) asked more n c (within, changes) stands =
      subst (λ (ls : List (List ℕ)). StandsFor p (after_lines (store_rules p) (state rows size None) ls).rows c) (sym (firsts asked more (m + n) within)) stands

module _ {D T V : Type 0} (p : TextPolicy T V) (seen : D → List ℕ) (may_leave : D → List ℕ → Type 0) (moment : D → ℕ) (left_since : D → ℕ → List ℕ → Type 0)
    (disk_faults : D → ℕ) (from : Begun D) where
  pub progress_start : (held : Held D) → held.takes ≡ true → held.rows ≡ from.rows → held.size ≡ from.size → held.count ≡ 0
      → rows_in p (seen held.device) ≡ from.rows → held.device ≡ from.device
      → LeavesOnly moment left_since from.device held.device (StandsFor p from.rows)
      → Progress p seen may_leave moment left_since disk_faults from [] held [] from.out from.written from.faults true
  progress_start held opened rows size none file device crash = record {
    fate = None;
    done = [];
    staged = [];
    lines = refl;
    put = puts_none from.written from.faults from.out;
    owes = refl;
    count = none;
    changes = refl;
    works = λ is. refl;
    idle = λ is. none;
    size = from.size;
    size_is = λ is. sym size;
    now = same_state from.rows held.rows from.size true held.takes rows opened;
    file = λ is. file;
    good = opened;
    counted = let same : disk_faults held.device ≡ disk_faults from.device = ap disk_faults device in omega (arith, same);
    risen = λ never. not_both held.takes opened never;
    crash = weaker moment left_since from.device held.device (StandsFor p from.rows) (IsLeftBy p from.rows from.size []) crash
        (λ c stands. left_by p from.rows from.size [] [] [] from.rows c refl refl stands);
    under_way = 0;
    were_under_way = refl;
    kept = λ never. not_both held.takes opened never;
  }

  module _ (asked : List (List ℕ)) (held : Held D) (owed : List ℕ) (out : OutputBuffer) (written : Option (List ℕ)) (faults : ℕ) (all : Bool)
      (so_far : Progress p seen may_leave moment left_since disk_faults from asked held owed out written faults all) where
    -- ---- the same, seen otherwise

    pub put_nothing : (out_now : OutputBuffer) (written_now : Option (List ℕ)) (faults_now : ℕ) → Puts written written_now faults faults_now out out_now []
        → Progress p seen may_leave moment left_since disk_faults from asked held owed out_now written_now faults_now all
    put_nothing out_now written_now faults_now put = record {
      fate = so_far.fate;
      done = so_far.done;
      staged = so_far.staged;
      lines = so_far.lines;
      put = puts_then_none from.written written written_now from.faults faults faults_now from.out out out_now
          (replies (store_rules p) (state from.rows from.size so_far.fate) so_far.done) so_far.put put;
      owes = so_far.owes;
      count = so_far.count;
      changes = so_far.changes;
      works = so_far.works;
      idle = so_far.idle;
      size = so_far.size;
      size_is = so_far.size_is;
      now = so_far.now;
      file = so_far.file;
      good = so_far.good;
      counted = so_far.counted;
      risen = so_far.risen;
      crash = so_far.crash;
      under_way = so_far.under_way;
      were_under_way = so_far.were_under_way;
      kept = so_far.kept;
    }

    -- of another size, which doesn't count once a write has failed
    pub resized : (size_now : ℕ) → (held.takes ≡ true → size_now ≡ held.size)
        → Progress p seen may_leave moment left_since disk_faults from asked
        (record { takes = held.takes; rows = held.rows; size = size_now; device = held.device; count = held.count }) owed out written faults all
    resized size_now same = record {
      fate = so_far.fate;
      done = so_far.done;
      staged = so_far.staged;
      lines = so_far.lines;
      put = so_far.put;
      owes = so_far.owes;
      count = so_far.count;
      changes = so_far.changes;
      works = so_far.works;
      idle = so_far.idle;
      size = so_far.size;
      size_is = λ is. so_far.size_is is ∙ sym (same is);
      now = so_far.now;
      file = so_far.file;
      good = so_far.good;
      counted = so_far.counted;
      risen = so_far.risen;
      crash = so_far.crash;
      under_way = so_far.under_way;
      were_under_way = so_far.were_under_way;
      kept = so_far.kept;
    }

    pub held_as : (held_now : Held D) (owed_now : List ℕ) → held_now.takes ≡ held.takes → held_now.rows ≡ held.rows → (held_now.takes ≡ true → held_now.size ≡ held.size)
        → held_now.device ≡ held.device → held_now.count ≡ held.count → owed_now ≡ owed
        → Progress p seen may_leave moment left_since disk_faults from asked held_now owed_now out written faults all
    held_as held_now owed_now takes rows size device count owes =
        let mid : Held D = record { takes = held.takes; rows = held.rows; size = held_now.size; device = held.device; count = held.count } in
        let same : held_now ≡ mid = λ i. record { takes = takes i; rows = rows i; size = held_now.size; device = device i; count = count i } in
        let so_large : held.takes ≡ true → held_now.size ≡ held.size = λ is. size (takes ∙ is) in
        subst (λ (o : List ℕ). Progress p seen may_leave moment left_since disk_faults from asked held_now o out written faults all) (sym owes)
        (subst (λ (h : Held D). Progress p seen may_leave moment left_since disk_faults from asked h owed out written faults all) (sym same) (resized held_now.size so_large))

    -- ---- where no write has failed

    module _ (opened : held.takes ≡ true) where
      base_left : (c : List ℕ) → StandsFor p (rows_in p (seen held.device)) c → IsLeftBy p from.rows from.size asked c
      base_left c stands = left_by p from.rows from.size asked so_far.done so_far.staged (rows_in p (seen held.device)) c so_far.lines
          (so_far.file opened ∙ ap (λ (f : Fate). (after_lines (store_rules p) (state from.rows from.size f) so_far.done).rows) (so_far.works opened)) stands

      rows_are : held.rows ≡ (after_lines (store_rules p) (state from.rows from.size None) asked).rows
      rows_are = sym (ap (λ (s : State). s.rows) so_far.now)
          ∙ ap (λ (f : Fate). (after_lines (store_rules p) (state from.rows from.size f) asked).rows) (so_far.works opened)

      rows_left : (c : List ℕ) → StandsFor p held.rows c → IsLeftBy p from.rows from.size asked c
      rows_left c stands = left_by p from.rows from.size asked asked [] held.rows c (sym (nil-append asked)) rows_are stands

      -- the device went on, and a crash left what it had or what the changes make of it
      crash_on : (device : D) → LeavesOnly moment left_since held.device device (λ c. StandsFor p (rows_in p (seen held.device)) c ⊎ StandsFor p held.rows c)
          → LeavesOnly moment left_since from.device device (IsLeftBy p from.rows from.size asked)
      crash_on device step =
          let P : List ℕ → Type 0 = λ c. StandsFor p (rows_in p (seen held.device)) c ⊎ StandsFor p held.rows c in
          and_then moment left_since from.device held.device device (IsLeftBy p from.rows from.size asked) so_far.crash
          (weaker moment left_since held.device device P (IsLeftBy p from.rows from.size asked) step
          (λ c has. ⊎_elim (base_left c) (rows_left c) has))

      module _ (held_now : Held D) (none : held_now.count ≡ 0) (out_now : OutputBuffer) (written_now : Option (List ℕ)) (faults_now : ℕ)
          (crash : LeavesOnly moment left_since held.device held_now.device (λ c. StandsFor p (rows_in p (seen held.device)) c ⊎ StandsFor p held.rows c)) where
        -- the changes that waited are in the file, and their replies were put
        pub settled : held_now.takes ≡ true → held_now.rows ≡ held.rows → held_now.size ≡ held.size → rows_in p (seen held_now.device) ≡ held_now.rows
            → disk_faults held.device ≤ disk_faults held_now.device → Puts written written_now faults faults_now out out_now owed
            → Progress p seen may_leave moment left_since disk_faults from asked held_now [] out_now written_now faults_now all
        settled still rows size file count put =
            let fate = so_far.fate in
            let done = so_far.done in
            let staged = so_far.staged in
            let text : replies (store_rules p) (state from.rows from.size fate) done ++ owed ≡ replies (store_rules p) (state from.rows from.size fate) asked =
            ap (λ (t : List ℕ). replies (store_rules p) (state from.rows from.size fate) done ++ t) (sym so_far.owes)
            ∙ sym (replies-append (store_rules p) (state from.rows from.size fate) done staged)
            ∙ ap (replies (store_rules p) (state from.rows from.size fate)) (sym so_far.lines) in
            record {
              fate = fate;
              done = asked;
              staged = [];
              lines = sym (nil-append asked);
              put = subst (λ (t : List ℕ). Puts from.written written_now from.faults faults_now from.out out_now t) text
                  (puts_more from.written written written_now from.faults faults faults_now from.out out out_now
                  (replies (store_rules p) (state from.rows from.size fate) done) owed so_far.put put);
              owes = refl;
              count = none;
              changes = refl;
              works = λ is. so_far.works opened;
              idle = λ is. none;
              size = so_far.size;
              size_is = λ is. so_far.size_is opened ∙ sym size;
              now = so_far.now ∙ same_state held.rows held_now.rows so_far.size held.takes held_now.takes rows (still ∙ sym opened);
              file = λ is. file ∙ rows ∙ sym (ap (λ (s : State). s.rows) so_far.now);
              good = ap (λ (b : Bool). all && b) (still ∙ sym opened) ∙ so_far.good;
              counted = omega (arith, so_far.counted, count);
              risen = λ never. not_both held_now.takes still never;
              crash = crash_on held_now.device crash;
              under_way = so_far.under_way;
              were_under_way = so_far.were_under_way;
              kept = λ never. not_both held_now.takes still never;
            }

        -- a write failed: their replies are `disk-fault`
        pub failed : (all_now : Bool) → held_now.takes ≡ false → held_now.rows ≡ rows_in p (seen held.device) → 0 < held.count
            → ((c : List ℕ) → may_leave held_now.device c → StandsFor p (rows_in p (seen held.device)) c ⊎ StandsFor p held.rows c)
            → HasRisen (disk_faults held.device) (disk_faults held_now.device) → disk_faults held.device ≤ disk_faults held_now.device
            → Puts written written_now faults faults_now out out_now (words held.count DiskFault)
            → Progress p seen may_leave moment left_since disk_faults from asked held_now [] out_now written_now faults_now all_now
        failed all_now broken rows some left risen count put =
            let done = so_far.done in
            let staged = so_far.staged in
            let start : State = state from.rows from.size (Some (length done)) in
            let open_start : State = state from.rows from.size None in
            let mid : State = after_lines (store_rules p) open_start done in
            let none_fate = so_far.works opened in
            let f = fated p done from.rows from.size 0 (length done) (omega arith) in
            let r = refused_all p staged mid.rows mid.size so_far.changes in
            let many : 0 < length staged = omega (arith, some, so_far.count) in
            let put_open : Puts from.written written from.faults faults from.out out (replies (store_rules p) open_start done) =
            subst (λ (t : Fate). Puts from.written written from.faults faults from.out out (replies (store_rules p) (state from.rows from.size t) done)) none_fate so_far.put in
            let words_are : words held.count DiskFault ≡ replies (store_rules p) (after_lines (store_rules p) start done) staged =
            ap (λ (n : ℕ). words n DiskFault) so_far.count ∙ sym r.replies_are
            ∙ ap (λ (s : State). replies (store_rules p) s staged) (sym f.after) in
            let text : replies (store_rules p) open_start done ++ words held.count DiskFault ≡ replies (store_rules p) start asked =
            ap (λ (t : List ℕ). t ++ words held.count DiskFault) (sym f.replies_are)
            ∙ ap (λ (t : List ℕ). replies (store_rules p) start done ++ t) words_are
            ∙ sym (replies-append (store_rules p) start done staged) ∙ ap (replies (store_rules p) start) (sym so_far.lines) in
            let after : after_lines (store_rules p) start asked ≡ state mid.rows mid.size (Some zero) =
            ap (after_lines (store_rules p) start) so_far.lines ∙ after-append (store_rules p) start done staged
            ∙ ap (λ (s : State). after_lines (store_rules p) s staged) f.after ∙ r.after in
            let base : rows_in p (seen held.device) ≡ mid.rows =
            so_far.file opened ∙ ap (λ (t : Fate). (after_lines (store_rules p) (state from.rows from.size t) done).rows) none_fate in
            let bad : all_good (store_rules p) start asked ≡ false =
            ap (all_good (store_rules p) start) so_far.lines ∙ good-append (store_rules p) start done staged
            ∙ ap (λ (s : State). all_good (store_rules p) start done && all_good (store_rules p) s staged) f.after
            ∙ ap (λ (b : Bool). all_good (store_rules p) start done && b) (r.good many) ∙ and_false (all_good (store_rules p) start done) in
            let total : length asked ≡ length done + length staged = ap length so_far.lines ∙ length-append done staged in
            let taken_all : take (length done + length staged) asked ≡ asked =
            ap (λ (n : ℕ). take n asked) (sym total) ∙ all_of asked in
            record {
              fate = Some (length done);
              done = asked;
              staged = [];
              lines = sym (nil-append asked);
              put = subst (λ (t : List ℕ). Puts from.written written_now from.faults faults_now from.out out_now t) text
                  (puts_more from.written written written_now from.faults faults faults_now from.out out out_now
                  (replies (store_rules p) open_start done) (words held.count DiskFault) put_open put);
              owes = refl;
              count = none;
              changes = refl;
              works = λ is. not_both held_now.takes is broken;
              idle = λ is. none;
              size = mid.size;
              size_is = λ is. not_both held_now.takes is broken;
              now = after ∙ same_state mid.rows held_now.rows mid.size false held_now.takes (rows ∙ base) broken;
              file = λ is. not_both held_now.takes is broken;
              good = ap (λ (b : Bool). all_now && b) broken ∙ and_false all_now ∙ sym bad;
              counted = omega (arith, so_far.counted, count);
              risen = λ never. risen_since (disk_faults from.device) (disk_faults held.device) (disk_faults held_now.device) so_far.counted risen;
              crash = crash_on held_now.device crash;
              under_way = length staged;
              were_under_way = (
                omega (arith, total),
                ap (λ (ls : List (List ℕ)). list_all (asks_change p) (take (length staged) ls))
                    (ap (drop (length done)) so_far.lines ∙ behind done staged) ∙ ap (list_all (asks_change p)) (all_of staged) ∙ so_far.changes,
              );
              kept = λ never c has. ⊎_elim (λ one. inl (subst (λ (t : Rows). StandsFor p t c) (sym rows) one))
                  (λ other. inr (subst (λ (ls : List (List ℕ)). StandsFor p (after_lines (store_rules p) open_start ls).rows c) (sym taken_all)
                  (subst (λ (t : Rows). StandsFor p t c) rows_are other))) (left c has);
            }

      -- a change waits
      pub waits : (line : List ℕ) (reply : Reply) (change_is : Change) → asks_change p line ≡ true → is_good reply ≡ true
          → store_reply p (state held.rows held.size None) line ≡ reply → change p (line, reply) ≡ Some change_is
          → (held_now : Held D) → held_now.takes ≡ true → held_now.rows ≡ changed held.rows (Some change_is) → held_now.size ≡ grown held.size (Some change_is)
          → held_now.device ≡ held.device → held_now.count ≡ held.count + 1
          → Progress p seen may_leave moment left_since disk_faults from (asked ++ line ∷ []) held_now (owed ++ reply_text reply) out written faults (all && true)
      waits line reply change_is asks good said makes held_now still rows size device count =
          let fate = so_far.fate in
          let done = so_far.done in
          let staged = so_far.staged in
          let start : State = state from.rows from.size fate in
          let asked_now : List (List ℕ) = asked ++ line ∷ [] in
          let split : asked_now ≡ done ++ (staged ++ line ∷ []) =
          ap (λ (ls : List (List ℕ)). ls ++ line ∷ []) so_far.lines ∙ grouped done staged line in
          let here : after_lines (store_rules p) start asked ≡ state held.rows held.size None =
          so_far.now ∙ ap (λ (b : Bool). state held.rows so_far.size (fate_now b)) opened ∙ ap (λ (n : ℕ). state held.rows n None) (so_far.size_is opened) in
          let mid : after_lines (store_rules p) (after_lines (store_rules p) start done) staged ≡ state held.rows held.size None =
          sym (after-append (store_rules p) start done staged) ∙ ap (after_lines (store_rules p) start) (sym so_far.lines) ∙ here in
          let next : store_after p (state held.rows held.size None) line ≡ state (changed held.rows (Some change_is)) (grown held.size (Some change_is)) None =
          other_after p held.rows held.size None line reply change_is said makes in
          record {
            fate = fate;
            done = done;
            staged = staged ++ line ∷ [];
            lines = split;
            put = so_far.put;
            owes = replies-last (store_rules p) (after_lines (store_rules p) start done) staged line
                ∙ ap (λ (s : State). replies (store_rules p) (after_lines (store_rules p) start done) staged ++ reply_text (store_reply p s line)) mid
                ∙ ap (λ (q : Reply). replies (store_rules p) (after_lines (store_rules p) start done) staged ++ reply_text q) said
                ∙ ap (λ (t : List ℕ). t ++ reply_text reply) so_far.owes;
            count = count ∙ ap (λ (n : ℕ). n + 1) so_far.count ∙ sym (one_more staged line);
            changes = all_more (asks_change p) staged line so_far.changes asks;
            works = λ is. so_far.works opened;
            idle = λ never. not_both held_now.takes still never;
            size = held_now.size;
            size_is = λ is. refl;
            now = after-append (store_rules p) start asked (line ∷ []) ∙ ap (λ (s : State). store_after p s line) here ∙ next
                ∙ ap (λ (n : ℕ). state (changed held.rows (Some change_is)) n None) (sym size)
                ∙ same_state (changed held.rows (Some change_is)) held_now.rows held_now.size true held_now.takes rows still;
            file = λ is. ap (λ (d : D). rows_in p (seen d)) device ∙ so_far.file opened;
            good = ap (λ (b : Bool). (all && true) && b) (still ∙ sym opened) ∙ and_swap all true held.takes
                ∙ ap (λ (b : Bool). b && true) so_far.good
                ∙ ap (λ (b : Bool). all_good (store_rules p) start asked && b) (sym (ap (λ (s : State). is_good (store_reply p s line)) here ∙ ap is_good said ∙ good))
                ∙ sym (good-last (store_rules p) start asked line);
            counted = let same : disk_faults held_now.device ≡ disk_faults held.device = ap disk_faults device in omega (arith, so_far.counted, same);
            risen = λ never. not_both held_now.takes still never;
            crash = weaker moment left_since from.device held_now.device (IsLeftBy p from.rows from.size asked) (IsLeftBy p from.rows from.size asked_now)
                (subst (λ (d : D). LeavesOnly moment left_since from.device d (IsLeftBy p from.rows from.size asked)) (sym device) so_far.crash)
                (λ c has. left_more p from.rows from.size asked (line ∷ []) c has);
            under_way = so_far.under_way;
            were_under_way = under_way_on p from.rows from.size fate asked (line ∷ []) (length asked_now) so_far.under_way (omega (arith, one_more asked line)) so_far.were_under_way;
            kept = λ never. not_both held_now.takes still never;
          }

  -- ---- where no change waits

  module _ (asked : List (List ℕ)) (held : Held D) (out : OutputBuffer) (written : Option (List ℕ)) (faults : ℕ) (all : Bool)
      (so_far : Progress p seen may_leave moment left_since disk_faults from asked held [] out written faults all) (idle : held.count ≡ 0) where
    pub done_are : so_far.done ≡ asked
    done_are =
        let none : so_far.staged ≡ [] = empty_list so_far.staged (sym idle ∙ so_far.count) in
        sym (nil-append so_far.done) ∙ ap (λ (ls : List (List ℕ)). so_far.done ++ ls) (sym none) ∙ sym so_far.lines

    -- a line was answered that makes no change
    pub answered : (line : List ℕ) (reply : Reply)
        → ((size : ℕ) → (held.takes ≡ true → size ≡ held.size) → store_reply p (state held.rows size (fate_now held.takes)) line ≡ reply)
        → change p (line, reply) ≡ None → (out_now : OutputBuffer) (written_now : Option (List ℕ)) (faults_now : ℕ)
        → Puts written written_now faults faults_now out out_now (reply_text reply)
        → Progress p seen may_leave moment left_since disk_faults from (asked ++ line ∷ []) held [] out_now written_now faults_now (all && is_good reply)
    answered line reply says makes out_now written_now faults_now put =
        let fate = so_far.fate in
        let start : State = state from.rows from.size fate in
        let asked_now : List (List ℕ) = asked ++ line ∷ [] in
        let said = says so_far.size so_far.size_is in
        let reply_is : store_reply p (after_lines (store_rules p) start asked) line ≡ reply = ap (λ (s : State). store_reply p s line) so_far.now ∙ said in
        let text : replies (store_rules p) start so_far.done ++ reply_text reply ≡ replies (store_rules p) start asked_now =
        ap (λ (ls : List (List ℕ)). replies (store_rules p) start ls ++ reply_text reply) done_are
        ∙ ap (λ (q : Reply). replies (store_rules p) start asked ++ reply_text q) (sym reply_is)
        ∙ sym (replies-last (store_rules p) start asked line) in
        let next : after_lines (store_rules p) start asked_now ≡ state held.rows so_far.size (fate_now held.takes) =
        after-append (store_rules p) start asked (line ∷ []) ∙ ap (λ (s : State). store_after p s line) so_far.now
        ∙ same_after p held.rows so_far.size (fate_now held.takes) line reply said makes
        ∙ ap (λ (f : Fate). state held.rows so_far.size f) (next_now held.takes) in
        record {
          fate = fate;
          done = asked_now;
          staged = [];
          lines = sym (nil-append asked_now);
          put = subst (λ (t : List ℕ). Puts from.written written_now from.faults faults_now from.out out_now t) text
              (puts_more from.written written written_now from.faults faults faults_now from.out out out_now
              (replies (store_rules p) start so_far.done) (reply_text reply) so_far.put put);
          owes = refl;
          count = idle;
          changes = refl;
          works = so_far.works;
          idle = so_far.idle;
          size = so_far.size;
          size_is = so_far.size_is;
          now = next;
          file = λ is. so_far.file is ∙ ap (λ (ls : List (List ℕ)). (after_lines (store_rules p) start ls).rows) done_are
              ∙ ap (λ (s : State). s.rows) (so_far.now ∙ sym next);
          good = and_swap all (is_good reply) held.takes ∙ ap (λ (b : Bool). b && is_good reply) so_far.good
              ∙ ap (λ (q : Reply). all_good (store_rules p) start asked && is_good q) (sym reply_is)
              ∙ sym (good-last (store_rules p) start asked line);
          counted = so_far.counted;
          risen = so_far.risen;
          crash = weaker moment left_since from.device held.device (IsLeftBy p from.rows from.size asked) (IsLeftBy p from.rows from.size asked_now) so_far.crash
              (λ c has. left_more p from.rows from.size asked (line ∷ []) c has);
          under_way = so_far.under_way;
          were_under_way = under_way_on p from.rows from.size fate asked (line ∷ []) (length asked_now) so_far.under_way (omega (arith, one_more asked line)) so_far.were_under_way;
          kept = λ never c has. ⊎_elim (λ one. inl one)
              (λ other. inr (left_with_more p from.rows from.size fate asked (line ∷ []) so_far.under_way c so_far.were_under_way other)) (so_far.kept never c has);
        }
