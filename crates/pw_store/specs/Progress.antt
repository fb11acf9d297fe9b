-- How far a run has come. No clause of a public call names these words.
use Rattle.std.specs.Prelude.{◌≡◌, ◌⊎◌, ◌≤◌, ℕ, ◌+◌, ◌&&◌, Bool, true, false, List, [], ◌∷◌, ◌++◌, length, Option, Some, None, Result, Ok, Err, is_err, if◌then◌else◌}
use Rattle.std.specs.List.{list_all}
use Rattle.std.proofs.Common.{zero, suc}
use Rattle.pieces.specs.FaultCounts.{HasRisen}
use Rattle.line_io.specs.Output.{Puts}
use Rattle.line_io.specs.Runs.{IsCall}
use Rattle.line_io.specs.declared.buffer.Line.TheVariants as given
use Rattle.line_io.specs.declared.buffer.LineBuffer.{LineBuffer}
use Rattle.line_io.specs.declared.output.OutputBuffer.{OutputBuffer}
use Rattle.line_log.specs.Device.{LeavesOnly}
use Rattle.line_program.specs.Next.{TakesLine}
use Rattle.line_program.specs.Rules.{after_lines, all_good, replies}
use Rattle.pw_file.specs.History.{Rows, Says}
use Rattle.pw_file.specs.Policy.{TextPolicy}
use Rattle.pw_file.specs.Replies.{error_word, is_good_word, reply_text}
use Rattle.pw_file.specs.declared.error.FileError.TheVariants.{OutOfMemory}
use Rattle.pw_file.specs.declared.reply.Word.{Word}
use Rattle.pw_file.specs.declared.reply.Word.TheVariants.{Done, Mismatch, Upgraded}
use Rattle.pw_file.specs.declared.reply.Word.TheVariants as w
use Rattle.pw_store.specs.Run.{Fate, IsLeftBy, IsLeftWith, WereUnderWay, asks_change, state, store_lacks, store_rules}
use Rattle.pw_store.specs.Staged.{IsStaged, lines_of, rows_in, undo_of}
use Rattle.pw_store.specs.Store.{StandsFor}
use Rattle.pw_store.specs.Stored.{rows_of, size_of, takes_changes}
use Rattle.pw_store.specs.declared.error.StoreError.{StoreError}
use Rattle.pw_store.specs.declared.error.StoreError.TheVariants.{Table, DiskFault, FileFull}
use Rattle.pw_store.specs.declared.group.Group.{Group}
use Rattle.pw_store.specs.declared.stop.Stop.{Stop}
use Rattle.pw_store.specs.declared.stop.Stop.TheVariants.{End, ReadFault, WriteFault, Budget, NoMemory}
use Rattle.pw_store.specs.declared.store.Store.{Store}

-- ---- what a run holds

-- a store, with the changes that wait
pub record Held (D : Type 0) : Type 0 where
  pub takes : Bool
  pub rows : Rows
  pub size : ℕ
  pub device : D
  pub count : ℕ

-- how many changes wait
abbrev pub count_of : {P A B C : Type 0} → Group P A B C → ℕ
count_of g = length (undo_of g)

abbrev pub held_by : {D P A B C E F G H : Type 0} → Store D P A B C → Group E F G H → Held D
held_by s g = record {
  takes = takes_changes s;
  rows = rows_of s;
  size = size_of s + length (lines_of g);
  device = s.log.device;
  count = count_of g;
}

-- The changes that wait can be put into the file; after a fault none wait.
pub record IsReady {D P A B C E F G H T V : Type 0} (p : TextPolicy T V) (seen : D → List ℕ) (may_leave : D → List ℕ → Type 0)
    (s : Store D P A B C) (g : Group E F G H) : Type 0 where
  pub staged : takes_changes s ≡ true → IsStaged p seen may_leave s.log (lines_of g) (undo_of g) (rows_of s)
  pub closed : takes_changes s ≡ false → lines_of g ≡ []
  pub none : takes_changes s ≡ false → count_of g ≡ 0
  pub some : count_of g ≡ 0 → lines_of g ≡ []

-- ---- replies

-- so many times the same
abbrev pub copies : ℕ → List ℕ → List ℕ
copies zero text = []
copies (suc n) text = copies n text ++ text

-- so many words, each with a line feed
abbrev pub words : ℕ → Word → List ℕ
words n word = copies n (reply_text (Says word))

-- the replies that wait
abbrev pub oks : ℕ → List ℕ
oks n = words n Done

-- what is to come: nothing, or no change is taken any more
abbrev pub fate_now : Bool → Fate
fate_now true = None
fate_now false = Some zero

-- ---- how far it has come

-- where it began
pub record Begun (D : Type 0) : Type 0 where
  pub rows : Rows
  pub size : ℕ
  pub device : D
  pub written : Option (List ℕ)
  pub faults : ℕ
  pub out : OutputBuffer

-- These lines were asked. To the first of them the replies were put, to the others, whose changes wait, they are owed.
pub record Progress {D T V : Type 0} (p : TextPolicy T V) (seen : D → List ℕ) (may_leave : D → List ℕ → Type 0) (moment : D → ℕ)
    (left_since : D → ℕ → List ℕ → Type 0) (disk_faults : D → ℕ) (from : Begun D) (asked : List (List ℕ)) (held : Held D) (owed : List ℕ)
    (out : OutputBuffer) (written : Option (List ℕ)) (faults : ℕ) (all : Bool) : Type 0 where
  pub fate : Fate
  pub done : List (List ℕ)
  pub staged : List (List ℕ)
  pub lines : asked ≡ done ++ staged
  pub put : Puts from.written written from.faults faults from.out out (replies (store_rules p) (state from.rows from.size fate) done)
  pub owes : replies (store_rules p) (after_lines (store_rules p) (state from.rows from.size fate) done) staged ≡ owed
  pub count : held.count ≡ length staged
  pub changes : list_all (asks_change p) staged ≡ true
  pub works : held.takes ≡ true → fate ≡ None
  pub idle : held.takes ≡ false → held.count ≡ 0
  pub size : ℕ
  pub size_is : held.takes ≡ true → size ≡ held.size
  pub now : after_lines (store_rules p) (state from.rows from.size fate) asked ≡ state held.rows size (fate_now held.takes)
  pub file : held.takes ≡ true
      → rows_in p (seen held.device) ≡ (after_lines (store_rules p) (state from.rows from.size fate) done).rows
  pub good : all && held.takes ≡ all_good (store_rules p) (state from.rows from.size fate) asked
  pub counted : disk_faults from.device ≤ disk_faults held.device
  pub risen : held.takes ≡ false → HasRisen (disk_faults from.device) (disk_faults held.device)
  pub crash : LeavesOnly moment left_since from.device held.device (IsLeftBy p from.rows from.size asked)
  pub under_way : ℕ
  pub were_under_way : WereUnderWay p fate asked (length asked) under_way
  pub kept : held.takes ≡ false → (file : List ℕ) → may_leave held.device file
      → StandsFor p held.rows file ⊎ IsLeftWith p from.rows from.size fate asked under_way file

-- Memory may be wanting for the line, with these rows, where changes are taken or aren't.
abbrev pub Lacks : {T V : Type 0} → TextPolicy T V → Rows → Bool → List ℕ → Type 0
Lacks p rows takes line = (size : ℕ) → store_lacks p (state rows size (fate_now takes)) line ≡ true

-- ---- one line more

-- Of lines, and of whether each reply so far is good, Comes says that the run has come so far. The line was answered, or its
-- change waits; or memory was wanting.
abbrev pub Served : {E T V : Type 0} → TextPolicy T V → Rows → Bool → (List (List ℕ) → Bool → Type 0) → List (List ℕ) → Bool
    → List ℕ → Result Bool E → Type 0
Served p rows takes Comes asked all line (Ok good) = Comes (asked ++ line ∷ []) (all && good)
Served p rows takes Comes asked all line (Err e) = Comes asked all × Lacks p rows takes line

-- What the answer to a line does to a run, by the store, the changes that wait, the output and the sink before it and after
-- it: wherever the run began and however far it had come, it has come one line further.
abbrev pub Serves : {D P A B C E F G H K R T V : Type 0} → TextPolicy T V → (D → List ℕ) → (D → List ℕ → Type 0) → (D → ℕ)
    → (D → ℕ → List ℕ → Type 0) → (D → ℕ) → Store D P A B C → Store D P A B C → Group E F G H → Group E F G H → OutputBuffer
    → OutputBuffer → (K → Option (List ℕ)) → (K → ℕ) → K → K → List ℕ → Result Bool R → Type 0
Serves {D} p seen may_leave moment left_since disk_faults s s_now g g_now out out_now written faults sink sink_now line result =
    (from : Begun D) (asked : List (List ℕ)) (all : Bool)
    → Progress p seen may_leave moment left_since disk_faults from asked (held_by s g) (oks (count_of g)) out (written sink)
    (faults sink) all
    → Served p (rows_of s_now) (takes_changes s_now) (λ asked all. Progress p seen may_leave moment left_since disk_faults from
    asked (held_by s_now g_now) (oks (count_of g_now)) out_now (written sink_now) (faults sink_now) all) asked all line result

-- Why no line is answered: there is none, or memory was wanting for the one that was taken off the buffer.
abbrev pub Stopped : {T V : Type 0} → TextPolicy T V → Rows → Bool → Stop → Option (List ℕ) → Option (List ℕ) → LineBuffer → LineBuffer
    → Type 0
Stopped p rows takes NoMemory left left_now before now = TakesLine (Lacks p rows takes) left left_now before now
Stopped p rows takes End left left_now before now = IsCall given.End left left_now before now
Stopped p rows takes ReadFault left left_now before now = IsCall given.Failed left left_now before now
Stopped p rows takes Budget left left_now before now = IsCall given.Budget left left_now before now
Stopped p rows takes WriteFault left left_now before now = (left_now ≡ left) × (now ≡ before)

-- A line was taken off the buffer and answered, or it tells why none was.
abbrev pub NextStep : {T V : Type 0} → TextPolicy T V → Rows → Bool → (List (List ℕ) → Bool → Type 0) → List (List ℕ) → Bool
    → Result Bool Stop → Option (List ℕ) → Option (List ℕ) → LineBuffer → LineBuffer → Type 0
NextStep p rows takes Comes asked all (Ok good) left left_now before now =
    TakesLine (λ l. Comes (asked ++ l ∷ []) (all && good)) left left_now before now
NextStep p rows takes Comes asked all (Err stop) left left_now before now =
    Comes asked all × Stopped p rows takes stop left left_now before now

-- ---- words

-- the reply of an upgrade, by whether the text matched
abbrev pub verdict_word : Bool → Word
verdict_word true = Upgraded
verdict_word false = Mismatch

-- the reply of a refusal of a change, where changes are taken or aren't; none where memory is wanting
abbrev pub refusal_of : {T V : Type 0} → Bool → StoreError T V → Option Word
refusal_of false e = Some w.DiskFault
refusal_of true (Table OutOfMemory) = None
refusal_of true (Table e) = Some (error_word e)
refusal_of true FileFull = Some w.FileFull
refusal_of true DiskFault = Some w.DiskFault

-- what is put for it
abbrev pub refusal_text : Option Word → List ℕ
refusal_text None = []
refusal_text (Some word) = reply_text (Says word)

-- whether that reply is a good one, as `kept` is; or there is none
abbrev pub IsRefusal : {E : Type 0} → Option Word → Result Bool E → Type 0
IsRefusal (Some word) result = result ≡ Ok (is_good_word word)
IsRefusal None result = is_err result ≡ true

-- ---- the end

-- the status, by why no further line is answered, and by whether each reply is good and changes are taken
abbrev pub stop_status : Stop → Bool → Bool → ℕ
stop_status End all true = if all then 0 else 1
stop_status End all false = 7
stop_status ReadFault all takes = 3
stop_status WriteFault all takes = 4
stop_status Budget all takes = 6
stop_status NoMemory all takes = 5

-- the same, where a write of replies failed or didn't
abbrev pub ended_status : Stop → Bool → Bool → Bool → ℕ
ended_status stop all takes failed = if failed then 4 else stop_status stop all takes
