-- What a run over the lines of an input answers, and what it leaves on the disk.
--
-- Nobody knows beforehand when a write of the file fails. A fate says it, so that the replies are those of rules: the
-- outcome of a run says that there is a fate for which they hold.
use Rattle.std.specs.Prelude.{◌≡◌, ◌⊎◌, ◌≤◌, ℕ, ◌+◌, ◌==◌, ◌&&◌, ◌||◌, Bool, true, false, List, [], ◌∷◌, length, take, drop, nat_le, nat_lt, Option, None, Some, if◌then◌else◌}
use Rattle.std.proofs.Common.{zero, suc}
use Rattle.std.specs.List.{list_all}
use Rattle.line_io.specs.Limits.{line_max}
use Rattle.line_io.specs.Lines.{lines}
use Rattle.line_io.specs.Runs.{IsPrefix}
use Rattle.line_log.specs.Log.{file_max}
use Rattle.line_program.specs.Outcome.{Outcome}
use Rattle.line_program.specs.Rules.{StateRules, after_lines, from_state, replies}
use Rattle.pw_file.specs.Commands.{Command, command}
use Rattle.pw_file.specs.Commands as of
use Rattle.pw_file.specs.History.{Change, History, Reply, Rows, Says, change}
use Rattle.pw_file.specs.Policy.{TextPolicy}
use Rattle.pw_file.specs.Replies.{is_good, reply_text}
use Rattle.pw_file.specs.Rules.{changed, table_is_costly, table_reply}
use Rattle.pw_file.specs.declared.reply.Word.TheVariants.{DiskFault, FileFull, Invalid}
use Rattle.pw_store.specs.Store.{StandsFor}
use Rattle.pw_store.specs.Stored.{size_changed}

-- ---- the state of a run

-- how many lines are still taken before a write of the file fails, where one fails
abbrev pub Fate : Type 0
Fate = Option ℕ

-- one line later
abbrev pub next_fate : Fate → Fate
next_fate None = None
next_fate (Some zero) = Some zero
next_fate (Some (suc n)) = Some n

-- a write has failed
abbrev pub is_broken : Fate → Bool
is_broken None = false
is_broken (Some zero) = true
is_broken (Some (suc n)) = false

-- the users with their texts, the bytes of the header and the lines of the file, and what is to come
pub record State : Type 0 where
  pub rows : Rows
  pub size : ℕ
  pub fate : Fate

-- the same by its parts
abbrev pub state : Rows → ℕ → Fate → State
state rows size fate = record { rows = rows; size = size; fate = fate }

-- ---- replies

-- `set`, `upgrade` and `remove` change the table
abbrev pub is_change : Option Command → Bool
is_change None = false
is_change (Some (of.Set user text)) = true
is_change (Some (of.Check user password)) = false
is_change (Some (of.Upgrade user salt password)) = true
is_change (Some (of.Remove user)) = true
is_change (Some of.Listing) = false

-- `set` of a text that the policy lets no run set
abbrev pub is_refused_set : {T V : Type 0} → TextPolicy T V → Option Command → Bool
is_refused_set p None = false
is_refused_set p (Some (of.Set user text)) = p.is_refused text
is_refused_set p (Some other) = false

-- the line is such a command
unfoldable pub sets_refused : {T V : Type 0} → TextPolicy T V → List ℕ → Bool
sets_refused p line = if nat_lt line_max (length line) then false else is_refused_set p (command p line)

-- the line is one of the commands that change the table
unfoldable pub asks_change : {T V : Type 0} → TextPolicy T V → List ℕ → Bool
asks_change p line = if nat_lt line_max (length line) then false else is_change (command p line)

-- the bytes of the header and the lines after a change, if there is one
abbrev pub grown : ℕ → Option Change → ℕ
grown size None = size
grown size (Some c) = size_changed size c.0 c.1

-- the reply, where the file has room for the change that goes with it
abbrev pub where_room : ℕ → Option Change → Reply → Reply
where_room size None reply = reply
where_room size (Some c) reply = if nat_le (size_changed size c.0 c.1) file_max then reply else Says FileFull

-- the reply of the table to a line, where the file has room
abbrev pub roomy_reply : {T V : Type 0} → TextPolicy T V → State → List ℕ → Reply
roomy_reply p s line = where_room s.size (change p (line, table_reply p s.rows line)) (table_reply p s.rows line)

-- the same, where changes are taken: a text that no run sets is no text of a verdict
abbrev pub usual_reply : {T V : Type 0} → TextPolicy T V → State → List ℕ → Reply
usual_reply p s line = if sets_refused p line then Says Invalid else roomy_reply p s line

-- The reply to a line. Once a write has failed no change is taken.
unfoldable pub store_reply : {T V : Type 0} → TextPolicy T V → State → List ℕ → Reply
store_reply p s line = if is_broken s.fate && asks_change p line then Says DiskFault else usual_reply p s line

-- the state after a line and its reply
unfoldable pub store_after : {T V : Type 0} → TextPolicy T V → State → List ℕ → State
store_after p s line = record {
  rows = changed s.rows (change p (line, store_reply p s line));
  size = grown s.size (change p (line, store_reply p s line));
  fate = next_fate s.fate;
}

-- memory may be wanting for a line
unfoldable pub store_lacks : {T V : Type 0} → TextPolicy T V → State → List ℕ → Bool
store_lacks p s line =
    if (is_broken s.fate && asks_change p line) || sets_refused p line then false else table_is_costly p s.rows line

-- what is owed, line by line
abbrev pub store_rules : {T V : Type 0} → TextPolicy T V → StateRules State
store_rules p = record {
  reply = λ s line. reply_text (store_reply p s line);
  after = store_after p;
  is_good = λ s line. is_good (store_reply p s line);
  may_lack_memory = store_lacks p;
}

-- the state after the first k lines
abbrev pub state_at : {T V : Type 0} → TextPolicy T V → State → List (List ℕ) → ℕ → State
state_at p s asked k = after_lines (store_rules p) s (take k asked)

-- lines, each with its reply
abbrev pub pairs : {T V : Type 0} → TextPolicy T V → State → List (List ℕ) → History
pairs p s [] = []
pairs p s (line ∷ more) = (line, store_reply p s line) ∷ pairs p (store_after p s line) more

-- ---- what a crash leaves

-- The file stands for what some of these lines leave, from the first on, each of them answered as no write failed.
abbrev pub IsLeftBy : {T V : Type 0} → TextPolicy T V → Rows → ℕ → List (List ℕ) → List ℕ → Type 0
IsLeftBy p rows size asked file =
    (j : ℕ) × (j ≤ length asked) × StandsFor p (state_at p (state rows size None) asked j).rows file

-- The n lines that were under way when a write failed: they ask for changes, and are among the first k lines. Where none has
-- failed there are none.
abbrev pub WereUnderWay : {T V : Type 0} → TextPolicy T V → Fate → List (List ℕ) → ℕ → ℕ → Type 0
WereUnderWay p None asked k n = n ≡ 0
WereUnderWay p (Some m) asked k n = (m + n ≤ k) × (list_all (asks_change p) (take n (drop m asked)) ≡ true)

-- the file stands for what they leave, and the lines before them
abbrev pub IsLeftWith : {T V : Type 0} → TextPolicy T V → Rows → ℕ → Fate → List (List ℕ) → ℕ → List ℕ → Type 0
IsLeftWith p rows size None asked n file = ⊥
IsLeftWith p rows size (Some m) asked n file = StandsFor p (state_at p (state rows size None) asked (m + n)).rows file

-- The file stands for what the first k lines leave; or, where a write failed, for that and the n lines that were under way.
abbrev pub IsLeftAfter : {T V : Type 0} → TextPolicy T V → Rows → ℕ → Fate → List (List ℕ) → ℕ → ℕ → List ℕ → Type 0
IsLeftAfter p rows size fate asked k n file =
    StandsFor p (state_at p (state rows size fate) asked k).rows file ⊎ IsLeftWith p rows size fate asked n file

-- What was added is the beginning of the replies to the first k lines. Each crash from now on leaves a file that stands
-- for what these leave; or, where a write failed, for that and the changes that were under way then.
pub record IsKept {T V : Type 0} (p : TextPolicy T V) (rows : Rows) (size : ℕ) (fate : Fate) (may_leave : List ℕ → Type 0)
    (asked : List (List ℕ)) (added : List ℕ) : Type 0 where
  pub count : ℕ
  pub within : count ≤ length asked
  pub beginning : IsPrefix added (replies (store_rules p) (state rows size fate) (take count asked))
  pub under_way : ℕ
  pub were_under_way : WereUnderWay p fate asked count under_way
  pub leaves : (file : List ℕ) → may_leave file → IsLeftAfter p rows size fate asked count under_way file

-- ---- the outcome

-- a status as that of `line_program`: where a write failed, some reply isn't good
abbrev pub plain_status : ℕ → ℕ
plain_status status = if status == 7 then 1 else status

-- The table of outcomes: that of `line_program`, and 7 where all was taken and answered, and a write of the file failed.
-- The run began with these rows and this size; at its end the store works or doesn't.
pub record StoreOutcome {T V : Type 0} (p : TextPolicy T V) (rows : Rows) (size : ℕ) (works : Bool)
    (may_leave : List ℕ → Type 0) (status max : ℕ) (held taken added : List ℕ) : Type 0 where
  pub fate : Fate
  pub answers : Outcome (from_state (store_rules p) (state rows size fate)) (plain_status status) max held taken added
  pub kept : IsKept p rows size fate may_leave (lines held) added
  pub healthy : works ≡ true → fate ≡ None
