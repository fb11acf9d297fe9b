-- Laws over files and runs.
use Rattle.std.specs.Prelude.{◌≡◌, ◌⊎◌, ◌≤◌, ℕ, ◌+◌, List, ◌++◌, length, take, Some, None}
use Rattle.line_log.specs.Log.{recovered}
use Rattle.pw_file.specs.History.{History, Rows, IsContentOf, text, users}
use Rattle.pw_file.specs.Policy.{TextPolicy}
use Rattle.pw_file.specs.Replies.{reply}
use Rattle.pw_store.specs.Run.{Fate, IsLeftAfter, IsLeftBy, pairs, state}
use Rattle.pw_store.specs.Store.{StandsFor, taken, recovered_rows}

-- The rows of a file are the content of its lines, each answered `ok`.
abbrev pub FileContent : {T V : Type 0} → TextPolicy T V → Type 0
FileContent p = (file : List ℕ) (rows : Rows) → recovered_rows p file ≡ Some rows → IsContentOf p (taken (recovered file)) rows

-- two histories with the same users and texts
pub record SameContent {T V : Type 0} (p : TextPolicy T V) (h k : History) : Type 0 where
  pub users : users p h ≡ users p k
  pub texts : (user : List ℕ) → text p h user ≡ text p k user

-- A run up to a crash: the pairs that were answered, and those under way, which are a group or none. The crash left a file.
-- It stands for what was answered, with all of those under way or without any of them.
pub record LeftBy {T V : Type 0} (p : TextPolicy T V) (answered under_way : History) (file : List ℕ) : Type 0 where
  pub rows : Rows
  pub stands : StandsFor p rows file
  pub content : IsContentOf p answered rows ⊎ IsContentOf p (answered ++ under_way) rows

-- The pairs that count: those that were answered, and those under way where they are found on the disk.
abbrev pub Counts : History → History → History → Type 0
Counts answered under_way h = (h ≡ answered) ⊎ (h ≡ answered ++ under_way)

-- After a crash and recovery, each reply is the one over the pairs that count and those since.
abbrev pub JudgedByLast : {T V : Type 0} → TextPolicy T V → Type 0
JudgedByLast p = (answered under_way : History) (file : List ℕ) → LeftBy p answered under_way file
    → (h : History) × Counts answered under_way h
    × ((later : History) (line : List ℕ) → reply p (h ++ later) line ≡ reply p (taken (recovered file) ++ later) line)

-- ---- whole runs

-- From now on each reply over a file is the one over this history: each check is judged by the user's last text in it.
abbrev pub IsJudgedBy : {T V : Type 0} → TextPolicy T V → History → List ℕ → Type 0
IsJudgedBy p h file = (later : History) (line : List ℕ) → reply p (h ++ later) line ≡ reply p (taken (recovered file) ++ later) line

-- A run began with the content of a history. A crash at some moment of it left a file, as `any_moment` of `run_store` says. Then
-- each later reply is the one over that history and the first k of the run's lines, each with its reply.
abbrev pub JudgedAfterCrash : {T V : Type 0} → TextPolicy T V → Type 0
JudgedAfterCrash p = (h : History) (rows : Rows) (size : ℕ) (asked : List (List ℕ)) (file : List ℕ) → IsContentOf p h rows
    → IsLeftBy p rows size asked file
    → (k : ℕ) × (k ≤ length asked) × IsJudgedBy p (h ++ pairs p (state rows size None) (take k asked)) file

-- the first m + n lines count, the last n of which were under way when a write failed
abbrev pub IsJudgedWith : {T V : Type 0} → TextPolicy T V → History → Rows → ℕ → Fate → List (List ℕ) → ℕ → List ℕ → Type 0
IsJudgedWith p h rows size None asked n file = ⊥
IsJudgedWith p h rows size (Some m) asked n file = IsJudgedBy p (h ++ pairs p (state rows size None) (take (m + n) asked)) file

-- A crash after a run left a file, as the outcome of `run_store` says. Then each later reply is the one over the lines that were
-- answered; or, where a write failed, over those before it and the changes that were under way.
abbrev pub JudgedAfterRun : {T V : Type 0} → TextPolicy T V → Type 0
JudgedAfterRun p = (h : History) (rows : Rows) (size : ℕ) (fate : Fate) (asked : List (List ℕ)) (k n : ℕ) (file : List ℕ) → IsContentOf p h rows
    → IsLeftAfter p rows size fate asked k n file
    → IsJudgedBy p (h ++ pairs p (state rows size fate) (take k asked)) file ⊎ IsJudgedWith p h rows size fate asked n file
