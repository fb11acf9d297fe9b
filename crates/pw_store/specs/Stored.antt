-- What a store holds, and what it answers to a change.
use Rattle.std.specs.Prelude.{◌≡◌, ◌⊎◌, ℕ, ◌+◌, ◌++◌, ◌∷◌, [], Bool, true, false, List, length, map, nat_le, not, if◌then◌else◌}
use Rattle.std.specs.Prelude.{Option, None, Some, Result, Ok, Err}
use Rattle.pieces.specs.FaultCounts.{HasRisen}
use Rattle.line_log.specs.Log.{IsSettled, file_max}
use Rattle.pw_file.specs.Answers.{remove_answer, set_answer, upgrade_answer}
use Rattle.pw_file.specs.Calls.{after_remove, after_set, after_upgrade, with_text, without}
use Rattle.pw_file.specs.Commands.{set_line}
use Rattle.pw_file.specs.History.{History, Rows, text_in}
use Rattle.pw_file.specs.Replies.{row_line}
use Rattle.pw_file.specs.Policy.{TextPolicy}
use Rattle.pw_file.specs.declared.error.FileError.{FileError}
use Rattle.pw_file.specs.declared.error.FileError.TheVariants.{OutOfMemory}
use Rattle.pw_store.specs.Store.{recovered_rows, removal_line}
use Rattle.pw_store.specs.declared.error.StoreError.{StoreError}
use Rattle.pw_store.specs.declared.error.StoreError.TheVariants.{Table, DiskFault, FileFull}
use Rattle.pw_store.specs.declared.store.Store.{Store}

-- ---- a store

abbrev pub device_of : {D P A B C : Type 0} → Store D P A B C → D
device_of s = s.log.device

-- the users with their texts
abbrev pub rows_of : {D P A B C : Type 0} → Store D P A B C → Rows
rows_of s = s.table

-- no write has failed so far
abbrev pub takes_changes : {D P A B C : Type 0} → Store D P A B C → Bool
takes_changes s = s.is_open

-- the bytes of the header and the lines of the file
abbrev pub size_of : {D P A B C : Type 0} → Store D P A B C → ℕ
size_of s = s.log.end

-- As long as it takes changes: the file is at rest, all of it is on the disk, and it stands for the rows.
pub record IsSound {D P A B C T V : Type 0} (p : TextPolicy T V) (seen : D → List ℕ) (may_leave : D → List ℕ → Type 0) (s : Store D P A B C) : Type 0 where
  pub settled : takes_changes s ≡ true → IsSettled seen may_leave s.log
  pub rows : takes_changes s ≡ true → recovered_rows p (seen (device_of s)) ≡ Some (rows_of s)

-- a line for each user: what a file that was made anew has
abbrev pub lines_of_rows : Rows → List (List ℕ)
lines_of_rows rows = map (λ row. set_line row.0 row.1) rows

-- ---- answers

-- what the table takes is taken where the file, which then has so many bytes of header and lines, has room
abbrev pub by_file : {A T V : Type 0} → ℕ → A → Result A (StoreError T V)
by_file size a = if nat_le size file_max then Ok a else Err FileFull

-- the answer of `set` or of `remove`, by what that of the table is
abbrev pub set_by : {T V : Type 0} → ℕ → Result (Unit {0}) (FileError T V) → Result (Unit {0}) (StoreError T V)
set_by size (Ok done) = by_file size tt
set_by size (Err e) = Err (Table e)

-- the answer of `upgrade`, by what that of the table is
abbrev pub upgrade_by : {T V : Type 0} → ℕ → Result Bool (FileError T V) → Result Bool (StoreError T V)
upgrade_by size (Ok true) = by_file size true
upgrade_by size (Ok false) = Ok false
upgrade_by size (Err e) = Err (Table e)

-- the bytes of header and lines after a change
abbrev pub size_after : ℕ → List ℕ → List ℕ → ℕ
size_after size user text = size + length (row_line (user, text))

-- the line of a removal with its line feed
abbrev pub removal_text : List ℕ → List ℕ
removal_text user = removal_line user ++ 10 ∷ []

-- the bytes of header and lines after a change: the user has the text, or is taken away
abbrev pub size_changed : ℕ → List ℕ → Option (List ℕ) → ℕ
size_changed size user (Some text) = size_after size user text
size_changed size user None = size + length (removal_text user)

-- the answer of `set` over the rows, where changes are taken or aren't
abbrev pub stored_set : {T V : Type 0} → TextPolicy T V → Bool → Rows → ℕ → List ℕ → List ℕ → Result (Unit {0}) (StoreError T V)
stored_set p takes rows size user text =
    if takes then set_by (size_after size user text) (set_answer p (text_in rows user) (length rows) text) else Err DiskFault

-- the answer of `remove` over the rows
abbrev pub stored_remove : {T V : Type 0} → TextPolicy T V → Bool → Rows → ℕ → List ℕ → Result (Unit {0}) (StoreError T V)
stored_remove p takes rows size user =
    if takes then set_by (size_changed size user None) (remove_answer p (text_in rows user)) else Err DiskFault

-- the answer of `upgrade` over the rows
abbrev pub stored_upgrade : {T V : Type 0} → TextPolicy T V → Bool → Rows → ℕ → List ℕ → List ℕ → List ℕ
    → Result Bool (StoreError T V)
stored_upgrade p takes rows size user password salt =
    if takes then upgrade_by (size_after size user (p.fresh password salt)) (upgrade_answer p (text_in rows user) password salt)
    else Err DiskFault

-- The answer is this one; or want of memory, where that may be; or a fault of the device in this call, where it was to be
-- a change that is done.
abbrev pub IsStored : {A T V : Type 0} → Result A (StoreError T V) → Bool → Result A (StoreError T V) → ℕ → ℕ → Result A (StoreError T V) → Type 0
IsStored expected may_lack done faults faults_now answer = (answer ≡ expected)
    ⊎ (((answer ≡ Err (Table OutOfMemory)) × (may_lack ≡ true))
    ⊎ ((answer ≡ Err DiskFault) × (expected ≡ done) × HasRisen faults faults_now))

abbrev pub is_disk_fault : {A T V : Type 0} → Result A (StoreError T V) → Bool
is_disk_fault (Err DiskFault) = true
is_disk_fault answer = false

-- the file wasn't called for it: it is refused, and no write failed
abbrev pub is_unwritten_set : {A T V : Type 0} → Result A (StoreError T V) → Bool
is_unwritten_set (Ok done) = false
is_unwritten_set (Err DiskFault) = false
is_unwritten_set (Err e) = true

-- the same of an upgrade, which changes nothing where the password doesn't match
abbrev pub is_unwritten_upgrade : {T V : Type 0} → Result Bool (StoreError T V) → Bool
is_unwritten_upgrade (Ok matches) = not matches
is_unwritten_upgrade (Err DiskFault) = false
is_unwritten_upgrade (Err e) = true

-- ---- what they leave

-- the rows after `set`: changed where it is done
abbrev pub rows_after_store_set : {T V : Type 0} → Rows → List ℕ → List ℕ → Result (Unit {0}) (StoreError T V) → Rows
rows_after_store_set rows user text (Ok done) = with_text rows user text
rows_after_store_set rows user text (Err e) = rows

-- the rows after `upgrade`: changed where the text matched
abbrev pub rows_after_store_upgrade : {T V : Type 0} → TextPolicy T V → Rows → List ℕ → List ℕ → List ℕ → Result Bool (StoreError T V) → Rows
rows_after_store_upgrade p rows user password salt (Ok true) = with_text rows user (p.fresh password salt)
rows_after_store_upgrade p rows user password salt (Ok false) = rows
rows_after_store_upgrade p rows user password salt (Err e) = rows

-- the rows after `remove`: changed where it is done
abbrev pub rows_after_store_remove : {T V : Type 0} → Rows → List ℕ → Result (Unit {0}) (StoreError T V) → Rows
rows_after_store_remove rows user (Ok done) = without rows user
rows_after_store_remove rows user (Err e) = rows

-- the bytes of header and lines after `set`
abbrev pub size_after_store_set : {T V : Type 0} → ℕ → List ℕ → List ℕ → Result (Unit {0}) (StoreError T V) → ℕ
size_after_store_set size user text (Ok done) = size_after size user text
size_after_store_set size user text (Err e) = size

-- after `remove`
abbrev pub size_after_store_remove : {T V : Type 0} → ℕ → List ℕ → Result (Unit {0}) (StoreError T V) → ℕ
size_after_store_remove size user (Ok done) = size_changed size user None
size_after_store_remove size user (Err e) = size

-- and after `upgrade`
abbrev pub size_after_store_upgrade : {T V : Type 0} → TextPolicy T V → ℕ → List ℕ → List ℕ → List ℕ → Result Bool (StoreError T V) → ℕ
size_after_store_upgrade p size user password salt (Ok true) = size_after size user (p.fresh password salt)
size_after_store_upgrade p size user password salt (Ok false) = size
size_after_store_upgrade p size user password salt (Err e) = size

-- a history after `set`; a refusal by the file is no pair of it
abbrev pub after_store_set : {T V : Type 0} → History → List ℕ → List ℕ → Result (Unit {0}) (StoreError T V) → History
after_store_set {T} {V} h user text (Ok done) = after_set {T = T} {V = V} h user text (Ok tt)
after_store_set {T} {V} h user text (Err (Table e)) = after_set {T = T} {V = V} h user text (Err e)
after_store_set {T} {V} h user text (Err e) = h

-- a history after `upgrade`
abbrev pub after_store_upgrade : {T V : Type 0} → History → List ℕ → List ℕ → List ℕ → Result Bool (StoreError T V) → History
after_store_upgrade {T} {V} h user password salt (Ok b) = after_upgrade {T = T} {V = V} h user password salt (Ok b)
after_store_upgrade {T} {V} h user password salt (Err (Table e)) = after_upgrade {T = T} {V = V} h user password salt (Err e)
after_store_upgrade {T} {V} h user password salt (Err e) = h

-- a history after `remove`
abbrev pub after_store_remove : {T V : Type 0} → History → List ℕ → Result (Unit {0}) (StoreError T V) → History
after_store_remove {T} {V} h user (Ok done) = after_remove {T = T} {V = V} h user (Ok tt)
after_store_remove {T} {V} h user (Err (Table e)) = after_remove {T = T} {V = V} h user (Err e)
after_store_remove {T} {V} h user (Err e) = h
