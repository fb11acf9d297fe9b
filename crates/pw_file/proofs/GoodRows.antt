-- Rows of a table that `set` takes.
use Rattle.std.proofs.Common.{◌≡◌, ℕ, ◌≤◌, Bool, true, false, List, [], ◌∷◌, length, None}
use Rattle.std.specs.Prelude.{if◌then◌else◌}
use Rattle.std.specs.List.{AllByRecursion}
use Rattle.indexmap.specs.IndexMap.{insert_entry}
use Rattle.stored_check.specs.Verdict.{same_text}
use Rattle.pw_file.specs.Calls.{without}
use Rattle.pw_file.specs.History.{Rows}
use Rattle.pw_file.specs.Policy.{TextPolicy}
use Rattle.pw_file.proofs.Removing.{all_left}

module _ {T V : Type 0} (p : TextPolicy T V) where
  -- a name, and a text that `set` takes
  pub record IsRow (row : List ℕ × List ℕ) : Type 0 where
    pub name : p.is_name row.0 ≡ true
    pub short : length row.1 ≤ 1024
    pub good : p.text_fault row.1 ≡ None

  abbrev pub AreRows : Rows → Type 0
  AreRows [] = Unit {0}
  AreRows (row ∷ table) = IsRow row × AreRows table

  pub rows_inserted : (table : Rows) (user new : List ℕ) → AreRows table → IsRow (user, new)
      → AreRows (insert_entry same_text table user new)
  rows_inserted [] user new all one = (one, tt)
  rows_inserted (e ∷ es) user new all one = by_test (same_text user e.0) (rows_inserted es user new all.1 one)
    where
      by_test : (t : Bool) → AreRows (insert_entry same_text es user new)
          → AreRows (if t then (e.0, new) ∷ es else e ∷ insert_entry same_text es user new)
      by_test true rest = (record { name = all.0.name; short = one.short; good = one.good }, all.1)
      by_test false rest = (all.0, rest)

  -- ---- a user that is taken away

  as_each : (table : Rows) → AreRows table → AllByRecursion IsRow table
  as_each [] all = tt
  as_each (row ∷ table) all = (all.0, as_each table all.1)

  from_each : (table : Rows) → AllByRecursion IsRow table → AreRows table
  from_each [] all = tt
  from_each (row ∷ table) all = (all.0, from_each table all.1)

  pub rows_left : (table : Rows) (user : List ℕ) → AreRows table → AreRows (without table user)
  rows_left table user all = from_each (without table user) (all_left IsRow user table (as_each table all))
