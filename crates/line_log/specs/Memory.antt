-- What a crash may leave of a file in memory: each write that isn't on the disk in part, or with other bytes.
use Rattle.std.specs.Prelude.{◌≡◌, ◌⊎◌, ℕ, ◌≤◌, Bool, true, false, List, [], ◌∷◌, length}
use Rattle.std.proofs.Common.{zero, suc}
use Prim.Native.Nat.{zero-le}
use mathlib.Core.Logic.{inr}
use Rattle.std.proofs.Math.Nat.{le_of_suc-le-suc, not-suc-le-zero}
use Rattle.line_log.specs.Device.{Cut, Torn}
use Rattle.line_log.specs.declared.memory.Call.{Call}
use Rattle.line_log.specs.declared.memory.Call.TheVariants.{Write, CutTo, Sync, Replace}
use Rattle.line_log.specs.declared.memory.MemoryDevice.{MemoryDevice}

-- what a crash may leave of a replacement: where it isn't on the disk, anything
abbrev pub MayHold : Bool → List ℕ → List ℕ → Type 0
MayHold true bytes c = c ≡ bytes
MayHold false bytes c = Unit {0}

-- what a crash may leave after a call, by what it might have left before
abbrev pub Outcome : (List ℕ → Type 0) → Call → List ℕ → Type 0
Outcome left (Write at bytes) c = (d : List ℕ) × left d × Torn at (length bytes.items) d c
Outcome left (CutTo len) c = (d : List ℕ) × left d × Cut len d c
Outcome left (Sync bytes) c = left c × (c ≡ bytes.items)
Outcome left (Replace bytes is_synced) c = left c ⊎ MayHold is_synced bytes.items c

-- what it may leave after these calls, the first of them first
abbrev pub After : (List ℕ → Type 0) → List Call → List ℕ → Type 0
After left [] c = left c
After left (call ∷ more) c = After (Outcome left call) more c

-- what it might have left since there were t calls
abbrev pub Since : (List ℕ → Type 0) → List Call → ℕ → List ℕ → Type 0
Since left [] zero c = left c
Since left [] (suc t) c = ⊥
Since left (call ∷ more) zero c = left c ⊎ Since (Outcome left call) more zero c
Since left (call ∷ more) (suc t) c = Since (Outcome left call) more t c

-- since the last call there is what it may leave now
pub only_after : (left : List ℕ → Type 0) (calls : List Call) (c : List ℕ) → Since left calls (length calls) c → After left calls c
only_after left [] c since = since
only_after left (call ∷ more) c since = only_after (Outcome left call) more c since

-- what it may leave now is one of those since any earlier moment
pub after_counts : (left : List ℕ → Type 0) (calls : List Call) (t : ℕ) (c : List ℕ) → t ≤ length calls → After left calls c → Since left calls t c
after_counts left [] zero c le now = now
after_counts left [] (suc t) c le now = not-suc-le-zero le
after_counts left (call ∷ more) zero c le now = inr (after_counts (Outcome left call) more zero c zero-le now)
after_counts left (call ∷ more) (suc t) c le now = after_counts (Outcome left call) more t c (le_of_suc-le-suc le) now

-- the file that it was at first
abbrev pub Start : MemoryDevice → List ℕ → Type 0
Start m c = c ≡ m.start.items
