-- What is done with a real file, and what is argued of it from that: the bytes that a read gives, and what a crash may leave.
use Rattle.std.specs.Prelude.{◌≡◌, ◌⊎◌, ℕ, suc, ◌+◌, ◌-◌, ◌==◌, ◌≤◌, nat_le, Bool, true, false, cond, ◌||◌, ◌&&◌, List, [], ◌∷◌, ◌++◌, length, take, drop}
use Rattle.std.specs.Prelude.{slice_index}
use Rattle.line_log.specs.Device.{Cut, Torn}

-- a call, and whether it was done
pub data Call : Type 0 where
  -- the file was opened, and a read gave these bytes
  Opened : (bytes : List ℕ) → Call
  -- bytes were written at a place
  Wrote : (is_done : Bool) (at : ℕ) (bytes : List ℕ) → Call
  -- it was cut to a length
  CutTo : (is_done : Bool) (len : ℕ) → Call
  -- it was synced
  Synced : (is_done : Bool) → Call
  -- a replacement was begun
  Began : (is_done : Bool) → Call
  -- bytes were added to it
  Added : (is_done : Bool) (bytes : List ℕ) → Call
  -- it was synced
  SyncedNew : (is_done : Bool) → Call
  -- it was put in the place of the file
  Replaced : (is_done : Bool) → Call

-- the call of this kind, done or not, at this place
abbrev pub call_by : ℕ → Bool → ℕ → List ℕ → Call
call_by kind is_done at bytes =
    cond (kind == 0) (Opened bytes)
    (cond (kind == 1) (Wrote is_done at bytes)
    (cond (kind == 2) (CutTo is_done at)
    (cond (kind == 3) (Synced is_done)
    (cond (kind == 4) (Began is_done)
    (cond (kind == 5) (Added is_done bytes)
    (cond (kind == 6) (SyncedNew is_done) (Replaced is_done)))))))

-- the call that these numbers and bytes tell: its kind, 1 where it was done, and its place
abbrev pub call_of : List ℕ → List ℕ → Call
call_of numbers bytes = call_by (slice_index numbers 0) (slice_index numbers 1 == 1) (slice_index numbers 2) bytes

-- ---- the bytes, by the calls so far, the last one first

-- a replacement after a call
abbrev pub added : List ℕ → Call → List ℕ
added new (Began true) = []
added new (Added true bytes) = new ++ bytes
added new call = new

-- the bytes of the replacement
unfoldable pub replacement : List Call → List ℕ
replacement [] = []
replacement (call ∷ calls) = added (replacement calls) call

-- the bytes of a file after a call, where the replacement has the bytes `new`
abbrev pub changed : List ℕ → List ℕ → Call → List ℕ
changed old new (Opened bytes) = bytes
changed old new (Wrote true at bytes) = take at old ++ bytes ++ drop (at + length bytes) old
changed old new (CutTo true len) = take len old
changed old new (Replaced true) = new
changed old new call = old

-- the bytes that a read of the file gives
unfoldable pub seen : List Call → List ℕ
seen [] = []
seen (call ∷ calls) = changed (seen calls) (replacement calls) call

-- ---- faults

-- whether a call failed
abbrev pub has_failed : Call → ℕ
has_failed (Opened bytes) = 0
has_failed (Wrote is_done at bytes) = cond is_done 0 1
has_failed (CutTo is_done len) = cond is_done 0 1
has_failed (Synced is_done) = cond is_done 0 1
has_failed (Began is_done) = cond is_done 0 1
has_failed (Added is_done bytes) = cond is_done 0 1
has_failed (SyncedNew is_done) = cond is_done 0 1
has_failed (Replaced is_done) = cond is_done 0 1

-- how many failed
unfoldable pub faults : List Call → ℕ
faults [] = 0
faults (call ∷ calls) = faults calls + has_failed call

-- ---- what a sync tells

-- A run whose sync failed may have left bytes in the system's memory that a read gives and the disk hasn't, and the next sync
-- doesn't put them there: only a write does, and a sync behind it. They are among the last ones of the file, so many at most.
abbrev pub tail_max : ℕ
tail_max = 32768

-- the place of the first of them in a file of this length
abbrev pub tail_at : ℕ → ℕ
tail_at len = len - tail_max

-- whether they were written again, by a call on a file of this length
abbrev pub renews : ℕ → Bool → Call → Bool
renews len before (Opened bytes) = false
renews len before (Wrote true at bytes) = before || (nat_le at (tail_at len) && nat_le len (at + length bytes))
renews len before (Replaced true) = true
renews len before call = before

-- whether they were written again since the file was opened
unfoldable pub is_renewed : List Call → Bool
is_renewed [] = true
is_renewed (call ∷ calls) = renews (length (seen calls)) (is_renewed calls) call

-- A sync behind these calls puts on the disk what a read gives: no call failed, and nothing is left that an earlier run's
-- sync may have missed.
pub record IsTold (calls : List Call) : Type 0 where
  pub healthy : faults calls ≡ 0
  pub renewed : is_renewed calls ≡ true

-- ---- what a crash may leave

-- what it may leave of a replacement of these bytes after a call: of one that was synced, and no call had failed, these
abbrev pub HeldAfter : ℕ → List ℕ → (List ℕ → Type 0) → Call → List ℕ → Type 0
HeldAfter failed new held (SyncedNew true) c = failed ≡ 0 → c ≡ new
HeldAfter failed new held (Began is_done) c = Unit {0}
HeldAfter failed new held (Added is_done bytes) c = Unit {0}
HeldAfter failed new held call c = held c

-- what it may leave of the replacement
unfoldable pub MayHold : List Call → List ℕ → Type 0
MayHold [] c = Unit {0}
MayHold (call ∷ calls) c = HeldAfter (faults calls) (replacement calls) (MayHold calls) call c

-- what it may leave of a file that was read: all but the last of its bytes
abbrev pub HasFront : List ℕ → List ℕ → Type 0
HasFront bytes c = take (tail_at (length bytes)) c ≡ take (tail_at (length bytes)) bytes

-- what it may leave of a file of these bytes after a call, by what it might have left before, where a sync tells or doesn't
abbrev pub LeftAfter : Type 0 → List ℕ → (List ℕ → Type 0) → (List ℕ → Type 0) → Call → List ℕ → Type 0
LeftAfter told old left held (Opened bytes) c = HasFront bytes c
LeftAfter told old left held (Wrote is_done at bytes) c = (d : List ℕ) × left d × Torn at (length bytes) d c
LeftAfter told old left held (CutTo is_done len) c = (d : List ℕ) × left d × Cut len d c
LeftAfter told old left held (Synced true) c = left c × (told → c ≡ old)
LeftAfter told old left held (Replaced is_done) c = left c ⊎ held c
LeftAfter told old left held call c = left c

-- what it may leave of the file
unfoldable pub MayLeave : List Call → List ℕ → Type 0
MayLeave [] c = c ≡ []
MayLeave (call ∷ calls) c = LeftAfter (IsTold calls) (seen calls) (MayLeave calls) (MayHold calls) call c

-- what a crash at some moment since there were t calls might have left
unfoldable pub LeftSince : List Call → ℕ → List ℕ → Type 0
LeftSince [] t c = (t ≡ 0) × MayLeave [] c
LeftSince (call ∷ calls) t c = ((t ≤ length calls) × LeftSince calls t c) ⊎ ((t ≤ suc (length calls)) × MayLeave (call ∷ calls) c)
