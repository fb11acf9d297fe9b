-- What a read gives is among what a crash may leave.
use Rattle.std.proofs.Common.{inl, inr, ℕ, true, false, List, [], ◌∷◌, length, take, refl}
use Rattle.line_log.proofs.DoneCalls.{cut_by, cut_unchanged, torn_same, torn_written}
use Rattle.file_device.specs.Calls.{Call, HeldAfter, IsTold, LeftAfter, MayHold, MayLeave, added, changed, faults, replacement, seen}
use Rattle.file_device.specs.Calls.{Opened, Wrote, CutTo, Synced, Began, Added, SyncedNew, Replaced}

-- after one call more
module _ (told : Type 0) (old new : List ℕ) (left held : List ℕ → Type 0) where
  held_after : (failed : ℕ) → held new → (call : Call) → HeldAfter failed new held call (added new call)
  held_after failed h (Opened bytes) = h
  held_after failed h (Wrote is_done at bytes) = h
  held_after failed h (CutTo is_done len) = h
  held_after failed h (Synced is_done) = h
  held_after failed h (Began true) = tt
  held_after failed h (Began false) = tt
  held_after failed h (Added true bytes) = tt
  held_after failed h (Added false bytes) = tt
  held_after failed h (SyncedNew true) = λ _. refl
  held_after failed h (SyncedNew false) = h
  held_after failed h (Replaced is_done) = h

  left_after : left old → held new → (call : Call) → LeftAfter told old left held call (changed old new call)
  left_after l h (Opened bytes) = refl
  left_after l h (Wrote true at bytes) = (old, l, torn_written at bytes old)
  left_after l h (Wrote false at bytes) = (old, l, torn_same at (length bytes) old)
  left_after l h (CutTo true len) = (old, l, cut_by len old (take len old) refl)
  left_after l h (CutTo false len) = (old, l, cut_unchanged len old)
  left_after l h (Synced true) = (l, λ _. refl)
  left_after l h (Synced false) = l
  left_after l h (Began is_done) = l
  left_after l h (Added is_done bytes) = l
  left_after l h (SyncedNew is_done) = l
  left_after l h (Replaced true) = inr h
  left_after l h (Replaced false) = inl l

holds : (calls : List Call) → MayHold calls (replacement calls)
unfolding MayHold replacement
holds [] = tt
holds (call ∷ calls) = held_after (Unit {0}) [] (replacement calls) (λ _. Unit {0}) (MayHold calls) (faults calls) (holds calls) call

pub leaves : (calls : List Call) → MayLeave calls (seen calls)
unfolding MayLeave seen
leaves [] = refl
leaves (call ∷ calls) = left_after (IsTold calls) (seen calls) (replacement calls) (MayLeave calls) (MayHold calls) (leaves calls) (holds calls) call
