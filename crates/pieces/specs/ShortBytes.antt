-- Facts on bytes with zeros after them, which the view of `ShortBytes` rests on. No public clause names these words.
use Rattle.std.specs.Prelude.{◌≡◌, ℕ, ◌-◌, ◌≤◌, List, ◌++◌, length, take, drop, replicate}
use Rattle.std.proofs.Common.{arith, length-take-le, take-append-drop}

pub shortened : (n len : ℕ) (cells : List ℕ) → len ≤ n → length cells ≡ n → length (take len cells) ≡ len
shortened n len cells short full = length-take-le len cells (omega (arith, short, full))

pub refilled : (n len : ℕ) (cells : List ℕ) → len ≤ n → length cells ≡ n → drop len cells ≡ replicate (n - len) 0
    → take len cells ++ replicate (n - length (take len cells)) 0 ≡ cells
refilled n len cells short full zeros =
    rw (shortened n len cells short full, ← zeros) (take-append-drop len cells)
