-- Texts of fields without a fault, told by neighbouring bytes. No public clause names these words.
use Rattle.std.specs.Prelude.{◌≡◌, ℕ, ◌+◌, ◌<◌, ◌≤◌, Bool, true, not, ◌&&◌, ◌||◌, ◌==◌, List, slice_index}
use Rattle.mcf.specs.Grammar.{is_field_byte}
use Rattle.pieces.specs.Characters.{dollar}

-- a byte of a field, or a `$` before another byte than `$`
abbrev pub is_good : ℕ → ℕ → Bool
is_good byte next = is_field_byte byte || (byte == dollar && not (next == dollar))

-- so are the bytes from i to below n
abbrev pub AreGood : List ℕ → ℕ → ℕ → Type 0
AreGood bytes i n = (k : ℕ) → i ≤ k → k < n → is_good (slice_index bytes k) (slice_index bytes (k + 1)) ≡ true
