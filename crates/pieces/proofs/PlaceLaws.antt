-- The first place of a byte, step by step.
use Rattle.std.proofs.Common.{zero, suc, ◌≡◌, ◌≢◌, ◌⊎◌, inl, inr, ⊎_elim, ℕ, ◌<◌, ◌≤◌, ◌+◌, ◌-◌, ◌∙◌, List, sym, subst}
use Rattle.std.proofs.Common.{length, take, slice_index, arith}
use Rattle.std.proofs.lemmas.Nat.Bits.{bit_at-zero}
use Rattle.std.proofs.lemmas.List.{get_or-take, length-take-le}
use Rattle.std.specs.Int.{bit_at}
use Rattle.pieces.specs.Pieces.{LacksByte}
use Rattle.pieces.specs.Places.{LacksBelow, Marks}

pub near : (j i : ℕ) → (j < i) ⊎ (i ≤ j)
near j zero = inr (omega arith)
near zero (suc i) = inl (omega arith)
near (suc j) (suc i) = ⊎_elim (λ below. inl (omega arith)) (λ past. inr (omega arith)) (near j i)

pub one_more : (c : ℕ) (bytes : List ℕ) (i : ℕ) → LacksBelow c bytes i → slice_index bytes i ≢ c
    → LacksBelow c bytes (i + 1)
one_more c bytes i lacks other j low is = ⊎_elim (λ below. lacks j below is)
    (λ past. let e : j ≡ i = omega arith in other (subst (λ n. slice_index bytes n ≡ c) e is)) (near j i)

pub fewer : (c : ℕ) (bytes : List ℕ) (i j : ℕ) → j ≤ i → LacksBelow c bytes i → LacksBelow c bytes j
fewer c bytes i j h lacks k low = lacks k (omega arith)

-- places from i on of which none is marked
pub past_marks : (c : ℕ) (bytes : List ℕ) (i m n : ℕ) → LacksBelow c bytes i → Marks c bytes i m → n ≤ 16 →
    ((k : ℕ) → k < n → bit_at m k ≡ 0) → LacksBelow c bytes (i + n)
past_marks c bytes i m n lacks marks short none j low is = ⊎_elim (λ below. lacks j below is)
    (λ past.
    let e : j ≡ i + (j - i) = omega arith in
    let set : bit_at m (j - i) ≡ 1 = (marks.each (j - i) (omega arith)).1 (subst (λ n. slice_index bytes n ≡ c) e is) in
    absurd (omega (arith, set, none (j - i) (omega arith)))) (near j i)

pub past_all : (c : ℕ) (bytes : List ℕ) (i m : ℕ) → LacksBelow c bytes i → Marks c bytes i m → m ≡ 0
    → LacksBelow c bytes (i + 16)
past_all c bytes i m lacks marks none =
    past_marks c bytes i m 16 lacks marks (omega arith) (λ k low. rw none (bit_at-zero k))

pub lacks_front : (c : ℕ) (bytes : List ℕ) (n : ℕ) → n ≤ length bytes → LacksBelow c bytes n
    → LacksByte c (take n bytes)
lacks_front c bytes n fits lacks i low is =
    let long : length (take n bytes) ≡ n = length-take-le n bytes fits in
    let below : i < n = omega (arith, long, low) in
    lacks i below (sym (get_or-take n bytes i 0 below) ∙ is)

-- the lowest mark is the first place
pub found : (c : ℕ) (bytes : List ℕ) (i m k : ℕ) → i + 16 ≤ length bytes → LacksBelow c bytes i → Marks c bytes i m →
    bit_at m k ≡ 1 → ((j : ℕ) → j < k → bit_at m j ≡ 0) →
    (i + k < length bytes) × LacksBelow c bytes (i + k) × (slice_index bytes (i + k) ≡ c)
found c bytes i m k room lacks marks set below =
    let low : k < 16 = marks.within k set in (
      omega (arith, room, low),
      past_marks c bytes i m k lacks marks (omega (arith, low)) below,
      (marks.each k low).0 set,
    )
