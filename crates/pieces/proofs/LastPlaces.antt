-- The last place of a byte, found by first places.
use Rattle.std.proofs.Common.{◌≡◌, ℕ, ◌<◌, ◌≤◌, ◌+◌, ◌-◌, ◌∙◌, List, ⊎_elim, sym, subst, length, take, drop}
use Rattle.std.proofs.Common.{slice_index, arith}
use Rattle.std.specs.Prelude.{Option, None, Some}
use Rattle.std.proofs.lemmas.List.{get_or-take, get_or-drop, length-drop, length-take-le}
use Rattle.pieces.specs.Places.{LacksBelow, LacksBetween, IsLastBelow, IsLastPlace}
use Rattle.pieces.proofs.PlaceLaws.{near}

-- what stands from a place on
abbrev pub rest : ℕ → List ℕ → List ℕ
rest i bytes = take (length bytes - i) (drop i bytes)

pub at_rest : (bytes : List ℕ) (i k : ℕ) → k < length bytes - i
    → slice_index (rest i bytes) k ≡ slice_index bytes (i + k)
at_rest bytes i k low = get_or-take (length bytes - i) (drop i bytes) k 0 low ∙ get_or-drop i bytes k 0

pub long_rest : (bytes : List ℕ) (i : ℕ) → length (rest i bytes) ≡ length bytes - i
long_rest bytes i = length-take-le (length bytes - i) (drop i bytes) (omega (arith, length-drop i bytes))

pub rest_lacks : (c : ℕ) (bytes : List ℕ) (i n : ℕ) → n ≤ length bytes - i → LacksBelow c (rest i bytes) n
    → LacksBetween c bytes i (i + n)
rest_lacks c bytes i n fits lacks k from below is =
    let e : i + (k - i) ≡ k = omega arith in
    lacks (k - i) (omega arith)
    (at_rest bytes i (k - i) (omega arith) ∙ subst (λ j. slice_index bytes j ≡ c) (sym e) is)

pub all_lack : (c : ℕ) (bytes : List ℕ) (i : ℕ) → i ≤ length bytes → LacksBelow c (rest i bytes) (length (rest i bytes))
    → LacksBetween c bytes i (length bytes)
all_lack c bytes i fits lacks k from below =
    rest_lacks c bytes i (length bytes - i) (omega arith) (λ j low. lacks j (omega (arith, long_rest bytes i))) k from
    (omega arith)

pub last_of_all : (c : ℕ) (bytes : List ℕ) (i : ℕ) (last : Option ℕ) → IsLastBelow c bytes i last
    → LacksBetween c bytes i (length bytes) → i ≤ length bytes
    → IsLastPlace c bytes last
last_of_all c bytes i None lacks others fits =
    λ k below is. ⊎_elim (λ low. lacks k low is) (λ past. others k past below is) (near k i)
last_of_all c bytes i (Some at) last others fits = (
  omega (arith, last.0, fits),
  λ k from below is. ⊎_elim (λ low. last.1 k from low is) (λ past. others k past below is) (near k i),
  last.2,
)
