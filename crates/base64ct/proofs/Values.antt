-- The characters of an alphabet and their values.
use Rattle.std.proofs.Common.{◌≡◌, ◌≢◌, ℕ, zero, suc, ◌+◌, ◌==◌, ◌<◌, ◌≤◌, true, false, cond, List, [], ◌∷◌, length}
use Rattle.std.proofs.Common.{map, slice_index, Some, refl, sym, arith, inl, inr}
use Rattle.std.specs.Prelude.{count_by, position, nat_lt, MatchOption}
use Rattle.std.proofs.lemmas.List.Quantifiers.{position-Some}
use Rattle.std.proofs.lemmas.List.Sums.{sum_by-cons, position_or_len_is}
use Rattle.std.specs.List.{position_or_len}
use Rattle.std.proofs.lemmas.Bool.{cases_Bool, ne_eqb, eq-eqb, eqb-true, and_parts, lt-ltb, le-ltb}
use Rattle.base64ct.specs.Encoding.{Alphabet, all_different, is_alphabet, character, value_of, equals_sign, EachBelow}

-- the value of c, or the number of characters where it has none
abbrev pub value_at : List ℕ → ℕ → ℕ
value_at cs c = position_or_len (λ x. x == c) cs

pub counted : (c d : ℕ) (cs : List ℕ) → count_by (λ x. x == c) (d ∷ cs) ≡ cond (d == c) 1 0 + count_by (λ x. x == c) cs
counted c d cs = sum_by-cons (λ x. cond (x == c) 1 0) d cs

pub none_counted : (c : ℕ) (cs : List ℕ) → count_by (λ x. x == c) cs ≡ 0 → (i : ℕ) → i < length cs
    → slice_index cs i ≢ c
none_counted c [] none i lt e = omega arith
none_counted c (d ∷ cs) none zero lt e =
    let sum : count_by (λ x. x == c) (d ∷ cs) ≡ 1 + count_by (λ x. x == c) cs =
    rw (counted c d cs, eq-eqb d c e) refl in
    omega arith
none_counted c (d ∷ cs) none (suc i) lt e = let rest : count_by (λ x. x == c) cs ≡ 0 = omega (arith, counted c d cs) in
    none_counted c cs rest i (omega arith) e

-- a character of different ones has the value of its place
value_of_item : (cs : List ℕ) (v : ℕ) → all_different cs ≡ true → v < length cs → value_at cs (slice_index cs v) ≡ v
value_of_item [] v h lt = absurd (omega arith)
value_of_item (c ∷ cs) zero h lt = rw (eq-eqb c c refl) refl
value_of_item (c ∷ cs) (suc v) h lt =
    let parts = and_parts _ _ h in
    let ne : (c == slice_index cs v) ≡ false =
    ne_eqb c (slice_index cs v) (λ e. none_counted c cs (eqb-true _ _ parts.0) v (omega arith) (sym e)) in
    rw ne (omega (arith, value_of_item cs v parts.1 (omega arith)))

-- a byte that has a value is the character there
pub value_found : (cs : List ℕ) (c : ℕ) → value_at cs c < length cs → slice_index cs (value_at cs c) ≡ c
value_found [] c lt = absurd (omega arith)
value_found (d ∷ cs) c lt = elim (cases_Bool (d == c)) [
  | inl found ↦ rw found (eqb-true d c found)
  | inr other ↦ let below : value_at cs c < length cs = omega (arith, rw other at lt) in
      let next : value_at (d ∷ cs) c ≡ suc (value_at cs c) = rw other (omega arith) in
      rw next (value_found cs c below)
]

-- ---- of an alphabet

pub IsAlphabet-parts : (a : Alphabet) → is_alphabet a ≡ true
    → (length a.characters ≡ 64) × (count_by (λ x. x == equals_sign) a.characters ≡ 0)
    × (all_different a.characters ≡ true)
IsAlphabet-parts a h =
    let parts = and_parts _ _ h in
    let rest = and_parts _ _ parts.1 in
    (eqb-true _ _ parts.0, eqb-true _ _ rest.0, rest.1)

-- the value of the character of v
pub value-character : (a : Alphabet) (v : ℕ) → is_alphabet a ≡ true → v < 64 → value_at a.characters (character a v) ≡ v
value-character a v h lt = let parts = IsAlphabet-parts a h in value_of_item a.characters v parts.2 (omega arith)

-- `=` is no character
pub character_is_no_equals : (a : Alphabet) (v : ℕ) → is_alphabet a ≡ true → v < 64 → character a v ≢ equals_sign
character_is_no_equals a v h lt = let parts = IsAlphabet-parts a h in
    none_counted equals_sign a.characters parts.1 v (omega arith)

pub value_of-Some : (a : Alphabet) (c v : ℕ) → is_alphabet a ≡ true → value_of a c ≡ Some v
    → (v < 64) × (character a v ≡ c)
value_of-Some a c v h e =
    let parts = IsAlphabet-parts a h in
    let at = position-Some (λ x. x == c) a.characters v 0 e in
    (omega arith, eqb-true _ _ at.1)

pub value_of-character : (a : Alphabet) (v : ℕ) → is_alphabet a ≡ true → v < 64 → value_of a (character a v) ≡ Some v
value_of-character a v h lt =
    let parts = IsAlphabet-parts a h in
    let below : nat_lt v (length a.characters) ≡ true = lt-ltb _ _ (omega arith) in
    rw (value-character a v h lt, below) refl

pub map-value-character : (a : Alphabet) (vs : List ℕ) → is_alphabet a ≡ true → EachBelow 64 vs
    → map (value_at a.characters) (map (character a) vs) ≡ vs
map-value-character a [] h below = refl
map-value-character a (v ∷ vs) h below =
    rw (value-character a v h (below 0), map-value-character a vs h (λ i. below (suc i))) refl

-- no character of a text of values is `=`
pub no_equals_counted : (a : Alphabet) (vs : List ℕ) → is_alphabet a ≡ true → EachBelow 64 vs
    → count_by (λ x. x == equals_sign) (map (character a) vs) ≡ 0
no_equals_counted a [] h below = refl
no_equals_counted a (v ∷ vs) h below =
    rw (
      counted equals_sign (character a v) (map (character a) vs),
      ne_eqb (character a v) equals_sign (character_is_no_equals a v h (below 0)),
      no_equals_counted a vs h (λ i. below (suc i)),
    ) refl

-- ---- a search from the front

pub found_none : (cs : List ℕ) (c : ℕ) → length cs ≡ 64 → ((k : ℕ) → k < 64 → slice_index cs k ≢ c)
    → MatchOption (position (λ x. x == c) cs) (64 ≤ 64) (λ p. 64 ≡ p)
found_none cs c len before =
    let first : value_at cs c ≡ 64 =
    position_or_len_is (λ x. x == c) cs 64 0 (omega arith) (λ k below. ne_eqb _ c (before k below))
    (λ lt. absurd (omega arith)) in
    rw (first, le-ltb 64 (length cs) (omega arith)) (omega arith)
