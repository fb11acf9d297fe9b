-- What four looks tell of a block of four characters.
use Rattle.std.proofs.Common.{◌≡◌, ◌≢◌, ◌↔◌, ℕ, zero, suc, ◌/◌, ◌<◌, ◌≤◌, Bool, true, List, [], ◌∷◌, length, bit_and}
use Rattle.std.proofs.Common.{bit_or, Option, Some, None, refl, ◌∙◌, subst, arith, ℤ, pos, negsuc, to_z, of_z, w16}
use Rattle.std.proofs.Common.{rules}
use lib.IntN.{nat_abs}
use Rattle.std.specs.Prelude.{MatchOption}
use Rattle.std.proofs.lemmas.Nat.{and_mask, and_le_r, le_or_l, le_or_r, or_lt}
use Rattle.base64ct.specs.Encoding.{Alphabet, is_alphabet, character, value_of, unpadded_encoding, groups, whole_bytes}
use Rattle.base64ct.specs.Encoding.{EachBelow, AreCharacters}
use Rattle.base64ct.specs.Tables.{shaped}
use Rattle.base64ct.specs.declared.tables.Shape.{Shape}
use Rattle.base64ct.proofs.Sextets.{groups-whole_bytes, whole_bytes-block}
use Rattle.base64ct.proofs.Values.{value_of-Some}

-- what a look at c answers
abbrev pub IsValueOf : Alphabet → ℕ → ℕ → Type 0
IsValueOf a c v = MatchOption (value_of a c) (64 ≤ v) (λ p. v ≡ p)

module _ (a : Alphabet) (lawful : is_alphabet a ≡ true) where
  pub character_of_value : (c v : ℕ) → IsValueOf a c v → v < 64 → character a v ≡ c
  character_of_value c v h lt = go (value_of a c) refl
    where
      go : (o : Option ℕ) → value_of a c ≡ o → character a v ≡ c
      go None e = let big : 64 ≤ v = subst (λ o. MatchOption o (64 ≤ v) (λ p. v ≡ p)) e h in absurd (omega arith)
      go (Some p) e =
          let same : v ≡ p = subst (λ o. MatchOption o (64 ≤ v) (λ p. v ≡ p)) e h in
          rw same (value_of-Some a c p lawful e).1

  pub small_of_some : (c v : ℕ) → IsValueOf a c v → value_of a c ≢ None → v < 64
  small_of_some c v h some = go (value_of a c) refl
    where
      go : (o : Option ℕ) → value_of a c ≡ o → v < 64
      go None e = absurd (some e)
      go (Some p) e =
          let same : v ≡ p = subst (λ o. MatchOption o (64 ≤ v) (λ p. v ≡ p)) e h in
          let parts = value_of-Some a c p lawful e in
          omega arith

  pub some_of_small : (c v : ℕ) → IsValueOf a c v → v < 64 → value_of a c ≢ None
  some_of_small c v h lt e = let big : 64 ≤ v = subst (λ o. MatchOption o (64 ≤ v) (λ p. v ≡ p)) e h in omega arith

-- the low byte of a value, or of -1
pub low_byte : (a : Alphabet) (c : ℕ) (z : ℤ) → is_alphabet a ≡ true
    → MatchOption (value_of a c) (z ≡ negsuc 0) (λ v. z ≡ pos v)
    → IsValueOf a c (nat_abs (to_z w16 (bit_and (of_z w16 z) 255)))
low_byte a c z lawful h = go (value_of a c) refl
  where
    go : (o : Option ℕ) → value_of a c ≡ o → IsValueOf a c (nat_abs (to_z w16 (bit_and (of_z w16 z) 255)))
    go None e =
        let is : z ≡ negsuc 0 = subst (λ o. MatchOption o (z ≡ negsuc 0) (λ v. z ≡ pos v)) e h in
        rw (e, is) (omega arith)
    go (Some p) e =
        let is : z ≡ pos p = subst (λ o. MatchOption o (z ≡ negsuc 0) (λ v. z ≡ pos v)) e h in
        let small = (value_of-Some a c p lawful e).0 in
        let masked : bit_and p 255 ≡ p = and_mask p 8 ∙ omega arith in
        rw (e, is, masked) (search rules)

small_parts : (v w x y : ℕ) → bit_or (bit_or (bit_or v w) x) y / 64 ≡ 0 → (v < 64) × (w < 64) × (x < 64) × (y < 64)
small_parts v w x y none =
    let l3 = le_or_l (bit_or (bit_or v w) x) y in
    let r3 = le_or_r (bit_or (bit_or v w) x) y in
    let l2 = le_or_l (bit_or v w) x in
    let r2 = le_or_r (bit_or v w) x in
    let l1 = le_or_l v w in
    let r1 = le_or_r v w in
    (omega arith, omega arith, omega arith, omega arith)

small_whole : (v w x y : ℕ) → v < 64 → w < 64 → x < 64 → y < 64 → bit_or (bit_or (bit_or v w) x) y / 64 ≡ 0
small_whole v w x y lv lw lx ly =
    let small = or_lt 6 (bit_or (bit_or v w) x) y (or_lt 6 (bit_or v w) x (or_lt 6 v w lv lw) lx) ly in
    omega arith

pub fault_from_values : (a : Alphabet) (c d e f v w x y : ℕ) → is_alphabet a ≡ true → IsValueOf a c v → IsValueOf a d w
    → IsValueOf a e x → IsValueOf a f y
    → (bit_or (bit_or (bit_or v w) x) y / 64 ≡ 0) ↔ AreCharacters a (c ∷ d ∷ e ∷ f ∷ [])
fault_from_values a c d e f v w x y h hc hd he hf = (found, none)
  where
    found : bit_or (bit_or (bit_or v w) x) y / 64 ≡ 0 → AreCharacters a (c ∷ d ∷ e ∷ f ∷ [])
    found z zero lt = some_of_small a h c v hc (small_parts v w x y z).0
    found z (suc zero) lt = some_of_small a h d w hd (small_parts v w x y z).1
    found z (suc (suc zero)) lt = some_of_small a h e x he (small_parts v w x y z).2
    found z (suc (suc (suc zero))) lt = some_of_small a h f y hf (small_parts v w x y z).3
    found z (suc (suc (suc (suc i)))) lt = absurd (omega arith)

    none : AreCharacters a (c ∷ d ∷ e ∷ f ∷ []) → bit_or (bit_or (bit_or v w) x) y / 64 ≡ 0
    none all = small_whole v w x y (small_of_some a h c v hc (all 0 (omega arith)))
        (small_of_some a h d w hd (all 1 (omega arith))) (small_of_some a h e x he (all 2 (omega arith)))
        (small_of_some a h f y hf (all 3 (omega arith)))

mask : (n : ℕ) → n < 64 → bit_and n 63 ≡ n
mask n lt = and_mask n 6 ∙ omega arith

pub unpadded_from_values : (a : Alphabet) (c d e f v w x y : ℕ) (low_first : Bool) (bytes : List ℕ)
    → is_alphabet a ≡ true → IsValueOf a c v → IsValueOf a d w → IsValueOf a e x → IsValueOf a f y
    → low_first ≡ a.low_first
    → bytes ≡ whole_bytes low_first (bit_and v 63 ∷ bit_and w 63 ∷ bit_and x 63 ∷ bit_and y 63 ∷ [])
    → bit_or (bit_or (bit_or v w) x) y / 64 ≡ 0 → unpadded_encoding a bytes ≡ c ∷ d ∷ e ∷ f ∷ []
unpadded_from_values a c d e f v w x y low_first bytes h hc hd he hf order same none =
    let small = small_parts v w x y none in
    let values : groups a.low_first bytes ≡ v ∷ w ∷ x ∷ y ∷ [] =
    rw (same, mask v small.0, mask w small.1, mask x small.2, mask y small.3, ← order)
    (groups-whole_bytes low_first v w x y small.0 small.1 small.2 small.3) in
    rw (
      values,
      ← character_of_value a h c v hc small.0,
      ← character_of_value a h d w hd small.1,
      ← character_of_value a h e x he small.2,
      ← character_of_value a h f y hf small.3,
    ) refl

-- by a table that stays as it was from one character to the next
pub four_by_table : (shape : Shape) (cs by_d by_e by_f : List ℕ) (c d e f v w x y : ℕ)
    → (let a = shaped cs shape in is_alphabet a ≡ true → by_d ≡ cs → by_e ≡ by_d → by_f ≡ by_e → IsValueOf a c v
    → IsValueOf (shaped by_d shape) d w → IsValueOf (shaped by_e shape) e x → IsValueOf (shaped by_f shape) f y
    → ((bit_or (bit_or (bit_or v w) x) y / 64 ≡ 0) ↔ AreCharacters a (c ∷ d ∷ e ∷ f ∷ []))
    × ((low_first : Bool) (bytes : List ℕ) → low_first ≡ shape.low_first
    → bytes ≡ whole_bytes low_first (bit_and v 63 ∷ bit_and w 63 ∷ bit_and x 63 ∷ bit_and y 63 ∷ [])
    → bit_or (bit_or (bit_or v w) x) y / 64 ≡ 0 → unpadded_encoding a bytes ≡ c ∷ d ∷ e ∷ f ∷ []))
four_by_table shape cs by_d by_e by_f c d e f v w x y h ed ee ef hc hd he hf =
    let a = shaped cs shape in
    let value : (k n : ℕ) (l : List ℕ) → l ≡ cs → IsValueOf (shaped l shape) k n → IsValueOf a k n = λ k n l same is.
    subst (λ (l : List ℕ). IsValueOf (shaped l shape) k n) same is in
    let d_is = value d w by_d ed hd in
    let e_is = value e x by_e (ee ∙ ed) he in
    let f_is = value f y by_f (ef ∙ ee ∙ ed) hf in (
      fault_from_values a c d e f v w x y h hc d_is e_is f_is,
      λ low_first bytes. unpadded_from_values a c d e f v w x y low_first bytes h hc d_is e_is f_is,
    )

pub bytes_from_values : (v w x y : ℕ) (low_first : Bool) (bytes : List ℕ)
    → bytes ≡ whole_bytes low_first (bit_and v 63 ∷ bit_and w 63 ∷ bit_and x 63 ∷ bit_and y 63 ∷ [])
    → (length bytes ≡ 3) × EachBelow 256 bytes
bytes_from_values v w x y low_first bytes e =
    let lv = and_le_r v 63 in
    let lw = and_le_r w 63 in
    let lx = and_le_r x 63 in
    let ly = and_le_r y 63 in
    rw e (whole_bytes-block low_first (bit_and v 63) (bit_and w 63) (bit_and x 63) (bit_and y 63) (omega arith)
    (omega arith) (omega arith) (omega arith))
