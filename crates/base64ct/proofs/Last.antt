-- The last block of a text, where it is short.
use Rattle.std.proofs.Common.{◌≡◌, ◌↔◌, ℕ, ◌<◌, true, List, [], ◌∷◌, ◌++◌, length, take, slice_index, bit_or, refl, sym}
use Rattle.std.proofs.Common.{ap, ◌∙◌, subst, arith}
use Rattle.std.specs.Int.Bits.{bit_xor, xor_self}
use Rattle.std.proofs.lemmas.Nat.{le_or_l, le_or_r}
use Rattle.std.proofs.lemmas.List.{get_or_append_left}
use Rattle.subtle.proofs.SignBits.{xor_equal}
use Rattle.base64ct.specs.Encoding.{Alphabet, is_alphabet, character, unpadded_encoding, EachBelow, AreCharacters}
use Rattle.base64ct.proofs.Encodings.{below-one, below-two, below-three}
use Rattle.base64ct.proofs.Unpadded.{length-unpadded, unpadded-fill_one, unpadded-fill_two, unpadded_once}
use Rattle.base64ct.proofs.Unpadded.{are_characters-unpadded}

pub or_zero_l : (a b : ℕ) → bit_or a b ≡ 0 → a ≡ 0
or_zero_l a b e = let h = le_or_l a b in omega arith

pub or_zero_r : (a b : ℕ) → bit_or a b ≡ 0 → b ≡ 0
or_zero_r a b e = let h = le_or_r a b in omega arith

pub items_one : (xs : List ℕ) → 0 < length xs → take 1 xs ≡ slice_index xs 0 ∷ []
items_one [] h = absurd (omega arith)
items_one (x ∷ xs) h = refl

pub items_two : (xs : List ℕ) → 1 < length xs → take 2 xs ≡ slice_index xs 0 ∷ slice_index xs 1 ∷ []
items_two [] h = absurd (omega arith)
items_two (x ∷ []) h = absurd (omega arith)
items_two (x ∷ y ∷ xs) h = refl

pub whole_one : (xs : List ℕ) → length xs ≡ 1 → xs ≡ slice_index xs 0 ∷ []
whole_one [] h = absurd (omega arith)
whole_one (x ∷ []) h = refl
whole_one (x ∷ y ∷ xs) h = absurd (omega arith)

pub whole_two : (xs : List ℕ) → length xs ≡ 2 → xs ≡ slice_index xs 0 ∷ slice_index xs 1 ∷ []
whole_two [] h = absurd (omega arith)
whole_two (x ∷ []) h = absurd (omega arith)
whole_two (x ∷ y ∷ []) h = refl
whole_two (x ∷ y ∷ z ∷ xs) h = absurd (omega arith)

pub whole_three : (xs : List ℕ) → length xs ≡ 3 → xs ≡ slice_index xs 0 ∷ slice_index xs 1 ∷ slice_index xs 2 ∷ []
whole_three [] h = absurd (omega arith)
whole_three (x ∷ []) h = absurd (omega arith)
whole_three (x ∷ y ∷ []) h = absurd (omega arith)
whole_three (x ∷ y ∷ z ∷ []) h = refl
whole_three (x ∷ y ∷ z ∷ w ∷ xs) h = absurd (omega arith)

-- two characters that are encoded again
pub two_read : (a : Alphabet) (c d b z : ℕ) (again : List ℕ) (f : ℕ) → b < 256 → z ≡ character a 0
    → again ≡ unpadded_encoding a (b ∷ 0 ∷ 0 ∷ [])
    → bit_or (bit_or f (bit_xor (slice_index again 0) c)) (bit_xor (slice_index again 1) d) ≡ 0
    → unpadded_encoding a (b ∷ []) ≡ c ∷ d ∷ []
two_read a c d b z again f lb ez e none =
    let len = length-unpadded a (b ∷ []) (below-one b lb) in
    let whole : again ≡ unpadded_encoding a (b ∷ []) ++ character a 0 ∷ character a 0 ∷ [] =
    e ∙ unpadded-fill_one a b lb in
    let first : slice_index again 0 ≡ c = xor_equal _ _ (or_zero_r f _ (or_zero_l _ _ none)) in
    let second : slice_index again 1 ≡ d = xor_equal _ _ (or_zero_r _ _ none) in
    let at0 : slice_index again 0 ≡ slice_index (unpadded_encoding a (b ∷ [])) 0 =
    rw whole (get_or_append_left (unpadded_encoding a (b ∷ [])) _ 0 0 (omega arith)) in
    let at1 : slice_index again 1 ≡ slice_index (unpadded_encoding a (b ∷ [])) 1 =
    rw whole (get_or_append_left (unpadded_encoding a (b ∷ [])) _ 0 1 (omega arith)) in
    whole_two (unpadded_encoding a (b ∷ [])) len ∙ rw (← at0, ← at1, first, second) refl

pub two_encoded : (a : Alphabet) (c d z : ℕ) (bytes again accepted : List ℕ) (f : ℕ) → is_alphabet a ≡ true
    → EachBelow 256 bytes → EachBelow 256 accepted → z ≡ character a 0
    → (f ≡ 0) ↔ AreCharacters a (c ∷ d ∷ z ∷ z ∷ []) → (f ≡ 0 → unpadded_encoding a bytes ≡ c ∷ d ∷ z ∷ z ∷ [])
    → again ≡ unpadded_encoding a (slice_index bytes 0 ∷ 0 ∷ 0 ∷ [])
    → unpadded_encoding a accepted ≡ c ∷ d ∷ []
    → bit_or (bit_or f (bit_xor (slice_index again 0) c)) (bit_xor (slice_index again 1) d) ≡ 0
two_encoded a c d z bytes again [] f lawful hb hs ez iff read e es = let n = ap length es in
    let l = length-unpadded a [] hs in absurd (omega arith)
two_encoded a c d z bytes again (x ∷ []) f lawful hb hs ez iff read e es =
    let lx : x < 256 = hs 0 in
    let full : unpadded_encoding a (x ∷ 0 ∷ 0 ∷ []) ≡ c ∷ d ∷ z ∷ z ∷ [] =
    unpadded-fill_one a x lx ∙ rw (es, ez) refl in
    let three = below-three x 0 0 lx (omega arith) (omega arith) in
    let good : f ≡ 0 = iff.1 (subst (AreCharacters a) full (are_characters-unpadded a (x ∷ 0 ∷ 0 ∷ []) lawful three)) in
    let same : bytes ≡ x ∷ 0 ∷ 0 ∷ [] = unpadded_once a bytes (x ∷ 0 ∷ 0 ∷ []) lawful hb three (read good ∙ sym full) in
    let again_is : again ≡ c ∷ d ∷ z ∷ z ∷ [] = e ∙ rw same full in
    rw (again_is, good, xor_self c, xor_self d) refl
two_encoded a c d z bytes again (x ∷ y ∷ more) f lawful hb hs ez iff read e es = let n = ap length es in
    let l = length-unpadded a (x ∷ y ∷ more) hs in absurd (omega arith)

-- three characters that are encoded again
pub three_read : (a : Alphabet) (c d e b₀ b₁ : ℕ) (again : List ℕ) (f : ℕ) → b₀ < 256 → b₁ < 256
    → again ≡ unpadded_encoding a (b₀ ∷ b₁ ∷ 0 ∷ [])
    → bit_or (bit_or (bit_or f (bit_xor (slice_index again 0) c)) (bit_xor (slice_index again 1) d))
    (bit_xor (slice_index again 2) e) ≡ 0 → unpadded_encoding a (b₀ ∷ b₁ ∷ []) ≡ c ∷ d ∷ e ∷ []
three_read a c d e b₀ b₁ again f l0 l1 eq none =
    let ls : List ℕ = unpadded_encoding a (b₀ ∷ b₁ ∷ []) in
    let len : length ls ≡ 3 = length-unpadded a (b₀ ∷ b₁ ∷ []) (below-two b₀ b₁ l0 l1) in
    let whole : again ≡ ls ++ character a 0 ∷ [] = eq ∙ unpadded-fill_two a b₀ b₁ l0 l1 in
    let first : slice_index again 0 ≡ c = xor_equal _ _ (or_zero_r f _ (or_zero_l _ _ (or_zero_l _ _ none))) in
    let second : slice_index again 1 ≡ d = xor_equal _ _ (or_zero_r _ _ (or_zero_l _ _ none)) in
    let third : slice_index again 2 ≡ e = xor_equal _ _ (or_zero_r _ _ none) in
    let at0 : slice_index again 0 ≡ slice_index ls 0 = rw whole (get_or_append_left ls _ 0 0 (omega arith)) in
    let at1 : slice_index again 1 ≡ slice_index ls 1 = rw whole (get_or_append_left ls _ 0 1 (omega arith)) in
    let at2 : slice_index again 2 ≡ slice_index ls 2 = rw whole (get_or_append_left ls _ 0 2 (omega arith)) in
    whole_three ls len ∙ rw (← at0, ← at1, ← at2, first, second, third) refl

pub three_encoded : (a : Alphabet) (c d e z : ℕ) (bytes again accepted : List ℕ) (f : ℕ) → is_alphabet a ≡ true
    → EachBelow 256 bytes → EachBelow 256 accepted → z ≡ character a 0
    → (f ≡ 0) ↔ AreCharacters a (c ∷ d ∷ e ∷ z ∷ []) → (f ≡ 0 → unpadded_encoding a bytes ≡ c ∷ d ∷ e ∷ z ∷ [])
    → again ≡ unpadded_encoding a (slice_index bytes 0 ∷ slice_index bytes 1 ∷ 0 ∷ [])
    → unpadded_encoding a accepted ≡ c ∷ d ∷ e ∷ []
    → bit_or (bit_or (bit_or f (bit_xor (slice_index again 0) c)) (bit_xor (slice_index again 1) d))
    (bit_xor (slice_index again 2) e) ≡ 0
three_encoded a c d e z bytes again [] f lawful hb hs ez iff read eq es = let n = ap length es in
    let l = length-unpadded a [] hs in absurd (omega arith)
three_encoded a c d e z bytes again (x ∷ []) f lawful hb hs ez iff read eq es = let n = ap length es in
    let l = length-unpadded a (x ∷ []) hs in absurd (omega arith)
three_encoded a c d e z bytes again (x ∷ y ∷ []) f lawful hb hs ez iff read eq es =
    let lx : x < 256 = hs 0 in
    let ly : y < 256 = hs 1 in
    let full : unpadded_encoding a (x ∷ y ∷ 0 ∷ []) ≡ c ∷ d ∷ e ∷ z ∷ [] =
    unpadded-fill_two a x y lx ly ∙ rw (es, ez) refl in
    let three = below-three x y 0 lx ly (omega arith) in
    let good : f ≡ 0 = iff.1 (subst (AreCharacters a) full (are_characters-unpadded a (x ∷ y ∷ 0 ∷ []) lawful three)) in
    let same : bytes ≡ x ∷ y ∷ 0 ∷ [] = unpadded_once a bytes (x ∷ y ∷ 0 ∷ []) lawful hb three (read good ∙ sym full) in
    let again_is : again ≡ c ∷ d ∷ e ∷ z ∷ [] = eq ∙ rw same full in
    rw (again_is, good, xor_self c, xor_self d, xor_self e) refl
three_encoded a c d e z bytes again (x ∷ y ∷ w ∷ more) f lawful hb hs ez iff read eq es = let n = ap length es in
    let l = length-unpadded a (x ∷ y ∷ w ∷ more) hs in absurd (omega arith)

-- a text of one character is no encoding
pub one_encoded : (a : Alphabet) (c : ℕ) (accepted : List ℕ) → EachBelow 256 accepted
    → unpadded_encoding a accepted ≡ c ∷ [] → ⊥
one_encoded a c accepted h e = let n = ap length e in let l = length-unpadded a accepted h in omega arith
