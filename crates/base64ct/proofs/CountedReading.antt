-- What decoding by a table and a test rests on.
use Rattle.std.proofs.Common.{◌≡◌, ◌≢◌, ℕ, ◌+◌, ◌-◌, ◌*◌, ◌/◌, ◌%◌, ◌≤◌, Bool, true, false, ◌&&◌, List, [], ◌∷◌, ◌++◌}
use Rattle.std.proofs.Common.{length, take, drop, replicate, slice_index, None, bit_or, inl, inr, refl, sym, ap, ◌∙◌}
use Rattle.std.proofs.Common.{subst, arith}
use Rattle.std.specs.Prelude.{◌==◌, nat_eq, not, if◌then◌else◌}
use Rattle.std.specs.Cmp.Lexicographic.{pointwise}
use Rattle.std.proofs.lemmas.Bool.{cases_eq, ne_eqb}
use Rattle.std.proofs.lemmas.List.{append-nil, length-map, length-take-le, length-drop, get_or-drop}
use Rattle.std.proofs.Math.Bool.{and-false}
use borrow.Rule.Slice.PartMut.{put_mid}
use Rattle.base64ct.specs.Encoding.{Alphabet, is_alphabet, character, value_of, unpadded_encoding, whole_bytes}
use Rattle.base64ct.specs.Encoding.{byte_count, EachBelow, AreCharacters, Reads}
use Rattle.base64ct.specs.Tables.{filled}
use Rattle.base64ct.proofs.Encodings.{below-take, below-drop}
use Rattle.base64ct.proofs.GoodBlocks.{below-append}
use Rattle.base64ct.proofs.Unpadded.{length-unpadded, unpadded-fill_one, unpadded-fill_two}
use Rattle.base64ct.proofs.Last.{or_zero_l, or_zero_r}
use Rattle.base64ct.proofs.Decoded.{Progress}
use Rattle.base64ct.proofs.Lenience.{lenient_end, are_filled, zero_is}

-- ---- reading

pub zeros_filled : (a : Alphabet) (z : ℕ) → is_alphabet a ≡ true → z ≡ character a 0
    → AreCharacters a (z ∷ z ∷ z ∷ z ∷ [])
zeros_filled a z lawful ez =
    let some = zero_is a z lawful ez in
    are_filled a (z ∷ z ∷ z ∷ []) z some
    (are_filled a (z ∷ z ∷ []) z some
    (are_filled a (z ∷ []) z some (are_filled a [] z some (λ i lt. absurd (omega arith)))))

pub end_leniently : (a : Alphabet) (src old dst bytes last rest : List ℕ) (i j fault wrong k n : ℕ)
    → is_alphabet a ≡ true → j ≡ i → i ≡ length src / 4 → byte_count (length src) ≤ length dst
    → n ≡ byte_count (length src) → k ≡ length src % 4 * 3 / 4 → length bytes ≡ 3 → last ≡ take k bytes
    → rest ≡ drop (4 * i) src → EachBelow 256 (put_mid (3 * i) k dst last)
    → (wrong ≡ 0 → (values : List ℕ) × Reads a rest values (take (byte_count (length rest)) bytes))
    → Progress a src old dst j fault → bit_or fault wrong ≡ 0
    → (values : List ℕ) × Reads a src values (take n (put_mid (3 * i) k dst last))
end_leniently a src old dst bytes last rest i j fault wrong k n lawful ej ei room en ek three el er below tail p none =
    let lr : length rest ≡ length src - 4 * i = ap length er ∙ length-drop (4 * i) src in
    let found = tail (or_zero_r fault wrong none) in
    let width : byte_count (length rest) ≡ k = omega arith in
    let ll : length last ≡ k = ap length el ∙ length-take-le k bytes (omega arith) in
    let lv : length found.0 ≡ length rest = sym (ap length found.1.2 ∙ length-map found.0 (character a)) in
    let odd : length src % 4 ≢ 1 = λ e. found.1.1 (omega arith) in
    let bytes_are : last ≡ whole_bytes a.low_first found.0 = el ∙ rw (← width) found.1.3 in
    lenient_end a src old dst last found.0 i j fault k n lawful ej ei odd (omega arith) (omega arith) (omega arith)
    below found.1.0 (sym er ∙ found.1.2) bytes_are p (or_zero_l fault wrong none)

pub all_accepted : (a : Alphabet) (src old dst rest : List ℕ) (i j fault wrong : ℕ) → i ≡ length src / 4
    → length src % 4 ≢ 1 → rest ≡ drop (4 * i) src
    → (length rest ≢ 1 → AreCharacters a rest → wrong ≡ 0) → Progress a src old dst j fault → AreCharacters a src
    → bit_or fault wrong ≡ 0
all_accepted a src old dst rest i j fault wrong ei odd er tail p all =
    let lr : length rest ≡ length src - 4 * i = ap length er ∙ length-drop (4 * i) src in
    let back : AreCharacters a rest =
    subst (AreCharacters a) (sym er)
    (λ m lt. subst (λ (c : ℕ). value_of a c ≢ None) (sym (get_or-drop (4 * i) src m 0))
    (all (4 * i + m) (omega (arith, length-drop (4 * i) src)))) in
    rw (p.accepted all, tail (λ one. odd (omega arith)) back) refl

-- a list of bytes with bytes written in it
pub below-put_mid : (o k : ℕ) (dst bytes : List ℕ) → EachBelow 256 dst → EachBelow 256 bytes
    → EachBelow 256 (put_mid o k dst bytes)
below-put_mid o k dst bytes below small =
    below-append (take o dst) _ (below-take 256 o dst (omega arith) below)
    (below-append bytes _ small (below-drop 256 k _ (below-drop 256 o dst below)))

-- ---- comparing

pub four_pairs : (r : ℕ → ℕ → Bool) (xs ys : List ℕ) → length xs ≡ 4 → length ys ≡ 4
    → (((r (slice_index xs 0) (slice_index ys 0) && r (slice_index xs 1) (slice_index ys 1))
    && r (slice_index xs 2) (slice_index ys 2)) && r (slice_index xs 3) (slice_index ys 3)) ≡ pointwise r xs ys
four_pairs r [] ys lx ly = absurd (omega arith)
four_pairs r (a ∷ []) ys lx ly = absurd (omega arith)
four_pairs r (a ∷ b ∷ []) ys lx ly = absurd (omega arith)
four_pairs r (a ∷ b ∷ c ∷ []) ys lx ly = absurd (omega arith)
four_pairs r (a ∷ b ∷ c ∷ d ∷ e ∷ xs) ys lx ly = absurd (omega arith)
four_pairs r (a ∷ b ∷ c ∷ d ∷ []) [] lx ly = absurd (omega arith)
four_pairs r (a ∷ b ∷ c ∷ d ∷ []) (v ∷ []) lx ly = absurd (omega arith)
four_pairs r (a ∷ b ∷ c ∷ d ∷ []) (v ∷ w ∷ []) lx ly = absurd (omega arith)
four_pairs r (a ∷ b ∷ c ∷ d ∷ []) (v ∷ w ∷ x ∷ []) lx ly = absurd (omega arith)
four_pairs r (a ∷ b ∷ c ∷ d ∷ []) (v ∷ w ∷ x ∷ y ∷ z ∷ ys) lx ly = absurd (omega arith)
four_pairs r (a ∷ b ∷ c ∷ d ∷ []) (v ∷ w ∷ x ∷ y ∷ []) lx ly = joined (r a v) (r b w) (r c x) (r d y)
  where
    joined : (p q s t : Bool) → (((p && q) && s) && t) ≡ (p && (q && (s && (t && true))))
    joined false q s t = refl
    joined true false s t = refl
    joined true true false t = refl
    joined true true true false = refl
    joined true true true true = refl

-- the characters of filled bytes are the filled characters
pub unpadded-filled : (a : Alphabet) (bytes : List ℕ) → EachBelow 256 bytes → 1 ≤ length bytes → length bytes ≤ 3
    → unpadded_encoding a (bytes ++ replicate (3 - length bytes) 0) ≡ filled a (unpadded_encoding a bytes)
unpadded-filled a [] h l m = absurd (omega arith)
unpadded-filled a (b ∷ []) h l m =
    let len : length (unpadded_encoding a (b ∷ [])) ≡ 2 = length-unpadded a (b ∷ []) h in
    unpadded-fill_one a b (h 0) ∙ rw len refl
unpadded-filled a (b ∷ c ∷ []) h l m =
    let len : length (unpadded_encoding a (b ∷ c ∷ [])) ≡ 3 = length-unpadded a (b ∷ c ∷ []) h in
    unpadded-fill_two a b c (h 0) (h 1) ∙ rw len refl
unpadded-filled a (b ∷ c ∷ d ∷ []) h l m =
    let len : length (unpadded_encoding a (b ∷ c ∷ d ∷ [])) ≡ 4 = length-unpadded a (b ∷ c ∷ d ∷ []) h in
    let none : replicate (4 - length (unpadded_encoding a (b ∷ c ∷ d ∷ []))) (character a 0) ≡ [] = rw len refl in
    sym (ap (λ (x : List ℕ). unpadded_encoding a (b ∷ c ∷ d ∷ []) ++ x) none
    ∙ append-nil (unpadded_encoding a (b ∷ c ∷ d ∷ [])))
unpadded-filled a (b ∷ c ∷ d ∷ e ∷ bytes) h l m = absurd (omega arith)

pub last_answer : (r : ℕ → ℕ → Bool) (a : Alphabet) (last bytes block whole again : List ℕ) (z : ℕ)
    → EachBelow 256 bytes → 1 ≤ length last → length last ≤ 4 → length last ≢ 1 → length bytes ≡ 3 * length last / 4
    → z ≡ character a 0 → block ≡ last ++ replicate (4 - length last) z
    → whole ≡ bytes ++ replicate (3 - length bytes) 0 → length again ≡ 4 → length block ≡ 4
    → again ≡ unpadded_encoding a whole
    → (((r (slice_index block 0) (slice_index again 0) && r (slice_index block 1) (slice_index again 1))
    && r (slice_index block 2) (slice_index again 2)) && r (slice_index block 3) (slice_index again 3))
    ≡ pointwise r (filled a last) (filled a (unpadded_encoding a bytes))
last_answer r a last bytes block whole again z below some few odd lb ez eb ew la lk ea =
    let left : block ≡ filled a last = eb ∙ rw ez refl in
    let right : again ≡ filled a (unpadded_encoding a bytes) =
    ea ∙ rw ew (unpadded-filled a bytes below (omega arith) (omega arith)) in
    four_pairs r block again lk la ∙ rw (left, right) refl

-- ---- both kinds of fault as one number

pub both_at_once : (fault differs : ℕ) (passed : Bool) → differs ≡ (if not passed then 1 else 0)
    → nat_eq (bit_or fault differs) 0 ≡ ((fault == 0) && passed)
both_at_once fault differs true is = elim (cases_eq fault 0) [
  | inl none ↦ rw (none, is) refl
  | inr some ↦ ne_eqb (bit_or fault differs) 0 (λ e. some (or_zero_l fault differs e))
      ∙ sym (rw (ne_eqb fault 0 some) refl)
]
both_at_once fault differs false is =
    ne_eqb (bit_or fault differs) 0 (λ e. absurd (omega (arith, is, or_zero_r fault differs e)))
    ∙ sym (and-false (fault == 0))
