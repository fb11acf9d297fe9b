-- Characters that are read without a look at the bits left over.
use Rattle.std.proofs.Common.{◌≡◌, ◌≢◌, ◌↔◌, ℕ, zero, suc, ◌+◌, ◌-◌, ◌*◌, ◌/◌, ◌%◌, ◌<◌, ◌≤◌, Bool, true, List, [], ◌∷◌}
use Rattle.std.proofs.Common.{◌++◌, length, map, take, drop, slice_index, None, bit_or, refl, sym, ap, ◌∙◌, subst}
use Rattle.std.proofs.Common.{arith, inl, inr}
use Rattle.std.proofs.lemmas.List.{length-append, length-map, map-append, take-append-drop, length-take-le, length-drop}
use Rattle.std.proofs.lemmas.List.{drop-drop, drop-take, get_or_append_left, get_or-drop, get_or-take}
use Rattle.std.proofs.lemmas.Bool.{cases_lt, le-ltb}
use borrow.Rule.Slice.PartMut.{put_mid}
use Rattle.base64ct.specs.Encoding.{Alphabet, is_alphabet, character, value_of, unpadded_encoding, groups, whole_bytes}
use Rattle.base64ct.specs.Encoding.{byte_count, EachBelow, AreCharacters, Reads}
use Rattle.base64ct.proofs.Sextets.{whole_bytes-append, whole_bytes-fill_two, whole_bytes-fill_three}
use Rattle.base64ct.proofs.Sextets.{whole_bytes-groups, whole_bytes-nil}
use Rattle.base64ct.proofs.Values.{value_at, value_found, map-value-character, IsAlphabet-parts}
use Rattle.base64ct.proofs.Encodings.{groups-below, length-groups}
use Rattle.base64ct.proofs.Unpadded.{are_characters-map}
use Rattle.base64ct.proofs.Last.{or_zero_l, or_zero_r}
use Rattle.base64ct.proofs.Decoded.{Progress, progress_more, front_written}

pub groups_from_unpadded : (a : Alphabet) (bytes values : List ℕ) → is_alphabet a ≡ true → EachBelow 256 bytes
    → EachBelow 64 values → unpadded_encoding a bytes ≡ map (character a) values → groups a.low_first bytes ≡ values
groups_from_unpadded a bytes values lawful hb hv e =
    sym (map-value-character a (groups a.low_first bytes) lawful (groups-below a.low_first bytes hb))
    ∙ ap (λ (t : List ℕ). map (value_at a.characters) t) e ∙ map-value-character a values lawful hv

pub bytes_from_unpadded : (a : Alphabet) (bytes values : List ℕ) → is_alphabet a ≡ true → EachBelow 256 bytes
    → EachBelow 64 values → unpadded_encoding a bytes ≡ map (character a) values
    → bytes ≡ whole_bytes a.low_first values
bytes_from_unpadded a bytes values lawful hb hv e =
    sym (whole_bytes-groups a.low_first bytes hb)
    ∙ ap (λ (g : List ℕ). whole_bytes a.low_first g) (groups_from_unpadded a bytes values lawful hb hv e)

-- the values of characters
value_below : (a : Alphabet) (c : ℕ) → is_alphabet a ≡ true → value_of a c ≢ None → value_at a.characters c < 64
value_below a c lawful some = elim (cases_lt (value_at a.characters c) (length a.characters)) [
  | inl lt ↦ let parts = IsAlphabet-parts a lawful in omega arith
  | inr ge ↦ absurd (some (rw (le-ltb (value_at a.characters c) (length a.characters) ge) refl))
]

pub values_of : (a : Alphabet) (cs : List ℕ) → is_alphabet a ≡ true → AreCharacters a cs
    → (values : List ℕ) × EachBelow 64 values × (cs ≡ map (character a) values)
values_of a [] lawful all = ([], λ i. omega arith, refl)
values_of a (c ∷ cs) lawful all =
    let rest = values_of a cs lawful (λ i lt. all (suc i) (omega arith)) in
    let below : value_at a.characters c < 64 = value_below a c lawful (all 0 (omega arith)) in
    let parts = IsAlphabet-parts a lawful in
    let same : slice_index a.characters (value_at a.characters c) ≡ c = value_found a.characters c (omega arith) in
    (value_at a.characters c ∷ rest.0, elim [ zero ↦ below | suc i ↦ rest.1 i ], rw (same, ← rest.2) refl)

-- ---- the end of a text that is read without a look at the bits left over

pub lenient_end : (a : Alphabet) (src old dst last tail : List ℕ) (i j fault k n : ℕ) → is_alphabet a ≡ true → j ≡ i
    → i ≡ length src / 4 → length src % 4 ≢ 1 → n ≡ 3 * i + length last → k ≡ length last → 3 * i ≤ length dst
    → EachBelow 256 (put_mid (3 * i) k dst last) → EachBelow 64 tail → drop (4 * i) src ≡ map (character a) tail
    → last ≡ whole_bytes a.low_first tail
    → Progress a src old dst j fault → fault ≡ 0
    → (values : List ℕ) × Reads a src values (take n (put_mid (3 * i) k dst last))
lenient_end a src old dst last tail i j fault k n lawful ej ei odd en ek room below ht etail elast p none =
    let l : Bool = a.low_first in
    let front = front_written dst last (3 * i) k n en room below in
    let g : List ℕ = groups l (take (3 * i) dst) in
    let gb : EachBelow 64 g = groups-below l (take (3 * i) dst) front.1 in
    let lt : length (take (3 * i) dst) ≡ 3 * i = length-take-le (3 * i) dst room in
    let lg : length g ≡ 4 * i = omega (arith, length-groups l (take (3 * i) dst) front.1) in
    let read : unpadded_encoding a (take (3 * i) dst) ≡ take (4 * i) src = rw (← ej) (p.read none) in
    let whole : src ≡ map (character a) (g ++ tail) =
    sym (take-append-drop (4 * i) src) ∙ rw (← read, etail, map-append) refl in
    let len : length src ≡ length (g ++ tail) = ap length whole ∙ length-map (g ++ tail) (character a) in
    let bytes : take (3 * i) dst ++ last ≡ whole_bytes l (g ++ tail) =
    rw (whole_bytes-append l g tail gb (omega arith), whole_bytes-groups l (take (3 * i) dst) front.1, elast)
    refl in
    (g ++ tail, (below-append g tail gb ht, (λ e. odd (omega arith)), whole, front.0 ∙ bytes))
  where
    below-append : (xs ys : List ℕ) → EachBelow 64 xs → EachBelow 64 ys → EachBelow 64 (xs ++ ys)
    below-append [] ys hx hy = hy
    below-append (x ∷ xs) ys hx hy = elim [ zero ↦ hx 0 | suc i ↦ below-append xs ys (λ j. hx (suc j)) hy i ]

-- ---- a short block

are_front : (a : Alphabet) (xs ys : List ℕ) → AreCharacters a (xs ++ ys) → AreCharacters a xs
are_front a xs ys all i lt =
    subst (λ (c : ℕ). value_of a c ≢ None) (get_or_append_left xs ys 0 i lt)
    (all i (omega (arith, length-append xs ys)))

pub are_filled : (a : Alphabet) (xs : List ℕ) (z : ℕ) → value_of a z ≢ None → AreCharacters a xs
    → AreCharacters a (xs ++ z ∷ [])
are_filled a [] z some all zero lt = some
are_filled a [] z some all (suc i) lt = absurd (omega arith)
are_filled a (x ∷ xs) z some all zero lt = all 0 (omega arith)
are_filled a (x ∷ xs) z some all (suc i) lt = are_filled a xs z some (λ j l. all (suc j) (omega arith)) i (omega arith)

pub zero_is : (a : Alphabet) (z : ℕ) → is_alphabet a ≡ true → z ≡ character a 0 → value_of a z ≢ None
zero_is a z lawful e = rw e
    (are_characters-map a (0 ∷ []) lawful (elim [ zero ↦ omega arith | suc i ↦ omega arith ]) 0 (omega arith))

pub two_leniently : (a : Alphabet) (c d z : ℕ) (bytes : List ℕ) → is_alphabet a ≡ true → EachBelow 256 bytes
    → z ≡ character a 0
    → AreCharacters a (c ∷ d ∷ z ∷ z ∷ []) → unpadded_encoding a bytes ≡ c ∷ d ∷ z ∷ z ∷ []
    → (values : List ℕ) × Reads a (c ∷ d ∷ []) values (take 1 bytes)
two_leniently a c d z bytes lawful hb ez all e =
    go (values_of a (c ∷ d ∷ []) lawful (are_front a (c ∷ d ∷ []) (z ∷ z ∷ []) all))
  where
    below-fill : (v w : ℕ) → EachBelow 64 (v ∷ w ∷ []) → EachBelow 64 (v ∷ w ∷ 0 ∷ 0 ∷ [])
    below-fill v w h = elim [
      | zero ↦ h 0
      | suc zero ↦ h 1
      | suc (suc zero) ↦ omega arith
      | suc (suc (suc zero)) ↦
          omega arith
      | suc (suc (suc (suc i))) ↦ omega arith
    ]

    go : (values : List ℕ) × EachBelow 64 values × (c ∷ d ∷ [] ≡ map (character a) values)
        → (values : List ℕ) × Reads a (c ∷ d ∷ []) values (take 1 bytes)
    go ([], h, m) = let n = ap length m in absurd (omega arith)
    go (v ∷ [], h, m) = let n = ap length m in absurd (omega arith)
    go (v ∷ w ∷ [], h, m) =
        let full : unpadded_encoding a bytes ≡ map (character a) (v ∷ w ∷ 0 ∷ 0 ∷ []) =
        e ∙ ap (λ (t : List ℕ). t ++ z ∷ z ∷ []) m ∙ rw ez refl in
        let whole : bytes ≡ whole_bytes a.low_first (v ∷ w ∷ 0 ∷ 0 ∷ []) =
        bytes_from_unpadded a bytes (v ∷ w ∷ 0 ∷ 0 ∷ []) lawful hb (below-fill v w h) full in (
          v ∷ w ∷ [],
          (
            h,
            (λ odd. omega arith),
            m,
            ap (λ (t : List ℕ). take 1 t) whole
                ∙ sym (whole_bytes-fill_two a.low_first v w (h 0) (h 1)),
          ),
        )
    go (v ∷ w ∷ x ∷ vs, h, m) = let n = ap length m in absurd (omega arith)

pub three_leniently : (a : Alphabet) (c d f z : ℕ) (bytes : List ℕ) → is_alphabet a ≡ true → EachBelow 256 bytes
    → z ≡ character a 0
    → AreCharacters a (c ∷ d ∷ f ∷ z ∷ []) → unpadded_encoding a bytes ≡ c ∷ d ∷ f ∷ z ∷ []
    → (values : List ℕ) × Reads a (c ∷ d ∷ f ∷ []) values (take 2 bytes)
three_leniently a c d f z bytes lawful hb ez all e =
    go (values_of a (c ∷ d ∷ f ∷ []) lawful (are_front a (c ∷ d ∷ f ∷ []) (z ∷ []) all))
  where
    below-fill : (v w x : ℕ) → EachBelow 64 (v ∷ w ∷ x ∷ []) → EachBelow 64 (v ∷ w ∷ x ∷ 0 ∷ [])
    below-fill v w x h = elim [
      | zero ↦ h 0
      | suc zero ↦ h 1
      | suc (suc zero) ↦ h 2
      | suc (suc (suc zero)) ↦ omega arith
      | suc (suc (suc (suc i))) ↦ omega arith
    ]

    go : (values : List ℕ) × EachBelow 64 values × (c ∷ d ∷ f ∷ [] ≡ map (character a) values)
        → (values : List ℕ) × Reads a (c ∷ d ∷ f ∷ []) values (take 2 bytes)
    go ([], h, m) = let n = ap length m in absurd (omega arith)
    go (v ∷ [], h, m) = let n = ap length m in absurd (omega arith)
    go (v ∷ w ∷ [], h, m) = let n = ap length m in absurd (omega arith)
    go (v ∷ w ∷ x ∷ [], h, m) =
        let full : unpadded_encoding a bytes ≡ map (character a) (v ∷ w ∷ x ∷ 0 ∷ []) =
        e ∙ ap (λ (t : List ℕ). t ++ z ∷ []) m ∙ rw ez refl in
        let whole : bytes ≡ whole_bytes a.low_first (v ∷ w ∷ x ∷ 0 ∷ []) =
        bytes_from_unpadded a bytes (v ∷ w ∷ x ∷ 0 ∷ []) lawful hb (below-fill v w x h) full in (
          v ∷ w ∷ x ∷ [],
          (
            h,
            (λ odd. omega arith),
            m,
            ap (λ (t : List ℕ). take 2 t) whole
                ∙ sym (whole_bytes-fill_three a.low_first v w x (h 0) (h 1) (h 2)),
          ),
        )
    go (v ∷ w ∷ x ∷ y ∷ vs, h, m) = let n = ap length m in absurd (omega arith)

pub none_leniently : (a : Alphabet) (rest bytes : List ℕ) → length rest ≡ 0
    → (values : List ℕ) × Reads a rest values (take (byte_count (length rest)) bytes)
none_leniently a [] bytes len =
    ([], ((λ i. omega arith), (λ odd. omega arith), refl, sym (whole_bytes-nil a.low_first)))
none_leniently a (c ∷ rest) bytes len = absurd (omega arith)

pub two_filled : (a : Alphabet) (rest : List ℕ) (z : ℕ) → is_alphabet a ≡ true → z ≡ character a 0 → length rest ≡ 2
    → AreCharacters a rest → AreCharacters a (slice_index rest 0 ∷ slice_index rest 1 ∷ z ∷ z ∷ [])
two_filled a [] z lawful ez len all = absurd (omega arith)
two_filled a (c ∷ []) z lawful ez len all = absurd (omega arith)
two_filled a (c ∷ d ∷ []) z lawful ez len all =
    are_filled a (c ∷ d ∷ z ∷ []) z (zero_is a z lawful ez) (are_filled a (c ∷ d ∷ []) z (zero_is a z lawful ez) all)
two_filled a (c ∷ d ∷ e ∷ rest) z lawful ez len all = absurd (omega arith)

pub three_filled : (a : Alphabet) (rest : List ℕ) (z : ℕ) → is_alphabet a ≡ true → z ≡ character a 0 → length rest ≡ 3
    → AreCharacters a rest → AreCharacters a (slice_index rest 0 ∷ slice_index rest 1 ∷ slice_index rest 2 ∷ z ∷ [])
three_filled a [] z lawful ez len all = absurd (omega arith)
three_filled a (c ∷ []) z lawful ez len all = absurd (omega arith)
three_filled a (c ∷ d ∷ []) z lawful ez len all = absurd (omega arith)
three_filled a (c ∷ d ∷ e ∷ []) z lawful ez len all = are_filled a (c ∷ d ∷ e ∷ []) z (zero_is a z lawful ez) all
three_filled a (c ∷ d ∷ e ∷ f ∷ rest) z lawful ez len all = absurd (omega arith)

pub two_rest : (a : Alphabet) (rest : List ℕ) (z : ℕ) (bytes : List ℕ) → is_alphabet a ≡ true → EachBelow 256 bytes
    → z ≡ character a 0 → length rest ≡ 2
    → AreCharacters a (slice_index rest 0 ∷ slice_index rest 1 ∷ z ∷ z ∷ [])
    → unpadded_encoding a bytes ≡ slice_index rest 0 ∷ slice_index rest 1 ∷ z ∷ z ∷ []
    → (values : List ℕ) × Reads a rest values (take (byte_count (length rest)) bytes)
two_rest a [] z bytes lawful hb ez len all e = absurd (omega arith)
two_rest a (c ∷ []) z bytes lawful hb ez len all e = absurd (omega arith)
two_rest a (c ∷ d ∷ []) z bytes lawful hb ez len all e = two_leniently a c d z bytes lawful hb ez all e
two_rest a (c ∷ d ∷ f ∷ rest) z bytes lawful hb ez len all e = absurd (omega arith)

pub three_rest : (a : Alphabet) (rest : List ℕ) (z : ℕ) (bytes : List ℕ) → is_alphabet a ≡ true → EachBelow 256 bytes
    → z ≡ character a 0 → length rest ≡ 3
    → AreCharacters a (slice_index rest 0 ∷ slice_index rest 1 ∷ slice_index rest 2 ∷ z ∷ [])
    → unpadded_encoding a bytes ≡ slice_index rest 0 ∷ slice_index rest 1 ∷ slice_index rest 2 ∷ z ∷ []
    → (values : List ℕ) × Reads a rest values (take (byte_count (length rest)) bytes)
three_rest a [] z bytes lawful hb ez len all e = absurd (omega arith)
three_rest a (c ∷ []) z bytes lawful hb ez len all e = absurd (omega arith)
three_rest a (c ∷ d ∷ []) z bytes lawful hb ez len all e = absurd (omega arith)
three_rest a (c ∷ d ∷ f ∷ []) z bytes lawful hb ez len all e = three_leniently a c d f z bytes lawful hb ez all e
three_rest a (c ∷ d ∷ f ∷ x ∷ rest) z bytes lawful hb ez len all e = absurd (omega arith)

-- ---- in one buffer

unread : (old buf : List ℕ) (n j count : ℕ) → drop n buf ≡ drop n old → n ≤ j → j < count
    → slice_index buf j ≡ slice_index (take count old) j
unread old buf n j count e low lt =
    let at : n + (j - n) ≡ j = omega arith in
    let here : slice_index buf j ≡ slice_index old j =
    ap (λ (m : ℕ). slice_index buf m) (sym at) ∙ sym (get_or-drop n buf (j - n) 0)
    ∙ ap (λ (l : List ℕ). slice_index l (j - n)) e ∙ get_or-drop n old (j - n) 0
    ∙ ap (λ (m : ℕ). slice_index old m) at in
    here ∙ sym (get_or-take count old j 0 lt)

pub progress_in_place : (a : Alphabet) (old buf bytes : List ℕ) (i fault wrong k count : ℕ) → 4 * i + 4 ≤ count
    → count ≤ length old → length buf ≡ length old → k ≡ 3 → length bytes ≡ 3
    → EachBelow 256 (put_mid (3 * i) k buf bytes)
    → (wrong ≡ 0) ↔ AreCharacters a
    (slice_index buf (4 * i) ∷ slice_index buf (4 * i + 1) ∷ slice_index buf (4 * i + 2)
    ∷ slice_index buf (4 * i + 3) ∷ [])
    → (wrong ≡ 0 → unpadded_encoding a bytes ≡ slice_index buf (4 * i) ∷ slice_index buf (4 * i + 1)
    ∷ slice_index buf (4 * i + 2) ∷ slice_index buf (4 * i + 3) ∷ [])
    → Progress a (take count old) old buf i fault
    → Progress a (take count old) old (put_mid (3 * i) k buf bytes) (i + 1) (bit_or fault wrong)
progress_in_place a old buf bytes i fault wrong k count fits room same ek len below iff block p =
    let src : List ℕ = take count old in
    let ls : length src ≡ count = length-take-le count old room in
    let e0 : slice_index buf (4 * i) ≡ slice_index src (4 * i) =
    unread old buf (3 * i) (4 * i) count p.rest (omega arith) (omega arith) in
    let e1 : slice_index buf (4 * i + 1) ≡ slice_index src (4 * i + 1) =
    unread old buf (3 * i) (4 * i + 1) count p.rest (omega arith) (omega arith) in
    let e2 : slice_index buf (4 * i + 2) ≡ slice_index src (4 * i + 2) =
    unread old buf (3 * i) (4 * i + 2) count p.rest (omega arith) (omega arith) in
    let e3 : slice_index buf (4 * i + 3) ≡ slice_index src (4 * i + 3) =
    unread old buf (3 * i) (4 * i + 3) count p.rest (omega arith) (omega arith) in
    let four : slice_index buf (4 * i) ∷ slice_index buf (4 * i + 1) ∷ slice_index buf (4 * i + 2)
    ∷ slice_index buf (4 * i + 3) ∷ [] ≡ slice_index src (4 * i) ∷ slice_index src (4 * i + 1)
    ∷ slice_index src (4 * i + 2) ∷ slice_index src (4 * i + 3) ∷ [] =
    rw (e0, e1, e2, e3) refl in
    progress_more a src old buf bytes i fault wrong k (omega arith) (omega arith) ek len below
    (subst (λ (t : List ℕ). (wrong ≡ 0) ↔ AreCharacters a t) four iff) (λ none. block none ∙ four) p

pub rest_unread : (a : Alphabet) (old buf : List ℕ) (i j fault count : ℕ) → j ≡ i → 4 * i ≤ count → count ≤ length old
    → Progress a (take count old) old buf j fault
    → take (count - 4 * i) (drop (4 * i) buf) ≡ drop (4 * i) (take count old)
rest_unread a old buf i j fault count ej fits room p =
    let held : drop (3 * i) buf ≡ drop (3 * i) old = rw (← ej) p.rest in
    let at : 3 * i + i ≡ 4 * i = omega arith in
    let more : drop (4 * i) buf ≡ drop (4 * i) old =
    rw (← at, ← drop-drop i (3 * i) buf, ← drop-drop i (3 * i) old, held) refl in
    let whole : 4 * i + (count - 4 * i) ≡ count = omega arith in
    rw more (sym (drop-take (4 * i) (count - 4 * i) old) ∙ rw whole refl)

pub end_in_place : (a : Alphabet) (old buf bytes last rest : List ℕ) (i j fault wrong k n count : ℕ)
    → is_alphabet a ≡ true → j ≡ i → i ≡ count / 4 → count ≤ length old → length buf ≡ length old
    → n ≡ byte_count count → k ≡ count % 4 * 3 / 4 → length bytes ≡ 3 → last ≡ take k bytes
    → rest ≡ drop (4 * i) (take count old) → EachBelow 256 (put_mid (3 * i) k buf last)
    → (wrong ≡ 0 → (values : List ℕ) × Reads a rest values (take (byte_count (length rest)) bytes))
    → Progress a (take count old) old buf j fault → bit_or fault wrong ≡ 0
    → (values : List ℕ) × Reads a (take count old) values (take n (put_mid (3 * i) k buf last))
end_in_place a old buf bytes last rest i j fault wrong k n count lawful ej ei room same en ek three el er below tail p
    none =
    let src : List ℕ = take count old in
    let ls : length src ≡ count = length-take-le count old room in
    let lr : length rest ≡ count - 4 * i = ap length er ∙ length-drop (4 * i) src ∙ rw ls refl in
    let found = tail (or_zero_r fault wrong none) in
    let width : byte_count (length rest) ≡ k = omega arith in
    let ll : length last ≡ k = ap length el ∙ length-take-le k bytes (omega arith) in
    let lv : length found.0 ≡ length rest = sym (ap length found.1.2 ∙ length-map found.0 (character a)) in
    let odd : length src % 4 ≢ 1 = λ e. found.1.1 (omega arith) in
    let bytes_are : last ≡ whole_bytes a.low_first found.0 = el ∙ rw (← width) found.1.3 in
    lenient_end a src old buf last found.0 i j fault k n lawful ej (omega arith) odd (omega arith) (omega arith)
    (omega arith) below found.1.0 (sym er ∙ found.1.2) bytes_are p (or_zero_l fault wrong none)

pub end_accepted : (a : Alphabet) (old buf rest : List ℕ) (i j fault wrong count : ℕ) → i ≡ count / 4
    → count ≤ length old → count % 4 ≢ 1 → rest ≡ drop (4 * i) (take count old)
    → (length rest ≢ 1 → AreCharacters a rest → wrong ≡ 0) → Progress a (take count old) old buf j fault
    → AreCharacters a (take count old) → bit_or fault wrong ≡ 0
end_accepted a old buf rest i j fault wrong count ei room odd er tail p all =
    let src : List ℕ = take count old in
    let ls : length src ≡ count = length-take-le count old room in
    let lr : length rest ≡ count - 4 * i = ap length er ∙ length-drop (4 * i) src ∙ rw ls refl in
    let back : AreCharacters a rest =
    subst (AreCharacters a) (sym er)
    (λ m lt. subst (λ (c : ℕ). value_of a c ≢ None) (sym (get_or-drop (4 * i) src m 0))
    (all (4 * i + m) (omega (arith, length-drop (4 * i) src)))) in
    rw (p.accepted all, tail (λ one. odd (omega arith)) back) refl
