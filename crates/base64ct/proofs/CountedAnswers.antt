-- What decoding by a table and a test answers, over plain lists.
use Rattle.std.proofs.Common.{◌≡◌, ◌≢◌, ℕ, ◌-◌, ◌*◌, ◌/◌, ◌%◌, ◌==◌, ◌<◌, ◌≤◌, Bool, true, false, cond, not, ◌&&◌, ◌+◌}
use Rattle.std.proofs.Common.{◌||◌, List, [], ◌∷◌, length, map, take, drop, refl, sym, ap, ◌∙◌, subst, arith, inl, inr}
use Rattle.std.specs.Cmp.Lexicographic.{pointwise, same_text}
use Rattle.std.specs.Prelude.{nat_lt}
use Rattle.std.proofs.lemmas.Bool.{cases_eq, ne_eqb, eq-eqb, eqb-true, false≢true, and_parts, le-ltb}
use Rattle.std.proofs.lemmas.List.{length-map, length-take-le, length-drop, take_at, nil_from_length}
use Rattle.std.proofs.lemmas.List.Sums.{count_by-le-length}
use Rattle.base64ct.specs.Encoding.{Alphabet, is_alphabet, character, unpadded_encoding, encoding, byte_count}
use Rattle.base64ct.specs.Encoding.{padding_len, equals_sign, decoded_len, EachBelow, AreCharacters, IsMisaligned}
use Rattle.base64ct.specs.Encoding.{Reads, IsLenient}
use Rattle.base64ct.specs.Tables.{shaped, stem, filled, last_four, compared, reencoded, Passes}
use Rattle.base64ct.specs.Answers.{IsNoEncoding}
use Rattle.base64ct.specs.declared.tables.Shape.{Shape}
use Rattle.base64ct.specs.Counts.{is_refused, comparison_count, spell_count}
use Rattle.base64ct.proofs.Values.{value_at, map-value-character}
use Rattle.base64ct.proofs.Encodings.{stem-text, below-drop, below-take}
use Rattle.base64ct.proofs.Unpadded.{length-unpadded, unpadded-nil}
use Rattle.base64ct.proofs.Padding.{stem-encoding, length-encoding_padded, aligned_from, lenient_found, lenient_refused}
use Rattle.base64ct.proofs.Compared.{encoding_from_lenient, lenient_from_encoding}

-- ---- refusals and counts

padding_len_small : (a : Alphabet) (t : List ℕ) → padding_len a t ≤ 2
padding_len_small a t = go a.padded refl
  where
    go : (p : Bool) → a.padded ≡ p → padding_len a t ≤ 2
    go false e = rw e (omega arith)
    go true e =
        let bound = count_by-le-length (λ c. c == equals_sign) (drop (length t - 2) t) in
        rw e (omega (arith, length-drop (length t - 2) t))

padding_len_none : (a : Alphabet) (t : List ℕ) → a.padded ≡ false → padding_len a t ≡ 0
padding_len_none a t e = rw e refl

empty_text : (a : Alphabet) (t : List ℕ) → (IsMisaligned a t → ⊥) → length t - padding_len a t ≡ 0 → length t ≡ 0
empty_text a t ok none = go a.padded refl
  where
    go : (p : Bool) → a.padded ≡ p → length t ≡ 0
    go false e = omega (arith, padding_len_none a t e)
    go true e = omega (arith, padding_len_small a t, aligned_from a t ok e)

refused_of : (p : Bool) (n d room : ℕ) → (p ≡ true → n % 4 ≡ 0) → d ≤ room
    → ((p && not (n % 4 == 0)) || nat_lt room d) ≡ false
refused_of false n d room ok fits = le-ltb room d fits
refused_of true n d room ok fits = rw (ok refl) (le-ltb room d fits)

not_refused : (a : Alphabet) (t : List ℕ) (room : ℕ) → (IsMisaligned a t → ⊥) → decoded_len a t ≤ room
    → is_refused a t room ≡ false
not_refused a t room ok fits = refused_of a.padded (length t) (decoded_len a t) room (aligned_from a t ok) fits

abbrev four_unless : Bool → ℕ
four_unless b = cond b 0 4

pub comparisons : (a : Alphabet) (t : List ℕ) (count n room : ℕ) → count ≡ padding_len a t
    → n ≡ byte_count (length (take (length t - count) t)) → n ≤ room → (IsMisaligned a t → ⊥)
    → comparison_count a t room ≡ four_unless (length (take (length t - count) t) == 0)
comparisons a t count n room e en within ok =
    let s : List ℕ = take (length t - count) t in
    let len : length s ≡ length t - padding_len a t =
    length-take-le (length t - count) t (omega arith) ∙ rw e refl in
    let fits : decoded_len a t ≤ room = subst (λ (m : ℕ). m ≤ room) (en ∙ ap byte_count len) within in
    let same : (length t == 0) ≡ (length s == 0) = elim (cases_eq (length s) 0) [
      | inl none ↦ eq-eqb (length t) 0 (empty_text a t ok (omega arith)) ∙ sym (eq-eqb (length s) 0 none)
      | inr some ↦ ne_eqb (length t) 0 (λ none. some (omega arith)) ∙ sym (ne_eqb (length s) 0 some)
    ] in
    rw (not_refused a t room ok fits, same) refl

pub asked_characters : (a : Alphabet) (t : List ℕ) (count n room : ℕ) → count ≡ padding_len a t
    → n ≡ byte_count (length (take (length t - count) t)) → n ≤ room → (IsMisaligned a t → ⊥)
    → spell_count a t room ≡ 1 + four_unless (length (take (length t - count) t) == 0)
asked_characters a t count n room e en within ok =
    let s : List ℕ = take (length t - count) t in
    let len : length s ≡ length t - padding_len a t =
    length-take-le (length t - count) t (omega arith) ∙ rw e refl in
    let fits : decoded_len a t ≤ room = subst (λ (m : ℕ). m ≤ room) (en ∙ ap byte_count len) within in
    let known = not_refused a t room ok fits in
    rw known (ap (λ (m : ℕ). 1 + m) (rw known at (comparisons a t count n room e en within ok)))

-- ---- the answer

pub lenient_once : (a : Alphabet) (t b c : List ℕ) → is_alphabet a ≡ true → IsLenient a t b → IsLenient a t c → b ≡ c
lenient_once a t b c lawful (vs, hv, oddv, isv, eb) (ws, hw, oddw, isw, ec) =
    let sv : stem a t ≡ map (character a) vs = ap (λ (x : List ℕ). stem a x) isv ∙ stem-text a vs lawful hv oddv in
    let sw : stem a t ≡ map (character a) ws = ap (λ (x : List ℕ). stem a x) isw ∙ stem-text a ws lawful hw oddw in
    let same : vs ≡ ws = sym (map-value-character a vs lawful hv)
    ∙ ap (λ (x : List ℕ). map (value_at a.characters) x) (sym sv ∙ sw) ∙ map-value-character a ws lawful hw in
    eb ∙ rw same (sym ec)

stem_short : (a : Alphabet) (t : List ℕ) → length (stem a t) ≡ length t - padding_len a t
stem_short a t = length-take-le (length t - padding_len a t) t (omega arith)

-- the compared block begins behind whole fours
compared-at : (a : Alphabet) (t : List ℕ) (u : ℕ) → u ≡ length t - padding_len a t → u ≢ 0
    → compared a t ≡ filled a (drop (4 * ((u - 1) / 4)) (stem a t))
compared-at a t u e some =
    let ls = stem_short a t in
    let at : length (stem a t) - last_four (length (stem a t)) ≡ 4 * ((u - 1) / 4) = omega (arith, ls, e) in
    ap (λ (n : ℕ). filled a (drop n (stem a t))) at

reencoded-at : (a : Alphabet) (t b : List ℕ) (u : ℕ) → u ≡ length t - padding_len a t → u ≢ 0 → length b ≡ byte_count u
    → reencoded a t b ≡ filled a (unpadded_encoding a (drop (3 * ((u - 1) / 4)) b))
reencoded-at a t b u e some len =
    let ls = stem_short a t in
    let at : length b - 3 * last_four (length (stem a t)) / 4 ≡ 3 * ((u - 1) / 4) = omega (arith, ls, e, len) in
    ap (λ (n : ℕ). filled a (unpadded_encoding a (drop n b))) at

-- the comparison of the characters of s from a whole four on with those of its bytes
abbrev pub Compares : (ℕ → ℕ → Bool) → Alphabet → List ℕ → List ℕ → Bool → Type 0
Compares r a s bytes passed = length s ≢ 0 → length s % 4 ≢ 1
    → passed ≡ pointwise r (filled a (drop (4 * ((length s - 1) / 4)) s))
    (filled a (unpadded_encoding a (drop (3 * ((length s - 1) / 4)) bytes)))

-- it tells of the compared block
compared_is : (r : ℕ → ℕ → Bool) (a : Alphabet) (t dst s : List ℕ) (count n : ℕ) (passed : Bool)
    → count ≡ padding_len a t → s ≡ take (length t - count) t → (IsMisaligned a t → ⊥)
    → n ≡ byte_count (length s) → n ≤ length dst → (values : List ℕ) × Reads a s values (take n dst)
    → Compares r a s (take n dst) passed
    → length t ≢ 0 → passed ≡ pointwise r (compared a t) (reencoded a t (take n dst))
compared_is r a t dst s count n passed e es ok en room (values, reads) tell some =
    let len : length s ≡ length t - padding_len a t =
    ap length es ∙ length-take-le (length t - count) t (omega arith) ∙ rw e refl in
    let ne : length s ≢ 0 = λ none. some (empty_text a t ok (omega arith)) in
    let lv : length s ≡ length values = ap length reads.2 ∙ length-map values (character a) in
    let odd : length s % 4 ≢ 1 = λ one. reads.1 (omega arith) in
    let held : s ≡ stem a t = es ∙ rw e refl in
    let blocks : filled a (drop (4 * ((length s - 1) / 4)) s) ≡ compared a t =
    ap (λ (x : List ℕ). filled a (drop (4 * ((length s - 1) / 4)) x)) held
    ∙ sym (compared-at a t (length s) len ne) in
    let own : filled a (unpadded_encoding a (drop (3 * ((length s - 1) / 4)) (take n dst)))
    ≡ reencoded a t (take n dst) =
    sym (reencoded-at a t (take n dst) (length s) len ne (length-take-le n dst room ∙ en)) in
    tell ne odd ∙ rw (blocks, own) refl

found : (r : ℕ → ℕ → Bool) (a : Alphabet) (t dst s : List ℕ) (count n : ℕ) (passed : Bool) → is_alphabet a ≡ true
    → count ≡ padding_len a t → s ≡ take (length t - count) t → (IsMisaligned a t → ⊥)
    → n ≡ byte_count (length s) → n ≤ length dst → (values : List ℕ) × Reads a s values (take n dst)
    → Compares r a s (take n dst) passed → passed ≡ true
    → (n ≡ decoded_len a t) × IsLenient a t (take n dst) × Passes r a t (take n dst)
unfolding Passes
found r a t dst s count n passed lawful e es ok en room reads tell yes_passed =
    let len : length s ≡ length t - padding_len a t =
    ap length es ∙ length-take-le (length t - count) t (omega arith) ∙ rw e refl in (
      en ∙ rw len refl,
      lenient_found a t dst count n lawful e ok
          (subst (λ (x : List ℕ). (values : List ℕ) × Reads a x values (take n dst)) es reads),
      λ some. sym (compared_is r a t dst s count n passed e es ok en room reads tell some) ∙ yes_passed,
    )

refused : (r : ℕ → ℕ → Bool) (a : Alphabet) (t dst s : List ℕ) (count n : ℕ) (read passed : Bool)
    → is_alphabet a ≡ true → count ≡ padding_len a t → s ≡ take (length t - count) t → (IsMisaligned a t → ⊥)
    → n ≡ byte_count (length s) → n ≤ length dst → (read ≡ true → (values : List ℕ) × Reads a s values (take n dst))
    → (length s % 4 ≢ 1 → AreCharacters a s → read ≡ true)
    → Compares r a s (take n dst) passed → (length s ≡ 0 → passed ≡ true) → (read && passed) ≡ false
    → (b : List ℕ) → IsLenient a t b → Passes r a t b → ⊥
unfolding Passes
refused r a t dst s count n false passed lawful e es ok en room reads accepted tell empty none b lenient pass =
    let len : length s ≡ length t - count = ap length es ∙ length-take-le (length t - count) t (omega arith) in
    lenient_refused a t count false lawful e refl
    (λ odd all. accepted (λ one. odd (omega arith)) (subst (AreCharacters a) (sym es) all)) b lenient
refused r a t dst s count n true true lawful e es ok en room reads accepted tell empty none b lenient pass =
    false≢true (sym none)
refused r a t dst s count n true false lawful e es ok en room reads accepted tell empty none b lenient pass =
    let len : length s ≡ length t - count = ap length es ∙ length-take-le (length t - count) t (omega arith) in
    let lenient2 : IsLenient a t (take n dst) =
    lenient_found a t dst count n lawful e ok
    (subst (λ (x : List ℕ). (values : List ℕ) × Reads a x values (take n dst)) es (reads refl)) in
    let same : b ≡ take n dst = lenient_once a t b (take n dst) lawful lenient lenient2 in
    elim (cases_eq (length t) 0) [
      | inl nothing ↦ false≢true (empty (omega arith))
      | inr some ↦ false≢true (compared_is r a t dst s count n false e es ok en room (reads refl) tell some
          ∙ rw (← same) (pass some))
    ]

-- ---- by a table of which a part of the calls tell, as it stood at each

table_reads : (shape : Shape) (cs read_by s dst : List ℕ) (n : ℕ) → read_by ≡ cs → n ≡ byte_count (length s)
    → (values : List ℕ) × Reads (shaped read_by shape) s values (take (byte_count (length s)) dst)
    → (values : List ℕ) × Reads (shaped cs shape) s values (take n dst)
table_reads shape cs read_by s dst n er en reads =
    subst (λ (m : ℕ). (values : List ℕ) × Reads (shaped cs shape) s values (take m dst)) (sym en)
    (subst (λ (l : List ℕ). (values : List ℕ)
    × Reads (shaped l shape) s values (take (byte_count (length s)) dst)) er reads)

pub table_found : (r : ℕ → ℕ → Bool) (shape : Shape) (cs read_by compared_by t dst : List ℕ) (count n fault : ℕ)
    (passed : Bool)
    → (let a = shaped cs shape in let s = take (length t - count) t in is_alphabet a ≡ true → read_by ≡ cs
    → compared_by ≡ read_by → count ≡ padding_len a t → (IsMisaligned a t → ⊥) → n ≡ byte_count (length s)
    → n ≤ length dst
    → (fault ≡ 0 → (values : List ℕ) × Reads (shaped read_by shape) s values (take (byte_count (length s)) dst))
    → Compares r (shaped compared_by shape) s (take n dst) passed → ((fault == 0) && passed) ≡ true
    → (n ≡ decoded_len a t) × IsLenient a t (take n dst) × Passes r a t (take n dst))
table_found r shape cs read_by compared_by t dst count n fault passed lawful er ec e ok en room reads tell both =
    let s : List ℕ = take (length t - count) t in
    let parts = and_parts _ _ both in
    found r (shaped cs shape) t dst s count n passed lawful e refl ok en room
    (table_reads shape cs read_by s dst n er en (reads (eqb-true _ _ parts.0)))
    (subst (λ (l : List ℕ). Compares r (shaped l shape) s (take n dst) passed) (ec ∙ er) tell) parts.1

pub table_refused : (r : ℕ → ℕ → Bool) (shape : Shape) (cs read_by compared_by t dst : List ℕ) (count n fault : ℕ)
    (passed : Bool)
    → (let a = shaped cs shape in let s = take (length t - count) t in is_alphabet a ≡ true → read_by ≡ cs
    → compared_by ≡ read_by → count ≡ padding_len a t → (IsMisaligned a t → ⊥) → n ≡ byte_count (length s)
    → n ≤ length dst
    → (fault ≡ 0 → (values : List ℕ) × Reads (shaped read_by shape) s values (take (byte_count (length s)) dst))
    → (length s % 4 ≢ 1 → AreCharacters (shaped read_by shape) s → fault ≡ 0)
    → Compares r (shaped compared_by shape) s (take n dst) passed → (length s ≡ 0 → passed ≡ true)
    → ((fault == 0) && passed) ≡ false → (b : List ℕ) → IsLenient a t b → Passes r a t b → ⊥)
table_refused r shape cs read_by compared_by t dst count n fault passed lawful er ec e ok en room reads accepted tell
    empty none =
    let s : List ℕ = take (length t - count) t in
    refused r (shaped cs shape) t dst s count n (fault == 0) passed lawful e refl ok en room
    (λ zero. table_reads shape cs read_by s dst n er en (reads (eqb-true _ _ zero)))
    (λ odd all. eq-eqb _ _
    (accepted odd (subst (λ (l : List ℕ). AreCharacters (shaped l shape) s) (sym er) all)))
    (subst (λ (l : List ℕ). Compares r (shaped l shape) s (take n dst) passed) (ec ∙ er) tell) empty none

-- ---- where the test is equality

pointwise-same : (r : ℕ → ℕ → Bool) (xs ys : List ℕ) → ((x y : ℕ) → r x y ≡ (x == y))
    → pointwise r xs ys ≡ pointwise (λ x y. x == y) xs ys
pointwise-same r [] [] h = refl
pointwise-same r [] (y ∷ ys) h = refl
pointwise-same r (x ∷ xs) [] h = refl
pointwise-same r (x ∷ xs) (y ∷ ys) h = rw (h x y, pointwise-same r xs ys h) refl

pointwise-refl : (xs : List ℕ) → pointwise (λ x y. x == y) xs xs ≡ true
pointwise-refl [] = refl
pointwise-refl (x ∷ xs) = rw (eq-eqb x x refl, pointwise-refl xs) refl

front_of : (a : Alphabet) (xs : List ℕ) (n : ℕ) → n ≡ length xs → take n (filled a xs) ≡ xs
front_of a xs n e = take_at xs _ n (sym e)

-- what is filled alike was alike
unfilled : (a : Alphabet) (xs ys : List ℕ) → length xs ≡ length ys → filled a xs ≡ filled a ys → xs ≡ ys
unfilled a xs ys len e =
    sym (front_of a xs (length xs) refl) ∙ ap (λ (x : List ℕ). take (length xs) x) e ∙ front_of a ys (length xs) len

encoding_found : (r : ℕ → ℕ → Bool) (a : Alphabet) (t b : List ℕ) → is_alphabet a ≡ true → EachBelow 256 b
    → (IsMisaligned a t → ⊥) → length b ≡ decoded_len a t
    → ((x y : ℕ) → r x y ≡ (x == y)) → IsLenient a t b → Passes r a t b → t ≡ encoding a b
unfolding Passes
encoding_found r a t b lawful below ok len equal lenient pass =
    let u : ℕ = length t - padding_len a t in
    let q : ℕ = (u - 1) / 4 in
    let ls = stem_short a t in
    let odd : u % 4 ≢ 1 = λ one. lenient.2 (stem_len lenient ∙ one) in
    let ld : length (drop (4 * q) (stem a t)) ≡ u - 4 * q = length-drop (4 * q) (stem a t) ∙ rw ls refl in
    let lb : length (drop (3 * q) b) ≡ decoded_len a t - 3 * q = length-drop (3 * q) b ∙ rw len refl in
    let ll = length-unpadded a (drop (3 * q) b) (below-drop 256 (3 * q) b below) in
    let last : unpadded_encoding a (drop (3 * q) b) ≡ drop (4 * q) (stem a t) = elim (cases_eq (length t) 0) [
      | inl nothing ↦
          let nb : drop (3 * q) b ≡ [] = nil_from_length (drop (3 * q) b) (omega arith) in
          let ns : drop (4 * q) (stem a t) ≡ [] = nil_from_length (drop (4 * q) (stem a t)) (omega arith) in
          rw (nb, ns) (unpadded-nil a)
      | inr some ↦
          let same : compared a t ≡ reencoded a t b =
          same_text _ _ (sym (sym (pointwise-same r (compared a t) (reencoded a t b) equal) ∙ pass some)) in
          let full : 0 < u = nonempty some in
          let alike : filled a (drop (4 * q) (stem a t)) ≡ filled a (unpadded_encoding a (drop (3 * q) b)) =
          sym (compared-at a t u refl (omega arith)) ∙ same ∙ reencoded-at a t b u refl (omega arith) len in
          sym (unfilled a (drop (4 * q) (stem a t)) (unpadded_encoding a (drop (3 * q) b)) (omega arith) alike)
    ] in
    encoding_from_lenient a t b q lawful below (omega arith) lenient last
  where
    nonempty : length t ≢ 0 → 0 < length t - padding_len a t
    nonempty some = elim (cases_eq (length t - padding_len a t) 0) [
      | inl none ↦ absurd (some (empty_text a t ok none))
      | inr more ↦ omega arith
    ]

    stem_len : (l : IsLenient a t b) → length l.0 % 4 ≡ (length t - padding_len a t) % 4
    stem_len (values, hv, odd, is, bytes) =
        let s : stem a t ≡ map (character a) values =
        ap (λ (x : List ℕ). stem a x) is ∙ stem-text a values lawful hv odd in
        let n : length values ≡ length t - padding_len a t =
        sym (length-map values (character a)) ∙ sym (ap length s) ∙ stem_short a t in
        ap (λ (m : ℕ). m % 4) n

encoded_count : (a : Alphabet) (t b : List ℕ) → is_alphabet a ≡ true → EachBelow 256 b → t ≡ encoding a b
    → length b ≡ byte_count (length t - padding_len a t)
encoded_count a t b lawful below is =
    let ls = stem_short a t in
    let lu = length-unpadded a b below in
    let same : length (stem a t) ≡ length (unpadded_encoding a b) =
    ap length (ap (λ (x : List ℕ). stem a x) is ∙ stem-encoding a b lawful below) in
    omega (arith, ls, lu, same)

aligned_text : (a : Alphabet) (t b : List ℕ) → t ≡ encoding a b → IsMisaligned a t → ⊥
aligned_text a t b is wrong = wrong.1 (ap (λ (x : List ℕ). length x % 4) is ∙ length-encoding_padded a b wrong.0)

encoding_passes : (r : ℕ → ℕ → Bool) (a : Alphabet) (t b : List ℕ) → is_alphabet a ≡ true → EachBelow 256 b
    → ((x y : ℕ) → r x y ≡ (x == y)) → t ≡ encoding a b → IsLenient a t b × Passes r a t b
unfolding Passes
encoding_passes r a t b lawful below equal is =
    let q : ℕ = (length t - padding_len a t - 1) / 4 in
    let ls = stem_short a t in
    let both = lenient_from_encoding a t b q lawful below (omega arith) is in
    let u : ℕ = length t - padding_len a t in
    let lb : length b ≡ byte_count u = encoded_count a t b lawful below is in
    let full : length t ≢ 0 → u ≢ 0 = λ some none. some (empty_text a t (aligned_text a t b is) none) in
    let alike : length t ≢ 0 → compared a t ≡ reencoded a t b = λ some.
    compared-at a t u refl (full some) ∙ ap (λ (x : List ℕ). filled a x) (sym both.1)
    ∙ sym (reencoded-at a t b u refl (full some) lb) in (
      both.0,
      λ some. pointwise-same r (compared a t) (reencoded a t b) equal
          ∙ rw (alike some) (pointwise-refl (reencoded a t b)),
    )

-- ---- what is found is the bytes, and where nothing is found there are none

pub found_encoding : (r : ℕ → ℕ → Bool) (a : Alphabet) (t dst : List ℕ) (n : ℕ) → is_alphabet a ≡ true
    → EachBelow 256 dst → n ≤ length dst → (IsMisaligned a t → ⊥) → ((x y : ℕ) → r x y ≡ (x == y))
    → (n ≡ decoded_len a t) × IsLenient a t (take n dst) × Passes r a t (take n dst) → t ≡ encoding a (take n dst)
found_encoding r a t dst n lawful below room ok equal done =
    encoding_found r a t (take n dst) lawful (below-take 256 n dst (omega arith) below) ok
    (length-take-le n dst room ∙ done.0) equal done.1 done.2

pub found_none : (r : ℕ → ℕ → Bool) (a : Alphabet) (t : List ℕ) → is_alphabet a ≡ true
    → ((x y : ℕ) → r x y ≡ (x == y)) → ((b : List ℕ) → IsLenient a t b → Passes r a t b → ⊥) → IsNoEncoding a t
found_none r a t lawful equal none = λ b below is.
    let pass = encoding_passes r a t b lawful below equal (sym is) in
    none b pass.0 pass.1
