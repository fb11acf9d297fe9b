-- A text has one reading: what was encoded comes back from its encoding.
use Rattle.std.proofs.Common.{◌≡◌, ◌≢◌, ℕ, zero, suc, ◌+◌, ◌-◌, ◌*◌, ◌/◌, ◌%◌, ◌==◌, ◌<◌, Bool, true, false, cond, List}
use Rattle.std.proofs.Common.{[], ◌∷◌, ◌++◌, length, map, take, drop, refl, sym, ap, ◌∙◌, arith, inl, inr}
use Rattle.std.specs.Prelude.{count_by}
use Rattle.std.proofs.lemmas.List.{append-nil, length-append, length-map, length-take, get_or-take, get_or_past}
use Rattle.std.proofs.lemmas.List.{take_at, drop_at, drop-append-le, drop-map, get_or-drop}
use Rattle.std.proofs.lemmas.List.Sums.{sum_by-append}
use Rattle.std.proofs.lemmas.Bool.{cases_lt}
use Rattle.base64ct.specs.Encoding.{Alphabet, is_alphabet, character, equals_sign, EachBelow, groups, whole_bytes}
use Rattle.base64ct.specs.Encoding.{padding, text_of, encoding, padding_len}
use Rattle.base64ct.specs.Tables.{stem}
use Rattle.base64ct.proofs.Sextets.{four, groups-three, groups-two, groups-one, groups-nil, whole_bytes-groups}
use Rattle.base64ct.proofs.Values.{value_at, map-value-character, no_equals_counted}

-- ---- the values of bytes

pub below-drop : (n k : ℕ) (xs : List ℕ) → EachBelow n xs → EachBelow n (drop k xs)
below-drop n k xs below i = rw (get_or-drop k xs i 0) (below (k + i))

pub length-groups : (low_first : Bool) (bytes : List ℕ) → EachBelow 256 bytes
    → length (groups low_first bytes) ≡ (4 * length bytes + 2) / 3
length-groups low_first [] h = rw (groups-nil) refl
length-groups low_first (a ∷ []) h = rw (groups-one low_first a (h 0)) (lengths low_first)
  where
    lengths : (l : Bool) → length (take 2 (four l a 0 0)) ≡ 2
    lengths true = refl
    lengths false = refl
length-groups low_first (a ∷ b ∷ []) h = rw (groups-two low_first a b (h 0) (h 1)) (lengths low_first)
  where
    lengths : (l : Bool) → length (take 3 (four l a b 0)) ≡ 3
    lengths true = refl
    lengths false = refl
length-groups low_first (a ∷ b ∷ c ∷ rest) h =
    rw (groups-three low_first a b c rest (h 0) (h 1) (h 2))
    (lengths low_first (length-groups low_first rest (λ i. h (suc (suc (suc i))))))
  where
    lengths : (l : Bool) → length (groups l rest) ≡ (4 * length rest + 2) / 3
        → length (four l a b c ++ groups l rest) ≡ (4 * length (a ∷ b ∷ c ∷ rest) + 2) / 3
    lengths true e = omega arith
    lengths false e = omega arith

four-below : (low_first : Bool) (a b c : ℕ) (rest : List ℕ) → a < 256 → b < 256 → c < 256 → EachBelow 64 rest
    → EachBelow 64 (four low_first a b c ++ rest)
four-below true a b c rest la lb lc h zero = omega arith
four-below true a b c rest la lb lc h (suc zero) = omega arith
four-below true a b c rest la lb lc h (suc (suc zero)) = omega arith
four-below true a b c rest la lb lc h (suc (suc (suc zero))) = omega arith
four-below true a b c rest la lb lc h (suc (suc (suc (suc i)))) = h i
four-below false a b c rest la lb lc h zero = omega arith
four-below false a b c rest la lb lc h (suc zero) = omega arith
four-below false a b c rest la lb lc h (suc (suc zero)) = omega arith
four-below false a b c rest la lb lc h (suc (suc (suc zero))) = omega arith
four-below false a b c rest la lb lc h (suc (suc (suc (suc i)))) = h i

pub below-one : (a : ℕ) → a < 256 → EachBelow 256 (a ∷ [])
below-one a la zero = la
below-one a la (suc i) = omega arith

pub below-two : (a b : ℕ) → a < 256 → b < 256 → EachBelow 256 (a ∷ b ∷ [])
below-two a b la lb zero = la
below-two a b la lb (suc zero) = lb
below-two a b la lb (suc (suc i)) = omega arith

pub below-three : (a b c : ℕ) → a < 256 → b < 256 → c < 256 → EachBelow 256 (a ∷ b ∷ c ∷ [])
below-three a b c la lb lc zero = la
below-three a b c la lb lc (suc zero) = lb
below-three a b c la lb lc (suc (suc zero)) = lc
below-three a b c la lb lc (suc (suc (suc i))) = omega arith

below-nil : (n : ℕ) → 0 < n → EachBelow n []
below-nil n pos i = pos

pub below-take : (n k : ℕ) (xs : List ℕ) → 0 < n → EachBelow n xs → EachBelow n (take k xs)
below-take n k xs pos below i = elim (cases_lt i k) [
  | inl lt ↦ rw (get_or-take k xs i 0 lt) (below i)
  | inr ge ↦ rw (get_or_past (take k xs) i 0 (omega (arith, length-take k xs))) pos
]

pub groups-below : (low_first : Bool) (bytes : List ℕ) → EachBelow 256 bytes → EachBelow 64 (groups low_first bytes)
groups-below low_first [] h = rw (groups-nil) (below-nil 64 (omega arith))
groups-below low_first (a ∷ []) h =
    rw (groups-one low_first a (h 0), ← append-nil (four low_first a 0 0))
    (below-take 64 2 (four low_first a 0 0 ++ []) (omega arith)
    (four-below low_first a 0 0 [] (h 0) (omega arith) (omega arith) (below-nil 64 (omega arith))))
groups-below low_first (a ∷ b ∷ []) h =
    rw (groups-two low_first a b (h 0) (h 1), ← append-nil (four low_first a b 0))
    (below-take 64 3 (four low_first a b 0 ++ []) (omega arith)
    (four-below low_first a b 0 [] (h 0) (h 1) (omega arith) (below-nil 64 (omega arith))))
groups-below low_first (a ∷ b ∷ c ∷ rest) h =
    rw (groups-three low_first a b c rest (h 0) (h 1) (h 2))
    (four-below low_first a b c (groups low_first rest) (h 0) (h 1) (h 2)
    (groups-below low_first rest (λ i. h (suc (suc (suc i))))))

-- ---- the padding

count-append : (xs ys : List ℕ)
    → count_by (λ c. c == equals_sign) (xs ++ ys)
    ≡ count_by (λ c. c == equals_sign) xs + count_by (λ c. c == equals_sign) ys
count-append xs ys = sum_by-append (λ c. cond (c == equals_sign) 1 0) xs ys

-- the padding of a text of values are what `padding_len` counts
pub padding_len-text : (a : Alphabet) (values : List ℕ) → is_alphabet a ≡ true → EachBelow 64 values
    → length values % 4 ≢ 1 → padding_len a (text_of a values) ≡ length (padding a.padded (length values))
padding_len-text a values h below odd = by_padding a.padded refl
  where
    body : List ℕ
    body = map (character a) values

    last : (k : ℕ) → count_by (λ c. c == equals_sign) (drop k (map (character a) values)) ≡ 0
    last k = rw (drop-map (character a) k values) (no_equals_counted a (drop k values) h (below-drop 64 k values below))

    by_rest : (r : ℕ) → length values % 4 ≡ r
        → count_by (λ c. c == equals_sign)
        (drop (length (map (character a) values ++ padding true (length values)) - 2)
        (map (character a) values ++ padding true (length values))) ≡ length (padding true (length values))
    by_rest zero e = rw (e, append-nil) (last _)
    by_rest (suc zero) e = absurd (odd e)
    by_rest (suc (suc zero)) e =
        let cs : List ℕ = map (character a) values in
        let tail : List ℕ = equals_sign ∷ equals_sign ∷ [] in
        let at : length (cs ++ tail) - 2 ≡ length cs = omega (arith, length-append cs tail) in
        rw (e, at, drop_at cs tail (length cs) refl) refl
    by_rest (suc (suc (suc zero))) e =
        let cs : List ℕ = map (character a) values in
        let tail : List ℕ = equals_sign ∷ [] in
        let len : length cs ≡ length values = length-map values (character a) in
        let at : length (cs ++ tail) - 2 ≡ length cs - 1 = omega (arith, length-append cs tail) in
        rw (e, at, drop-append-le (length cs - 1) cs tail (omega arith), count-append, last (length cs - 1)) refl
    by_rest (suc (suc (suc (suc r)))) e = absurd (omega arith)

    by_padding : (p : Bool) → a.padded ≡ p
        → padding_len a (text_of a values) ≡ length (padding a.padded (length values))
    by_padding true e = rw e (by_rest (length values % 4) refl)
    by_padding false e = rw e refl

pub stem-text : (a : Alphabet) (values : List ℕ) → is_alphabet a ≡ true → EachBelow 64 values → length values % 4 ≢ 1
    → stem a (text_of a values) ≡ map (character a) values
stem-text a values h below odd =
    let body : List ℕ = map (character a) values in
    let tail : List ℕ = padding a.padded (length values) in
    let at : length (body ++ tail) - length tail ≡ length body = omega (arith, length-append body tail) in
    rw (padding_len-text a values h below odd, at) (take_at body tail (length body) refl)

-- ---- one reading

-- the values of the characters of a text
abbrev pub values_in : Alphabet → List ℕ → List ℕ
values_in a t = map (value_at a.characters) (stem a t)

pub values_in-encoding : (a : Alphabet) (bytes : List ℕ) → is_alphabet a ≡ true → EachBelow 256 bytes
    → values_in a (encoding a bytes) ≡ groups a.low_first bytes
unfolding encoding
values_in-encoding a bytes h below =
    let values : List ℕ = groups a.low_first bytes in
    let small = groups-below a.low_first bytes below in
    let odd : length values % 4 ≢ 1 = omega (arith, length-groups a.low_first bytes below) in
    rw (stem-text a values h small odd) (map-value-character a values h small)

-- what was encoded comes back
pub decoded-encoding : (a : Alphabet) (bytes : List ℕ) → is_alphabet a ≡ true → EachBelow 256 bytes
    → whole_bytes a.low_first (values_in a (encoding a bytes)) ≡ bytes
decoded-encoding a bytes h below = rw (values_in-encoding a bytes h below) (whole_bytes-groups a.low_first bytes below)

-- two lists of bytes with one encoding are equal
pub encoding_once : (a : Alphabet) (b c : List ℕ) → is_alphabet a ≡ true → EachBelow 256 b → EachBelow 256 c
    → encoding a b ≡ encoding a c → b ≡ c
encoding_once a b c h bb bc e =
    sym (decoded-encoding a b h bb) ∙ ap (λ (t : List ℕ). whole_bytes a.low_first (values_in a t)) e
    ∙ decoded-encoding a c h bc
