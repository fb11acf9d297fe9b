-- A text is an encoding where its part without padding is the characters of bytes.
use Rattle.std.proofs.Common.{◌≡◌, ◌≢◌, ◌⊎◌, ℕ, zero, suc, ◌+◌, ◌-◌, ◌*◌, ◌/◌, ◌%◌, ◌==◌, ◌<◌, ◌≤◌, Bool, true, false}
use Rattle.std.proofs.Common.{cond, List, [], ◌∷◌, ◌++◌, length, map, take, drop, replicate, slice_index, refl, sym, ap}
use Rattle.std.proofs.Common.{◌∙◌, subst, arith, inl, inr}
use Rattle.std.specs.Prelude.{count_by}
use mir.Val.{bool_byte}
use Rattle.std.proofs.lemmas.Bool.{cases_Bool, cases_eq, ne_eqb, eqb-true, false≢true}
use Rattle.std.proofs.lemmas.List.{append-nil, length-append, length-map, length-replicate, length-take-le, length-drop}
use Rattle.std.proofs.lemmas.List.{take-append-drop, take_all, drop_all, get_or-take}
use Rattle.std.proofs.lemmas.List.Sums.{count_by-le-length}
use Rattle.base64ct.specs.Encoding.{Alphabet, is_alphabet, character, unpadded_encoding, encoding, padding, text_of}
use Rattle.base64ct.specs.Encoding.{padding_len, byte_count, groups, equals_sign, EachBelow, IsMisaligned, decoded_len}
use Rattle.base64ct.specs.Encoding.{Reads, IsLenient, AreCharacters}
use Rattle.base64ct.proofs.Values.{counted, none_counted, no_equals_counted}
use Rattle.base64ct.specs.Tables.{stem}
use Rattle.base64ct.proofs.Encodings.{stem-text, groups-below, length-groups, below-take}
use Rattle.base64ct.proofs.Unpadded.{length-unpadded, rest_one, rest_two, put_after, are_characters-map}
use borrow.Rule.Slice.PartMut.{put_mid}

pub encoding-is : (a : Alphabet) (b : List ℕ)
    → encoding a b ≡ unpadded_encoding a b ++ padding a.padded (length (groups a.low_first b))
unfolding encoding
encoding-is a b = refl

pub stem-encoding : (a : Alphabet) (b : List ℕ) → is_alphabet a ≡ true → EachBelow 256 b
    → stem a (encoding a b) ≡ unpadded_encoding a b
unfolding encoding
stem-encoding a b lawful below =
    stem-text a (groups a.low_first b) lawful (groups-below a.low_first b below)
    (omega (arith, length-groups a.low_first b below))

pub length-encoding_padded : (a : Alphabet) (b : List ℕ) → a.padded ≡ true → length (encoding a b) % 4 ≡ 0
unfolding encoding
length-encoding_padded a b padded =
    let n : ℕ = length (groups a.low_first b) in
    let len : length (unpadded_encoding a b) ≡ n = length-map (groups a.low_first b) (character a) in
    let s : length (replicate ((4 - n % 4) % 4) equals_sign) ≡ (4 - n % 4) % 4 =
    length-replicate ((4 - n % 4) % 4) equals_sign in
    rw padded (omega (arith, length-append (unpadded_encoding a b) (replicate ((4 - n % 4) % 4) equals_sign)))

unpadded_is_no_equals : (a : Alphabet) (vs : List ℕ) (i : ℕ) → is_alphabet a ≡ true → EachBelow 64 vs
    → i < length (map (character a) vs) → slice_index (map (character a) vs) i ≢ equals_sign
unpadded_is_no_equals a vs i lawful below lt =
    none_counted equals_sign (map (character a) vs) (no_equals_counted a vs lawful below) i lt

equals_count_two : (y x : ℕ)
    → count_by (λ c. c == equals_sign) (y ∷ x ∷ []) ≡ cond (y == equals_sign) 1 0 + cond (x == equals_sign) 1 0
equals_count_two y x = counted equals_sign y (x ∷ [])
    ∙ ap (λ (n : ℕ). cond (y == equals_sign) 1 0 + n) (counted equals_sign x [] ∙ omega arith)

both_equals : (y x : ℕ) → count_by (λ c. c == equals_sign) (y ∷ x ∷ []) ≡ 2 → (y ≡ equals_sign) × (x ≡ equals_sign)
both_equals y x two = go (cases_Bool (y == equals_sign)) (cases_Bool (x == equals_sign))
  where
    go : ((y == equals_sign) ≡ true) ⊎ ((y == equals_sign) ≡ false)
        → ((x == equals_sign) ≡ true) ⊎ ((x == equals_sign) ≡ false) → (y ≡ equals_sign) × (x ≡ equals_sign)
    go (inl p) (inl q) = (eqb-true _ _ p, eqb-true _ _ q)
    go (inl p) (inr q) = let n : count_by (λ c. c == equals_sign) (y ∷ x ∷ []) ≡ 1 =
        equals_count_two y x ∙ rw (p, q) refl in absurd (omega (arith, sym two ∙ n))
    go (inr p) (inl q) = let n : count_by (λ c. c == equals_sign) (y ∷ x ∷ []) ≡ 1 =
        equals_count_two y x ∙ rw (p, q) refl in absurd (omega (arith, sym two ∙ n))
    go (inr p) (inr q) = let n : count_by (λ c. c == equals_sign) (y ∷ x ∷ []) ≡ 0 =
        equals_count_two y x ∙ rw (p, q) refl in absurd (omega (arith, sym two ∙ n))

last_equals : (y x : ℕ) → y ≢ equals_sign → count_by (λ c. c == equals_sign) (y ∷ x ∷ []) ≡ 1 → x ≡ equals_sign
last_equals y x ne one = go (cases_Bool (x == equals_sign))
  where
    go : ((x == equals_sign) ≡ true) ⊎ ((x == equals_sign) ≡ false) → x ≡ equals_sign
    go (inl q) = eqb-true _ _ q
    go (inr q) = let n : count_by (λ c. c == equals_sign) (y ∷ x ∷ []) ≡ 0 =
        equals_count_two y x ∙ rw (ne_eqb y equals_sign ne, q) refl in absurd (omega (arith, sym one ∙ n))

-- what stands behind the characters of a text whose length is a multiple of four
padding_behind : (a : Alphabet) (t vs : List ℕ) (p : ℕ) → is_alphabet a ≡ true → EachBelow 64 vs → length t % 4 ≡ 0
    → count_by (λ c. c == equals_sign) (drop (length t - 2) t) ≡ p → take (length t - p) t ≡ map (character a) vs
    → drop (length t - p) t ≡ replicate ((4 - (length t - p) % 4) % 4) equals_sign
padding_behind a t vs zero lawful below aligned count e =
    let none : (4 - (length t - 0) % 4) % 4 ≡ 0 = omega arith in
    rw (none, drop_all (length t - 0) t (omega arith)) refl
padding_behind a t vs (suc zero) lawful below aligned count e =
    let n : ℕ = length t in
    let bound = count_by-le-length (λ c. c == equals_sign) (drop (n - 2) t) in
    let some : 2 ≤ n = omega (arith, length-drop (n - 2) t) in
    let one : (4 - (n - 1) % 4) % 4 ≡ 1 = omega arith in
    let split = rest_two t (n - 2) (omega arith) in
    let at : n - 2 + 1 ≡ n - 1 = omega arith in
    let held : slice_index t (n - 2) ≡ slice_index (map (character a) vs) (n - 2) =
    sym (get_or-take (n - 1) t (n - 2) 0 (omega arith)) ∙ ap (λ (l : List ℕ). slice_index l (n - 2)) e in
    let len : length (map (character a) vs) ≡ n - 1 = sym (ap length e) ∙ length-take-le (n - 1) t (omega arith) in
    let ne : slice_index t (n - 2) ≢ equals_sign =
    λ same. unpadded_is_no_equals a vs (n - 2) lawful below (omega arith) (sym held ∙ same) in
    let last : slice_index t (n - 1) ≡ equals_sign = rw (← at) (last_equals _ _ ne (rw split at count)) in
    rw (one, rest_one t (n - 1) (omega arith), last) refl
padding_behind a t vs (suc (suc zero)) lawful below aligned count e =
    let n : ℕ = length t in
    let bound = count_by-le-length (λ c. c == equals_sign) (drop (n - 2) t) in
    let some : 2 ≤ n = omega (arith, length-drop (n - 2) t) in
    let two : (4 - (n - 2) % 4) % 4 ≡ 2 = omega arith in
    let split = rest_two t (n - 2) (omega arith) in
    let both = both_equals _ _ (rw split at count) in
    rw (two, split, both.0, both.1) refl
padding_behind a t vs (suc (suc (suc p))) lawful below aligned count e =
    let bound = count_by-le-length (λ c. c == equals_sign) (drop (length t - 2) t) in
    absurd (omega (arith, length-drop (length t - 2) t))

-- a text whose stem is the characters of values is the text of these values
pub text-from_stem : (a : Alphabet) (t vs : List ℕ) → is_alphabet a ≡ true → EachBelow 64 vs
    → (a.padded ≡ true → length t % 4 ≡ 0) → stem a t ≡ map (character a) vs → t ≡ text_of a vs
text-from_stem a t vs lawful below aligned e = go a.padded refl
  where
    go : (p : Bool) → a.padded ≡ p → t ≡ text_of a vs
    go false unpadded =
        let whole : take (length t - 0) t ≡ map (character a) vs = rw unpadded at e in
        let all : take (length t - 0) t ≡ t = take_all (length t - 0) t (omega arith) in
        rw (unpadded, append-nil) (sym all ∙ whole)
    go true padded =
        let n : ℕ = count_by (λ c. c == equals_sign) (drop (length t - 2) t) in
        let front : take (length t - n) t ≡ map (character a) vs = rw padded at e in
        let len : length vs ≡ length t - n =
        sym (length-map vs (character a)) ∙ sym (ap length front) ∙ length-take-le (length t - n) t (omega arith) in
        rw (padded, len, ← front, ← padding_behind a t vs n lawful below (aligned padded) refl front)
        (sym (take-append-drop (length t - n) t))

-- a text whose stem is the characters of b is the encoding of b
pub encoding-from_stem : (a : Alphabet) (t b : List ℕ) → is_alphabet a ≡ true → EachBelow 256 b
    → (a.padded ≡ true → length t % 4 ≡ 0) → stem a t ≡ unpadded_encoding a b → t ≡ encoding a b
unfolding encoding
encoding-from_stem a t b lawful below aligned e =
    text-from_stem a t (groups a.low_first b) lawful (groups-below a.low_first b below) aligned e

-- ---- what decoding answers

pub aligned_from : (a : Alphabet) (t : List ℕ) → (IsMisaligned a t → ⊥) → a.padded ≡ true → length t % 4 ≡ 0
aligned_from a t not padded = elim (cases_eq (length t % 4) 0) [ inl e ↦ e | inr ne ↦ absurd (not (padded, ne)) ]

pub decoded_end : (a : Alphabet) (t dst : List ℕ) (count : ℕ) → is_alphabet a ≡ true → count ≡ padding_len a t
    → EachBelow 256 dst → (IsMisaligned a t → ⊥)
    → unpadded_encoding a (take (byte_count (length (take (length t - count) t))) dst) ≡ take (length t - count) t
    → (byte_count (length (take (length t - count) t)) ≡ decoded_len a t)
    × (t ≡ encoding a (take (byte_count (length (take (length t - count) t))) dst))
decoded_end a t dst count lawful e below not read =
    let len : length (take (length t - count) t) ≡ length t - padding_len a t =
    rw e (length-take-le (length t - padding_len a t) t (omega arith)) in
    let stem_read : stem a t ≡ unpadded_encoding a (take (byte_count (length (take (length t - count) t))) dst) =
    rw (← e) (sym read) in (
      ap (λ (n : ℕ). byte_count n) len,
      encoding-from_stem a t _ lawful (below-take 256 _ dst (omega arith) below) (aligned_from a t not) stem_read,
    )

pub refused_end : (a : Alphabet) (t : List ℕ) (count : ℕ) (r : Bool) → is_alphabet a ≡ true → count ≡ padding_len a t
    → r ≡ false
    → ((b : List ℕ) → EachBelow 256 b → unpadded_encoding a b ≡ take (length t - count) t → r ≡ true)
    → (b : List ℕ) → EachBelow 256 b → encoding a b ≡ t → ⊥
refused_end a t count r lawful e refused accepted b below is =
    let stem_is : unpadded_encoding a b ≡ take (length t - count) t =
    sym (stem-encoding a b lawful below) ∙ ap (λ (l : List ℕ). stem a l) is ∙ rw e refl in
    false≢true (sym refused ∙ accepted b below stem_is)

pub one_counted : (m : List ℕ) (r : ℕ) → length m ≡ 1 → r ≡ bool_byte (slice_index m 0 == equals_sign)
    → r ≡ count_by (λ c. c == equals_sign) (drop (length m - 2) m)
one_counted [] r len e = absurd (omega arith)
one_counted (x ∷ []) r len e = e ∙ go (cases_Bool (x == equals_sign))
  where
    go : ((x == equals_sign) ≡ true) ⊎ ((x == equals_sign) ≡ false)
        → bool_byte (x == equals_sign) ≡ count_by (λ c. c == equals_sign) (x ∷ [])
    go (inl p) = rw p refl
    go (inr p) = rw p refl
one_counted (x ∷ y ∷ m) r len e = absurd (omega arith)

-- ---- what encoding writes

-- how many padding stand behind n characters
abbrev pub padding_count : Bool → ℕ → ℕ
padding_count padded n = cond padded ((4 - n % 4) % 4) 0

padding-replicate : (padded : Bool) (n : ℕ) → padding padded n ≡ replicate (padding_count padded n) equals_sign
padding-replicate true n = refl
padding-replicate false n = refl

pub encoding-whole : (a : Alphabet) (b : List ℕ) → EachBelow 256 b
    → encoding a b ≡ unpadded_encoding a b ++ replicate (padding_count a.padded ((4 * length b + 2) / 3)) equals_sign
encoding-whole a b below = encoding-is a b ∙ rw (length-groups a.low_first b below, padding-replicate) refl

pub length-encoding : (a : Alphabet) (b : List ℕ) → EachBelow 256 b
    → length (encoding a b) ≡ (4 * length b + 2) / 3 + padding_count a.padded ((4 * length b + 2) / 3)
length-encoding a b below =
    let n : ℕ = padding_count a.padded ((4 * length b + 2) / 3) in
    let r : length (replicate n equals_sign) ≡ n = length-replicate n equals_sign in
    let l = length-unpadded a b below in
    ap length (encoding-whole a b below) ∙ length-append (unpadded_encoding a b) (replicate n equals_sign)
    ∙ rw (l, r) refl

pub encoding_written : (a : Alphabet) (src old dst ys : List ℕ) (n k s m : ℕ) → EachBelow 256 src
    → n ≡ (4 * length src + 2) / 3 → s ≡ padding_count a.padded n → k ≡ s → m ≡ n + s
    → dst ≡ unpadded_encoding a src ++ drop n old → ys ≡ replicate k equals_sign
    → (m ≡ length (encoding a src)) × (put_mid n k dst ys ≡ encoding a src ++ drop m old)
encoding_written a src old dst ys n k s m below en es ek em e ey =
    let len : length (unpadded_encoding a src) ≡ n = length-unpadded a src below ∙ sym en in
    let whole : encoding a src ≡ unpadded_encoding a src ++ replicate s equals_sign =
    encoding-whole a src below ∙ rw (es, en) refl in
    let total : m ≡ length (encoding a src) = em ∙ rw (es, en) (sym (length-encoding a src below)) in
    (total, put_after (unpadded_encoding a src) old dst ys n k e len ∙ rw (ey, ek, whole, em) refl)

pub padding_count_of : (p q : Bool) (n : ℕ) → p ≡ q → cond q ((4 - n % 4) % 4) 0 ≡ padding_count p n
padding_count_of p q n e = rw e refl

-- ---- what decoding in place answers

pub length-text_padded : (a : Alphabet) (vs : List ℕ) → a.padded ≡ true → length (text_of a vs) % 4 ≡ 0
length-text_padded a vs padded =
    let n : ℕ = length vs in
    let len : length (map (character a) vs) ≡ n = length-map vs (character a) in
    let s : length (replicate ((4 - n % 4) % 4) equals_sign) ≡ (4 - n % 4) % 4 =
    length-replicate ((4 - n % 4) % 4) equals_sign in
    rw padded (omega (arith, length-append (map (character a) vs) (replicate ((4 - n % 4) % 4) equals_sign)))

pub lenient_found : (a : Alphabet) (t new : List ℕ) (count n : ℕ) → is_alphabet a ≡ true → count ≡ padding_len a t
    → (IsMisaligned a t → ⊥)
    → (values : List ℕ) × Reads a (take (length t - count) t) values (take n new) → IsLenient a t (take n new)
lenient_found a t new count n lawful e not (values, reads) = (
  values,
  reads.0,
  reads.1,
  text-from_stem a t values lawful reads.0 (aligned_from a t not) (rw (← e) reads.2),
  reads.3,
)

pub lenient_refused : (a : Alphabet) (t : List ℕ) (count : ℕ) (r : Bool) → is_alphabet a ≡ true
    → count ≡ padding_len a t → r ≡ false
    → ((length t - count) % 4 ≢ 1 → AreCharacters a (take (length t - count) t) → r ≡ true) → (b : List ℕ)
    → IsLenient a t b → ⊥
lenient_refused a t count r lawful e refused accepted b (values, below, odd, is, bytes) =
    let stem_is : take (length t - count) t ≡ map (character a) values =
    rw e (ap (λ (l : List ℕ). stem a l) is ∙ stem-text a values lawful below odd) in
    let len : length t - count ≡ length values =
    sym (length-take-le (length t - count) t (omega arith)) ∙ ap length stem_is ∙ length-map values (character a) in
    let all : AreCharacters a (take (length t - count) t) =
    subst (AreCharacters a) (sym stem_is) (are_characters-map a values lawful below) in
    false≢true (sym refused ∙ accepted (λ one. odd (sym (ap (λ (m : ℕ). m % 4) len) ∙ one)) all)
