-- The decoded whole of an encoding, and texts all of whose blocks are good.
use Rattle.std.proofs.Common.{◌≡◌, ℕ, zero, suc, ◌+◌, ◌*◌, ◌/◌, ◌<◌, ◌≤◌, Bool, true, false, List, [], ◌∷◌, ◌++◌}
use Rattle.std.proofs.Common.{length, take, drop, sym, ap, ◌∙◌, subst, arith, inl, inr}
use Rattle.std.proofs.lemmas.List.{length-append, take_at, drop_at, take-append-drop, length-take-le, length-drop}
use Rattle.std.proofs.lemmas.List.{nil_from_length, drop-drop}
use Rattle.std.proofs.lemmas.Bool.{cases_lt}
use Rattle.base64ct.specs.Encoding.{Alphabet, is_alphabet, encoding, unpadded_encoding, EachBelow, AreCharacters}
use Rattle.base64ct.specs.Blocks.{blocks, IsEncoding, AreGood, decoded, four_bytes, last_block, AskedAreGood}
use Rattle.base64ct.proofs.Encodings.{below-take, below-drop, decoded-encoding}
use Rattle.base64ct.proofs.Unpadded.{bytes-unpadded, length-unpadded}
use Rattle.base64ct.proofs.Padding.{length-encoding, padding_count}
use Rattle.base64ct.proofs.GoodBlocks.{encoding-append, encoding_by_blocks}
use Rattle.base64ct.proofs.Firsts.{decoded_more, decoded_last, decoded_nil, last_is, last_more, some_blocks}
use Rattle.base64ct.proofs.Fills.{length-first}

-- ---- the encoding of some bytes

-- how long it is, at least
long_encoding : (a : Alphabet) (b : List ℕ) → EachBelow 256 b → (4 * length b + 2) / 3 ≤ length (encoding a b)
long_encoding a b below = omega (arith, length-encoding a b below)

short_encoding : (a : Alphabet) (b : List ℕ) → EachBelow 256 b → length b ≤ 3 → length (encoding a b) ≤ 4
short_encoding a b below few = by_padding a.padded (length-encoding a b below)
  where
    by_padding : (p : Bool) → length (encoding a b) ≡ (4 * length b + 2) / 3 + padding_count p ((4 * length b + 2) / 3)
        → length (encoding a b) ≤ 4
    by_padding true e = omega (arith, e, few)
    by_padding false e = omega (arith, e, few)

-- the first block, where more than three bytes are encoded
record Split (a : Alphabet) (b : List ℕ) : Type 0 where
  pub is : encoding a b ≡ unpadded_encoding a (take 3 b) ++ encoding a (drop 3 b)
  pub four : length (unpadded_encoding a (take 3 b)) ≡ 4
  pub more : 0 < length (encoding a (drop 3 b))

split : (a : Alphabet) (b : List ℕ) → EachBelow 256 b → 3 < length b → Split a b
split a b below long =
    let lt : length (take 3 b) ≡ 3 = length-take-le 3 b (omega arith) in
    let bt : EachBelow 256 (take 3 b) = below-take 256 3 b (omega arith) below in
    record {
      is = ap (λ (l : List ℕ). encoding a l) (sym (take-append-drop 3 b))
          ∙ encoding-append a (take 3 b) (drop 3 b) bt (omega arith);
      four = omega (arith, length-unpadded a (take 3 b) bt, lt);
      more = omega (arith, long_encoding a (drop 3 b) (below-drop 256 3 b below), length-drop 3 b);
    }

whole_none : (a : Alphabet) (b : List ℕ) → length b ≡ 0 → EachBelow 256 b → decoded a (encoding a b) ≡ b
whole_none a b len below =
    let none : b ≡ [] = nil_from_length b len in
    let nothing : encoding a b ≡ [] = nil_from_length (encoding a b) (empty a.padded (length-encoding a b below)) in
    rw (nothing, none) (decoded_nil a)
  where
    empty : (p : Bool) → length (encoding a b) ≡ (4 * length b + 2) / 3 + padding_count p ((4 * length b + 2) / 3)
        → length (encoding a b) ≡ 0
    empty true e = omega (arith, e, len)
    empty false e = omega (arith, e, len)

whole_by : (n : ℕ) (a : Alphabet) (b : List ℕ) → is_alphabet a ≡ true → length b ≤ 3 * n → EachBelow 256 b
    → decoded a (encoding a b) ≡ b
whole_by zero a b lawful le below = whole_none a b (omega arith) below
whole_by (suc n) a b lawful le below = elim (cases_lt 3 (length b)) [
  | inl long ↦
      let s = split a b below long in
      let bt : EachBelow 256 (take 3 b) = below-take 256 3 b (omega arith) below in
      let front : take 4 (encoding a b) ≡ unpadded_encoding a (take 3 b) =
      ap (λ (l : List ℕ). take 4 l) s.is
      ∙ take_at (unpadded_encoding a (take 3 b)) (encoding a (drop 3 b)) 4 s.four in
      let rest : drop 4 (encoding a b) ≡ encoding a (drop 3 b) =
      ap (λ (l : List ℕ). drop 4 l) s.is
      ∙ drop_at (unpadded_encoding a (take 3 b)) (encoding a (drop 3 b)) 4 s.four in
      let size : 4 < length (encoding a b) =
      omega (
        arith,
        ap length s.is,
        length-append (unpadded_encoding a (take 3 b)) (encoding a (drop 3 b)),
        s.four,
        s.more,
      ) in
      let first : four_bytes a (take 4 (encoding a b)) ≡ take 3 b =
      ap (λ (l : List ℕ). four_bytes a l) front ∙ bytes-unpadded a (take 3 b) lawful bt in
      let next = whole_by n a (drop 3 b) lawful (omega (arith, length-drop 3 b)) (below-drop 256 3 b below) in
      decoded_more a (encoding a b) size ∙ rw (first, rest, next) (take-append-drop 3 b)
  | inr short ↦ elim (cases_lt 0 (length b)) [
    | inl some ↦ decoded_last a (encoding a b) (omega (arith, long_encoding a b below)) (short_encoding a b below short)
        ∙ decoded-encoding a b lawful below
    | inr none ↦ whole_none a b (omega arith) below
  ]
]

-- the decoded whole of an encoding is the bytes
pub whole_is : (a : Alphabet) (b : List ℕ) → is_alphabet a ≡ true → EachBelow 256 b → decoded a (encoding a b) ≡ b
whole_is a b lawful below = whole_by (length b) a b lawful (omega arith) below

-- ---- good blocks

good_first : (a : Alphabet) (t : List ℕ) → 4 < length t → AreGood a (blocks t)
    → AreCharacters a (take 4 t) × AreGood a (blocks (drop 4 t))
unfolding blocks AreGood
good_first a [] h g = absurd (omega arith)
good_first a (c ∷ []) h g = absurd (omega arith)
good_first a (c ∷ d ∷ []) h g = absurd (omega arith)
good_first a (c ∷ d ∷ e ∷ []) h g = absurd (omega arith)
good_first a (c ∷ d ∷ e ∷ f ∷ []) h g = absurd (omega arith)
good_first a (c ∷ d ∷ e ∷ f ∷ x ∷ rest) h g = parted (c ∷ d ∷ e ∷ f ∷ []) (blocks (x ∷ rest)) (some_blocks x rest) g
  where
    parted : (block : List ℕ) (bs : List (List ℕ)) → 0 < length bs → AreGood a (block ∷ bs)
        → AreCharacters a block × AreGood a bs
    parted block [] some g = absurd (omega arith)
    parted block (next ∷ bs) some g = g

good_join : (a : Alphabet) (t : List ℕ) → 4 < length t → AreCharacters a (take 4 t) → AreGood a (blocks (drop 4 t))
    → AreGood a (blocks t)
unfolding blocks AreGood
good_join a [] h f g = absurd (omega arith)
good_join a (c ∷ []) h f g = absurd (omega arith)
good_join a (c ∷ d ∷ []) h f g = absurd (omega arith)
good_join a (c ∷ d ∷ e ∷ []) h f g = absurd (omega arith)
good_join a (c ∷ d ∷ e ∷ f ∷ []) h k g = absurd (omega arith)
good_join a (c ∷ d ∷ e ∷ f ∷ x ∷ rest) h k g = joined (c ∷ d ∷ e ∷ f ∷ []) (blocks (x ∷ rest)) (some_blocks x rest) k g
  where
    joined : (block : List ℕ) (bs : List (List ℕ)) → 0 < length bs → AreCharacters a block → AreGood a bs
        → AreGood a (block ∷ bs)
    joined block [] some k g = absurd (omega arith)
    joined block (next ∷ bs) some k g = (k, g)

good_last : (a : Alphabet) (t : List ℕ) → 0 < length t → length t ≤ 4 → IsEncoding a t → AreGood a (blocks t)
unfolding blocks AreGood
good_last a [] some h e = absurd (omega arith)
good_last a (c ∷ []) some h e = e
good_last a (c ∷ d ∷ []) some h e = e
good_last a (c ∷ d ∷ e ∷ []) some h is = is
good_last a (c ∷ d ∷ e ∷ f ∷ []) some h is = is
good_last a (c ∷ d ∷ e ∷ f ∷ x ∷ rest) some h is = absurd (omega arith)

last_good : (a : Alphabet) (t : List ℕ) → 0 < length t → length t ≤ 4 → AreGood a (blocks t) → IsEncoding a t
unfolding blocks AreGood
last_good a [] some h e = absurd (omega arith)
last_good a (c ∷ []) some h e = e
last_good a (c ∷ d ∷ []) some h e = e
last_good a (c ∷ d ∷ e ∷ []) some h is = is
last_good a (c ∷ d ∷ e ∷ f ∷ []) some h is = is
last_good a (c ∷ d ∷ e ∷ f ∷ x ∷ rest) some h is = absurd (omega arith)

-- the k-th block before the last
good_at : (a : Alphabet) (t : List ℕ) (k : ℕ) → AreGood a (blocks t) → 4 * k + 4 < length t
    → AreCharacters a (take 4 (drop (4 * k) t))
good_at a t zero g h = (good_first a t (omega arith) g).0
good_at a t (suc k) g h =
    let four : 4 * suc k ≡ 4 + 4 * k = omega arith in
    rw (four, ← drop-drop (4 * k) 4 t)
    (good_at a (drop 4 t) k (good_first a t (omega arith) g).1 (omega (arith, length-drop 4 t)))

pub all_asked : (a : Alphabet) (t : List ℕ) → AreGood a (blocks t) → (from n : ℕ) → AskedAreGood a t from n
all_asked a t g from n j ge lt more = good_at a t (j / 3) g more

last_by : (n : ℕ) (a : Alphabet) (t : List ℕ) → length t ≤ 4 * n → 0 < length t → AreGood a (blocks t)
    → IsEncoding a (last_block t)
last_by zero a t le some g = absurd (omega arith)
last_by (suc n) a t le some g = elim (cases_lt 4 (length t)) [
  | inl more ↦ subst (IsEncoding a) (sym (last_more t more))
      (last_by n a (drop 4 t) (omega (arith, length-drop 4 t)) (omega (arith, length-drop 4 t))
      (good_first a t more g).1)
  | inr few ↦ subst (IsEncoding a) (sym (last_is t few)) (last_good a t some few g)
]

pub last_encoding : (a : Alphabet) (t : List ℕ) → 0 < length t → AreGood a (blocks t) → IsEncoding a (last_block t)
last_encoding a t some g = last_by (length t) a t (omega arith) some g

good_by : (n : ℕ) (a : Alphabet) (t : List ℕ) → length t ≤ 4 * n → 0 < length t → IsEncoding a (last_block t)
    → ((k : ℕ) → 4 * k + 4 < length t → AreCharacters a (take 4 (drop (4 * k) t))) → AreGood a (blocks t)
good_by zero a t le some last all = absurd (omega arith)
good_by (suc n) a t le some last all = elim (cases_lt 4 (length t)) [
  | inl more ↦ good_join a t more (all 0 (omega arith))
      (good_by n a (drop 4 t) (omega (arith, length-drop 4 t)) (omega (arith, length-drop 4 t))
      (subst (IsEncoding a) (last_more t more) last)
      (λ k h. let four : 4 + 4 * k ≡ 4 * suc k = omega arith in
      subst (λ (l : List ℕ). AreCharacters a (take 4 l))
      (sym (drop-drop (4 * k) 4 t ∙ ap (λ (m : ℕ). drop m t) four))
      (all (suc k) (omega (arith, h, length-drop 4 t)))))
  | inr few ↦ good_last a t some few (subst (IsEncoding a) (last_is t few) last)
]

-- how many bytes stand before the last block
bytes_before : (a : Alphabet) (t : List ℕ) (k : ℕ) → 4 * k + 4 < length t → 3 * k < length (decoded a t)
bytes_before a t zero h =
    omega (
      arith,
      ap length (decoded_more a t (omega arith)),
      length-append (four_bytes a (take 4 t)) (decoded a (drop 4 t)),
      length-first a t (omega arith),
    )
bytes_before a t (suc k) h =
    omega (
      arith,
      ap length (decoded_more a t (omega arith)),
      length-append (four_bytes a (take 4 t)) (decoded a (drop 4 t)),
      length-first a t (omega arith),
      bytes_before a (drop 4 t) k (omega (arith, length-drop 4 t)),
    )

-- a text of which every byte was asked, and no block found bad, is an encoding
pub all_read : (a : Alphabet) (t : List ℕ) (n : ℕ) → is_alphabet a ≡ true → 0 < length t → IsEncoding a (last_block t)
    → length (decoded a t) ≤ n → AskedAreGood a t 0 n → IsEncoding a t
all_read a t n lawful some last le asked =
    (encoding_by_blocks a t lawful).1 (good_by (length t) a t (omega arith) some last (λ k h.
    let same : 3 * k / 3 ≡ k = omega arith in
    subst (λ (m : ℕ). AreCharacters a (take 4 (drop (4 * m) t))) same
    (asked (3 * k) (omega arith) (omega (arith, bytes_before a t k h)) (omega (arith, h)))))
