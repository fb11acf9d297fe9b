-- Rows of blocks.
use Rattle.std.proofs.Common.{◌≡◌, ◌≢◌, ℕ, zero, suc, ◌+◌, ◌-◌, ◌*◌, ◌<◌, ◌≤◌, List, [], ◌∷◌, ◌++◌, length, take, drop}
use Rattle.std.proofs.Common.{bit_xor, refl, sym, ap, ap₂, ◌∙◌, arith, add-one, inl, inr, subst}
use Rattle.std.proofs.Math.Nat.{mul-le-mul_left}
use Rattle.std.specs.Simd.Lanes.{zip2}
use Rattle.std.proofs.lemmas.Bool.{cases_lt}
use Rattle.std.proofs.lemmas.List.{drop-take, drop_at, drop-append-le, take-append-le, take_all, length-append}
use Rattle.std.proofs.lemmas.List.{length-take, length-drop, append_assoc, append-nil}
use Rattle.std.proofs.lemmas.Slice.{take-put_mid_below, drop-put_mid, between-put_mid}
use borrow.Rule.Slice.PartMut.{put_mid}
use Rattle.word_lists.specs.Lists.{xor_bytes}
use Rattle.scrypt_plain.specs.Scrypt.{salsa20_8, block, mix_state, mixed_block, concat_below, block_mix}
use Rattle.scrypt_plain.specs.declared.salsa.Block.{Block}
use Rattle.scrypt_plain.specs.Layout.{lane_bytes, block_bytes, row_block, row_bytes}
use Rattle.word_lists.proofs.Zips.{take-zip2, drop-zip2}
use Rattle.word_lists.proofs.Pieces.{take_drop_left}

-- ---- pieces, one after another

pub concat_below_same : (n : ℕ) (f g : ℕ → List ℕ) → ((k : ℕ) → k < n → f k ≡ g k) → concat_below n f ≡ concat_below n g
unfolding concat_below
concat_below_same zero f g h = refl
concat_below_same (suc n) f g h = ap₂ ◌++◌ (concat_below_same n f g (λ k lt. h k (omega arith))) (h n (omega arith))

pub concat_below_add : (m n : ℕ) (f : ℕ → List ℕ)
    → concat_below (m + n) f ≡ concat_below m f ++ concat_below n (λ i. f (m + i))
unfolding concat_below
concat_below_add m zero f =
    let e : m + zero ≡ m = omega arith in
    ap (λ (k : ℕ). concat_below k f) e ∙ sym (append-nil (concat_below m f))
concat_below_add m (suc n) f =
    let e : m + suc n ≡ suc (m + n) = omega arith in
    ap (λ (k : ℕ). concat_below k f) e ∙ ap (λ (z : List ℕ). z ++ f (m + n)) (concat_below_add m n f)
    ∙ append_assoc (concat_below m f) (concat_below n (λ i. f (m + i))) (f (m + n))

pub length-concat_below : (n w : ℕ) (f : ℕ → List ℕ) → ((k : ℕ) → length (f k) ≡ w) → length (concat_below n f) ≡ w * n
unfolding concat_below
length-concat_below zero w f h = omega arith
length-concat_below (suc n) w f h =
    let l = length-concat_below n w f h in
    let last = h n in
    length-append (concat_below n f) (f n) ∙ omega arith

-- piece k, where each piece has w elements
pub concat_below_piece : (n w : ℕ) (f : ℕ → List ℕ) → ((k : ℕ) → length (f k) ≡ w) → (k : ℕ) → k < n
    → take w (drop (w * k) (concat_below n f)) ≡ f k
unfolding concat_below
concat_below_piece zero w f h k lt = absurd (omega arith)
concat_below_piece (suc n) w f h k lt =
    let l = length-concat_below n w f h in
    let last = h n in
    elim (cases_lt k n) [
      | inl a ↦
          let le : k + 1 ≤ n = omega arith in
          let room : w * k + w ≤ length (concat_below n f) = omega (arith, mul-le-mul_left w le) in
          take_drop_left (concat_below n f) (f n) (w * k) w room ∙ concat_below_piece n w f h k a
      | inr b ↦
          let e : n ≡ k = omega arith in
          ap (take w) (drop_at (concat_below n f) (f n) (w * k) (l ∙ ap (λ (j : ℕ). w * j) e))
          ∙ take_all w (f n) (omega arith) ∙ ap f e
    ]

-- ---- blocks of a row

pub length-block_bytes : (s : List ℕ) → length (block_bytes s) ≡ 64
unfolding block_bytes
length-block_bytes s = refl

pub block-row_bytes : (n : ℕ) (s : List ℕ) (k : ℕ) → k < n → block (row_bytes n s) k ≡ block_bytes (row_block s k)
block-row_bytes n s k lt =
    concat_below_piece n 64 (λ i. block_bytes (row_block s i)) (λ i. length-block_bytes (row_block s i)) k lt

-- block k of a row after a write to block i
pub row_block_same : (i n : ℕ) (s p : List ℕ) → length p ≡ 16 → 16 * i + 16 ≤ length s
    → row_block (put_mid (16 * i) n s p) i ≡ p
row_block_same i n s p len room =
    let width : 16 * i + 16 - 16 * i ≡ 16 = omega arith in
    rw width at (between-put_mid (16 * i) n s p (16 * i + 16) (omega arith) (omega arith))

row_block-take : (s : List ℕ) (k : ℕ) → row_block s k ≡ drop (16 * k) (take (16 * k + 16) s)
row_block-take s k = sym (drop-take (16 * k) 16 s)

pub row_block_other : (i n k : ℕ) (s p : List ℕ) → n ≡ 16 → length p ≡ 16 → 16 * i + 16 ≤ length s → k ≢ i
    → row_block (put_mid (16 * i) n s p) k ≡ row_block s k
row_block_other i n k s p width len room ne =
    elim (cases_lt k i) [
      | inl a ↦
          row_block-take (put_mid (16 * i) n s p) k
          ∙ ap (drop (16 * k)) (take-put_mid_below (16 * i) n s p (16 * k + 16) (omega arith) (omega arith))
          ∙ sym (row_block-take s k)
      | inr b ↦ ap (take 16) (drop-put_mid (16 * i) n s p (16 * k) (omega arith) (omega arith) (omega arith))
    ]

length-put_mid16 : (i n : ℕ) (s p : List ℕ) → n ≡ 16 → length p ≡ 16 → 16 * i + 16 ≤ length s
    → length (put_mid (16 * i) n s p) ≡ length s
length-put_mid16 i n s p width len room =
    simp (length-append, length-take, length-drop) (omega arith)

-- ---- scryptBlockMix in its loop

-- after 2 * i blocks of B the state is x, and the first i blocks of each half of the row are written
pub record IsMixing (r : ℕ) (B : List ℕ) (x : Block) (to : List ℕ) (i : ℕ) : Type 0 where
  pub state : lane_bytes x ≡ mix_state r B (2 * i)
  pub even : (k : ℕ) → k < i → block_bytes (row_block to k) ≡ mixed_block r B (2 * k)
  pub odd : (k : ℕ) → k < i → block_bytes (row_block to (r + k)) ≡ mixed_block r B (2 * k + 1)

mix_state_more : (r : ℕ) (B : List ℕ) (k : ℕ)
    → mix_state r B (k + 1) ≡ salsa20_8 (xor_bytes (mix_state r B k) (block B k))
unfolding mix_state
mix_state_more r B k = ap (mix_state r B) (add-one k)

mix_state_after : (r : ℕ) (B x y : List ℕ) (k : ℕ) → x ≡ mix_state r B k → y ≡ salsa20_8 (xor_bytes x (block B k))
    → y ≡ mix_state r B (k + 1)
mix_state_after r B x y k was is =
    is ∙ ap (λ (w : List ℕ). salsa20_8 (xor_bytes w (block B k))) was ∙ sym (mix_state_more r B k)

pub IsMixing_none : (r : ℕ) (B : List ℕ) (x : Block) (to : List ℕ) → lane_bytes x ≡ block B (2 * r - 1)
    → IsMixing r B x to 0
unfolding mix_state
IsMixing_none r B x to h = record { state = h; even = λ k lt. absurd (omega arith); odd = λ k lt. absurd (omega arith) }

-- one pair of blocks
pub IsMixing_more : (r : ℕ) (B : List ℕ) (x y z : Block) (to p q : List ℕ) (i n m : ℕ)
    → IsMixing r B x to i → i < r → length to ≡ 32 * r → n ≡ 16 → m ≡ 16 → length p ≡ 16 → length q ≡ 16
    → lane_bytes y ≡ salsa20_8 (xor_bytes (lane_bytes x) (block B (2 * i)))
    → lane_bytes z ≡ salsa20_8 (xor_bytes (lane_bytes y) (block B (2 * i + 1)))
    → block_bytes p ≡ lane_bytes y → block_bytes q ≡ lane_bytes z
    → IsMixing r B z (put_mid (16 * (r + i)) m (put_mid (16 * i) n to p) q) (i + 1)
IsMixing_more r B x y z to p q i n m inv lt len wn wm lp lq hy hz kp kq =
    let t1 = put_mid (16 * i) n to p in
    let l1 : length t1 ≡ 32 * r = length-put_mid16 i n to p wn lp (omega arith) ∙ len in
    let sy : lane_bytes y ≡ mix_state r B (2 * i + 1) =
    mix_state_after r B (lane_bytes x) (lane_bytes y) (2 * i) inv.state hy in
    let sz : lane_bytes z ≡ mix_state r B (2 * i + 1 + 1) =
    mix_state_after r B (lane_bytes y) (lane_bytes z) (2 * i + 1) sy hz in
    let two : 2 * i + 1 + 1 ≡ 2 * (i + 1) = omega arith in
    record {
      state = sz ∙ ap (mix_state r B) two;
      even = λ k below.
          let ne : k ≢ r + i = omega arith in
          ap block_bytes (row_block_other (r + i) m k t1 q wm lq (omega arith) ne)
          ∙ elim (cases_lt k i) [
            | inl a ↦
                let other : k ≢ i = omega arith in
                ap block_bytes (row_block_other i n k to p wn lp (omega arith) other) ∙ inv.even k a
            | inr b ↦
                let e : i ≡ k = omega arith in
                let P : ℕ → Type 0 = λ j. block_bytes (row_block t1 j) ≡ mixed_block r B (2 * j) in
                subst P e (ap block_bytes (row_block_same i n to p lp (omega arith)) ∙ kp ∙ sy)
          ];
      odd = λ k below.
          elim (cases_lt k i) [
            | inl a ↦
                let ne : r + k ≢ r + i = omega arith in
                let other : r + k ≢ i = omega arith in
                ap block_bytes (row_block_other (r + i) m (r + k) t1 q wm lq (omega arith) ne
                ∙ row_block_other i n (r + k) to p wn lp (omega arith) other) ∙ inv.odd k a
            | inr b ↦
                let e : i ≡ k = omega arith in
                let P : ℕ → Type 0 = λ j. block_bytes (row_block (put_mid (16 * (r + i)) m t1 q) (r + j))
                ≡ mixed_block r B (2 * j + 1) in
                subst P e (ap block_bytes (row_block_same (r + i) m t1 q lq (omega arith)) ∙ kq ∙ sz)
          ];
    }

pub IsMixing_all : (r : ℕ) (B : List ℕ) (x : Block) (to : List ℕ) (i : ℕ) → i ≡ r → IsMixing r B x to i
    → row_bytes (2 * r) to ≡ block_mix r B
IsMixing_all r B x to i done inv =
    let g = λ (k : ℕ). block_bytes (row_block to k) in
    let e : 2 * r ≡ r + r = omega arith in
    ap (λ (k : ℕ). concat_below k g) e ∙ concat_below_add r r g
    ∙ ap₂ ◌++◌ (concat_below_same r g (λ k. mixed_block r B (2 * k)) (λ k lt. inv.even k (omega arith)))
    (concat_below_same r (λ k. g (r + k)) (λ k. mixed_block r B (2 * k + 1)) (λ k lt. inv.odd k (omega arith)))

-- ---- what the steps read

pub row_bytes_part : (n : ℕ) (s : List ℕ) (a w k : ℕ) → k < n → w ≡ 16 → a ≡ 16 * k
    → block_bytes (take w (drop a s)) ≡ block (row_bytes n s) k
row_bytes_part n s a w k lt width at =
    ap₂ (λ (u v : ℕ). block_bytes (take u (drop v s))) width at ∙ sym (block-row_bytes n s k lt)

pub block-xor : (a b : List ℕ) (k : ℕ) → xor_bytes (block a k) (block b k) ≡ block (xor_bytes a b) k
block-xor a b k =
    sym (ap (take 64) (drop-zip2 bit_xor (64 * k) a b) ∙ take-zip2 bit_xor 64 (drop (64 * k) a) (drop (64 * k) b))

pub row_bytes_parts : (n : ℕ) (s t : List ℕ) (a w b v k : ℕ) → k < n → w ≡ 16 → a ≡ 16 * k → v ≡ 16 → b ≡ 16 * k
    → xor_bytes (block_bytes (take w (drop a s))) (block_bytes (take v (drop b t)))
    ≡ block (xor_bytes (row_bytes n s) (row_bytes n t)) k
row_bytes_parts n s t a w b v k lt wa at vb bt =
    ap₂ xor_bytes (row_bytes_part n s a w k lt wa at) (row_bytes_part n t b v k lt vb bt)
    ∙ block-xor (row_bytes n s) (row_bytes n t) k
