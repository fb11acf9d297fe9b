-- The table's rows, and and the number that a block is.
use Rattle.std.proofs.Common.{◌≡◌, ◌≢◌, ℕ, zero, suc, ◌+◌, ◌-◌, ◌*◌, ◌/◌, ◌%◌, ◌^◌, ◌<◌, ◌≤◌, List, [], ◌∷◌, ◌++◌}
use Rattle.std.proofs.Common.{length, take, drop, slice_index, refl, sym, ap, ap₂, ◌∙◌, arith, add-one, inl, inr, subst}
use Rattle.std.proofs.Common.{w32}
use Rattle.std.proofs.Math.Nat.{mul-le-mul_left, add-mul-mod_self_left}
use Rattle.std.proofs.lemmas.Nat.{pow-add, mod_below}
use Rattle.std.proofs.lemmas.Bool.{cases_lt}
use Rattle.std.proofs.lemmas.List.{drop_at, take_at, take_all, take-append-drop, length-take}
use borrow.Rule.Slice.PartMut.{put_mid}
use Rattle.scrypt_plain.specs.Bytes.{bytes, little_endian}
use Rattle.word_lists.specs.Lists.{xor_bytes, piece}
use Rattle.scrypt_plain.specs.Scrypt.{integerify, concat_below, block_mix, table_row, ro_mix_state, part, ro_mix}
use Rattle.scrypt_plain.specs.Scrypt.{ro_mix_step}
use Rattle.scrypt_plain.specs.Layout.{block_bytes, block_words, row_block, row_bytes}
use Rattle.std.specs.Int.{to_le_bytes}
use Rattle.std.proofs.lemmas.Slice.{drop-put_mid}
use Rattle.scrypt_plain.proofs.Blocks.{bytes-append}
use Rattle.word_lists.proofs.Pieces.{take-more, take_drop_left, piece_at, piece_put_same, piece_put_other}
use Rattle.word_lists.proofs.Lanes.{sixteen}
use Rattle.scrypt_plain.proofs.Rows.{concat_below_same, block-row_bytes, row_block_same}
use Rattle.scrypt_plain.proofs.Rows.{row_block_other}

-- ---- a block in the order of the table

pub block_bytes-table_order : (s : List ℕ) → length s ≡ 16
    → block_bytes (slice_index s 0 ∷ slice_index s 5 ∷ slice_index s 10 ∷ slice_index s 15
    ∷ slice_index s 4 ∷ slice_index s 9 ∷ slice_index s 14 ∷ slice_index s 3
    ∷ slice_index s 8 ∷ slice_index s 13 ∷ slice_index s 2 ∷ slice_index s 7
    ∷ slice_index s 12 ∷ slice_index s 1 ∷ slice_index s 6 ∷ slice_index s 11 ∷ []) ≡ bytes s
unfolding block_bytes
block_bytes-table_order = sixteen (λ s. bytes (slice_index s 0 ∷ slice_index s 1 ∷ slice_index s 2 ∷ slice_index s 3
    ∷ slice_index s 4 ∷ slice_index s 5 ∷ slice_index s 6 ∷ slice_index s 7
    ∷ slice_index s 8 ∷ slice_index s 9 ∷ slice_index s 10 ∷ slice_index s 11
    ∷ slice_index s 12 ∷ slice_index s 13 ∷ slice_index s 14 ∷ slice_index s 15 ∷ []) ≡ bytes s)
    (λ x0 x1 x2 x3 x4 x5 x6 x7 x8 x9 x10 x11 x12 x13 x14 x15. refl)

-- one block more, in a loop that writes blocks
pub rows_more : (F : List ℕ → List ℕ) (g : ℕ → List ℕ) (i n : ℕ) (to p : List ℕ) → n ≡ 16 → length p ≡ 16
    → 16 * i + 16 ≤ length to
    → ((k : ℕ) → k < i → F (row_block to k) ≡ g k) → F p ≡ g i
    → (k : ℕ) → k < i + 1 → F (row_block (put_mid (16 * i) n to p) k) ≡ g k
rows_more F g i n to p width len room before here k below =
    elim (cases_lt k i) [
      | inl a ↦
          let ne : k ≢ i = omega arith in
          ap F (row_block_other i n k to p width len room ne) ∙ before k a
      | inr b ↦
          let e : i ≡ k = omega arith in
          let P : ℕ → Type 0 = λ j. F (row_block (put_mid (16 * i) n to p) j) ≡ g j in
          subst P e (ap F (row_block_same i n to p len room) ∙ here)
    ]

-- ---- pieces

pub pieces_take : (w n : ℕ) (s : List ℕ) → concat_below n (piece w s) ≡ take (w * n) s
unfolding concat_below
pieces_take w zero s = let e : w * zero ≡ 0 = omega arith in sym (ap (λ (m : ℕ). take m s) e)
pieces_take w (suc n) s =
    let e : w * n + w ≡ w * suc n = omega arith in
    ap (λ (z : List ℕ). z ++ piece w s n) (pieces_take w n s) ∙ sym (take-more s (w * n) w) ∙ ap (λ (m : ℕ). take m s) e

pub pieces_all : (w n : ℕ) (s : List ℕ) → length s ≡ w * n → concat_below n (piece w s) ≡ s
pieces_all w n s h = pieces_take w n s ∙ take_all (w * n) s (omega arith)

pub bytes-concat_below : (n : ℕ) (f : ℕ → List ℕ) → bytes (concat_below n f) ≡ concat_below n (λ k. bytes (f k))
unfolding concat_below
bytes-concat_below zero f = refl
bytes-concat_below (suc n) f =
    bytes-append (concat_below n f) (f n) ∙ ap (λ (z : List ℕ). z ++ bytes (f n)) (bytes-concat_below n f)

pub bytes_pieces : (w n : ℕ) (s : List ℕ) → length s ≡ w * n → bytes s ≡ concat_below n (λ k. bytes (piece w s k))
bytes_pieces w n s h = ap bytes (sym (pieces_all w n s h)) ∙ bytes-concat_below n (piece w s)

pub row_bytes_from_bytes : (n : ℕ) (s t : List ℕ) → length s ≡ 16 * n
    → ((k : ℕ) → k < n → block_bytes (row_block t k) ≡ bytes (row_block s k)) → row_bytes n t ≡ bytes s
row_bytes_from_bytes n s t h each =
    concat_below_same n (λ k. block_bytes (row_block t k)) (λ k. bytes (piece 16 s k)) each
    ∙ sym (bytes_pieces 16 n s h)

-- ---- Integerify

digits : (w m : ℕ) → w < 4294967296
    → w % 256 + 256 * (w / 256 % 256 + 256 * (w / 65536 % 256 + 256 * (w / 16777216 % 256 + 256 * m)))
    ≡ w + 4294967296 * m
digits w m h = omega arith

little_endian-block_bytes : (s : List ℕ) → slice_index s 0 < 2 ^ 32
    → (m : ℕ) × (little_endian (block_bytes s) ≡ slice_index s 0 + 2 ^ 32 * m)
unfolding block_bytes
little_endian-block_bytes s h =
    let m = little_endian (bytes (drop 1 (block_words s))) in (m, digits (slice_index s 0) m h)

pub low_word : (s : List ℕ) → slice_index s 0 < 2 ^ 32 → slice_index s 0 ≡ little_endian (block_bytes s) % 2 ^ 32
low_word s fits =
    let whole = little_endian-block_bytes s fits in
    omega (arith, whole.1)

pub mod_low_bits : (w m ln : ℕ) → ln ≤ 32 → (w + 2 ^ 32 * m) % 2 ^ ln ≡ w % 2 ^ ln
mod_low_bits w m ln h =
    let split : ln + (32 - ln) ≡ 32 = omega arith in
    let power : 2 ^ 32 ≡ 2 ^ ln * 2 ^ (32 - ln) = ap (λ (k : ℕ). 2 ^ k) (sym split) ∙ pow-add 2 ln (32 - ln) in
    let grouped : w + 2 ^ 32 * m ≡ w + 2 ^ ln * (2 ^ (32 - ln) * m) = omega (arith, ap (λ (z : ℕ). z * m) power) in
    ap (λ (z : ℕ). z % 2 ^ ln) grouped ∙ add-mul-mod_self_left w (2 ^ ln) (2 ^ (32 - ln) * m)

halves : (m : ℕ) → m ≡ m % 4294967296 + 4294967296 * (m / 4294967296)
halves m = omega arith

mod-mod_low_bits : (m ln : ℕ) → ln ≤ 32 → m % 2 ^ 32 % 2 ^ ln ≡ m % 2 ^ ln
mod-mod_low_bits m ln h =
    sym (ap (λ (z : ℕ). z % 2 ^ ln) (halves m) ∙ mod_low_bits (m % 2 ^ 32) (m / 2 ^ 32) ln h)

pub integerify-low_word : (x : List ℕ) (r ln a n w : ℕ) → 1 ≤ r → a ≡ 32 * r - 16 → n ≡ 16 → ln ≤ 32
    → w ≡ little_endian (block_bytes (take n (drop a x))) % 2 ^ 32
    → w % 2 ^ ln ≡ integerify r (row_bytes (2 * r) x) % 2 ^ ln
unfolding integerify
integerify-low_word x r ln a n w some at width low is =
    let place : a ≡ 16 * (2 * r - 1) = omega arith in
    let same = ap₂ (λ (u v : ℕ). block_bytes (take u (drop v x))) width place in
    let whole = block-row_bytes (2 * r) x (2 * r - 1) (omega arith) in
    ap (λ (z : ℕ). z % 2 ^ ln) is
    ∙ mod-mod_low_bits (little_endian (block_bytes (take n (drop a x)))) ln low
    ∙ ap (λ (z : List ℕ). little_endian z % 2 ^ ln) (same ∙ sym whole)

-- ---- the rows and the turns

table_row_more : (r : ℕ) (B : List ℕ) (i : ℕ) → table_row r B (i + 1) ≡ block_mix r (table_row r B i)
unfolding table_row
table_row_more r B i = ap (table_row r B) (add-one i)

pub filled_none : (r : ℕ) (t : List ℕ) (k : ℕ) → k ≤ 0
    → row_bytes (2 * r) (piece (32 * r) t k) ≡ table_row r (row_bytes (2 * r) (piece (32 * r) t 0)) k
unfolding table_row
filled_none r t zero h = refl
filled_none r t (suc k) h = absurd (omega arith)

pub filled_more : (r i : ℕ) (s t B : List ℕ)
    → ((k : ℕ) → k ≤ i → row_bytes (2 * r) (piece (32 * r) s k) ≡ table_row r B k)
    → row_bytes (2 * r) (piece (32 * r) t (i + 1)) ≡ block_mix r (row_bytes (2 * r) (piece (32 * r) s i))
    → ((k : ℕ) → k ≤ i → piece (32 * r) t k ≡ piece (32 * r) s k)
    → (k : ℕ) → k ≤ i + 1 → row_bytes (2 * r) (piece (32 * r) t k) ≡ table_row r B k
filled_more r i s t B was next others k h =
    elim (cases_lt k (i + 1)) [
      | inl a ↦ ap (row_bytes (2 * r)) (others k (omega arith)) ∙ was k (omega arith)
      | inr b ↦
          let e : i + 1 ≡ k = omega arith in
          let P : ℕ → Type 0 = λ j. row_bytes (2 * r) (piece (32 * r) t j) ≡ table_row r B j in
          subst P e (next ∙ ap (block_mix r) (was i (omega arith)) ∙ sym (table_row_more r B i))
    ]

pub filled_last : (r n : ℕ) (B x : List ℕ) (m : ℕ) → x ≡ block_mix r (table_row r B m) → n ≡ m + 1
    → x ≡ ro_mix_state r n B 0
unfolding ro_mix_state
filled_last r n B x m h e = h ∙ sym (table_row_more r B m) ∙ ap (table_row r B) (sym e)

ro_mix_state_more : (r n : ℕ) (B : List ℕ) (t : ℕ)
    → ro_mix_state r n B (t + 1) ≡ ro_mix_step r n (table_row r B) (ro_mix_state r n B t)
unfolding ro_mix_state
ro_mix_state_more r n B t = ap (ro_mix_state r n B) (add-one t)

ro_mix_state_step : (r n : ℕ) (B : List ℕ) (row : ℕ → List ℕ) (x : List ℕ) (t : ℕ) → 0 < n
    → ((k : ℕ) → k < n → row k ≡ table_row r B k)
    → x ≡ ro_mix_state r n B t → ro_mix_step r n row x ≡ ro_mix_state r n B (t + 1)
ro_mix_state_step r n B row x t some rows was =
    let same = rows (integerify r x % n) (mod_below (integerify r x) n some) in
    ap (λ (z : List ℕ). block_mix r (xor_bytes x z)) same ∙ ap (ro_mix_step r n (table_row r B)) was
    ∙ sym (ro_mix_state_more r n B t)

pub two_steps : (r n : ℕ) (B : List ℕ) (row : ℕ → List ℕ) (x : List ℕ) (t : ℕ) → 0 < n
    → ((k : ℕ) → k < n → row k ≡ table_row r B k)
    → x ≡ ro_mix_state r n B (2 * t) → ro_mix_step r n row (ro_mix_step r n row x) ≡ ro_mix_state r n B (2 * (t + 1))
two_steps r n B row x t some rows was =
    let two : 2 * t + 1 + 1 ≡ 2 * (t + 1) = omega arith in
    ro_mix_state_step r n B row (ro_mix_step r n row x) (2 * t + 1) some rows
    (ro_mix_state_step r n B row x (2 * t) some rows was) ∙ ap (ro_mix_state r n B) two

pub piece_first : (w : ℕ) (p zs : List ℕ) → length p ≡ w → piece w (p ++ zs) 0 ≡ p
piece_first w p zs h = piece_at w 0 [] p zs (omega arith) h

pub last_row : (t : List ℕ) (r n N : ℕ) → N ≡ n → 1 ≤ n → length t ≡ 32 * r * n
    → take (length t - 32 * r * (N - 1)) (drop (32 * r * (N - 1)) t) ≡ piece (32 * r) t (n - 1)
last_row t r n N e some len =
    let m = n - 1 in
    let whole : 32 * r * n ≡ 32 * r * (m + 1) = ap (λ (z : ℕ). 32 * r * z) (omega arith) in
    let at : 32 * r * (N - 1) ≡ 32 * r * m = ap (λ (z : ℕ). 32 * r * (z - 1)) e in
    let width : length t - 32 * r * (N - 1) ≡ 32 * r = omega arith in
    ap₂ (λ (u v : ℕ). take u (drop v t)) width at

pub even_power : (ln : ℕ) → 1 ≤ ln → 2 * (2 ^ ln / 2) ≡ 2 ^ ln
even_power ln h =
    let split : 1 + (ln - 1) ≡ ln = omega arith in
    let power : 2 ^ ln ≡ 2 ^ 1 * 2 ^ (ln - 1) = ap (λ (k : ℕ). 2 ^ k) (sym split) ∙ pow-add 2 1 (ln - 1) in
    omega arith

-- ---- the parts

pub drop-bytes : (n : ℕ) (ws : List ℕ) → drop (4 * n) (bytes ws) ≡ bytes (drop n ws)
drop-bytes zero ws = refl
drop-bytes (suc n) [] = let e : 4 * suc n ≡ suc (suc (suc (suc (4 * n)))) = omega arith in
    ap (λ (m : ℕ). drop m (bytes [])) e
drop-bytes (suc n) (w ∷ ws) =
    let e : 4 * suc n ≡ suc (suc (suc (suc (4 * n)))) = omega arith in
    ap (λ (m : ℕ). drop m (bytes (w ∷ ws))) e ∙ drop-bytes n ws

pub take-bytes : (n : ℕ) (ws : List ℕ) → take (4 * n) (bytes ws) ≡ bytes (take n ws)
take-bytes zero ws = refl
take-bytes (suc n) [] = let e : 4 * suc n ≡ suc (suc (suc (suc (4 * n)))) = omega arith in
    ap (λ (m : ℕ). take m (bytes [])) e
take-bytes (suc n) (w ∷ ws) =
    let e : 4 * suc n ≡ suc (suc (suc (suc (4 * n)))) = omega arith in
    ap (λ (m : ℕ). take m (bytes (w ∷ ws))) e ∙ ap (λ (z : List ℕ). to_le_bytes w32 w ++ z) (take-bytes n ws)

pub part-bytes : (r : ℕ) (ws : List ℕ) (i : ℕ) → part r (bytes ws) i ≡ bytes (piece (32 * r) ws i)
part-bytes r ws i =
    let width : 128 * r ≡ 4 * (32 * r) = omega arith in
    let at : 128 * r * i ≡ 4 * (32 * r * i) = omega arith in
    ap₂ (λ (u v : ℕ). take u (drop v (bytes ws))) width at
    ∙ ap (take (4 * (32 * r))) (drop-bytes (32 * r * i) ws) ∙ take-bytes (32 * r) (drop (32 * r * i) ws)

-- after i parts
pub record IsPartly (r n : ℕ) (s t : List ℕ) (i : ℕ) : Type 0 where
  pub done : (k : ℕ) → k < i → bytes (piece (32 * r) t k) ≡ ro_mix r n (bytes (piece (32 * r) s k))
  pub rest : (k : ℕ) → i ≤ k → piece (32 * r) t k ≡ piece (32 * r) s k

pub IsPartly_none : (r n : ℕ) (s : List ℕ) → IsPartly r n s s 0
IsPartly_none r n s = record { done = λ k lt. absurd (omega arith); rest = λ k le. refl }

pub IsPartly_more : (r n : ℕ) (s t p : List ℕ) (i w : ℕ) → IsPartly r n s t i → w ≡ 32 * r → length p ≡ 32 * r
    → 32 * r * i + 32 * r ≤ length t
    → bytes p ≡ ro_mix r n (bytes (take w (drop (32 * r * i) t))) → IsPartly r n s (put_mid (32 * r * i) w t p) (i + 1)
IsPartly_more r n s t p i w inv width len room is = record {
  done = λ k below.
      elim (cases_lt k i) [
        | inl a ↦
            let ne : k ≢ i = omega arith in
            ap bytes (piece_put_other (32 * r) i w k t p width len room ne) ∙ inv.done k a
        | inr b ↦
            let e : i ≡ k = omega arith in
            let P : ℕ → Type 0 = λ j. bytes (piece (32 * r) (put_mid (32 * r * i) w t p) j)
            ≡ ro_mix r n (bytes (piece (32 * r) s j)) in
            subst P e (ap bytes (piece_put_same (32 * r) i w t p len room) ∙ is
            ∙ ap (λ (z : List ℕ). ro_mix r n (bytes z)) (ap (λ (u : ℕ). take u (drop (32 * r * i) t)) width
            ∙ inv.rest i (omega arith)))
      ];
  rest = λ k le.
      let ne : k ≢ i = omega arith in
      piece_put_other (32 * r) i w k t p width len room ne ∙ inv.rest k (omega arith);
}

pub IsPartly_all : (r n : ℕ) (s t : List ℕ) (i count : ℕ) → i ≡ count → length t ≡ 32 * r * count → IsPartly r n s t i
    → bytes t ≡ concat_below count (λ k. ro_mix r n (part r (bytes s) k))
IsPartly_all r n s t i count e len inv =
    bytes_pieces (32 * r) count t len
    ∙ concat_below_same count (λ k. bytes (piece (32 * r) t k)) (λ k. ro_mix r n (part r (bytes s) k))
    (λ k lt. inv.done k (omega arith) ∙ sym (ap (ro_mix r n) (part-bytes r s k)))
