-- Four vectors of four words, lane by lane.
use Rattle.std.proofs.Common.{◌≡◌, ℕ, zero, suc, ◌<◌, ◌+◌, ◌-◌, ◌*◌, ◌/◌, ◌%◌, ◌^◌, List, [], ◌∷◌, length, slice_index}
use Rattle.std.proofs.Common.{get_or, Fits, w32, bit_or, bit_xor, arith, refl, sym, ap₂, subst}
use Rattle.std.specs.Simd.Lanes.{zip2, Each1}
use Rattle.std.proofs.lemmas.Simd.{Each1-get_or}
use Rattle.std.proofs.lemmas.List.{nil_from_length}
use lib.Lanes.{chunk, put_chunk}
use Rattle.scrypt_plain.specs.Bytes.{bytes}
use Rattle.scrypt_plain.specs.Scrypt.{quarter_round, column_round, row_round}
use Rattle.word_lists.specs.Sums.{add32}
use Rattle.scrypt_plain.specs.Layout.{xor_rotated, quarter_words, lane_words, block_words, block_bytes}
use Rattle.word_lists.proofs.Lanes.{below_four, four_lanes, sixteen, LaneWise}

-- the rounds, word by word
column_is : (x0 x1 x2 x3 x4 x5 x6 x7 x8 x9 x10 x11 x12 x13 x14 x15 : ℕ)
    → column_round (x0 ∷ x1 ∷ x2 ∷ x3 ∷ x4 ∷ x5 ∷ x6 ∷ x7 ∷ x8 ∷ x9 ∷ x10 ∷ x11 ∷ x12 ∷ x13 ∷ x14 ∷ x15 ∷ [])
    ≡ (quarter_words x0 x4 x8 x12).0 ∷ (quarter_words x5 x9 x13 x1).3 ∷ (quarter_words x10 x14 x2 x6).2
    ∷ (quarter_words x15 x3 x7 x11).1
    ∷ (quarter_words x0 x4 x8 x12).1 ∷ (quarter_words x5 x9 x13 x1).0 ∷ (quarter_words x10 x14 x2 x6).3
    ∷ (quarter_words x15 x3 x7 x11).2
    ∷ (quarter_words x0 x4 x8 x12).2 ∷ (quarter_words x5 x9 x13 x1).1 ∷ (quarter_words x10 x14 x2 x6).0
    ∷ (quarter_words x15 x3 x7 x11).3
    ∷ (quarter_words x0 x4 x8 x12).3 ∷ (quarter_words x5 x9 x13 x1).2 ∷ (quarter_words x10 x14 x2 x6).1
    ∷ (quarter_words x15 x3 x7 x11).0 ∷ []
unfolding column_round quarter_round quarter_words xor_rotated
column_is x0 x1 x2 x3 x4 x5 x6 x7 x8 x9 x10 x11 x12 x13 x14 x15 = refl

row_is : (x0 x1 x2 x3 x4 x5 x6 x7 x8 x9 x10 x11 x12 x13 x14 x15 : ℕ)
    → row_round (x0 ∷ x1 ∷ x2 ∷ x3 ∷ x4 ∷ x5 ∷ x6 ∷ x7 ∷ x8 ∷ x9 ∷ x10 ∷ x11 ∷ x12 ∷ x13 ∷ x14 ∷ x15 ∷ [])
    ≡ (quarter_words x0 x1 x2 x3).0 ∷ (quarter_words x0 x1 x2 x3).1 ∷ (quarter_words x0 x1 x2 x3).2
    ∷ (quarter_words x0 x1 x2 x3).3
    ∷ (quarter_words x5 x6 x7 x4).3 ∷ (quarter_words x5 x6 x7 x4).0 ∷ (quarter_words x5 x6 x7 x4).1
    ∷ (quarter_words x5 x6 x7 x4).2
    ∷ (quarter_words x10 x11 x8 x9).2 ∷ (quarter_words x10 x11 x8 x9).3 ∷ (quarter_words x10 x11 x8 x9).0
    ∷ (quarter_words x10 x11 x8 x9).1
    ∷ (quarter_words x15 x12 x13 x14).1 ∷ (quarter_words x15 x12 x13 x14).2 ∷ (quarter_words x15 x12 x13 x14).3
    ∷ (quarter_words x15 x12 x13 x14).0 ∷ []
unfolding row_round quarter_round quarter_words xor_rotated
row_is x0 x1 x2 x3 x4 x5 x6 x7 x8 x9 x10 x11 x12 x13 x14 x15 = refl

-- the four columns side by side
pub columns : (a b c d a1 b1 c1 d1 : List ℕ)
    → ((j : ℕ) → j < 4 → (slice_index a1 j, slice_index b1 j, slice_index c1 j, slice_index d1 j)
    ≡ quarter_words (slice_index a j) (slice_index b j) (slice_index c j) (slice_index d j))
    → lane_words a1 b1 c1 d1 ≡ column_round (lane_words a b c d)
columns a b c d a1 b1 c1 d1 h =
    rw (column_is, ← h 0 (omega arith), ← h 1 (omega arith), ← h 2 (omega arith), ← h 3 (omega arith)) refl

-- the four rows side by side, once each vector is turned
pub rows : (a b c d b0 c0 d0 a1 b1 c1 d1 b2 c2 d2 : List ℕ)
    → b0 ≡ slice_index b 3 ∷ slice_index b 0 ∷ slice_index b 1 ∷ slice_index b 2 ∷ []
    → c0 ≡ slice_index c 2 ∷ slice_index c 3 ∷ slice_index c 0 ∷ slice_index c 1 ∷ []
    → d0 ≡ slice_index d 1 ∷ slice_index d 2 ∷ slice_index d 3 ∷ slice_index d 0 ∷ []
    → ((j : ℕ) → j < 4 → (slice_index a1 j, slice_index d1 j, slice_index c1 j, slice_index b1 j)
    ≡ quarter_words (slice_index a j) (slice_index d0 j) (slice_index c0 j) (slice_index b0 j))
    → b2 ≡ slice_index b1 1 ∷ slice_index b1 2 ∷ slice_index b1 3 ∷ slice_index b1 0 ∷ []
    → c2 ≡ slice_index c1 2 ∷ slice_index c1 3 ∷ slice_index c1 0 ∷ slice_index c1 1 ∷ []
    → d2 ≡ slice_index d1 3 ∷ slice_index d1 0 ∷ slice_index d1 1 ∷ slice_index d1 2 ∷ []
    → lane_words a1 b2 c2 d2 ≡ row_round (lane_words a b c d)
rows a b c d b0 c0 d0 a1 b1 c1 d1 b2 c2 d2 eb ec ed h fb fc fd =
    let g = rw (eb, ec, ed) at h in
    rw (fb, fc, fd, row_is, ← g 0 (omega arith), ← g 1 (omega arith), ← g 2 (omega arith), ← g 3 (omega arith)) refl

-- two shifts of each lane and an or are a rotation
abbrev ShiftsRotate : ℕ → List ℕ → List ℕ → List ℕ → Type 0
ShiftsRotate k to a b = (j : ℕ) → j < 4
    → slice_index (zip2 bit_xor to (zip2 bit_or
    (zip2 (λ x n. x * 2 ^ n % 2 ^ 32) (zip2 add32 a b) (k ∷ k ∷ k ∷ k ∷ []))
    (zip2 (λ x n. x / 2 ^ n) (zip2 add32 a b) ((32 - k) ∷ (32 - k) ∷ (32 - k) ∷ (32 - k) ∷ [])))) j
    ≡ xor_rotated (slice_index to j) (slice_index a j) (slice_index b j) k

pub shifts_rotate : (k : ℕ) → 0 < k → k < 32 → (to : List ℕ) → length to ≡ 4 → (a : List ℕ) → length a ≡ 4
    → (b : List ℕ) → length b ≡ 4 → ShiftsRotate k to a b
unfolding xor_rotated
shifts_rotate k low high =
    let left : k % 32 ≡ k = omega arith in
    let right : (32 - k) % 32 ≡ 32 - k = omega arith in
    four_lanes (λ to. (a : List ℕ) → length a ≡ 4 → (b : List ℕ) → length b ≡ 4 → ShiftsRotate k to a b) (λ t0 t1 t2 t3.
    four_lanes (λ a. (b : List ℕ) → length b ≡ 4 → ShiftsRotate k (t0 ∷ t1 ∷ t2 ∷ t3 ∷ []) a b) (λ a0 a1 a2 a3.
    four_lanes (ShiftsRotate k (t0 ∷ t1 ∷ t2 ∷ t3 ∷ []) (a0 ∷ a1 ∷ a2 ∷ a3 ∷ [])) (λ b0 b1 b2 b3.
    below_four _ (rw (left, right) refl) (rw (left, right) refl) (rw (left, right) refl) (rw (left, right) refl))))

-- a load of sixteen words, and a store
pub loaded : (s : List ℕ) → length s ≡ 16
    → bytes (lane_words (chunk 0 4 s) (chunk 4 4 s) (chunk 8 4 s) (chunk 12 4 s)) ≡ block_bytes s
unfolding block_bytes
loaded = sixteen (λ s. bytes (lane_words (chunk 0 4 s) (chunk 4 4 s) (chunk 8 4 s) (chunk 12 4 s))
    ≡ bytes (block_words s))
    (λ x0 x1 x2 x3 x4 x5 x6 x7 x8 x9 x10 x11 x12 x13 x14 x15. refl)

abbrev Stored : List ℕ → List ℕ → List ℕ → List ℕ → List ℕ → Type 0
Stored s a b c d = block_words (put_chunk 12 (put_chunk 8 (put_chunk 4 (put_chunk 0 s a) b) c) d) ≡ lane_words a b c d

pub stored : (s : List ℕ) → length s ≡ 16 → (a : List ℕ) → length a ≡ 4 → (b : List ℕ) → length b ≡ 4
    → (c : List ℕ) → length c ≡ 4 → (d : List ℕ) → length d ≡ 4
    → Stored s a b c d
stored = sixteen (λ s. (a : List ℕ) → length a ≡ 4 → (b : List ℕ) → length b ≡ 4 → (c : List ℕ) → length c ≡ 4
    → (d : List ℕ) → length d ≡ 4 → Stored s a b c d)
    (λ x0 x1 x2 x3 x4 x5 x6 x7 x8 x9 x10 x11 x12 x13 x14 x15.
    let s = x0 ∷ x1 ∷ x2 ∷ x3 ∷ x4 ∷ x5 ∷ x6 ∷ x7 ∷ x8 ∷ x9 ∷ x10 ∷ x11 ∷ x12 ∷ x13 ∷ x14 ∷ x15 ∷ [] in
    four_lanes (λ a. (b : List ℕ) → length b ≡ 4 → (c : List ℕ) → length c ≡ 4 → (d : List ℕ) → length d ≡ 4
    → Stored s a b c d) (λ a0 a1 a2 a3.
    let a = a0 ∷ a1 ∷ a2 ∷ a3 ∷ [] in
    four_lanes (λ b. (c : List ℕ) → length c ≡ 4 → (d : List ℕ) → length d ≡ 4 → Stored s a b c d) (λ b0 b1 b2 b3.
    let b = b0 ∷ b1 ∷ b2 ∷ b3 ∷ [] in
    four_lanes (λ c. (d : List ℕ) → length d ≡ 4 → Stored s a b c d) (λ c0 c1 c2 c3.
    let c = c0 ∷ c1 ∷ c2 ∷ c3 ∷ [] in
    four_lanes (λ d. Stored s a b c d) (λ d0 d1 d2 d3. refl)))))

pub lane_words-zip2 : (f : ℕ → ℕ → ℕ) (r s t u e f' g h a b c d : List ℕ)
    → LaneWise f r e a → LaneWise f s f' b → LaneWise f t g c → LaneWise f u h d
    → lane_words r s t u ≡ zip2 f (lane_words e f' g h) (lane_words a b c d)
lane_words-zip2 f r s t u e f' g h a b c d pr ps pt pu =
    ap₂ ◌∷◌ (pr 0 (omega arith))
    (ap₂ ◌∷◌ (pu 1 (omega arith)) (ap₂ ◌∷◌ (pt 2 (omega arith)) (ap₂ ◌∷◌ (ps 3 (omega arith))
    (ap₂ ◌∷◌ (ps 0 (omega arith))
    (ap₂ ◌∷◌ (pr 1 (omega arith)) (ap₂ ◌∷◌ (pu 2 (omega arith)) (ap₂ ◌∷◌ (pt 3 (omega arith))
    (ap₂ ◌∷◌ (pt 0 (omega arith))
    (ap₂ ◌∷◌ (ps 1 (omega arith)) (ap₂ ◌∷◌ (pr 2 (omega arith)) (ap₂ ◌∷◌ (pu 3 (omega arith))
    (ap₂ ◌∷◌ (pu 0 (omega arith))
    (ap₂ ◌∷◌ (pt 1 (omega arith)) (ap₂ ◌∷◌ (ps 2 (omega arith)) (ap₂ ◌∷◌ (pr 3 (omega arith)) refl)))))))))))))))

-- the words of a block fit
abbrev pub LanesFit : List ℕ → Type 0
LanesFit v = (j : ℕ) → j < 4 → slice_index v j < 2 ^ 32

pub lane_words_fit : (a b c d : List ℕ) → LanesFit a → LanesFit b → LanesFit c → LanesFit d
    → Each1 (λ w. w < 2 ^ 32) (lane_words a b c d)
lane_words_fit a b c d pa pbkdf2_once pc pd = (
  pa 0 (omega arith),
  (
    pd 1 (omega arith),
    (
      pc 2 (omega arith),
      (
        pbkdf2_once 3 (omega arith),
        (
          pbkdf2_once 0 (omega arith),
          (
            pa 1 (omega arith),
            (
              pd 2 (omega arith),
              (
                pc 3 (omega arith),
                (
                  pc 0 (omega arith),
                  (
                    pbkdf2_once 1 (omega arith),
                    (
                      pa 2 (omega arith),
                      (
                        pd 3 (omega arith),
                        (
                          pd 0 (omega arith),
                          (
                            pc 1 (omega arith),
                            (pbkdf2_once 2 (omega arith), (pa 3 (omega arith), tt)),
                          ),
                        ),
                      ),
                    ),
                  ),
                ),
              ),
            ),
          ),
        ),
      ),
    ),
  ),
)

pub lanes_fit : (v : List ℕ) → length v ≡ 4 → Each1 (Fits w32) v → LanesFit v
lanes_fit v len fit j h =
    let f : Fits w32 (get_or v j 0) = Each1-get_or (Fits w32) v j 0 (omega arith) fit in f.fits
