-- Two memories of one length that agree on the blocks that are filled so far. What a memory holds before the first pass
-- makes no difference, as no block is read before it is filled.
use Rattle.std.proofs.Common.{◌≡◌, ◌≢◌, ◌⊎◌, ℕ, zero, suc, ◌+◌, ◌-◌, ◌*◌, ◌/◌, ◌%◌, ◌^◌, ◌<◌, ◌≤◌, Bool, true, false, cond, List, length}
use Rattle.std.proofs.Common.{take, drop, slice_index, refl, sym, ap, ap₂, ◌∙◌, arith, inl, inr, subst}
use Rattle.std.specs.Prelude.{◌==◌}
use Rattle.std.specs.Prelude.{bit_xor, ◌∷◌, [], ◌++◌}
use Rattle.std.proofs.Math.Nat.{mod-eq_of_lt, mul-le-mul_right}
use Rattle.std.proofs.lemmas.Nat.{mod_below}
use Rattle.std.proofs.lemmas.Bool.{cases_lt, eq-eqb, ne_eqb}
use Rattle.std.proofs.lemmas.List.{get_or-drop, get_or-take, length-append, length-drop, length-take-le, take_all}
use Rattle.std.proofs.lemmas.Simd.{length-zip2}
use Rattle.blake2b.specs.Words.{word_at, words}
use Rattle.argon2_plain.specs.Argon2.{begin_lanes, first_block, le32, variable_hash}
use Rattle.argon2_plain.specs.Lists.{xor_words}
use Rattle.argon2_plain.specs.Filling.{block_at, block_count, fill_block, fill_blocks, fill_lanes, fill_passes}
use Rattle.argon2_plain.specs.Filling.{fill_segment, fill_slices, lane_length, pair, previous, reference}
use Rattle.argon2_plain.specs.Filling.{address_block, is_independent, reference_column, reference_lane, window, window_place, with_block}
use Rattle.argon2_plain.specs.Permutation.{g, permuted_columns, permuted_rows, transposed}
use Rattle.argon2_plain.specs.declared.fill.Plan.{Plan}
use Rattle.argon2_plain.specs.declared.fill.Place.{Place}
use Rattle.word_lists.proofs.Pieces.{length-piece, piece_put_other, piece_put_same, take-more}
use Rattle.argon2_plain.proofs.Columns.{length-turned}
use Rattle.argon2_plain.proofs.Places.{own_window, slice_product, within}

-- ---- which blocks are filled

-- Block c of lane l is filled, where the block at column `col` of lane `lane` is the next one of a slice.
data IsFilled (seg slice lane col l c : ℕ) : Type 0 where
  Begun : c < 2 → IsFilled seg slice lane col l c
  InSlices : c < slice * seg → IsFilled seg slice lane col l c
  InLanes : l < lane → c < (slice + 1) * seg → IsFilled seg slice lane col l c
  InSegment : l ≡ lane → c < col → IsFilled seg slice lane col l c

-- the memories have all blocks, and agree on those with a property
record Agree (plan : Plan) (P : ℕ → ℕ → Type 0) (m n : List ℕ) : Type 0 where
  long : length m ≡ 128 * block_count plan
  as_long : length n ≡ 128 * block_count plan
  blocks : (l c : ℕ) → l < plan.lanes → c < lane_length plan → P l c
      → block_at m (l * lane_length plan + c) ≡ block_at n (l * lane_length plan + c)

-- ---- a block is put into both

length-put : (k : ℕ) (m b : List ℕ) → length b ≡ 128 → 128 * k + 128 ≤ length m → length (with_block m k b) ≡ length m
length-put k m b block room =
    let front = length-take-le (128 * k) m (omega arith) in
    let after = length-drop 128 (drop (128 * k) m) in
    let rest = length-drop (128 * k) m in
    let inner = length-append b (drop 128 (drop (128 * k) m)) in
    length-append (take (128 * k) m) (b ++ drop 128 (drop (128 * k) m)) ∙ omega (arith, front, after, rest, inner)

-- whether two numbers are one
same_or_apart : (i j : ℕ) → (i ≡ j) ⊎ (i ≢ j)
same_or_apart i j =
    elim (cases_lt i j) [
      | inl a ↦ inr (λ e. absurd (omega (arith, e)))
      | inr b ↦
          elim (cases_lt j i) [
            | inl a ↦ inr (λ e. absurd (omega (arith, e)))
            | inr a ↦ inl (omega arith)
          ]
    ]

block_put : (k j : ℕ) (m n b : List ℕ) → length b ≡ 128 → 128 * k + 128 ≤ length m → length n ≡ length m
    → (j ≡ k) ⊎ (block_at m j ≡ block_at n j) → block_at (with_block m k b) j ≡ block_at (with_block n k b) j
block_put k j m n b block room same case =
    elim (same_or_apart j k) [
      | inl e ↦
          ap (block_at (with_block m k b)) e ∙ piece_put_same 128 k 128 m b block room
          ∙ sym (ap (block_at (with_block n k b)) e ∙ piece_put_same 128 k 128 n b block (omega arith))
      | inr ne ↦
          piece_put_other 128 k 128 j m b refl block room ne
          ∙ elim case [
            | inl e ↦ absurd (ne e)
            | inr e ↦ e
          ]
          ∙ sym (piece_put_other 128 k 128 j n b refl block (omega arith) ne)
    ]

agree_put : (plan : Plan) (P Q : ℕ → ℕ → Type 0) (m n b : List ℕ) (k : ℕ) → Agree plan P m n → k < block_count plan
    → length b ≡ 128 → ((l c : ℕ) → l < plan.lanes → c < lane_length plan → Q l c → (l * lane_length plan + c ≡ k) ⊎ P l c)
    → Agree plan Q (with_block m k b) (with_block n k b)
agree_put plan P Q m n b k a below block each =
    let long = a.long in
    let as_long = a.as_long in
    record {
      long = length-put k m b block (omega (arith, long)) ∙ long;
      as_long = length-put k n b block (omega (arith, as_long)) ∙ as_long;
      blocks = λ l c lt lc q.
          block_put k (l * lane_length plan + c) m n b block (omega (arith, long)) (as_long ∙ sym long)
          (elim (each l c lt lc q) [
            | inl e ↦ inl e
            | inr p ↦ inr (a.blocks l c lt lc p)
          ]);
    }

-- ---- how long blocks are

length-words : (n : ℕ) (b : List ℕ) → length (words n b) ≡ n
unfolding words
length-words zero b = refl
length-words (suc n) b =
    let before = length-words n b in
    length-append (words n b) (word_at b (8 * n) ∷ []) ∙ omega (arith, before)

length-first_block : (h0 : List ℕ) (j i : ℕ) → length (first_block h0 j i) ≡ 128
unfolding first_block
length-first_block h0 j i = length-words 128 (variable_hash 1024 ((h0 ++ le32 j) ++ le32 i))

length-xor : (x y : List ℕ) → length x ≡ 128 → length y ≡ 128 → length (xor_words x y) ≡ 128
length-xor x y ex ey = length-zip2 bit_xor x y (ex ∙ sym ey) ∙ ex

length-g : (x y : List ℕ) → length x ≡ 128 → length y ≡ 128 → length (g x y) ≡ 128
unfolding g
length-g x y ex ey =
    let r = xor_words x y in
    let block = length-xor x y ex ey in
    length-xor (permuted_columns (permuted_rows r)) r
    (length-turned (transposed (permuted_rows r)) (length-turned r block)) block

length-block : (m : List ℕ) (k n : ℕ) → length m ≡ 128 * n → k < n → length (block_at m k) ≡ 128
length-block m k n long lt = length-piece 128 k m (omega (arith, long))

first_word : (m : List ℕ) (k : ℕ) → slice_index m (128 * k) ≡ slice_index (block_at m k) 0
first_word m k =
    sym (get_or-take 128 (drop (128 * k) m) 0 0 (omega arith) ∙ get_or-drop (128 * k) m 0 0
    ∙ ap (slice_index m) (omega arith))

-- ---- a block of the first pass

minus_lt : (size x : ℕ) → 1 ≤ size → size - 1 - x < size
minus_lt size x some = omega arith

other_window : (b : Bool) (done : ℕ) → 2 ≤ done → (1 ≤ cond b (done - 1) done) × (cond b (done - 1) done ≤ done)
other_window true done two = (omega arith, omega arith)
other_window false done two = (omega arith, omega arith)

module _ (plan : Plan) (slice lane index : ℕ) (two_blocks : 2 ≤ plan.segment) (low : slice < 4) (lt : lane < plan.lanes)
    (below : index < plan.segment) (begun : ((slice ≡ 0) × (2 ≤ index)) ⊎ (1 ≤ slice)) where
  abbrev place : Place
  place = record { pass = 0; slice = slice; lane = lane }

  abbrev seg : ℕ
  seg = plan.segment

  abbrev col : ℕ
  col = slice * seg + index

  abbrev Filled : ℕ → ℕ → Type 0
  Filled = IsFilled seg slice lane col

  two : 2 ≤ col
  two =
      elim begun [
        | inl p ↦ let at = p.1 in omega (arith, at)
        | inr le ↦ let more = mul-le-mul_right seg le in omega (arith, more)
      ]

  within_lane : col < 4 * seg
  within_lane = let product = slice_product slice seg low in omega (arith, product)

  previous_is : previous plan place index ≡ lane * (4 * seg) + (col - 1)
  previous_is =
      ap (λ (b : Bool). lane * (4 * seg) + cond b (4 * seg - 1) (col - 1)) (ne_eqb col 0 (λ e. absurd (omega (arith, two, e))))

  own_ref : (rl j1 : ℕ) → rl ≡ lane
      → Filled rl ((0 + window_place (window plan place index rl) j1) % (4 * seg))
  own_ref rl j1 e =
      let size = window plan place index rl in
      let is : size ≡ col - 1 = own_window plan place index rl e in
      let z : window_place size j1 < size = minus_lt size (size * (j1 * j1 / 2 ^ 32) / 2 ^ 32) (omega (arith, is, two)) in
      let rest : (0 + window_place size j1) % (4 * seg) ≡ 0 + window_place size j1 =
      mod-eq_of_lt (omega (arith, is, z, within_lane)) in
      InSegment e (omega (arith, is, z, rest))

  other_ref : (rl j1 : ℕ) → rl ≢ lane → 1 ≤ slice
      → Filled rl ((0 + window_place (window plan place index rl) j1) % (4 * seg))
  other_ref rl j1 ne le =
      let done = slice * seg in
      let more = mul-le-mul_right seg le in
      let size = window plan place index rl in
      let bounds = other_window (index == 0) done (omega (arith, more, two_blocks)) in
      let is : size ≡ cond (index == 0) (done - 1) done =
      ap (λ (b : Bool). cond b (done + index - 1) (cond (index == 0) (done - 1) done)) (ne_eqb rl lane ne) in
      let least = bounds.0 in
      let most = bounds.1 in
      let z : window_place size j1 < size = minus_lt size (size * (j1 * j1 / 2 ^ 32) / 2 ^ 32) (omega (arith, is, least)) in
      let rest : (0 + window_place size j1) % (4 * seg) ≡ 0 + window_place size j1 =
      mod-eq_of_lt (omega (arith, is, z, most, within_lane)) in
      InSlices (omega (arith, is, z, most, rest))

  abbrev ref_lane : ℕ → ℕ
  ref_lane word = reference_lane plan place (word / 2 ^ 32)

  abbrev ref_column : ℕ → ℕ
  ref_column word = reference_column plan place index (ref_lane word) (word % 2 ^ 32)

  reference_is : (word : ℕ) → reference plan place index word ≡ ref_lane word * (4 * seg) + ref_column word
  unfolding reference
  reference_is word = refl

  lane_by : (b : Bool) (j2 : ℕ) → slice == 0 ≡ b → reference_lane plan place j2 ≡ cond b lane (j2 % plan.lanes)
  lane_by b j2 e = ap (λ (x : Bool). cond x lane (j2 % plan.lanes)) e

  lane_within : (b : Bool) (j2 : ℕ) → cond b lane (j2 % plan.lanes) < plan.lanes
  lane_within true j2 = lt
  lane_within false j2 = mod_below j2 plan.lanes (omega (arith, lt))

  ref_within : (word : ℕ) → ref_lane word < plan.lanes
  ref_within word = lane_within (slice == 0) (word / 2 ^ 32)

  ref_own : (word : ℕ) → slice ≡ 0 → ref_lane word ≡ lane
  ref_own word e = lane_by true (word / 2 ^ 32) (eq-eqb slice 0 e)

  filled_ref : (word : ℕ) → Filled (ref_lane word) (ref_column word)
  filled_ref word =
      elim (same_or_apart (ref_lane word) lane) [
        | inl e ↦ own_ref (ref_lane word) (word % 2 ^ 32) e
        | inr ne ↦
            elim begun [
              | inl p ↦ absurd (ne (ref_own word p.0))
              | inr le ↦ other_ref (ref_lane word) (word % 2 ^ 32) ne le
            ]
      ]

  -- a block that was filled is the next one or was filled before
  next_column : (l c : ℕ) → IsFilled seg slice lane (col + 1) l c → (l * (4 * seg) + c ≡ lane * (4 * seg) + col) ⊎ Filled l c
  next_column l c (Begun h) = inr (Begun h)
  next_column l c (InSlices h) = inr (InSlices h)
  next_column l c (InLanes e h) = inr (InLanes e h)
  next_column l c (InSegment e h) =
      elim (cases_lt c col) [
        | inl a ↦ inr (InSegment e a)
        | inr b ↦
            let same : c ≡ col = omega arith in
            inl (ap₂ (λ (x y : ℕ). x * (4 * seg) + y) e same)
      ]

  module _ (m n : List ℕ) (a : Agree plan Filled m n) where
    previous_same : block_at m (previous plan place index) ≡ block_at n (previous plan place index)
    previous_same =
        ap (block_at m) previous_is
        ∙ a.blocks lane (col - 1) lt (omega (arith, within_lane)) (InSegment refl (omega (arith, two)))
        ∙ sym (ap (block_at n) previous_is)

    reference_same : (word : ℕ) → block_at m (reference plan place index word) ≡ block_at n (reference plan place index word)
    reference_same word =
        ap (block_at m) (reference_is word)
        ∙ a.blocks (ref_lane word) (ref_column word) (ref_within word) (mod_below _ (4 * seg) (omega (arith, two_blocks))) (filled_ref word)
        ∙ sym (ap (block_at n) (reference_is word))

    word_same : slice_index m (128 * previous plan place index) ≡ slice_index n (128 * previous plan place index)
    word_same =
        first_word m (previous plan place index) ∙ ap (λ (b : List ℕ). slice_index b 0) previous_same
        ∙ sym (first_word n (previous plan place index))

    pair_same : pair plan place index m ≡ pair plan place index n
    pair_same =
        ap (cond (is_independent plan.variant 0 slice)
        (slice_index (address_block plan place (index / 128 + 1)) (index % 128))) word_same

    abbrev new : List ℕ → List ℕ
    new z = g (block_at z (previous plan place index)) (block_at z (reference plan place index (pair plan place index z)))

    new_same : new m ≡ new n
    new_same =
        ap₂ g previous_same
        (reference_same (pair plan place index m)
        ∙ ap (λ (w : ℕ). block_at n (reference plan place index w)) pair_same)

    length-new : length (new m) ≡ 128
    length-new =
        let at = within lane plan.lanes (4 * seg) (col - 1) lt (omega (arith, within_lane)) in
        let where_ref = within (ref_lane (pair plan place index m)) plan.lanes (4 * seg) (ref_column (pair plan place index m))
        (ref_within (pair plan place index m)) (mod_below _ (4 * seg) (omega (arith, two_blocks))) in
        length-g (block_at m (previous plan place index)) (block_at m (reference plan place index (pair plan place index m)))
        (length-block m (previous plan place index) (block_count plan) a.long (omega (arith, at, previous_is)))
        (length-block m (reference plan place index (pair plan place index m)) (block_count plan) a.long
        (omega (arith, where_ref, reference_is (pair plan place index m))))

    agree_block : Agree plan (IsFilled seg slice lane (col + 1)) (fill_block plan place index m) (fill_block plan place index n)
    agree_block =
        let at = within lane plan.lanes (4 * seg) col lt within_lane in
        subst (λ (b : List ℕ). Agree plan (IsFilled seg slice lane (col + 1)) (with_block m (lane * (4 * seg) + col) (new m))
        (with_block n (lane * (4 * seg) + col) b)) new_same
        (agree_put plan Filled (IsFilled seg slice lane (col + 1)) m n (new m) (lane * (4 * seg) + col) a (omega (arith, at))
        length-new (λ l c ll lc q. next_column l c q))

-- ---- the first pass

-- the index of the first block of a segment in this slice
abbrev first : ℕ → ℕ
first slice = cond (slice == 0) 2 0

first_of_none : (slice : ℕ) → slice ≡ 0 → first slice ≡ 2
first_of_none slice e = ap {B = ℕ} (λ (b : Bool). cond b 2 0) (eq-eqb slice 0 e)

first_of_some : (slice : ℕ) → slice ≢ 0 → first slice ≡ 0
first_of_some slice ne = ap {B = ℕ} (λ (b : Bool). cond b 2 0) (ne_eqb slice 0 ne)

begun_at : (slice index : ℕ) → first slice ≤ index → ((slice ≡ 0) × (2 ≤ index)) ⊎ (1 ≤ slice)
begun_at slice index le =
    elim (same_or_apart slice 0) [
      | inl e ↦ inl (e, omega (arith, le, first_of_none slice e))
      | inr ne ↦
          elim (cases_lt 0 slice) [
            | inl a ↦ inr (omega arith)
            | inr b ↦ absurd (ne (omega arith))
          ]
    ]

module _ (plan : Plan) (two_blocks : 2 ≤ plan.segment) where
  first_most : (slice : ℕ) → first slice ≤ 2
  first_most slice = cases (slice == 0)
    where
      cases : (b : Bool) → cond b 2 0 ≤ 2
      cases true = omega arith
      cases false = omega arith

  agree_blocks : (slice lane n : ℕ) → slice < 4 → lane < plan.lanes → first slice + n ≤ plan.segment → (x y : List ℕ)
      → Agree plan (IsFilled plan.segment slice lane (slice * plan.segment + first slice)) x y
      → Agree plan (IsFilled plan.segment slice lane (slice * plan.segment + (first slice + n)))
      (fill_blocks plan (record { pass = 0; slice = slice; lane = lane }) n x)
      (fill_blocks plan (record { pass = 0; slice = slice; lane = lane }) n y)
  unfolding fill_blocks
  agree_blocks slice lane zero low lt room x y a =
      subst (λ (k : ℕ). Agree plan (IsFilled plan.segment slice lane (slice * plan.segment + k)) x y) (omega arith) a
  agree_blocks slice lane (suc n) low lt room x y a =
      let place : Place = record { pass = 0; slice = slice; lane = lane } in
      let index = first slice + n in
      let next : slice * plan.segment + index + 1 ≡ slice * plan.segment + (first slice + suc n) = omega arith in
      subst (λ (k : ℕ). Agree plan (IsFilled plan.segment slice lane k) (fill_block plan place index (fill_blocks plan place n x))
      (fill_block plan place index (fill_blocks plan place n y))) next
      (agree_block plan slice lane index two_blocks low lt (omega arith) (begun_at slice index (omega arith))
      (fill_blocks plan place n x) (fill_blocks plan place n y)
      (agree_blocks slice lane n low lt (omega arith) x y a))

  -- the first block of the next lane
  next_lane : (slice lane l c : ℕ) → IsFilled plan.segment slice (lane + 1) (slice * plan.segment + first slice) l c
      → IsFilled plan.segment slice lane (slice * plan.segment + (first slice + (plan.segment - first slice))) l c
  next_lane slice lane l c (Begun h) = Begun h
  next_lane slice lane l c (InSlices h) = InSlices h
  next_lane slice lane l c (InLanes e h) =
      let most = first_most slice in
      elim (cases_lt l lane) [
        | inl a ↦ InLanes a h
        | inr b ↦ InSegment (omega arith) (omega (arith, most, two_blocks, h))
      ]
  next_lane slice lane l c (InSegment e h) = at_start (begun_at slice (first slice) (omega arith))
    where
      at_start : ((slice ≡ 0) × (2 ≤ first slice)) ⊎ (1 ≤ slice)
          → IsFilled plan.segment slice lane (slice * plan.segment + (first slice + (plan.segment - first slice))) l c
      at_start (inl p) =
          let none : slice * plan.segment ≡ 0 * plan.segment = ap (λ (k : ℕ). k * plan.segment) p.0 in
          let most = first_most slice in
          Begun (omega (arith, none, most, h))
      at_start (inr le) =
          let none : first slice ≡ 0 = first_of_some slice (λ z. absurd (omega (arith, le, z))) in
          InSlices (omega (arith, none, h))

  weaker : (P Q : ℕ → ℕ → Type 0) (x y : List ℕ) → Agree plan P x y
      → ((l c : ℕ) → l < plan.lanes → c < lane_length plan → Q l c → P l c) → Agree plan Q x y
  weaker P Q x y a from =
      record {
        long = a.long;
        as_long = a.as_long;
        blocks = λ l c lt lc q. a.blocks l c lt lc (from l c lt lc q);
      }

  agree_lanes : (slice n : ℕ) → slice < 4 → n ≤ plan.lanes → (x y : List ℕ)
      → Agree plan (IsFilled plan.segment slice 0 (slice * plan.segment + first slice)) x y
      → Agree plan (IsFilled plan.segment slice n (slice * plan.segment + first slice)) (fill_lanes plan 0 slice n x) (fill_lanes plan 0 slice n y)
  unfolding fill_lanes fill_segment
  agree_lanes slice zero low le x y a = a
  agree_lanes slice (suc n) low le x y a =
      let place : Place = record { pass = 0; slice = slice; lane = n } in
      let most = first_most slice in
      let before = agree_lanes slice n low (omega arith) x y a in
      let x1 = fill_lanes plan 0 slice n x in
      let y1 = fill_lanes plan 0 slice n y in
      let filled = agree_blocks slice n (plan.segment - first slice) low (omega arith) (omega (arith, most, two_blocks)) x1 y1 before in
      weaker (IsFilled plan.segment slice n (slice * plan.segment + (first slice + (plan.segment - first slice))))
      (IsFilled plan.segment slice (suc n) (slice * plan.segment + first slice))
      (fill_blocks plan place (plan.segment - first slice) x1) (fill_blocks plan place (plan.segment - first slice) y1) filled
      (λ l c lt lc q. next_lane slice n l c
      (subst (λ (k : ℕ). IsFilled plan.segment slice k (slice * plan.segment + first slice) l c) (omega arith) q))

  -- the first block of the next slice
  next_slice : (slice l c : ℕ) → l < plan.lanes → IsFilled plan.segment (slice + 1) 0 ((slice + 1) * plan.segment + first (slice + 1)) l c
      → IsFilled plan.segment slice plan.lanes (slice * plan.segment + first slice) l c
  next_slice slice l c lt (Begun h) = Begun h
  next_slice slice l c lt (InSlices h) = InLanes lt h
  next_slice slice l c lt (InLanes e h) = absurd (omega arith)
  next_slice slice l c lt (InSegment e h) =
      let none : first (slice + 1) ≡ 0 = first_of_some (slice + 1) (λ z. absurd (omega (arith, z))) in
      InLanes lt (omega (arith, none, h))

  agree_slices : (n : ℕ) → n ≤ 4 → (x y : List ℕ)
      → Agree plan (IsFilled plan.segment 0 0 (0 * plan.segment + first 0)) x y
      → Agree plan (IsFilled plan.segment n 0 (n * plan.segment + first n)) (fill_slices plan 0 n x) (fill_slices plan 0 n y)
  unfolding fill_slices
  agree_slices zero le x y a = a
  agree_slices (suc n) le x y a =
      let before = agree_slices n (omega arith) x y a in
      let x1 = fill_slices plan 0 n x in
      let y1 = fill_slices plan 0 n y in
      let all = agree_lanes n plan.lanes (omega arith) (omega arith) x1 y1 before in
      weaker (IsFilled plan.segment n plan.lanes (n * plan.segment + first n)) (IsFilled plan.segment (suc n) 0 (suc n * plan.segment + first (suc n)))
      (fill_lanes plan 0 n plan.lanes x1) (fill_lanes plan 0 n plan.lanes y1) all
      (λ l c lt lc q. next_slice n l c lt
      (subst (λ (k : ℕ). IsFilled plan.segment k 0 (k * plan.segment + first k) l c) (omega arith) q))

  -- ---- all blocks

  abbrev Every : ℕ → ℕ → Type 0
  Every l c = c < 4 * plan.segment

  -- memories that agree on all blocks of some lanes, and on some of the next, begin with the same words
  same_columns : (l c : ℕ) (x y : List ℕ) → Agree plan Every x y → l < plan.lanes → c ≤ 4 * plan.segment
      → take (128 * (l * (4 * plan.segment))) x ≡ take (128 * (l * (4 * plan.segment))) y
      → take (128 * (l * (4 * plan.segment) + c)) x ≡ take (128 * (l * (4 * plan.segment) + c)) y
  same_columns l zero x y a lt le was =
      let none : 128 * (l * (4 * plan.segment) + zero) ≡ 128 * (l * (4 * plan.segment)) = omega arith in
      ap (λ (n : ℕ). take n x) none ∙ was ∙ sym (ap (λ (n : ℕ). take n y) none)
  same_columns l (suc c) x y a lt le was =
      let k = l * (4 * plan.segment) + c in
      let more : 128 * (l * (4 * plan.segment) + suc c) ≡ 128 * k + 128 = omega arith in
      ap (λ (n : ℕ). take n x) more ∙ take-more x (128 * k) 128
      ∙ ap₂ ◌++◌ (same_columns l c x y a lt (omega arith) was) (a.blocks l c lt (omega arith) (omega arith))
      ∙ sym (ap (λ (n : ℕ). take n y) more ∙ take-more y (128 * k) 128)

  same_lanes : (l : ℕ) (x y : List ℕ) → Agree plan Every x y → l ≤ plan.lanes
      → take (128 * (l * (4 * plan.segment))) x ≡ take (128 * (l * (4 * plan.segment))) y
  same_lanes zero x y a le =
      let none : 128 * (zero * (4 * plan.segment)) ≡ 0 = omega arith in
      ap (λ (n : ℕ). take n x) none ∙ sym (ap (λ (n : ℕ). take n y) none)
  same_lanes (suc l) x y a le =
      let next : 128 * (suc l * (4 * plan.segment)) ≡ 128 * (l * (4 * plan.segment) + 4 * plan.segment) = omega arith in
      ap (λ (n : ℕ). take n x) next
      ∙ same_columns l (4 * plan.segment) x y a (omega arith) (omega arith) (same_lanes l x y a (omega arith))
      ∙ sym (ap (λ (n : ℕ). take n y) next)

  same_memory : (x y : List ℕ) → Agree plan Every x y → x ≡ y
  same_memory x y a =
      let long = a.long in
      let as_long = a.as_long in
      let whole : block_count plan ≡ plan.lanes * (4 * plan.segment) = omega arith in
      sym (take_all (128 * (plan.lanes * (4 * plan.segment))) x (omega (arith, long, whole)))
      ∙ same_lanes plan.lanes x y a (omega arith)
      ∙ take_all (128 * (plan.lanes * (4 * plan.segment))) y (omega (arith, as_long, whole))

  -- ---- the first two blocks of the lanes

  abbrev InBegun : ℕ → ℕ → ℕ → Type 0
  InBegun n l c = (l < n) × (c < 2)

  agree_begun : (h0 : List ℕ) (n : ℕ) (x y : List ℕ) → n ≤ plan.lanes → length x ≡ 128 * block_count plan
      → length y ≡ 128 * block_count plan → Agree plan (InBegun n) (begin_lanes plan h0 n x) (begin_lanes plan h0 n y)
  unfolding begin_lanes
  agree_begun h0 zero x y le ex ey =
      record { long = ex; as_long = ey; blocks = λ l c lt lc q. let no = q.0 in absurd (omega (arith, no)) }
  agree_begun h0 (suc n) x y le ex ey =
      let q = 4 * plan.segment in
      let before = agree_begun h0 n x y (omega arith) ex ey in
      let x1 = begin_lanes plan h0 n x in
      let y1 = begin_lanes plan h0 n y in
      let at = within n plan.lanes q 0 (omega arith) (omega (arith, two_blocks)) in
      let next = within n plan.lanes q 1 (omega arith) (omega (arith, two_blocks)) in
      let P : ℕ → ℕ → Type 0 = λ l c. (l * q + c ≡ n * q) ⊎ InBegun n l c in
      agree_put plan P (InBegun (suc n)) (with_block x1 (n * q) (first_block h0 0 n)) (with_block y1 (n * q) (first_block h0 0 n))
      (first_block h0 1 n) (n * q + 1)
      (agree_put plan (InBegun n) P x1 y1 (first_block h0 0 n) (n * q) before (omega (arith, at)) (length-first_block h0 0 n)
      (λ l c lt lc p. p))
      (omega (arith, next)) (length-first_block h0 1 n)
      (λ l c lt lc p. begun_lane h0 n l c p)
    where
      begun_lane : (h0 : List ℕ) (n l c : ℕ) → InBegun (suc n) l c
          → (l * (4 * plan.segment) + c ≡ n * (4 * plan.segment) + 1) ⊎ ((l * (4 * plan.segment) + c ≡ n * (4 * plan.segment)) ⊎ InBegun n l c)
      begun_lane h0 n l c p =
          let low = p.0 in
          let two = p.1 in
          elim (cases_lt l n) [
            | inl a ↦ inr (inr (a, two))
            | inr b ↦
                let same : l ≡ n = omega arith in
                let lanes = ap (λ (k : ℕ). k * (4 * plan.segment)) same in
                elim (cases_lt c 1) [
                  | inl a ↦ inr (inl (omega (arith, lanes)))
                  | inr a ↦ inl (omega (arith, lanes))
                ]
          ]

  -- the first pass fills all blocks
  same_first_pass : (h0 x y : List ℕ) → length x ≡ 128 * block_count plan → length y ≡ 128 * block_count plan
      → fill_slices plan 0 4 (begin_lanes plan h0 plan.lanes x) ≡ fill_slices plan 0 4 (begin_lanes plan h0 plan.lanes y)
  same_first_pass h0 x y ex ey =
      let x1 = begin_lanes plan h0 plan.lanes x in
      let y1 = begin_lanes plan h0 plan.lanes y in
      same_memory (fill_slices plan 0 4 x1) (fill_slices plan 0 4 y1)
      (weaker (IsFilled plan.segment 4 0 (4 * plan.segment + first 4)) Every (fill_slices plan 0 4 x1) (fill_slices plan 0 4 y1)
      (agree_slices 4 (omega arith) x1 y1
      (weaker (InBegun plan.lanes) (IsFilled plan.segment 0 0 (0 * plan.segment + first 0)) x1 y1
      (agree_begun h0 plan.lanes x y (omega arith) ex ey)
      (λ l c lt lc p. (lt, only_begun l c p))))
      (λ l c lt lc p. InSlices p))
    where
      only_begun : (l c : ℕ) → IsFilled plan.segment 0 0 (0 * plan.segment + first 0) l c → c < 2
      only_begun l c (Begun h) = h
      only_begun l c (InSlices h) = omega arith
      only_begun l c (InLanes e h) = absurd (omega arith)
      only_begun l c (InSegment e h) = omega arith

  -- what the memory holds at first makes no difference
  pub same_filled : (h0 : List ℕ) (n : ℕ) (x y : List ℕ) → 1 ≤ n → length x ≡ 128 * block_count plan
      → length y ≡ 128 * block_count plan
      → fill_passes plan n (begin_lanes plan h0 plan.lanes x) ≡ fill_passes plan n (begin_lanes plan h0 plan.lanes y)
  unfolding fill_passes
  same_filled h0 zero x y some ex ey = absurd (omega arith)
  same_filled h0 (suc zero) x y some ex ey = same_first_pass h0 x y ex ey
  same_filled h0 (suc (suc n)) x y some ex ey = ap (fill_slices plan (suc n) 4) (same_filled h0 (suc n) x y (omega arith) ex ey)
