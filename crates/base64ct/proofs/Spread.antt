-- Bytes are taken apart to their values, block by block.
use Rattle.std.proofs.Common.{◌≡◌, ℕ, ◌+◌, ◌*◌, ◌/◌, ◌<◌, ◌≤◌, Bool, List, [], ◌∷◌, ◌++◌, length, take, drop}
use Rattle.std.proofs.Common.{slice_index, refl, sym, ap, ◌∙◌, arith}
use Rattle.std.proofs.lemmas.List.{append_assoc, take_at, take_more, take-append-drop, length-take-le, take_all}
use borrow.Rule.Slice.PartMut.{put_mid}
use Rattle.base64ct.specs.Encoding.{groups, EachBelow}
use Rattle.base64ct.proofs.Sextets.{groups-append, groups-fill_one, groups-fill_two}
use Rattle.base64ct.proofs.Encodings.{length-groups, below-take, below-one, below-two}
use Rattle.base64ct.proofs.Unpadded.{put_after}

take_three : (m : List ℕ) (i : ℕ) → i + 3 ≤ length m
    → take (i + 3) m ≡ take i m ++ slice_index m i ∷ slice_index m (i + 1) ∷ slice_index m (i + 2) ∷ []
take_three m i h =
    let a : take (i + 1) m ≡ take i m ++ slice_index m i ∷ [] = take_more m i 0 (omega arith) in
    let b : take (i + 1 + 1) m ≡ take (i + 1) m ++ slice_index m (i + 1) ∷ [] = take_more m (i + 1) 0 (omega arith) in
    let c : take (i + 1 + 1 + 1) m ≡ take (i + 1 + 1) m ++ slice_index m (i + 1 + 1) ∷ [] =
    take_more m (i + 1 + 1) 0 (omega arith) in
    let two : i + 1 + 1 ≡ i + 2 = omega arith in
    let three : i + 1 + 1 + 1 ≡ i + 3 = omega arith in
    rw (← three, c, b, a) (simp append_assoc (rw two refl))

-- the values of one block more
pub groups_more : (o : Bool) (src block : List ℕ) (i : ℕ) → EachBelow 256 src → 3 * i + 3 ≤ length src
    → block ≡ groups o (slice_index src (3 * i) ∷ slice_index src (3 * i + 1) ∷ slice_index src (3 * i + 2) ∷ [])
    → groups o (take (3 * (i + 1)) src) ≡ groups o (take (3 * i) src) ++ block
groups_more o src block i h fits e =
    let next : 3 * (i + 1) ≡ 3 * i + 3 = omega arith in
    let len : length (take (3 * i) src) ≡ 3 * i = length-take-le (3 * i) src (omega arith) in
    rw (
      next,
      take_three src (3 * i) fits,
      groups-append o (take (3 * i) src) _ (below-take 256 (3 * i) src (omega arith) h) (omega arith),
      e,
    ) refl

length-groups_front : (o : Bool) (src : List ℕ) (i : ℕ) → EachBelow 256 src → 3 * i ≤ length src
    → length (groups o (take (3 * i) src)) ≡ 4 * i
length-groups_front o src i h fits =
    omega (
      arith,
      length-groups o (take (3 * i) src) (below-take 256 (3 * i) src (omega arith) h),
      length-take-le (3 * i) src fits,
    )

-- one block more is written
pub written_more : (o : Bool) (src old dst block : List ℕ) (i k : ℕ) → EachBelow 256 src → 3 * i + 3 ≤ length src
    → k ≡ 4
    → dst ≡ groups o (take (3 * i) src) ++ drop (4 * i) old
    → block ≡ groups o (slice_index src (3 * i) ∷ slice_index src (3 * i + 1) ∷ slice_index src (3 * i + 2) ∷ [])
    → put_mid (4 * i) k dst block ≡ groups o (take (3 * (i + 1)) src) ++ drop (4 * (i + 1)) old
written_more o src old dst block i k h fits ek e eb =
    let next : 4 * i + k ≡ 4 * (i + 1) = omega arith in
    put_after (groups o (take (3 * i) src)) old dst block (4 * i) k e (length-groups_front o src i h (omega arith))
    ∙ rw (next, groups_more o src block i h fits eb) refl

-- the last values are written
pub written_last : (o : Bool) (src old dst rest ys : List ℕ) (i j k l : ℕ) → EachBelow 256 src → 3 * i ≤ length src
    → j ≡ i → l ≡ 4 * i + k
    → dst ≡ groups o (take (3 * j) src) ++ drop (4 * j) old → drop (3 * i) src ≡ rest → ys ≡ groups o rest
    → put_mid (4 * i) k dst ys ≡ groups o src ++ drop l old
written_last o src old dst rest ys i j k l h fits same el e er ey =
    let len : length (take (3 * i) src) ≡ 3 * i = length-take-le (3 * i) src fits in
    let held : dst ≡ groups o (take (3 * i) src) ++ drop (4 * i) old = rw (← same) e in
    let whole : groups o src ≡ groups o (take (3 * i) src) ++ ys =
    rw (
      ey,
      ← er,
      ← groups-append o (take (3 * i) src) (drop (3 * i) src) (below-take 256 (3 * i) src (omega arith) h)
          (omega arith),
      take-append-drop,
    ) refl in
    rw (el, whole) (put_after (groups o (take (3 * i) src)) old dst ys (4 * i) k held
    (length-groups_front o src i h fits))

pub written_all : (o : Bool) (src old dst : List ℕ) (i j : ℕ) → length src ≡ 3 * i → j ≡ i
    → dst ≡ groups o (take (3 * j) src) ++ drop (4 * j) old → dst ≡ groups o src ++ drop (4 * i) old
written_all o src old dst i j len same e =
    let all : take (3 * i) src ≡ src = take_all (3 * i) src (omega arith) in
    rw (← same, ← all, ← same) e

-- the values of a last block stand at its front
pub groups_of_one : (o : Bool) (b : ℕ) → b < 256 → take 2 (groups o (b ∷ 0 ∷ 0 ∷ [])) ≡ groups o (b ∷ [])
groups_of_one o b lb = rw (groups-fill_one o b lb)
    (take_at (groups o (b ∷ [])) _ 2 (length-groups o (b ∷ []) (below-one b lb)))

pub groups_of_two : (o : Bool) (b c : ℕ) → b < 256 → c < 256
    → take 3 (groups o (b ∷ c ∷ 0 ∷ [])) ≡ groups o (b ∷ c ∷ [])
groups_of_two o b c lb lc =
    rw (groups-fill_two o b c lb lc)
    (take_at (groups o (b ∷ c ∷ [])) _ 3 (length-groups o (b ∷ c ∷ []) (below-two b c lb lc)))

-- the values that stand at the front
pub values_front : (o : Bool) (src old dst : List ℕ) (n : ℕ) → EachBelow 256 src → n ≡ (4 * length src + 2) / 3
    → dst ≡ groups o src ++ drop n old → take n dst ≡ groups o src
values_front o src old dst n h en e =
    ap (λ (x : List ℕ). take n x) e ∙ take_at (groups o src) (drop n old) n (length-groups o src h ∙ sym en)
