-- Bytes that wait, and the blocks that they make with what follows.
use Rattle.std.proofs.Common.{◌≡◌, ℕ, suc, ◌+◌, ◌*◌, ◌/◌, ◌<◌, ◌≤◌, List, [], ◌∷◌, ◌++◌, length, take, drop, refl, ap}
use Rattle.std.proofs.Common.{◌∙◌, arith, slice_index}
use Rattle.std.proofs.lemmas.List.{length-append, get_or-take}
use Rattle.base64ct.specs.Encoding.{Alphabet, unpadded_encoding, EachBelow}
use Rattle.base64ct.proofs.Encodings.{below-three}
use Rattle.base64ct.proofs.Unpadded.{unpadded-append, unpadded-nil}
use Rattle.base64ct.specs.Encoders.{wrap_from, room_after, whole_blocks, Wrote}
use Rattle.base64ct.proofs.Wrapping.{wrap-append, wrote_none}

pub whole_more : (x y z : ℕ) (t : List ℕ) → whole_blocks (x ∷ y ∷ z ∷ t) ≡ x ∷ y ∷ z ∷ whole_blocks t
whole_more x y z t =
    let count : 3 * (length (x ∷ y ∷ z ∷ t) / 3) ≡ suc (suc (suc (3 * (length t / 3)))) = omega arith in
    rw count refl

pub rest_more : (x y z : ℕ) (t : List ℕ)
    → drop (3 * (length (x ∷ y ∷ z ∷ t) / 3)) (x ∷ y ∷ z ∷ t) ≡ drop (3 * (length t / 3)) t
rest_more x y z t =
    let count : 3 * (length (x ∷ y ∷ z ∷ t) / 3) ≡ suc (suc (suc (3 * (length t / 3)))) = omega arith in
    rw count refl

pub held_one : (waiting input : List ℕ) (n : ℕ) → n ≡ 1 → length waiting ≡ 2 → 2 ≤ length input
    → take n waiting ++ input ≡ slice_index waiting 0 ∷ slice_index input 0 ∷ slice_index input 1 ∷ drop 2 input
held_one [] input n is two h = absurd (omega arith)
held_one (v ∷ vs) [] n is two h = absurd (omega arith)
held_one (v ∷ vs) (i ∷ []) n is two h = absurd (omega arith)
held_one (v ∷ vs) (i ∷ j ∷ js) n is two h = rw is refl

pub held_two : (waiting input : List ℕ) (n : ℕ) → n ≡ 2 → length waiting ≡ 2 → 1 ≤ length input
    → take n waiting ++ input ≡ slice_index waiting 0 ∷ slice_index waiting 1 ∷ slice_index input 0 ∷ drop 1 input
held_two [] input n is two h = absurd (omega arith)
held_two (v ∷ []) input n is two h = absurd (omega arith)
held_two (v ∷ w ∷ vs) [] n is two h = absurd (omega arith)
held_two (v ∷ w ∷ vs) (i ∷ js) n is two h = rw is refl

-- the characters of the whole blocks that are held are those of the first, and of the others
pub letters_held : (a : Alphabet) (held block t : List ℕ) (x y z : ℕ) → x < 256 → y < 256 → z < 256
    → held ≡ x ∷ y ∷ z ∷ t → block ≡ unpadded_encoding a (x ∷ y ∷ z ∷ [])
    → unpadded_encoding a (whole_blocks held) ≡ block ++ unpadded_encoding a (whole_blocks t)
letters_held a held block t x y z lx ly lz is eb =
    rw (is, whole_more x y z t, eb)
    (unpadded-append a (x ∷ y ∷ z ∷ []) (whole_blocks t) (below-three x y z lx ly lz) refl)

pub letters_one : (a : Alphabet) (waiting input block : List ℕ) (n : ℕ) → n ≡ 1 → length waiting ≡ 2
    → 2 ≤ length input → EachBelow 256 (take n waiting) → EachBelow 256 input
    → block ≡ unpadded_encoding a (slice_index waiting 0 ∷ slice_index input 0 ∷ slice_index input 1 ∷ [])
    → unpadded_encoding a (whole_blocks (take n waiting ++ input))
    ≡ block ++ unpadded_encoding a (whole_blocks (drop 2 input))
letters_one a waiting input block n is two h hw hi eb =
    letters_held a (take n waiting ++ input) block (drop 2 input) (slice_index waiting 0)
    (slice_index input 0) (slice_index input 1)
    (omega (arith, hw 0, get_or-take n waiting 0 0 (omega arith)))
    (hi 0)
    (hi 1)
    (held_one waiting input n is two h) eb

pub rest_one : (waiting input : List ℕ) (n : ℕ) → n ≡ 1 → length waiting ≡ 2 → 2 ≤ length input
    → drop (3 * (length (take n waiting ++ input) / 3)) (take n waiting ++ input)
    ≡ drop (3 * (length (drop 2 input) / 3)) (drop 2 input)
rest_one waiting input n is two h =
    rw (held_one waiting input n is two h)
    (rest_more (slice_index waiting 0) (slice_index input 0) (slice_index input 1) (drop 2 input))

pub letters_two : (a : Alphabet) (waiting input block : List ℕ) (n : ℕ) → n ≡ 2 → length waiting ≡ 2
    → 1 ≤ length input → EachBelow 256 (take n waiting) → EachBelow 256 input
    → block ≡ unpadded_encoding a (slice_index waiting 0 ∷ slice_index waiting 1 ∷ slice_index input 0 ∷ [])
    → unpadded_encoding a (whole_blocks (take n waiting ++ input))
    ≡ block ++ unpadded_encoding a (whole_blocks (drop 1 input))
letters_two a waiting input block n is two h hw hi eb =
    letters_held a (take n waiting ++ input) block (drop 1 input) (slice_index waiting 0)
    (slice_index waiting 1) (slice_index input 0)
    (omega (arith, hw 0, get_or-take n waiting 0 0 (omega arith)))
    (omega (arith, hw 1, get_or-take n waiting 1 0 (omega arith)))
    (hi 0)
    (held_two waiting input n is two h) eb

pub rest_two : (waiting input : List ℕ) (n : ℕ) → n ≡ 2 → length waiting ≡ 2 → 1 ≤ length input
    → drop (3 * (length (take n waiting ++ input) / 3)) (take n waiting ++ input)
    ≡ drop (3 * (length (drop 1 input) / 3)) (drop 1 input)
rest_two waiting input n is two h =
    rw (held_two waiting input n is two h)
    (rest_more (slice_index waiting 0) (slice_index waiting 1) (slice_index input 0) (drop 1 input))

-- where characters fit, the first of them fit and the others fit behind these
pub parts_fit : (w : ℕ) (e out block more : List ℕ) (position room : ℕ)
    → position + length (wrap_from w e room (block ++ more)) ≤ length out
    → position + length (wrap_from w e room block) + length (wrap_from w e (room_after w room (length block)) more)
    ≤ length out
parts_fit w e out block more position room h =
    let n = ap length (wrap-append w e room block more) ∙ length-append (wrap_from w e room block) _ in
    omega (arith, h, n)

-- nothing is written where fewer than three bytes are held
pub held_none : (a : Alphabet) (w : ℕ) (e out held : List ℕ) (position room : ℕ) → position ≤ length out
    → length held < 3 → Wrote w e out out position position room room (unpadded_encoding a (whole_blocks held))
held_none a w e out held position room h few =
    let none : 3 * (length held / 3) ≡ 0 = omega arith in
    rw (none, unpadded-nil a) (wrote_none w e out position room h)
