-- A lenient text is an encoding exactly where its last block is encoded again as it stands.
use Rattle.std.proofs.Common.{◌≡◌, ℕ, zero, suc, ◌+◌, ◌*◌, ◌%◌, ◌<◌, ◌≤◌, Bool, true, List, [], ◌∷◌, ◌++◌, length, map}
use Rattle.std.proofs.Common.{take, drop, refl, sym, ap, ◌∙◌, arith}
use Rattle.std.proofs.lemmas.List.{length-append, length-map, take-append-drop, take_at, length-take-le, take-map}
use Rattle.base64ct.specs.Encoding.{Alphabet, is_alphabet, character, unpadded_encoding, encoding, groups, whole_bytes}
use Rattle.base64ct.specs.Encoding.{EachBelow, IsLenient}
use Rattle.base64ct.proofs.Sextets.{groups-append, groups-nil, groups-whole_bytes, whole_bytes-block}
use Rattle.base64ct.proofs.Sextets.{whole_bytes-append, whole_bytes-nil, whole_bytes-groups}
use Rattle.base64ct.specs.Tables.{stem}
use Rattle.base64ct.proofs.Encodings.{stem-text, groups-below, length-groups, below-take}
use Rattle.base64ct.proofs.Unpadded.{unpadded-append}
use Rattle.base64ct.proofs.Padding.{encoding-is, encoding-from_stem, stem-encoding, length-text_padded}
use Rattle.base64ct.proofs.Decoded.{rest_encoded}

below-four : (v w x y : ℕ) → v < 64 → w < 64 → x < 64 → y < 64 → EachBelow 64 (v ∷ w ∷ x ∷ y ∷ [])
below-four v w x y lv lw lx ly zero = lv
below-four v w x y lv lw lx ly (suc zero) = lw
below-four v w x y lv lw lx ly (suc (suc zero)) = lx
below-four v w x y lv lw lx ly (suc (suc (suc zero))) = ly
below-four v w x y lv lw lx ly (suc (suc (suc (suc i)))) = omega arith

-- whole blocks of values come back from their bytes
pub groups-whole_blocks : (l : Bool) (vs : List ℕ) → EachBelow 64 vs → length vs % 4 ≡ 0
    → (groups l (whole_bytes l vs) ≡ vs) × (4 * length (whole_bytes l vs) ≡ 3 * length vs)
groups-whole_blocks l [] h e = (rw (whole_bytes-nil, groups-nil) refl, rw whole_bytes-nil refl)
groups-whole_blocks l (v ∷ []) h e = absurd (omega arith)
groups-whole_blocks l (v ∷ w ∷ []) h e = absurd (omega arith)
groups-whole_blocks l (v ∷ w ∷ x ∷ []) h e = absurd (omega arith)
groups-whole_blocks l (v ∷ w ∷ x ∷ y ∷ vs) h e =
    let rest = groups-whole_blocks l vs (λ i. h (suc (suc (suc (suc i))))) (omega arith) in
    let first : List ℕ = whole_bytes l (v ∷ w ∷ x ∷ y ∷ []) in
    let block = whole_bytes-block l v w x y (h 0) (h 1) (h 2) (h 3) in
    let four = below-four v w x y (h 0) (h 1) (h 2) (h 3) in
    let split : whole_bytes l (v ∷ w ∷ x ∷ y ∷ vs) ≡ first ++ whole_bytes l vs =
    whole_bytes-append l (v ∷ w ∷ x ∷ y ∷ []) vs four refl in
    let joined : groups l (first ++ whole_bytes l vs) ≡ v ∷ w ∷ x ∷ y ∷ vs =
    groups-append l first (whole_bytes l vs) block.1 (omega arith)
    ∙ rw (groups-whole_bytes l v w x y (h 0) (h 1) (h 2) (h 3), rest.0) refl in
    let len : length (whole_bytes l (v ∷ w ∷ x ∷ y ∷ vs)) ≡ 3 + length (whole_bytes l vs) =
    ap length split ∙ length-append first (whole_bytes l vs) ∙ rw block.0 refl in
    (ap (λ (t : List ℕ). groups l t) split ∙ joined, omega (arith, rest.1))

pub encoding_from_lenient : (a : Alphabet) (t b : List ℕ) (q : ℕ) → is_alphabet a ≡ true → EachBelow 256 b
    → 4 * q ≤ length (stem a t) → IsLenient a t b
    → unpadded_encoding a (drop (3 * q) b) ≡ drop (4 * q) (stem a t) → t ≡ encoding a b
encoding_from_lenient a t b q lawful below fits (values, hv, odd, is, bytes) last =
    let l : Bool = a.low_first in
    let stem_is : stem a t ≡ map (character a) values =
    ap (λ (x : List ℕ). stem a x) is ∙ stem-text a values lawful hv odd in
    let len : length (stem a t) ≡ length values = ap length stem_is ∙ length-map values (character a) in
    let lv : length (take (4 * q) values) ≡ 4 * q = length-take-le (4 * q) values (omega arith) in
    let hf = below-take 64 (4 * q) values (omega arith) hv in
    let back = groups-whole_blocks l (take (4 * q) values) hf (omega arith) in
    let lb : length (whole_bytes l (take (4 * q) values)) ≡ 3 * q = omega (arith, back.1) in
    let split : b ≡ whole_bytes l (take (4 * q) values) ++ whole_bytes l (drop (4 * q) values) =
    bytes ∙ rw (← whole_bytes-append l (take (4 * q) values) (drop (4 * q) values) hf (omega arith), take-append-drop)
    refl in
    let front : take (3 * q) b ≡ whole_bytes l (take (4 * q) values) =
    ap (λ (x : List ℕ). take (3 * q) x) split ∙ take_at (whole_bytes l (take (4 * q) values)) _ (3 * q) lb in
    let groups_front : groups l (take (3 * q) b) ≡ take (4 * q) values =
    ap (λ (x : List ℕ). groups l x) front ∙ back.0 in
    let unpadded_front : unpadded_encoding a (take (3 * q) b) ≡ take (4 * q) (stem a t) =
    rw (groups_front, stem_is) (sym (take-map (character a) (4 * q) values)) in
    let lt : length (take (3 * q) b) ≡ 3 * q = ap length front ∙ lb in
    let whole : stem a t ≡ unpadded_encoding a b =
    sym (take-append-drop (4 * q) (stem a t))
    ∙ rw (← unpadded_front, ← last)
    (sym (unpadded-append a (take (3 * q) b) (drop (3 * q) b) (below-take 256 (3 * q) b (omega arith) below)
    (omega arith)))
    ∙ ap (λ (x : List ℕ). unpadded_encoding a x) (take-append-drop (3 * q) b) in
    encoding-from_stem a t b lawful below
    (λ padded. ap (λ (x : List ℕ). length x % 4) is ∙ length-text_padded a values padded) whole

pub lenient_from_encoding : (a : Alphabet) (t b : List ℕ) (q : ℕ) → is_alphabet a ≡ true → EachBelow 256 b
    → 4 * q ≤ length (stem a t) → t ≡ encoding a b
    → IsLenient a t b × (unpadded_encoding a (drop (3 * q) b) ≡ drop (4 * q) (stem a t))
lenient_from_encoding a t b q lawful below fits is =
    let l : Bool = a.low_first in
    let stem_is : unpadded_encoding a b ≡ stem a t =
    sym (ap (λ (x : List ℕ). stem a x) is ∙ stem-encoding a b lawful below) in
    let lenient : IsLenient a t b = (
      groups l b,
      groups-below l b below,
      (λ e. omega (arith, length-groups l b below)),
      is ∙ encoding-is a b,
      sym (whole_bytes-groups l b below),
    ) in
    (lenient, rest_encoded a (stem a t) b q below fits stem_is)
