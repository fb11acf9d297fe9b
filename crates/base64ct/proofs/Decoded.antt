-- How far a text is read.
use Rattle.std.proofs.Common.{◌≡◌, ◌↔◌, ℕ, zero, suc, ◌+◌, ◌-◌, ◌*◌, ◌/◌, ◌%◌, ◌≤◌, true, List, [], ◌∷◌, ◌++◌, length}
use Rattle.std.proofs.Common.{take, drop, slice_index, bit_or, refl, sym, ap, ◌∙◌, subst, arith}
use Rattle.std.proofs.lemmas.List.{append_assoc, drop_at, take_more, take-append-drop, length-take-le, length-drop}
use Rattle.std.proofs.lemmas.List.{drop-drop}
use Rattle.std.proofs.lemmas.Slice.{take-put_mid, drop-put_mid, take-put_mid_below}
use borrow.Rule.Slice.PartMut.{put_mid}
use Rattle.base64ct.specs.Encoding.{Alphabet, is_alphabet, unpadded_encoding, byte_count, EachBelow, AreCharacters}
use Rattle.base64ct.proofs.Encodings.{below-take, below-drop}
use Rattle.base64ct.proofs.Unpadded.{unpadded-append, length-unpadded, unpadded-nil, are_characters-unpadded}
use Rattle.base64ct.proofs.Last.{or_zero_l, or_zero_r}

-- the first blocks of src are read into dst, which was old
pub record Progress (a : Alphabet) (src old dst : List ℕ) (blocks fault : ℕ) : Type 0 where
  pub read : fault ≡ 0 → unpadded_encoding a (take (3 * blocks) dst) ≡ take (4 * blocks) src
  pub accepted : AreCharacters a src → fault ≡ 0
  pub rest : drop (3 * blocks) dst ≡ drop (3 * blocks) old

pub progress_none : (a : Alphabet) (src old : List ℕ) → Progress a src old old 0 0
progress_none a src old = record { read = λ _. unpadded-nil a; accepted = λ _. refl; rest = refl }

take_four : (m : List ℕ) (i : ℕ) → i + 4 ≤ length m
    → take (i + 4) m ≡ take i m ++ slice_index m i ∷ slice_index m (i + 1) ∷ slice_index m (i + 2)
    ∷ slice_index m (i + 3) ∷ []
take_four m i h =
    let a : take (i + 1) m ≡ take i m ++ slice_index m i ∷ [] = take_more m i 0 (omega arith) in
    let b : take (i + 1 + 1) m ≡ take (i + 1) m ++ slice_index m (i + 1) ∷ [] = take_more m (i + 1) 0 (omega arith) in
    let c : take (i + 1 + 1 + 1) m ≡ take (i + 1 + 1) m ++ slice_index m (i + 1 + 1) ∷ [] =
    take_more m (i + 1 + 1) 0 (omega arith) in
    let d : take (i + 1 + 1 + 1 + 1) m ≡ take (i + 1 + 1 + 1) m ++ slice_index m (i + 1 + 1 + 1) ∷ [] =
    take_more m (i + 1 + 1 + 1) 0 (omega arith) in
    let two : i + 1 + 1 ≡ i + 2 = omega arith in
    let three : i + 2 + 1 ≡ i + 3 = omega arith in
    let four : i + 1 + 1 + 1 + 1 ≡ i + 4 = omega arith in
    rw (← four, d, c, b, a) (simp append_assoc (rw (two, three) refl))

block_of : (a : Alphabet) (src : List ℕ) (i : ℕ) → i + 4 ≤ length src → AreCharacters a src
    → AreCharacters a (slice_index src i ∷ slice_index src (i + 1) ∷ slice_index src (i + 2) ∷ slice_index src (i + 3)
    ∷ [])
block_of a src i fits all zero lt = all i (omega arith)
block_of a src i fits all (suc zero) lt = all (i + 1) (omega arith)
block_of a src i fits all (suc (suc zero)) lt = all (i + 2) (omega arith)
block_of a src i fits all (suc (suc (suc zero))) lt = all (i + 3) (omega arith)
block_of a src i fits all (suc (suc (suc (suc j)))) lt = absurd (omega arith)

-- the bytes before o, and what is written there
pub front_written : (dst bytes : List ℕ) (o k n : ℕ) → n ≡ o + length bytes → o ≤ length dst
    → EachBelow 256 (put_mid o k dst bytes)
    → (take n (put_mid o k dst bytes) ≡ take o dst ++ bytes) × EachBelow 256 (take o dst)
front_written dst bytes o k n e fits below =
    let same : take o (put_mid o k dst bytes) ≡ take o dst = take-put_mid_below o k dst bytes o (omega arith) fits in (
      take-put_mid o k dst bytes n e fits,
      subst (EachBelow 256) same (below-take 256 o (put_mid o k dst bytes) (omega arith) below),
    )

-- a block more
pub progress_more : (a : Alphabet) (src old dst bytes : List ℕ) (i fault wrong k : ℕ) → 4 * i + 4 ≤ length src
    → 3 * i + 3 ≤ length dst → k ≡ 3 → length bytes ≡ 3
    → EachBelow 256 (put_mid (3 * i) k dst bytes)
    → (wrong ≡ 0) ↔ AreCharacters a
    (slice_index src (4 * i) ∷ slice_index src (4 * i + 1) ∷ slice_index src (4 * i + 2)
    ∷ slice_index src (4 * i + 3) ∷ [])
    → (wrong ≡ 0 → unpadded_encoding a bytes ≡ slice_index src (4 * i) ∷ slice_index src (4 * i + 1)
    ∷ slice_index src (4 * i + 2) ∷ slice_index src (4 * i + 3) ∷ [])
    → Progress a src old dst i fault → Progress a src old (put_mid (3 * i) k dst bytes) (i + 1) (bit_or fault wrong)
progress_more a src old dst bytes i fault wrong k fits room ek len below iff block p =
    let front = front_written dst bytes (3 * i) k (3 * (i + 1)) (omega arith) (omega arith) below in
    let next4 : 4 * (i + 1) ≡ 4 * i + 4 = omega arith in
    let next3 : 3 * (i + 1) ≡ 3 * i + 3 = omega arith in
    let aligned : length (take (3 * i) dst) % 3 ≡ 0 = omega (arith, length-take-le (3 * i) dst (omega arith)) in
    record {
      read = λ none. rw (
        front.0,
        next4,
        take_four src (4 * i) fits,
        unpadded-append a (take (3 * i) dst) bytes front.1 aligned,
        p.read (or_zero_l fault wrong none),
        block (or_zero_r fault wrong none),
      ) refl;
      accepted = λ all. rw (p.accepted all, iff.1 (block_of a src (4 * i) fits all)) refl;
      rest = drop-put_mid (3 * i) k dst bytes (3 * (i + 1)) (omega arith) (omega arith) (omega arith)
          ∙ rw (next3, ← drop-drop 3 (3 * i) dst, ← drop-drop 3 (3 * i) old, p.rest) refl;
    }

-- ---- the end of the text

pub end_read : (a : Alphabet) (src old dst bytes last rest : List ℕ) (i j fault wrong k n : ℕ) → j ≡ i
    → i ≡ length src / 4 → k ≡ length src % 4 * 3 / 4 → n ≡ byte_count (length src)
    → byte_count (length src) ≤ length dst → length last ≡ k → last ≡ take k bytes → rest ≡ drop (4 * i) src
    → EachBelow 256 (put_mid (3 * i) k dst last)
    → (wrong ≡ 0 → unpadded_encoding a (take (byte_count (length rest)) bytes) ≡ rest)
    → Progress a src old dst j fault → bit_or fault wrong ≡ 0
    → unpadded_encoding a (take n (put_mid (3 * i) k dst last)) ≡ src
end_read a src old dst bytes last rest i j fault wrong k n ej ei ek en room ll el er below tail p none =
    let front = front_written dst last (3 * i) k n (omega arith) (omega arith) below in
    let aligned : length (take (3 * i) dst) % 3 ≡ 0 = omega (arith, length-take-le (3 * i) dst (omega arith)) in
    let lr : length rest ≡ length src - 4 * i = ap length er ∙ length-drop (4 * i) src in
    let count : byte_count (length rest) ≡ k = omega arith in
    let read : unpadded_encoding a (take (3 * i) dst) ≡ take (4 * i) src =
    rw (← ej) (p.read (or_zero_l fault wrong none)) in
    let tail_read : unpadded_encoding a last ≡ drop (4 * i) src =
    rw (el, ← count) (tail (or_zero_r fault wrong none)) ∙ er in
    rw (front.0, unpadded-append a (take (3 * i) dst) last front.1 aligned, read, tail_read)
    (take-append-drop (4 * i) src)

-- what the last block encodes, where the text encodes bytes
pub rest_encoded : (a : Alphabet) (src bytes : List ℕ) (i : ℕ) → EachBelow 256 bytes → 4 * i ≤ length src
    → unpadded_encoding a bytes ≡ src → unpadded_encoding a (drop (3 * i) bytes) ≡ drop (4 * i) src
rest_encoded a src bytes i below fits e =
    let len : length src ≡ (4 * length bytes + 2) / 3 = sym (ap length e) ∙ length-unpadded a bytes below in
    let lt : length (take (3 * i) bytes) ≡ 3 * i = length-take-le (3 * i) bytes (omega arith) in
    let front = below-take 256 (3 * i) bytes (omega arith) below in
    let lf : length (unpadded_encoding a (take (3 * i) bytes)) ≡ 4 * i =
    omega (arith, length-unpadded a (take (3 * i) bytes) front) in
    let whole : src ≡ unpadded_encoding a (take (3 * i) bytes) ++ unpadded_encoding a (drop (3 * i) bytes) =
    sym e ∙ rw (← unpadded-append a (take (3 * i) bytes) (drop (3 * i) bytes) front (omega arith), take-append-drop)
    refl in
    rw whole (sym (drop_at (unpadded_encoding a (take (3 * i) bytes)) (unpadded_encoding a (drop (3 * i) bytes)) (4 * i)
    lf))

pub end_encoded : (a : Alphabet) (src old dst rest bytes : List ℕ) (i j fault wrong : ℕ) → is_alphabet a ≡ true
    → i ≡ length src / 4 → rest ≡ drop (4 * i) src
    → ((accepted : List ℕ) → EachBelow 256 accepted → unpadded_encoding a accepted ≡ rest → wrong ≡ 0)
    → Progress a src old dst j fault → EachBelow 256 bytes → unpadded_encoding a bytes ≡ src → bit_or fault wrong ≡ 0
end_encoded a src old dst rest bytes i j fault wrong lawful ei er tail p below e =
    let all : AreCharacters a src = subst (AreCharacters a) e (are_characters-unpadded a bytes lawful below) in
    let last : wrong ≡ 0 = tail (drop (3 * i) bytes) (below-drop 256 (3 * i) bytes below)
    (rest_encoded a src bytes i below (omega arith) e ∙ sym er) in
    rw (p.accepted all, last) refl

pub end_rest : (a : Alphabet) (src old dst last : List ℕ) (i j fault k n : ℕ) → j ≡ i → n ≡ 3 * i + k
    → 3 * i + k ≤ length dst → length last ≡ k
    → Progress a src old dst j fault → drop n (put_mid (3 * i) k dst last) ≡ drop n old
end_rest a src old dst last i j fault k n ej en room ll p =
    let held : drop (3 * i) dst ≡ drop (3 * i) old = rw (← ej) p.rest in
    drop-put_mid (3 * i) k dst last n (omega arith) (omega arith) ll
    ∙ rw (en, ← drop-drop k (3 * i) dst, ← drop-drop k (3 * i) old, held) refl
