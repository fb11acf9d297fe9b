-- The characters of bytes, block by block.
use Rattle.std.proofs.Common.{◌≡◌, ℕ, zero, suc, ◌+◌, ◌*◌, ◌/◌, ◌%◌, ◌<◌, true, List, [], ◌∷◌, ◌++◌, length, map, take}
use Rattle.std.proofs.Common.{drop, slice_index, Option, Some, None, refl, sym, ap, ◌∙◌, subst, arith}
use Rattle.std.proofs.lemmas.List.{append_assoc, length-map, map-append, take_at, drop_at, drop-drop, drop_all}
use Rattle.std.proofs.lemmas.List.{drop_more}
use borrow.Rule.Slice.PartMut.{put_mid, post_of}
use Rattle.base64ct.specs.Encoding.{Alphabet, is_alphabet, character, unpadded_encoding, groups, whole_bytes, EachBelow}
use Rattle.base64ct.specs.Encoding.{AreCharacters}
use Rattle.base64ct.proofs.Sextets.{groups-append, groups-fill_one, groups-fill_two, groups-nil, whole_bytes-groups}
use Rattle.base64ct.proofs.Values.{value_at, map-value-character, value_of-character}
use Rattle.base64ct.proofs.Encodings.{length-groups, groups-below}

pub length-unpadded : (a : Alphabet) (bytes : List ℕ) → EachBelow 256 bytes
    → length (unpadded_encoding a bytes) ≡ (4 * length bytes + 2) / 3
length-unpadded a bytes h = length-map (groups a.low_first bytes) (character a) ∙ length-groups a.low_first bytes h

pub unpadded-append : (a : Alphabet) (xs ys : List ℕ) → EachBelow 256 xs → length xs % 3 ≡ 0
    → unpadded_encoding a (xs ++ ys) ≡ unpadded_encoding a xs ++ unpadded_encoding a ys
unpadded-append a xs ys h e =
    rw (groups-append a.low_first xs ys h e) (map-append (character a) (groups a.low_first xs) (groups a.low_first ys))

pub unpadded-fill_one : (a : Alphabet) (b : ℕ) → b < 256
    → unpadded_encoding a (b ∷ 0 ∷ 0 ∷ []) ≡ unpadded_encoding a (b ∷ []) ++ character a 0 ∷ character a 0 ∷ []
unpadded-fill_one a b lb =
    rw (groups-fill_one a.low_first b lb) (map-append (character a) (groups a.low_first (b ∷ [])) (0 ∷ 0 ∷ []))

pub unpadded-fill_two : (a : Alphabet) (b c : ℕ) → b < 256 → c < 256
    → unpadded_encoding a (b ∷ c ∷ 0 ∷ []) ≡ unpadded_encoding a (b ∷ c ∷ []) ++ character a 0 ∷ []
unpadded-fill_two a b c lb lc =
    rw (groups-fill_two a.low_first b c lb lc) (map-append (character a) (groups a.low_first (b ∷ c ∷ [])) (0 ∷ []))

pub unpadded-nil : (a : Alphabet) → unpadded_encoding a [] ≡ []
unpadded-nil a = rw (groups-nil a.low_first) refl

-- the bytes come back from their characters
pub bytes-unpadded : (a : Alphabet) (bytes : List ℕ) → is_alphabet a ≡ true → EachBelow 256 bytes
    → whole_bytes a.low_first (map (value_at a.characters) (unpadded_encoding a bytes)) ≡ bytes
bytes-unpadded a bytes lawful h =
    rw (map-value-character a (groups a.low_first bytes) lawful (groups-below a.low_first bytes h))
    (whole_bytes-groups a.low_first bytes h)

pub unpadded_once : (a : Alphabet) (b c : List ℕ) → is_alphabet a ≡ true → EachBelow 256 b → EachBelow 256 c
    → unpadded_encoding a b ≡ unpadded_encoding a c → b ≡ c
unpadded_once a b c lawful hb hc e =
    sym (bytes-unpadded a b lawful hb) ∙ ap (λ (t : List ℕ). whole_bytes a.low_first (map (value_at a.characters) t)) e
    ∙ bytes-unpadded a c lawful hc

pub are_characters-map : (a : Alphabet) (values : List ℕ) → is_alphabet a ≡ true → EachBelow 64 values
    → AreCharacters a (map (character a) values)
are_characters-map a [] lawful h i lt e = omega arith
are_characters-map a (v ∷ vs) lawful h zero lt e = Some≢None (sym (value_of-character a v lawful (h 0)) ∙ e)
  where
    Some≢None : Some v ≡ None → ⊥
    Some≢None p = subst (λ (o : Option ℕ). elim o as (λ _. Type 0) [ None ↦ ⊥ | Some x ↦ Unit {0} ]) p tt
are_characters-map a (v ∷ vs) lawful h (suc i) lt e = are_characters-map a vs lawful (λ j. h (suc j)) i (omega arith) e

pub are_characters-unpadded : (a : Alphabet) (bytes : List ℕ) → is_alphabet a ≡ true → EachBelow 256 bytes
    → AreCharacters a (unpadded_encoding a bytes)
are_characters-unpadded a bytes lawful h =
    are_characters-map a (groups a.low_first bytes) lawful (groups-below a.low_first bytes h)

-- ---- writes

-- a write of ys behind what was written
pub put_after : (front old dst ys : List ℕ) (n k : ℕ) → dst ≡ front ++ drop n old → length front ≡ n
    → put_mid n k dst ys ≡ (front ++ ys) ++ drop (n + k) old
put_after front old dst ys n k e len =
    let t : take n dst ≡ front = rw e (take_at front (drop n old) n len) in
    let d : drop n dst ≡ drop n old = rw e (drop_at front (drop n old) n len) in
    let post : post_of n k dst ≡ drop (n + k) old = rw (← drop-drop k n old, ← d) refl in
    rw (t, post) (sym (append_assoc front ys (drop (n + k) old)))

-- ---- what is left behind whole blocks

-- what is left behind whole blocks
pub rest_one : (m : List ℕ) (i : ℕ) → length m ≡ i + 1 → drop i m ≡ slice_index m i ∷ []
rest_one m i h = drop_more m i 0 (omega arith)
    ∙ ap (λ (t : List ℕ). slice_index m i ∷ t) (drop_all (i + 1) m (omega arith))

pub rest_two : (m : List ℕ) (i : ℕ) → length m ≡ i + 2 → drop i m ≡ slice_index m i ∷ slice_index m (i + 1) ∷ []
rest_two m i h =
    drop_more m i 0 (omega arith) ∙ ap (λ (t : List ℕ). slice_index m i ∷ t) (rest_one m (i + 1) (omega arith))
