-- A turn in which a buffer is filled line by line: with what it begins, and what it adds. Each lemma takes how far the
-- buffer is filled before, and the place and the room behind the line ending.
use Rattle.std.proofs.Common.{◌≡◌, ◌≢◌, ◌+◌, ◌-◌, ◌*◌, ◌/◌, ◌%◌, ◌<◌, ◌≤◌, ◌++◌, ℕ, List, Bool, true, false, length}
use Rattle.std.proofs.Common.{take, drop, arith, ap, ◌∙◌, sym, subst}
use Rattle.std.proofs.lemmas.List.{length-take-le, length-drop, take_at, take_all, drop_at}
use Rattle.std.proofs.lemmas.Slice.{take-put_mid}
use borrow.Rule.Slice.PartMut.{put_mid}
use Rattle.base64ct.specs.Encoding.{Alphabet, is_alphabet, AreCharacters, EachBelow, unpadded_encoding, byte_count}
use Rattle.base64ct.specs.Blocks.{IsEncoding, last_block, decoded, AskedAreGood}
use Rattle.base64ct.specs.Decoders.{Ahead, FirstRead, Standing, Filling}
use Rattle.base64ct.specs.Wrapping.{characters_from}
use Rattle.base64ct.proofs.Encodings.{below-take, below-drop}
use Rattle.base64ct.proofs.Written.{length_front, length_written}
use Rattle.base64ct.proofs.Fills.{filling_first, filling_moved, filling_more, standing_first, refused}
use Rattle.base64ct.proofs.Strides.{filling_blocks, blocks_refused}

-- ---- the bytes of the block that was kept come first, up to its end

abbrev pub IsFirst : ℕ → ℕ → ℕ → Type 0
IsFirst n read first = (first ≤ n) × (read % 3 ≡ 0 → first ≡ 0) × (read % 3 ≢ 0 → read % 3 + first ≤ 3)
    × (first < n → (read + first) % 3 ≡ 0)

pub first_none : (n read first : ℕ) → read % 3 ≡ 0 → first ≡ 0 → IsFirst n read first
first_none n read first whole none = (omega arith, λ _. none, λ ne. absurd (ne whole), λ _. omega arith)

pub first_some : (n read first : ℕ) → (read % 3 ≡ 0 → ⊥) → first ≤ n → first ≤ 3 - read % 3
    → (first < n → first ≡ 3 - read % 3) → IsFirst n read first
first_some n read first part le few end =
    (le, λ e. absurd (part e), λ ne. omega arith, λ lt. omega (arith, end lt))

pub turns_begin : {a : Alphabet} {w : ℕ} {body t kept : List ℕ} {read at room : ℕ}
    → Standing a w body t kept at room read → (out ys : List ℕ) (first k : ℕ) → IsFirst (length out) read first
    → length ys ≡ first → k ≡ first
    → ys ≡ take k (drop (read % 3) kept) → read + length (ys ++ drop first out) ≤ length (decoded a t)
    → Filling a w body t (ys ++ drop first out) kept read first at room
turns_begin {a} {w} {body} {t} {kept} {read} {at} {room} s out ys first k is ly same copied fits =
    let ln = length_front first ys out ly is.0 in
    filling_first a w body t out (ys ++ drop first out) kept read first at room s (omega (arith, fits, ln)) ln is.0 is.1
    is.2 is.3 (take_at ys (drop first out) first ly ∙ copied ∙ ap (λ (n : ℕ). take n (drop (read % 3) kept)) same)

-- ---- one turn

module _ {a : Alphabet} {w : ℕ} {body t out kept : List ℕ} {from done at room : ℕ} where
  -- the next block is read behind the line ending
  pub turn_begins : {P : List ℕ → Type 0} → Filling a w body t out kept from done at room → (start space : ℕ)
      → characters_from w space (drop start body) ≡ characters_from w room (drop at body) → start ≤ length body
      → done < length out → from + length out ≤ length (decoded a t)
      → ((s : List ℕ) → Ahead w body start space s → 0 < length s → IsEncoding a (last_block s) → P s)
      → Filling a w body t out kept from done start space × P (drop (4 * ((from + done) / 3)) t)
  turn_begins f start space same within lt fits first =
      let g = filling_moved a w body t out kept from done at room start space same within f in
      let here = standing_first a w body t kept start space (from + done) g.stands (g.aligned lt) (omega arith) in
      (g, first _ here.0 here.1 here.2)

  pub turn_refused : Filling a w body t out kept from done at room → (start space n : ℕ)
      → characters_from w space (drop start body) ≡ characters_from w room (drop at body) → start ≤ length body
      → done < length out → length out ≡ n → from + n ≤ length (decoded a t)
      → ((s : List ℕ) → Ahead w body start space s → 0 < length s → IsEncoding a (last_block s)
      → (4 < length s) × (AreCharacters a (take 4 s) → ⊥)) → AskedAreGood a t from n → ⊥
  turn_refused f start space n same within lt len fits first =
      let b = turn_begins f start space same within lt (omega arith) first in
      refused a w body t out kept from done n start space (omega arith) len fits b.0 b.1.0 b.1.1

  -- the bytes of the next block are added
  pub turn_bytes : Filling a w body t out kept from done at room → (start space : ℕ)
      → characters_from w space (drop start body) ≡ characters_from w room (drop at body) → start ≤ length body
      → done < length out → from + length out ≤ length (decoded a t)
      → {bytes : List ℕ} {count next behind : ℕ} → ((s : List ℕ) → Ahead w body start space s → 0 < length s
      → IsEncoding a (last_block s) → FirstRead a w body s bytes count next behind)
      → (ys : List ℕ) (some k : ℕ) → k ≡ some → some ≤ count → some ≤ length out - done
      → (some < length out - done → some ≡ count) → 0 < some → ys ≡ take some bytes
      → Filling a w body t (put_mid done k out ys) bytes from (done + some) next behind
  turn_bytes f start space same within lt fits {bytes} {count} {next} {behind} read ys some k ek le few end pos copied =
      let b = turn_begins f start space same within lt fits read in
      filling_more a w body t out kept bytes ys from done start space count next behind some k lt fits b.0 b.1 le few
      end pos ek copied

module _ {a : Alphabet} {w : ℕ} {body t out kept : List ℕ} {from done at room : ℕ} where
  -- whole blocks of a line are added
  pub turn_blocks : Filling a w body t out kept from done at room → (start space : ℕ)
      → characters_from w space (drop start body) ≡ characters_from w room (drop at body) → start ≤ length body
      → done < length out → from + length out ≤ length (decoded a t) → is_alphabet a ≡ true
      → (ys : List ℕ) (k m n : ℕ) → m ≡ 3 * k → n ≡ 4 * k → 4 * k ≤ space → start + 4 * k < length body
      → 3 * k ≤ length out - done → 0 < k → length ys ≡ length (take m (drop done out))
      → EachBelow 256 (put_mid done m out ys)
      → unpadded_encoding a (take (byte_count (length (take n (drop start body)))) ys) ≡ take n (drop start body)
      → Filling a w body t (put_mid done m out ys) kept from (done + 3 * k) (start + 4 * k) (space - 4 * k)
  turn_blocks f start space same within lt fits lawful ys k m n em en line behind few pos ly below read =
      let f' = filling_moved a w body t out kept from done at room start space same within f in
      let src : List ℕ = take n (drop start body) in
      let is : src ≡ take (4 * k) (drop start body) = ap (λ (i : ℕ). take i (drop start body)) en in
      let ls : length src ≡ 4 * k = ap length is ∙ length-take-le (4 * k) (drop start body)
      (omega (arith, length-drop start body)) in
      let size : length ys ≡ 3 * k = (length_written done m out ys (omega arith) ly).0 ∙ em in
      let small : EachBelow 256 ys =
      subst (EachBelow 256) (ap (λ (l : List ℕ). drop done l)
      (take-put_mid done m out ys (done + 3 * k) (omega arith) (omega arith))
      ∙ drop_at (take done out) ys done (length-take-le done out (omega arith)))
      (below-drop 256 done (take (done + 3 * k) (put_mid done m out ys))
      (below-take 256 (done + 3 * k) (put_mid done m out ys)
      (omega (arith, (length_written done m out ys (omega arith) ly).1)) below)) in
      let all : take (byte_count (length src)) ys ≡ ys = take_all (byte_count (length src)) ys (omega arith) in
      filling_blocks a w body t out kept ys src from done start space k m lawful lt fits f' line behind few pos em size
      small is (ap (λ (l : List ℕ). unpadded_encoding a l) (sym all) ∙ read)

  pub turn_blocks_refused : Filling a w body t out kept from done at room → (start space n : ℕ)
      → characters_from w space (drop start body) ≡ characters_from w room (drop at body) → start ≤ length body
      → done < length out → length out ≡ n → from + n ≤ length (decoded a t) → is_alphabet a ≡ true
      → (k m : ℕ) → m ≡ 4 * k → 4 * k ≤ space → start + 4 * k < length body → 3 * k ≤ length out - done
      → {r : Bool} → r ≡ false → ((bytes : List ℕ) → EachBelow 256 bytes
      → unpadded_encoding a bytes ≡ take m (drop start body) → r ≡ true) → AskedAreGood a t from n → ⊥
  turn_blocks_refused f start space n same within lt len fits lawful k m em line behind few {r} bad accepted =
      blocks_refused a w body t out kept (take m (drop start body)) from done start space k n r lawful lt len fits
      (filling_moved a w body t out kept from done at room start space same within f) line behind few
      (ap (λ (i : ℕ). take i (drop start body)) em) bad accepted
