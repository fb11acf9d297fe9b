-- Whole blocks that are decoded at once.
use Rattle.std.proofs.Common.{◌≡◌, ℕ, zero, suc, ◌+◌, ◌-◌, ◌*◌, ◌/◌, ◌%◌, ◌<◌, ◌≤◌, Bool, true, false, List, [], ◌∷◌}
use Rattle.std.proofs.Common.{◌++◌, length, map, take, drop, refl, sym, ap, ◌∙◌, subst, arith, inl, inr, Some, take-add}
use Rattle.std.proofs.lemmas.List.{append_assoc, length-append, take_at, drop_at, take-append-drop, take-take}
use Rattle.std.proofs.lemmas.List.{length-take-le, length-drop, nil_from_length, drop-drop, drop-take}
use Rattle.std.proofs.lemmas.Slice.{take-put_mid}
use Rattle.std.proofs.lemmas.Bool.{cases_lt, true≢false}
use borrow.Rule.Slice.PartMut.{put_mid}
use Rattle.base64ct.specs.Encoding.{Alphabet, is_alphabet, character, whole_bytes, unpadded_encoding, EachBelow}
use Rattle.base64ct.specs.Encoding.{AreCharacters}
use Rattle.base64ct.specs.Blocks.{decoded, four_bytes, AskedAreGood}
use Rattle.base64ct.specs.Wrapping.{characters_from, put_before}
use Rattle.base64ct.specs.Decoders.{Ahead, Filling}
use Rattle.base64ct.proofs.Sextets.{groups-whole_bytes, whole_bytes-block}
use Rattle.base64ct.proofs.Encodings.{below-take, below-drop}
use Rattle.base64ct.proofs.Unpadded.{unpadded-append, unpadded-nil, length-unpadded, bytes-unpadded}
use Rattle.base64ct.proofs.Unpadded.{are_characters-unpadded}
use Rattle.base64ct.proofs.Lenience.{values_of}
use Rattle.base64ct.proofs.GoodBlocks.{below-append}
use Rattle.base64ct.proofs.Firsts.{before_some, some_text, decoded_more}
use Rattle.base64ct.proofs.Fills.{standing_first}
use Rattle.base64ct.proofs.Layouts.{line_taken}

-- the first k blocks are the characters of these bytes
pub record ReadAtOnce (a : Alphabet) (s ys : List ℕ) (k : ℕ) : Type 0 where
  pub bytes : decoded a s ≡ ys ++ decoded a (drop (4 * k) s)
  pub good : (i : ℕ) → i < k → AreCharacters a (take 4 (drop (4 * i) s))

pub read_at_once : (a : Alphabet) (k : ℕ) (s ys : List ℕ) → is_alphabet a ≡ true → EachBelow 256 ys → length ys ≡ 3 * k
    → 4 * k < length s → take (4 * k) s ≡ unpadded_encoding a ys → ReadAtOnce a s ys k
read_at_once a zero s ys lawful below len h is =
    let none : ys ≡ [] = nil_from_length ys (omega arith) in
    record { bytes = rw none refl; good = λ i lt. absurd (omega arith) }
read_at_once a (suc k) s ys lawful below len h is =
    let first : List ℕ = take 3 ys in
    let later : List ℕ = drop 3 ys in
    let lf : length first ≡ 3 = length-take-le 3 ys (omega arith) in
    let bf : EachBelow 256 first = below-take 256 3 ys (omega arith) below in
    let bl : EachBelow 256 later = below-drop 256 3 ys below in
    let four : 4 * suc k ≡ 4 + 4 * k = omega arith in
    let lu : length (unpadded_encoding a first) ≡ 4 = omega (arith, length-unpadded a first bf, lf) in
    let sum : unpadded_encoding a ys ≡ unpadded_encoding a first ++ unpadded_encoding a later =
    ap (λ (l : List ℕ). unpadded_encoding a l) (sym (take-append-drop 3 ys))
    ∙ unpadded-append a first later bf (omega arith) in
    let whole : take (4 + 4 * k) s ≡ unpadded_encoding a first ++ unpadded_encoding a later =
    ap (λ (n : ℕ). take n s) (sym four) ∙ is ∙ sum in
    let front : take 4 s ≡ unpadded_encoding a first = sym (take-take 4 (4 + 4 * k) s (omega arith))
    ∙ ap (λ (l : List ℕ). take 4 l) whole ∙ take_at (unpadded_encoding a first) (unpadded_encoding a later) 4 lu in
    let back : take (4 * k) (drop 4 s) ≡ unpadded_encoding a later =
    sym (drop-take 4 (4 * k) s) ∙ ap (λ (l : List ℕ). drop 4 l) whole
    ∙ drop_at (unpadded_encoding a first) (unpadded_encoding a later) 4 lu in
    let rest = read_at_once a k (drop 4 s) later lawful bl (omega (arith, length-drop 3 ys))
    (omega (arith, length-drop 4 s)) back in
    let block : four_bytes a (take 4 s) ≡ first =
    ap (λ (l : List ℕ). four_bytes a l) front ∙ bytes-unpadded a first lawful bf in
    record {
      bytes = decoded_more a s (omega arith)
          ∙ rw (block, rest.bytes, drop-drop (4 * k) 4 s, four)
          (sym (append_assoc first later (decoded a (drop (4 + 4 * k) s)))
          ∙ ap (λ (l : List ℕ). l ++ decoded a (drop (4 + 4 * k) s)) (take-append-drop 3 ys));
      good = elim [
        | zero ↦ λ lt. subst (AreCharacters a) (sym front) (are_characters-unpadded a first lawful bf)
        | suc i ↦ λ lt. let next : 4 + 4 * i ≡ 4 * suc i = omega arith in
            subst (λ (l : List ℕ). AreCharacters a (take 4 l)) (drop-drop (4 * i) 4 s ∙ ap (λ (n : ℕ). drop n s) next)
            (rest.good i (omega arith))
      ];
    }

-- ---- blocks that are good have bytes

one_block : (a : Alphabet) (cs : List ℕ) → is_alphabet a ≡ true → length cs ≡ 4 → AreCharacters a cs
    → (bytes : List ℕ) × EachBelow 256 bytes × (length bytes ≡ 3) × (unpadded_encoding a bytes ≡ cs)
one_block a cs lawful four all = go (values_of a cs lawful all)
  where
    go : (values : List ℕ) × EachBelow 64 values × (cs ≡ map (character a) values)
        → (bytes : List ℕ) × EachBelow 256 bytes × (length bytes ≡ 3) × (unpadded_encoding a bytes ≡ cs)
    go ([], h, m) = let n = ap length m in absurd (omega arith)
    go (v ∷ [], h, m) = let n = ap length m in absurd (omega arith)
    go (v ∷ w ∷ [], h, m) = let n = ap length m in absurd (omega arith)
    go (v ∷ w ∷ x ∷ [], h, m) = let n = ap length m in absurd (omega arith)
    go (v ∷ w ∷ x ∷ y ∷ [], h, m) =
        let block = whole_bytes-block a.low_first v w x y (h 0) (h 1) (h 2) (h 3) in (
          whole_bytes a.low_first (v ∷ w ∷ x ∷ y ∷ []),
          block.1,
          omega (arith, block.0),
          rw (groups-whole_bytes a.low_first v w x y (h 0) (h 1) (h 2) (h 3)) (sym m),
        )
    go (v ∷ w ∷ x ∷ y ∷ z ∷ vs, h, m) = let n = ap length m in absurd (omega arith)

pub bytes_at_once : (a : Alphabet) (k : ℕ) (s : List ℕ) → is_alphabet a ≡ true → 4 * k < length s
    → ((i : ℕ) → i < k → AreCharacters a (take 4 (drop (4 * i) s)))
    → (ys : List ℕ) × EachBelow 256 ys × (unpadded_encoding a ys ≡ take (4 * k) s)
bytes_at_once a zero s lawful h good = ([], λ i. omega arith, unpadded-nil a)
bytes_at_once a (suc k) s lawful h good =
    let four : 4 * suc k ≡ 4 + 4 * k = omega arith in
    let first = one_block a (take 4 s) lawful (length-take-le 4 s (omega arith)) (good 0 (omega arith)) in
    let rest = bytes_at_once a k (drop 4 s) lawful (omega (arith, length-drop 4 s)) (λ i lt.
    let next : 4 + 4 * i ≡ 4 * suc i = omega arith in
    subst (λ (l : List ℕ). AreCharacters a (take 4 l)) (sym (drop-drop (4 * i) 4 s ∙ ap (λ (n : ℕ). drop n s) next))
    (good (suc i) (omega arith))) in
    let parts : take (4 + 4 * k) s ≡ take 4 s ++ take (4 * k) (drop 4 s) = take-add 4 (4 * k) s in (
      first.0 ++ rest.0,
      below-append first.0 rest.0 first.1 rest.1,
      unpadded-append a first.0 rest.0 first.1 (omega (arith, first.2))
          ∙ rw (first.3, rest.2) (sym (ap (λ (n : ℕ). take n s) four ∙ parts)),
    )

-- ---- the blocks at which a decoder stands

-- the text from some place on, behind k blocks of one line
record Passed (w : ℕ) (body s : List ℕ) (place left k : ℕ) : Type 0 where
  pub chars : take (4 * k) s ≡ take (4 * k) (drop place body)
  pub more : 4 * k < length s
  pub next : Ahead w body (place + 4 * k) (left - 4 * k) (drop (4 * k) s)

passed : (w : ℕ) (body s : List ℕ) (place left k : ℕ) → Ahead w body place left s → 4 * k ≤ left
    → place + 4 * k < length body → Passed w body s place left k
passed w body s place left k r fits more =
    let line : List ℕ = take (4 * k) (drop place body) in
    let rest : List ℕ = drop (place + 4 * k) body in
    let ll : length line ≡ 4 * k = length-take-le (4 * k) (drop place body) (omega (arith, length-drop place body)) in
    let apart : drop place body ≡ line ++ rest = sym (take-append-drop (4 * k) (drop place body))
    ∙ ap (λ (l : List ℕ). line ++ l) (drop-drop (4 * k) place body) in
    let taken : characters_from w left (line ++ rest) ≡ put_before line (characters_from w (left - 4 * k) rest) =
    line_taken w left line rest (omega arith)
    ∙ ap (λ (n : ℕ). put_before line (characters_from w (left - n) rest)) ll in
    let parts = before_some line s (characters_from w (left - 4 * k) rest)
    (sym taken ∙ ap (λ (l : List ℕ). characters_from w left l) (sym apart) ∙ r.0) in
    let some : 0 < length parts.0 =
    some_text w (left - 4 * k) rest parts.0 parts.1 (omega (arith, length-drop (place + 4 * k) body)) in
    record {
      chars = ap (λ (l : List ℕ). take (4 * k) l) parts.2 ∙ take_at line parts.0 (4 * k) ll;
      more = omega (arith, ap length parts.2, length-append line parts.0, ll);
      next = (
        parts.1 ∙ ap (λ (l : List ℕ). Some l)
            (sym (ap (λ (l : List ℕ). drop (4 * k) l) parts.2 ∙ drop_at line parts.0 (4 * k) ll)),
        omega arith,
      );
    }

pub filling_blocks : (a : Alphabet) (w : ℕ) (body t out kept ys src : List ℕ) (from done place left k m : ℕ)
    → is_alphabet a ≡ true → done < length out → from + length out ≤ length (decoded a t)
    → Filling a w body t out kept from done place left → 4 * k ≤ left → place + 4 * k < length body
    → 3 * k ≤ length out - done → 0 < k → m ≡ 3 * k
    → length ys ≡ 3 * k → EachBelow 256 ys → src ≡ take (4 * k) (drop place body) → unpadded_encoding a ys ≡ src
    → Filling a w body t (put_mid done m out ys) kept from (done + 3 * k) (place + 4 * k) (left - 4 * k)
filling_blocks a w body t out kept ys src from done place left k m lawful lt fits f room more few pos em ly below es
    is =
    let p : ℕ = from + done in
    let whole : List ℕ = decoded a t in
    let s : List ℕ = drop (4 * (p / 3)) t in
    let thirds : p % 3 ≡ 0 = f.aligned lt in
    let here = standing_first a w body t kept place left p f.stands thirds (omega arith) in
    let behind = passed w body s place left k here.0 room more in
    let read = read_at_once a k s ys lawful below ly behind.more (behind.chars ∙ sym es ∙ sym is) in
    let sum : drop p whole ≡ ys ++ decoded a (drop (4 * k) s) = here.3 ∙ read.bytes in
    let ls : length s ≡ length t - 4 * (p / 3) = length-drop (4 * (p / 3)) t in
    let next_block : (from + (done + 3 * k) + 2) / 3 ≡ p / 3 + k = omega arith in
    let four : 4 * (p / 3 + k) ≡ 4 * (p / 3) + 4 * k = omega arith in
    record {
      bytes = take-put_mid done m out ys (done + 3 * k) (omega arith) (omega arith)
          ∙ rw (
            f.bytes,
            take-add done (3 * k) (drop from whole),
            drop-drop done from whole,
            sum,
            take_at ys (decoded a (drop (4 * k) s)) (3 * k) ly,
          ) refl;
      good = λ j ge lim long. elim (cases_lt j p) [
        | inl old ↦ f.good j ge old long
        | inr new ↦
            let at : 4 * (p / 3) + 4 * (j / 3 - p / 3) ≡ 4 * (j / 3) = omega arith in
            subst (λ (l : List ℕ). AreCharacters a (take 4 l))
            (drop-drop (4 * (j / 3 - p / 3)) (4 * (p / 3)) t ∙ ap (λ (n : ℕ). drop n t) at)
            (read.good (j / 3 - p / 3) (omega arith))
      ];
      stands = record {
        last = f.stands.last;
        place = rw (next_block, four, ← drop-drop (4 * k) (4 * (p / 3)) t) behind.next;
        keeps = λ ne. absurd (ne (omega arith));
        three = f.stands.three;
      };
      aligned = λ _. omega arith;
    }

pub blocks_refused : (a : Alphabet) (w : ℕ) (body t out kept src : List ℕ) (from done place left k n : ℕ) (r : Bool)
    → is_alphabet a ≡ true → done < length out → length out ≡ n → from + n ≤ length (decoded a t)
    → Filling a w body t out kept from done place left → 4 * k ≤ left → place + 4 * k < length body
    → 3 * k ≤ length out - done → src ≡ take (4 * k) (drop place body)
    → r ≡ false → ((bytes : List ℕ) → EachBelow 256 bytes → unpadded_encoding a bytes ≡ src → r ≡ true)
    → AskedAreGood a t from n → ⊥
blocks_refused a w body t out kept src from done place left k n r lawful lt len fits f room more few es bad accepted
    good =
    let p : ℕ = from + done in
    let s : List ℕ = drop (4 * (p / 3)) t in
    let thirds : p % 3 ≡ 0 = f.aligned lt in
    let here = standing_first a w body t kept place left p f.stands thirds (omega arith) in
    let behind = passed w body s place left k here.0 room more in
    let ls : length s ≡ length t - 4 * (p / 3) = length-drop (4 * (p / 3)) t in
    let size : 4 * k < length s = behind.more in
    let all : (i : ℕ) → i < k → AreCharacters a (take 4 (drop (4 * i) s)) = λ i lim.
    let same : (p + 3 * i) / 3 ≡ p / 3 + i = omega arith in
    let at : 4 * (p / 3 + i) ≡ 4 * (p / 3) + 4 * i = omega arith in
    subst (λ (l : List ℕ). AreCharacters a (take 4 l))
    (ap (λ (m : ℕ). drop (4 * m) t) same ∙ ap (λ (m : ℕ). drop m t) at ∙ sym (drop-drop (4 * i) (4 * (p / 3)) t))
    (good (p + 3 * i) (omega arith) (omega arith) (omega (arith, same, size, ls))) in
    let bytes = bytes_at_once a k s lawful size all in
    true≢false (sym (accepted bytes.0 bytes.1 (bytes.2 ∙ behind.chars ∙ sym es)) ∙ bad)
