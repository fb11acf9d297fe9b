-- How far a buffer is filled with decoded bytes.
use Rattle.std.proofs.Common.{◌≡◌, ◌≢◌, ℕ, zero, suc, ◌+◌, ◌-◌, ◌*◌, ◌/◌, ◌%◌, ◌<◌, ◌≤◌, Bool, true, false, List, []}
use Rattle.std.proofs.Common.{◌∷◌, ◌++◌, length, take, drop, refl, sym, ap, ◌∙◌, subst, arith, inl, inr, Some, None}
use Rattle.std.proofs.Common.{take-add}
use Rattle.std.proofs.lemmas.List.{append-nil, length-append, length-map, take_at, drop_at, take-append-le, take-take}
use Rattle.std.proofs.lemmas.List.{length-take-le, length-take, length-drop, nil_from_length, take_all, drop_all}
use Rattle.std.proofs.lemmas.List.{drop-drop, drop-take, take-append-drop}
use Rattle.std.proofs.lemmas.Slice.{take-put_mid}
use Rattle.std.proofs.lemmas.Bool.{cases_lt}
use borrow.Rule.Slice.PartMut.{put_mid}
use Rattle.base64ct.specs.Encoding.{Alphabet, is_alphabet, whole_bytes, eights, bits, low_bits, number, AreCharacters}
use Rattle.std.specs.List.{position_or_len}
use Rattle.std.specs.Prelude.{◌==◌, ◌⊎◌}
use Rattle.std.proofs.lemmas.Option.{none-some, same_Some}
use Rattle.base64ct.specs.Encoding.{padding_len}
use Rattle.base64ct.specs.Blocks.{IsEncoding}
use Rattle.base64ct.specs.Blocks.{block_bytes}
use Rattle.base64ct.specs.Blocks.{four_bytes, decoded, last_block, AskedAreGood}
use Rattle.base64ct.specs.Decoders.{Ahead, FirstRead, Keeps, Standing, Filling}
use Rattle.base64ct.proofs.Wrapping.{length-put_mid}
use Rattle.base64ct.specs.Encoding.{EachBelow, encoding}
use Rattle.base64ct.proofs.Encodings.{decoded-encoding, below-take}
use Rattle.base64ct.specs.Wrapping.{characters_from, put_before}
use Rattle.base64ct.proofs.Layouts.{line_taken}
use Rattle.base64ct.proofs.Taken.{before-before, before-nil}
use Rattle.base64ct.proofs.Firsts.{decoded_more, decoded_last, decoded_nil, last_is, last_more, text_nil, count_four}

bytes_four : (l : Bool) (vs : List ℕ) → length vs ≡ 4 → length (whole_bytes l vs) ≡ 3
unfolding whole_bytes eights bits low_bits number
bytes_four l [] h = absurd (omega arith)
bytes_four l (v ∷ []) h = absurd (omega arith)
bytes_four l (v ∷ w ∷ []) h = absurd (omega arith)
bytes_four l (v ∷ w ∷ x ∷ []) h = absurd (omega arith)
bytes_four true (v ∷ w ∷ x ∷ y ∷ []) h = refl
bytes_four false (v ∷ w ∷ x ∷ y ∷ []) h = refl
bytes_four l (v ∷ w ∷ x ∷ y ∷ z ∷ vs) h = absurd (omega arith)

bytes_few : (l : Bool) (vs : List ℕ) → length vs ≤ 4 → length (whole_bytes l vs) ≤ 3
unfolding whole_bytes eights bits low_bits number
bytes_few true [] h = omega arith
bytes_few true (v ∷ []) h = omega arith
bytes_few true (v ∷ w ∷ []) h = omega arith
bytes_few true (v ∷ w ∷ x ∷ []) h = omega arith
bytes_few true (v ∷ w ∷ x ∷ y ∷ []) h = omega arith
bytes_few false [] h = omega arith
bytes_few false (v ∷ []) h = omega arith
bytes_few false (v ∷ w ∷ []) h = omega arith
bytes_few false (v ∷ w ∷ x ∷ []) h = omega arith
bytes_few false (v ∷ w ∷ x ∷ y ∷ []) h = omega arith
bytes_few l (v ∷ w ∷ x ∷ y ∷ z ∷ vs) h = absurd (omega arith)

pub length-first : (a : Alphabet) (s : List ℕ) → 4 < length s → length (four_bytes a (take 4 s)) ≡ 3
length-first a s h = bytes_four a.low_first _ (length-map (take 4 s) _ ∙ length-take-le 4 s (omega arith))

pub length-short : (a : Alphabet) (s : List ℕ) → length s ≤ 4 → length (decoded a s) ≤ 3
length-short a s h = elim (cases_lt 0 (length s)) [
  | inl lt ↦ rw (decoded_last a s lt h)
      (bytes_few a.low_first _
      (omega (
        arith,
        length-map (take (length s - padding_len a s) s) (λ c. position_or_len (λ x. x == c) a.characters),
        length-take (length s - padding_len a s) s,
      )))
  | inr ge ↦ rw (nil_from_length s (omega arith), decoded_nil a) (omega arith)
]

-- the k-th block and those behind it decode to what stands from the byte 3k on
pub decoded_at : (a : Alphabet) (t : List ℕ) (k : ℕ) → 3 * k < length (decoded a t)
    → (drop (3 * k) (decoded a t) ≡ decoded a (drop (4 * k) t)) × (4 * k < length t)
decoded_at a t zero h = (
  refl,
  elim (cases_lt 0 (length t)) [
    | inl lt ↦ lt
    | inr ge ↦
        let none : decoded a t ≡ [] = rw (nil_from_length t (omega arith)) (decoded_nil a) in
        absurd (omega (arith, ap length none, h))
  ],
)
decoded_at a t (suc k) h = elim (cases_lt 4 (length t)) [
  | inl lt ↦ let more = decoded_more a t lt in
      let first = length-first a t lt in
      let sum : length (decoded a t) ≡ 3 + length (decoded a (drop 4 t)) =
      ap length more ∙ length-append (four_bytes a (take 4 t)) (decoded a (drop 4 t)) ∙ omega (arith, first) in
      let rest = decoded_at a (drop 4 t) k (omega arith) in
      let three : 3 * suc k ≡ 3 + 3 * k = omega arith in
      let four : 4 * suc k ≡ 4 + 4 * k = omega arith in
      let dropped : drop 3 (decoded a t) ≡ decoded a (drop 4 t) =
      ap (λ (l : List ℕ). drop 3 l) more ∙ drop_at (four_bytes a (take 4 t)) (decoded a (drop 4 t)) 3 first in (
        rw (three, four) (sym (drop-drop (3 * k) 3 (decoded a t)) ∙ ap (λ (l : List ℕ). drop (3 * k) l) dropped ∙ rest.0
            ∙ ap (λ (l : List ℕ). decoded a l) (drop-drop (4 * k) 4 t)),
        omega (arith, rest.1, length-drop 4 t),
      )
  | inr ge ↦ absurd (omega (arith, length-short a t ge))
]

-- the last block is the last from each block on
pub last_at : (t : List ℕ) (k : ℕ) → 4 * k < length t → last_block (drop (4 * k) t) ≡ last_block t
last_at t zero h = refl
last_at t (suc k) h =
    let four : 4 * suc k ≡ 4 + 4 * k = omega arith in
    rw (four, ← drop-drop (4 * k) 4 t) (last_at (drop 4 t) k (omega (arith, length-drop 4 t))
    ∙ sym (last_more t (omega arith)))

-- ---- the block at which the decoder stands

pub standing_first : (a : Alphabet) (w : ℕ) (body t kept : List ℕ) (at room p : ℕ) → Standing a w body t kept at room p
    → p % 3 ≡ 0 → p < length (decoded a t)
    → Ahead w body at room (drop (4 * (p / 3)) t) × (0 < length (drop (4 * (p / 3)) t))
    × IsEncoding a (last_block (drop (4 * (p / 3)) t)) × (drop p (decoded a t) ≡ decoded a (drop (4 * (p / 3)) t))
standing_first a w body t kept at room p s whole lt =
    let here : 3 * (p / 3) ≡ p = omega arith in
    let d = decoded_at a t (p / 3) (omega arith) in
    let same : (p + 2) / 3 ≡ p / 3 = omega arith in (
      rw same at s.place,
      omega (arith, d.1, length-drop (4 * (p / 3)) t),
      subst (IsEncoding a) (sym (last_at t (p / 3) d.1)) s.last,
      ap (λ (k : ℕ). drop k (decoded a t)) (sym here)
          ∙ d.0,
    )

-- ---- what was kept

kept_bytes : (a : Alphabet) (t kept : List ℕ) (read first : ℕ) → Keeps a t kept read → read % 3 ≢ 0
    → read % 3 + first ≤ 3 → read + first ≤ length (decoded a t)
    → take first (drop (read % 3) kept) ≡ take first (drop read (decoded a t))
kept_bytes a t kept read first keeps ne few fits =
    let held = (keeps ne).0 in
    let q3 : ℕ = 3 * (read / 3) in
    let k : ℕ = read % 3 in
    let whole : List ℕ = decoded a t in
    let long : k + first ≤ held.0 =
    omega (arith, ap length held.2, length-take held.0 kept, length-take 3 (drop q3 whole), length-drop q3 whole) in
    let here : q3 + k ≡ read = omega arith in
    let same : take (k + first) kept ≡ take (k + first) (drop q3 whole) =
    sym (take-take (k + first) held.0 kept long) ∙ ap (λ (l : List ℕ). take (k + first) l) held.2
    ∙ take-take (k + first) 3 (drop q3 whole) few in
    sym (drop-take k first kept) ∙ ap (λ (l : List ℕ). drop k l) same ∙ drop-take k first (drop q3 whole)
    ∙ ap (λ (l : List ℕ). take first l) (drop-drop k q3 whole ∙ ap (λ (n : ℕ). drop n whole) here)

-- the bytes that were kept come first
pub filling_first : (a : Alphabet) (w : ℕ) (body t out new kept : List ℕ) (read first at room : ℕ)
    → Standing a w body t kept at room read → read + length out ≤ length (decoded a t) → length new ≡ length out
    → first ≤ length out
    → (read % 3 ≡ 0 → first ≡ 0) → (read % 3 ≢ 0 → read % 3 + first ≤ 3) → (first < length out → (read + first) % 3 ≡ 0)
    → take first new ≡ take first (drop (read % 3) kept)
    → Filling a w body t new kept read first at room
filling_first a w body t out new kept read first at room s fits len few none some aligned put =
    elim (cases_zero (read % 3)) [
      | inl e ↦
          let nothing : first ≡ 0 = none e in
          let here : read + first ≡ read = omega arith in
          record {
            bytes = rw nothing refl;
            good = λ j ge lt long. absurd (omega arith);
            stands = rw here s;
            aligned = λ lt. aligned (omega arith);
          }
      | inr ne ↦
          let within = some ne in
          let block : (read + first + 2) / 3 ≡ (read + 2) / 3 = omega (arith, ne_pos (read % 3) ne, within) in
          record {
            bytes = put ∙ kept_bytes a t kept read first s.keeps ne within (omega arith);
            good = λ j ge lt long.
                let same : j / 3 ≡ read / 3 = omega (arith, within) in
                let behind : 4 * (read / 3) + 4 < length t = omega (arith, long, same) in
                rw same ((s.keeps ne).1 behind);
            stands = record {
              last = s.last;
              place = rw block s.place;
              keeps = λ ne'.
                  let same : (read + first) / 3 ≡ read / 3 = omega (arith, within, ne_pos ((read + first) % 3) ne') in
                  rw same (s.keeps ne);
              three = s.three;
            };
            aligned = λ lt. aligned (omega arith);
          }
    ]
  where
    cases_zero : (n : ℕ) → (n ≡ 0) ⊎ (n ≢ 0)
    cases_zero zero = inl refl
    cases_zero (suc n) = inr (λ e. omega arith)

    ne_pos : (n : ℕ) → n ≢ 0 → 0 < n
    ne_pos zero ne = absurd (ne refl)
    ne_pos (suc n) ne = omega arith

-- ---- a block more

pub filling_moved : (a : Alphabet) (w : ℕ) (body t out kept : List ℕ) (from done at room start space : ℕ)
    → characters_from w space (drop start body) ≡ characters_from w room (drop at body) → start ≤ length body
    → Filling a w body t out kept from done at room → Filling a w body t out kept from done start space
filling_moved a w body t out kept from done at room start space same within f = record {
  bytes = f.bytes;
  good = f.good;
  stands = record {
    last = f.stands.last;
    place = (same ∙ f.stands.place.0, within);
    keeps = f.stands.keeps;
    three = f.stands.three;
  };
  aligned = f.aligned;
}

-- where a block of at most three bytes begins, and its end is not reached, fewer than three are read of it
three_not : (count some q p : ℕ) → q % 3 ≢ 0 → p % 3 ≡ 0 → count ≤ 3 → some ≤ count → q ≡ p + some → some < 3
three_not count some q p ne thirds few le is =
    elim (cases_lt some 3) [ inl lt ↦ lt | inr ge ↦ absurd (ne (omega arith)) ]

-- the bytes of the first block are the first three
first_three : (a : Alphabet) (bytes s d : List ℕ) (count : ℕ) → d ≡ take count bytes ++ decoded a (drop 4 s)
    → length (take count bytes) ≡ count → count ≤ 3 → (4 < length s → count ≡ 3) → take 3 d ≡ take count bytes
first_three a bytes s d count sum lb few whole = elim (cases_lt 4 (length s)) [
  | inl long ↦ ap (λ (l : List ℕ). take 3 l) sum
      ∙ take_at (take count bytes) (decoded a (drop 4 s)) 3 (omega (arith, whole long))
  | inr end ↦
      let none : drop 4 s ≡ [] = drop_all 4 s end in
      let all : d ≡ take count bytes = sum ∙ rw (none, decoded_nil a) (append-nil (take count bytes)) in
      ap (λ (l : List ℕ). take 3 l) all ∙ take_all 3 (take count bytes) (omega arith)
]

pub filling_more : (a : Alphabet) (w : ℕ) (body t out kept bytes ys : List ℕ)
    (from done at room len next behind some k : ℕ) → done < length out → from + length out ≤ length (decoded a t)
    → Filling a w body t out kept from done at room
    → FirstRead a w body (drop (4 * ((from + done) / 3)) t) bytes len next behind
    → some ≤ len → some ≤ length out - done → (some < length out - done → some ≡ len) → 0 < some → k ≡ some
    → ys ≡ take some bytes
    → Filling a w body t (put_mid done k out ys) bytes from (done + some) next behind
filling_more a w body t out kept bytes ys from done at room len next behind some k lt fits f first le1 le2 short pos ek
    ey =
    let p : ℕ = from + done in
    let whole : List ℕ = decoded a t in
    let s : List ℕ = drop (4 * (p / 3)) t in
    let thirds : p % 3 ≡ 0 = f.aligned lt in
    let here = standing_first a w body t kept at room p f.stands thirds (omega arith) in
    let sum : drop p whole ≡ take len bytes ++ decoded a (drop 4 s) = here.3 ∙ first.read in
    let few = first.few in
    let lb : length (take len bytes) ≡ len = length-take-le len bytes (omega (arith, first.three)) in
    let ly : length ys ≡ some = ap length ey ∙ length-take-le some bytes (omega (arith, first.three)) in
    let ls : length s ≡ length t - 4 * (p / 3) = length-drop (4 * (p / 3)) t in
    let next_block : (from + (done + some) + 2) / 3 ≡ p / 3 + 1 = omega (arith, few) in
    let four : 4 * (p / 3 + 1) ≡ 4 * (p / 3) + 4 = omega arith in
    let len_new : length (put_mid done k out ys) ≡ length out =
    length-put_mid done k out ys (omega arith) (omega arith) in
    record {
      bytes = take-put_mid done k out ys (done + some) (omega arith) (omega arith)
          ∙ rw (
            f.bytes,
            ey,
            take-add done some (drop from whole),
            drop-drop done from whole,
            sum,
            take-append-le some (take len bytes) (decoded a (drop 4 s)) (omega arith),
            take-take some len bytes le1,
          )
          refl;
      good = λ j ge below long. elim (cases_lt j p) [
        | inl old ↦ f.good j ge old long
        | inr new ↦
            let same : j / 3 ≡ p / 3 = omega (arith, few) in
            let more : 4 < length s = omega (arith, long, same, ls) in
            rw same (first.good more)
      ];
      stands = record {
        last = f.stands.last;
        place = rw (next_block, four, ← drop-drop 4 (4 * (p / 3)) t) first.next;
        keeps = λ ne.
            let same : (from + (done + some)) / 3 ≡ p / 3 =
            omega (arith, few, three_not len some (from + (done + some)) p ne thirds few le1 (omega arith)) in
            let three : 3 * (p / 3) ≡ p = omega arith in (
              rw (same, three) (len, few, sym (first_three a bytes s (drop p whole) len sum lb few first.whole)),
              λ long. rw same (first.good (omega (arith, long, same, ls))),
            );
        three = first.three;
      };
      aligned = λ more. elim (cases_lt 4 (length s)) [
        | inl long ↦ omega (arith, first.whole long, short (omega arith))
        | inr end ↦
            let none : drop 4 s ≡ [] = drop_all 4 s end in
            let all : drop p whole ≡ take len bytes = sum ∙ rw (none, decoded_nil a) (append-nil (take len bytes)) in
            absurd (omega (arith, ap length all, length-drop p whole, short (omega arith)))
      ];
    }

-- ---- the end

pub filled : {a : Alphabet} {w : ℕ} {body t out kept : List ℕ} {from done at room : ℕ}
    → Filling a w body t out kept from done at room → (n : ℕ) → done ≡ n → length out ≡ n
    → AskedAreGood a t from n × (out ≡ take n (drop from (decoded a t))) × Standing a w body t kept at room (from + n)
filled {a} {w} {body} {t} {out} {kept} {from} {done} {at} {room} f n is len = (
  subst (λ (k : ℕ). AskedAreGood a t from k) is f.good,
  sym (take_all n out (omega arith)) ∙ rw is at f.bytes,
  subst (λ (k : ℕ). Standing a w body t kept at room (from + k)) is f.stands,
)

pub refused : (a : Alphabet) (w : ℕ) (body t out kept : List ℕ) (from done n at room : ℕ) → done < n → length out ≡ n
    → from + n ≤ length (decoded a t) → Filling a w body t out kept from done at room
    → (4 < length (drop (4 * ((from + done) / 3)) t))
    → (AreCharacters a (take 4 (drop (4 * ((from + done) / 3)) t)) → ⊥) → AskedAreGood a t from n → ⊥
refused a w body t out kept from done n at room lt len fits f more bad good =
    bad (good (from + done) (omega arith) (omega arith) (omega (arith, more, length-drop (4 * ((from + done) / 3)) t)))

-- ---- measuring

pub length_at : (a : Alphabet) (t : List ℕ) (k : ℕ) → 4 * k < length t
    → length (decoded a t) ≡ 3 * k + length (decoded a (drop (4 * k) t))
length_at a t zero h = let none : 3 * 0 + length (decoded a (drop (4 * 0) t)) ≡ length (decoded a t) = omega arith in
    sym none
length_at a t (suc k) h =
    let lt : 4 < length t = omega arith in
    let sum = ap length (decoded_more a t lt) ∙ length-append (four_bytes a (take 4 t)) (decoded a (drop 4 t)) in
    let rest = length_at a (drop 4 t) k (omega (arith, length-drop 4 t)) in
    let four : 4 * suc k ≡ 4 + 4 * k = omega arith in
    rw (four, ← drop-drop (4 * k) 4 t) (omega (arith, sum, rest, length-first a t lt))

-- the first blocks of a body were passed
pub record Scanned (w : ℕ) (body : List ℕ) (at room k : ℕ) : Type 0 where
  pub front : List ℕ
  pub text : characters_from w w body ≡ put_before front (characters_from w room (drop at body))
  pub count : length front ≡ 4 * k

pub scanned_none : (w : ℕ) (body : List ℕ) → Scanned w body 0 w 0
scanned_none w body = record { front = []; text = sym (before-nil (characters_from w w body)); count = refl }

pub scanned_moved : {w : ℕ} {body : List ℕ} {at room k : ℕ} → Scanned w body at room k → (start space : ℕ)
    → characters_from w space (drop start body) ≡ characters_from w room (drop at body) → Scanned w body start space k
scanned_moved s start space same =
    record { front = s.front; text = s.text ∙ ap (λ o. put_before s.front o) (sym same); count = s.count }

pub scanned_blocks : {w : ℕ} {body : List ℕ} {at room k : ℕ} → Scanned w body at room k → (n : ℕ) → 4 * n ≤ room
    → at + 4 * n ≤ length body → Scanned w body (at + 4 * n) (room - 4 * n) (k + n)
scanned_blocks {w} {body} {at} {room} {k} s n fits within =
    let line : List ℕ = take (4 * n) (drop at body) in
    let ll : length line ≡ 4 * n = length-take-le (4 * n) (drop at body) (omega (arith, length-drop at body)) in
    let parts : drop at body ≡ line ++ drop (at + 4 * n) body =
    sym (ap (λ (l : List ℕ). line ++ l) (sym (drop-drop (4 * n) at body))
    ∙ take-append-drop (4 * n) (drop at body)) in
    let taken : characters_from w room (drop at body)
    ≡ put_before line (characters_from w (room - 4 * n) (drop (at + 4 * n) body)) =
    ap (λ (l : List ℕ). characters_from w room l) parts
    ∙ line_taken w room line (drop (at + 4 * n) body) (omega (arith, ll))
    ∙ ap (λ m. put_before line (characters_from w (room - m) (drop (at + 4 * n) body))) ll in
    record {
      front = s.front ++ line;
      text = s.text ∙ rw taken (before-before s.front line _);
      count = omega (arith, length-append s.front line, s.count, ll);
    }

pub scanned_more : {w : ℕ} {body : List ℕ} {at room k : ℕ} → Scanned w body at room k → (block : List ℕ)
    (next left n : ℕ)
    → characters_from w room (drop at body) ≡ put_before (take n block) (characters_from w left (drop next body))
    → length block ≡ 4 → n ≤ 4 → (n < 4 → next ≡ length body) → next < length body → Scanned w body next left (k + 1)
scanned_more {w} {body} s block next left n is four few short more =
    let all : length (take n block) ≡ 4 =
    omega (arith, length-take-le n block (omega arith), count_four n next (length body) few short more) in
    record {
      front = s.front ++ take n block;
      text = s.text ∙ rw is (before-before s.front (take n block) (characters_from w left (drop next body)));
      count = omega (arith, length-append s.front (take n block), s.count);
    }

pub scanned_bad : {w : ℕ} {body : List ℕ} {at room k : ℕ} → Scanned w body at room k → (t : List ℕ)
    → characters_from w room (drop at body) ≡ None → characters_from w w body ≡ Some t → ⊥
scanned_bad s t none is = none-some t (sym (s.text ∙ rw none refl) ∙ is)

scanned_end : (w : ℕ) (body block : List ℕ) (at room k next left : ℕ) → Scanned w body at room k
    → characters_from w room (drop at body) ≡ put_before block (characters_from w left (drop next body))
    → next ≡ length body
    → (t : List ℕ) × (characters_from w w body ≡ Some t) × (drop (4 * k) t ≡ block) × (length t ≡ 4 * k + length block)
scanned_end w body block at room k next left s is end =
    let none : drop next body ≡ [] = drop_all next body (omega arith) in
    let text : characters_from w left (drop next body) ≡ Some [] = rw none (text_nil w left) in (
      s.front ++ block,
      s.text ∙ rw (is, text, append-nil block) refl,
      drop_at s.front block (4 * k) s.count,
      omega (arith, length-append s.front block, s.count),
    )

pub measured_bad : (a : Alphabet) {w : ℕ} {body : List ℕ} {at room k : ℕ} → Scanned w body at room k
    → (block : List ℕ) (next left : ℕ) (t : List ℕ)
    → characters_from w room (drop at body) ≡ put_before block (characters_from w left (drop next body))
    → next ≡ length body
    → 0 < length block → length block ≤ 4 → (IsEncoding a block → ⊥) → characters_from w w body ≡ Some t
    → IsEncoding a (last_block t) → ⊥
measured_bad a {w} {body} {at} {room} {k} s block next left t is end some few bad text spelled =
    let e = scanned_end w body block at room k next left s is end in
    let same : t ≡ e.0 = same_Some t e.0 (sym text ∙ e.1) in
    let last : last_block e.0 ≡ block =
    sym (last_at e.0 k (omega (arith, e.3))) ∙ ap (λ (l : List ℕ). last_block l) e.2 ∙ last_is block few in
    bad (subst (IsEncoding a) (ap (λ (l : List ℕ). last_block l) same ∙ last) spelled)

pub measured : (a : Alphabet) {w : ℕ} {body : List ℕ} {at room k : ℕ} → Scanned w body at room k
    → (block bytes : List ℕ) (next left n : ℕ) → is_alphabet a ≡ true
    → characters_from w room (drop at body) ≡ put_before block (characters_from w left (drop next body))
    → next ≡ length body
    → 0 < length block → length block ≤ 4 → length bytes ≡ 3 → n ≤ 3 → EachBelow 256 bytes
    → block ≡ encoding a (take n bytes)
    → (t : List ℕ) × (characters_from w w body ≡ Some t) × IsEncoding a (last_block t) × (0 < length t)
    × (3 * k + n ≡ length (decoded a t))
measured a {w} {body} {at} {room} {k} s block bytes next left n lawful is end some few three small below spelled =
    let e = scanned_end w body block at room k next left s is end in
    let last : last_block e.0 ≡ block =
    sym (last_at e.0 k (omega (arith, e.3))) ∙ ap (λ (l : List ℕ). last_block l) e.2 ∙ last_is block few in
    let bt : EachBelow 256 (take n bytes) = below-take 256 n bytes (omega arith) below in
    let read : decoded a block ≡ take n bytes =
    decoded_last a block some few ∙ ap (λ (l : List ℕ). block_bytes a l) spelled
    ∙ decoded-encoding a (take n bytes) lawful bt in
    let count : length (decoded a (drop (4 * k) e.0)) ≡ n =
    ap (λ (l : List ℕ). length (decoded a l)) e.2 ∙ ap length read ∙ length-take-le n bytes (omega arith) in (
      e.0,
      e.1,
      (take n bytes, bt, last ∙ spelled),
      omega (arith, e.3),
      omega (arith, length_at a e.0 k (omega (arith, e.3)), count),
    )
