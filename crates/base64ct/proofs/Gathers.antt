-- Characters of several lines, taken and decoded at once.
use Rattle.std.proofs.Common.{◌≡◌, ℕ, ◌+◌, ◌-◌, ◌*◌, ◌/◌, ◌%◌, ◌<◌, ◌≤◌, true, false, Bool, List, [], ◌++◌, length}
use Rattle.std.proofs.Common.{take, drop, refl, sym, ap, ◌∙◌, subst, arith, inl, inr, Some, None, take-add}
use Rattle.std.proofs.lemmas.List.{append_assoc, length-append, take_at, drop_at, take-append-drop, length-take-le}
use Rattle.std.proofs.lemmas.List.{length-drop, drop-drop, drop_all, take_all}
use Rattle.std.proofs.lemmas.Slice.{take-put_mid}
use Rattle.std.proofs.lemmas.Bool.{cases_lt, true≢false}
use Rattle.std.proofs.lemmas.Option.{same_Some, none-some}
use borrow.Rule.Slice.PartMut.{put_mid}
use Rattle.base64ct.specs.Encoding.{Alphabet, is_alphabet, unpadded_encoding, EachBelow, AreCharacters}
use Rattle.base64ct.specs.Encoding.{byte_count}
use Rattle.base64ct.specs.Blocks.{decoded, AskedAreGood}
use Rattle.base64ct.specs.Wrapping.{characters_from, put_before}
use Rattle.base64ct.specs.Decoders.{Standing}
use Rattle.base64ct.proofs.Encodings.{below-take, below-drop}
use Rattle.base64ct.proofs.Unpadded.{unpadded-append, length-unpadded}
use Rattle.base64ct.proofs.Wrapping.{unpadded_apart, length-put_mid}
use Rattle.base64ct.proofs.Written.{length_front}
use Rattle.base64ct.proofs.Layouts.{line_taken}
use Rattle.base64ct.proofs.Taken.{before-before}
use Rattle.base64ct.proofs.Firsts.{before_some, text_nil}
use Rattle.base64ct.proofs.Fills.{standing_first, decoded_at}
use Rattle.base64ct.proofs.Strides.{read_at_once, bytes_at_once}

-- ---- characters that are taken

pub gathered_more : (w : ℕ) (body buffer ys : List ℕ) (at room place left start space count m n : ℕ)
    → characters_from w room (drop at body) ≡ put_before (take count buffer) (characters_from w left (drop place body))
    → characters_from w space (drop start body) ≡ characters_from w left (drop place body) → n ≤ space
    → start + n ≤ length body → m ≡ n → count + n ≤ length buffer → ys ≡ take n (drop start body)
    → characters_from w room (drop at body)
    ≡ put_before (take (count + n) (put_mid count m buffer ys)) (characters_from w (space - n) (drop (start + n) body))
gathered_more w body buffer ys at room place left start space count m n text same fits within em some is =
    let line : List ℕ = take n (drop start body) in
    let rest : List ℕ = drop (start + n) body in
    let ll : length line ≡ n = length-take-le n (drop start body) (omega (arith, length-drop start body)) in
    let parts : drop start body ≡ line ++ rest =
    sym (take-append-drop n (drop start body)) ∙ ap (λ (l : List ℕ). line ++ l) (drop-drop n start body) in
    let taken : characters_from w space (drop start body) ≡ put_before line (characters_from w (space - n) rest) =
    ap (λ (l : List ℕ). characters_from w space l) parts ∙ line_taken w space line rest (omega (arith, ll))
    ∙ ap (λ (k : ℕ). put_before line (characters_from w (space - k) rest)) ll in
    let new : take (count + n) (put_mid count m buffer ys) ≡ take count buffer ++ line =
    take-put_mid count m buffer ys (count + n) (omega (arith, ap length is, ll)) (omega arith)
    ∙ ap (λ (l : List ℕ). take count buffer ++ l) is in
    text ∙ ap (λ o. put_before (take count buffer) o) (sym same ∙ taken)
    ∙ before-before (take count buffer) line (characters_from w (space - n) rest)
    ∙ ap (λ (l : List ℕ). put_before l (characters_from w (space - n) rest)) (sym new)

pub gathered_first : (w : ℕ) (body buffer ys : List ℕ) (at room n : ℕ) → n ≤ room → at + n ≤ length body
    → ys ≡ take n (drop at body)
    → characters_from w room (drop at body)
    ≡ put_before (take n (ys ++ drop n buffer)) (characters_from w (room - n) (drop (at + n) body))
gathered_first w body buffer ys at room n fits within is =
    let line : List ℕ = take n (drop at body) in
    let rest : List ℕ = drop (at + n) body in
    let ll : length line ≡ n = length-take-le n (drop at body) (omega (arith, length-drop at body)) in
    let parts : drop at body ≡ line ++ rest =
    sym (take-append-drop n (drop at body)) ∙ ap (λ (l : List ℕ). line ++ l) (drop-drop n at body) in
    let new : take n (ys ++ drop n buffer) ≡ line = take_at ys (drop n buffer) n (ap length is ∙ ll) ∙ is in
    ap (λ (l : List ℕ). characters_from w room l) parts ∙ line_taken w room line rest (omega (arith, ll))
    ∙ ap (λ (k : ℕ). put_before line (characters_from w (room - k) rest)) ll
    ∙ ap (λ (l : List ℕ). put_before l (characters_from w (room - n) rest)) (sym new)

pub gathered_all : (w : ℕ) (body buffer : List ℕ) (at room place left start space count : ℕ) (s : List ℕ)
    → characters_from w room (drop at body) ≡ put_before (take count buffer) (characters_from w left (drop place body))
    → characters_from w space (drop start body) ≡ characters_from w left (drop place body) → start ≤ length body
    → count < length buffer → (start < length body → space ≡ 0)
    → (space ≡ 0 → start < length body → characters_from w 0 (drop start body) ≡ None)
    → characters_from w room (drop at body) ≡ Some s → length s < length buffer
gathered_all w body buffer at room place left start space count s text same within few full none is =
    elim (cases_lt start (length body)) [
      | inl lt ↦
          let no_room : space ≡ 0 = full lt in
          let nothing : characters_from w left (drop place body) ≡ None =
          sym same ∙ ap (λ (r : ℕ). characters_from w r (drop start body)) no_room ∙ none no_room lt in
          absurd (none-some s (sym (text ∙ ap (λ o. put_before (take count buffer) o) nothing) ∙ is))
      | inr ge ↦
          let behind : characters_from w left (drop place body) ≡ Some [] =
          sym same ∙ ap (λ (l : List ℕ). characters_from w space l) (drop_all start body ge) ∙ text_nil w space in
          let all : take count buffer ++ [] ≡ s =
          same_Some (take count buffer ++ []) s (sym (text ∙ ap (λ o. put_before (take count buffer) o) behind) ∙ is) in
          let few_are = length-take-le count buffer (omega arith) in
          omega (arith, few, ap length all, length-append (take count buffer) [], few_are)
    ]

-- ---- blocks that are read

pub blocks_more : (a : Alphabet) (w : ℕ) (body out ys chars : List ℕ) (at room place left next last done m count : ℕ)
    → characters_from w room (drop at body)
    ≡ put_before (unpadded_encoding a (take done out)) (characters_from w left (drop place body))
    → characters_from w left (drop place body) ≡ put_before chars (characters_from w last (drop next body))
    → EachBelow 256 out → done % 3 ≡ 0 → done + count ≤ length out → m ≡ count → length ys ≡ count
    → unpadded_encoding a ys ≡ chars
    → characters_from w room (drop at body)
    ≡ put_before (unpadded_encoding a (take (done + count) (put_mid done m out ys)))
    (characters_from w last (drop next body))
blocks_more a w body out ys chars at room place left next last done m count text more below thirds fits em len is =
    let lt : length (take done out) ≡ done = length-take-le done out (omega arith) in
    let new : take (done + count) (put_mid done m out ys) ≡ take done out ++ ys =
    take-put_mid done m out ys (done + count) (omega arith) (omega arith) in
    let sum : unpadded_encoding a (take (done + count) (put_mid done m out ys)) ≡ unpadded_encoding a (take done out)
    ++ chars =
    ap (λ (l : List ℕ). unpadded_encoding a l) new
    ∙ unpadded-append a (take done out) ys (below-take 256 done out (omega arith) below) (omega arith)
    ∙ ap (λ (l : List ℕ). unpadded_encoding a (take done out) ++ l) is in
    text ∙ ap (λ o. put_before (unpadded_encoding a (take done out)) o) more
    ∙ before-before (unpadded_encoding a (take done out)) chars (characters_from w last (drop next body))
    ∙ ap (λ (l : List ℕ). put_before l (characters_from w last (drop next body))) (sym sum)

-- the text behind the bytes that are read, where it begins with the characters of some bytes
-- the bytes of whole blocks are those of their characters
pub bytes_read : (a : Alphabet) (src chars ys : List ℕ) (count : ℕ) → src ≡ chars → length chars ≡ count / 3 * 4
    → count % 3 ≡ 0 → length ys ≡ count → unpadded_encoding a (take (byte_count (length src)) ys) ≡ src
    → unpadded_encoding a ys ≡ chars
bytes_read a src chars ys count is lc whole ly read =
    let all : take (byte_count (length src)) ys ≡ ys =
    take_all (byte_count (length src)) ys (omega (arith, ap length is)) in
    ap (λ (l : List ℕ). unpadded_encoding a l) (sym all) ∙ read ∙ is

text_behind : (a : Alphabet) (w : ℕ) (body out : List ℕ) (at room place left done : ℕ) (s : List ℕ)
    → characters_from w room (drop at body)
    ≡ put_before (unpadded_encoding a (take done out)) (characters_from w left (drop place body))
    → characters_from w room (drop at body) ≡ Some s
    → (rest : List ℕ) × (characters_from w left (drop place body) ≡ Some rest)
    × (s ≡ unpadded_encoding a (take done out) ++ rest)
text_behind a w body out at room place left done s text is =
    before_some (unpadded_encoding a (take done out)) s (characters_from w left (drop place body)) (sym text ∙ is)

pub blocks_missing : (a : Alphabet) (w : ℕ) (body out bytes s : List ℕ) (at room place left done n : ℕ)
    → characters_from w room (drop at body)
    ≡ put_before (unpadded_encoding a (take done out)) (characters_from w left (drop place body)) → EachBelow 256 out
    → done % 3 ≡ 0 → length out % 3 ≡ 0 → done ≤ length out → n ≤ 4 * ((length out - done) / 3)
    → ((rest : List ℕ) → characters_from w left (drop place body) ≡ Some rest → length rest < n)
    → EachBelow 256 bytes → length bytes ≡ length out
    → characters_from w room (drop at body) ≡ Some (unpadded_encoding a bytes ++ s) → ⊥
blocks_missing a w body out bytes s at room place left done n text front thirds whole within few short below len is =
    let parts = text_behind a w body out at room place left done (unpadded_encoding a bytes ++ s) text is in
    let lt : length (take done out) ≡ done = length-take-le done out within in
    absurd (omega (
      arith,
      short parts.0 parts.1,
      ap length parts.2,
      length-append (unpadded_encoding a bytes) s,
      length-append (unpadded_encoding a (take done out)) parts.0,
      length-unpadded a bytes below,
      length-unpadded a (take done out) (below-take 256 done out (omega arith) front),
      lt,
    ))

pub blocks_bad : (a : Alphabet) (w : ℕ) (body out bytes s chars : List ℕ) (at room place left next last done count : ℕ)
    (r : Bool) → characters_from w room (drop at body)
    ≡ put_before (unpadded_encoding a (take done out)) (characters_from w left (drop place body)) → EachBelow 256 out
    → done % 3 ≡ 0 → count % 3 ≡ 0 → done + count ≤ length out
    → characters_from w left (drop place body) ≡ put_before chars (characters_from w last (drop next body))
    → length chars ≡ 4 * (count / 3)
    → r ≡ false → ((read : List ℕ) → EachBelow 256 read → unpadded_encoding a read ≡ chars → r ≡ true)
    → EachBelow 256 bytes → length bytes ≡ length out
    → characters_from w room (drop at body) ≡ Some (unpadded_encoding a bytes ++ s) → ⊥
blocks_bad a w body out bytes s chars at room place left next last done count r text front thirds whole fits more lc bad
    accepted below len is =
    let parts = text_behind a w body out at room place left done (unpadded_encoding a bytes ++ s) text is in
    let later = before_some chars parts.0 (characters_from w last (drop next body)) (sym more ∙ parts.1) in
    let d : ℕ = 4 * (done / 3) in
    let first : List ℕ = unpadded_encoding a (take done bytes) in
    let read : List ℕ = take count (drop done bytes) in
    let rest : List ℕ = unpadded_encoding a (drop (done + count) bytes) in
    let br : EachBelow 256 read =
    below-take 256 count (drop done bytes) (omega arith) (below-drop 256 done bytes below) in
    let lo : length (unpadded_encoding a (take done out)) ≡ d =
    omega (
      arith,
      length-unpadded a (take done out) (below-take 256 done out (omega arith) front),
      length-take-le done out (omega arith),
    ) in
    let lf : length first ≡ d =
    omega (
      arith,
      length-unpadded a (take done bytes) (below-take 256 done bytes (omega arith) below),
      length-take-le done bytes (omega arith),
    ) in
    let lr : length (unpadded_encoding a read) ≡ length chars =
    omega (
      arith,
      length-unpadded a read br,
      length-take-le count (drop done bytes) (omega (arith, length-drop done bytes)),
      lc,
    ) in
    let from_start : 0 + done ≡ done = omega arith in
    let spelled : unpadded_encoding a bytes ≡ first ++ (unpadded_encoding a read ++ rest) =
    rw from_start at (unpadded_apart a bytes 0 done below thirds (omega arith))
    ∙ ap (λ (l : List ℕ). first ++ l) (unpadded_apart a bytes done count below whole (omega arith)) in
    let one : drop d (unpadded_encoding a bytes ++ s) ≡ unpadded_encoding a read ++ (rest ++ s) =
    ap (λ (l : List ℕ). drop d (l ++ s)) spelled
    ∙ ap (λ (l : List ℕ). drop d l) (append_assoc first (unpadded_encoding a read ++ rest) s)
    ∙ drop_at first ((unpadded_encoding a read ++ rest) ++ s) d lf
    ∙ append_assoc (unpadded_encoding a read) rest s in
    let two : drop d (unpadded_encoding a bytes ++ s) ≡ chars ++ later.0 =
    ap (λ (l : List ℕ). drop d l) parts.2 ∙ drop_at (unpadded_encoding a (take done out)) parts.0 d lo ∙ later.2 in
    let same : unpadded_encoding a read ≡ chars = sym (take_at (unpadded_encoding a read) (rest ++ s) (length chars) lr)
    ∙ ap (λ (l : List ℕ). take (length chars) l) (sym one ∙ two) ∙ take_at chars later.0 (length chars) refl in
    true≢false (sym (accepted read br same) ∙ bad)

-- ---- a buffer that is filled

-- `out` has the bytes behind the first `read`, and the decoder stands behind them
pub record Filled (a : Alphabet) (w : ℕ) (body t kept out : List ℕ) (read at room : ℕ) : Type 0 where
  pub good : AskedAreGood a t read (length out)
  pub bytes : out ≡ take (length out) (drop read (decoded a t))
  pub stands : Standing a w body t kept at room (read + length out)

pub blocks_filled : (a : Alphabet) (w : ℕ) (body t kept ys : List ℕ) (p place left next room : ℕ) → is_alphabet a ≡ true
    → p % 3 ≡ 0 → length ys % 3 ≡ 0 → p + length ys < length (decoded a t) → Standing a w body t kept place left p
    → EachBelow 256 ys → characters_from w left (drop place body)
    ≡ put_before (unpadded_encoding a ys) (characters_from w room (drop next body)) → next ≤ length body
    → Filled a w body t kept ys p next room
blocks_filled a w body t kept ys p place left next room lawful thirds whole fits stands below text within =
    let k : ℕ = length ys / 3 in
    let s : List ℕ = drop (4 * (p / 3)) t in
    let here = standing_first a w body t kept place left p stands thirds (omega arith) in
    let size : 4 * k < length s = (decoded_at a s k (omega (arith, ap length here.3, length-drop p (decoded a t)))).1 in
    let parts = before_some (unpadded_encoding a ys) s (characters_from w room (drop next body))
    (sym text ∙ here.0.0) in
    let le : length (unpadded_encoding a ys) ≡ 4 * k = omega (arith, length-unpadded a ys below) in
    let front : take (4 * k) s ≡ unpadded_encoding a ys =
    ap (λ (l : List ℕ). take (4 * k) l) parts.2 ∙ take_at (unpadded_encoding a ys) parts.0 (4 * k) le in
    let behind : drop (4 * k) s ≡ parts.0 =
    ap (λ (l : List ℕ). drop (4 * k) l) parts.2 ∙ drop_at (unpadded_encoding a ys) parts.0 (4 * k) le in
    let read = read_at_once a k s ys lawful below (omega arith) size front in
    let next_block : (p + length ys + 2) / 3 ≡ p / 3 + k = omega arith in
    let four : 4 * (p / 3 + k) ≡ 4 * (p / 3) + 4 * k = omega arith in
    record {
      good = λ j ge lim long.
          let at : 4 * (p / 3) + 4 * (j / 3 - p / 3) ≡ 4 * (j / 3) = omega arith in
          subst (λ (l : List ℕ). AreCharacters a (take 4 l))
          (drop-drop (4 * (j / 3 - p / 3)) (4 * (p / 3)) t ∙ ap (λ (n : ℕ). drop n t) at)
          (read.good (j / 3 - p / 3) (omega arith));
      bytes = sym (ap (λ (l : List ℕ). take (length ys) l) (here.3 ∙ read.bytes)
          ∙ take_at ys (decoded a (drop (4 * k) s)) (length ys) refl);
      stands = record {
        last = stands.last;
        place = rw (next_block, four, ← drop-drop (4 * k) (4 * (p / 3)) t, behind) (parts.1, within);
        keeps = λ ne. absurd (ne (omega arith));
        three = stands.three;
      };
    }

pub blocks_asked : (a : Alphabet) (w : ℕ) (body t kept : List ℕ) (p place left m n : ℕ) → is_alphabet a ≡ true
    → p % 3 ≡ 0 → m % 3 ≡ 0 → p + m < length (decoded a t) → Standing a w body t kept place left p
    → ((bytes s : List ℕ) → EachBelow 256 bytes → length bytes ≡ m
    → characters_from w left (drop place body) ≡ Some (unpadded_encoding a bytes ++ s) → ⊥) → m ≤ n
    → AskedAreGood a t p n → ⊥
blocks_asked a w body t kept p place left m n lawful thirds whole fits stands none some good =
    let k : ℕ = m / 3 in
    let s : List ℕ = drop (4 * (p / 3)) t in
    let here = standing_first a w body t kept place left p stands thirds (omega arith) in
    let size : 4 * k < length s = (decoded_at a s k (omega (arith, ap length here.3, length-drop p (decoded a t)))).1 in
    let ls : length s ≡ length t - 4 * (p / 3) = length-drop (4 * (p / 3)) t in
    let all : (i : ℕ) → i < k → AreCharacters a (take 4 (drop (4 * i) s)) = λ i lim.
    let same : (p + 3 * i) / 3 ≡ p / 3 + i = omega arith in
    let at : 4 * (p / 3 + i) ≡ 4 * (p / 3) + 4 * i = omega arith in
    subst (λ (l : List ℕ). AreCharacters a (take 4 l))
    (ap (λ (j : ℕ). drop (4 * j) t) same ∙ ap (λ (j : ℕ). drop j t) at ∙ sym (drop-drop (4 * i) (4 * (p / 3)) t))
    (good (p + 3 * i) (omega arith) (omega arith) (omega (arith, same, size, ls))) in
    let bytes = bytes_at_once a k s lawful size all in
    let count : length bytes.0 ≡ m =
    omega (arith, length-unpadded a bytes.0 bytes.1, ap length bytes.2, length-take-le (4 * k) s (omega arith)) in
    let parts : s ≡ unpadded_encoding a bytes.0 ++ drop (4 * k) s =
    sym (take-append-drop (4 * k) s) ∙ ap (λ (l : List ℕ). l ++ drop (4 * k) s) (sym bytes.2) in
    none bytes.0 (drop (4 * k) s) bytes.1 count (here.0.0 ∙ ap (λ (l : List ℕ). Some l) parts)

pub filled_more : (a : Alphabet) (w : ℕ) (body t kept later xs ys : List ℕ) (read at room next left : ℕ)
    → Filled a w body t kept xs read at room → Filled a w body t later ys (read + length xs) next left
    → Filled a w body t later (xs ++ ys) read next left
filled_more a w body t kept later xs ys read at room next left f g =
    let whole : List ℕ = decoded a t in
    let len : length (xs ++ ys) ≡ length xs + length ys = length-append xs ys in
    let here : read + length (xs ++ ys) ≡ read + length xs + length ys = omega (arith, len) in
    record {
      good = λ j ge lt long. elim (cases_lt j (read + length xs)) [
        | inl first ↦ f.good j ge first long
        | inr second ↦ g.good j second (omega (arith, lt, len)) long
      ];
      bytes = ap (λ (l : List ℕ). l ++ ys) f.bytes
          ∙ ap (λ (l : List ℕ). take (length xs) (drop read whole) ++ l)
          (g.bytes ∙ ap (λ (l : List ℕ). take (length ys) l) (sym (drop-drop (length xs) read whole)))
          ∙ sym (take-add (length xs) (length ys) (drop read whole))
          ∙ ap (λ (n : ℕ). take n (drop read whole)) (sym len);
      stands = rw here g.stands;
    }

-- fewer bytes are asked
pub asked_part : (a : Alphabet) (t : List ℕ) (read n from m : ℕ) → AskedAreGood a t read n → read ≤ from
    → from + m ≤ read + n → AskedAreGood a t from m
asked_part a t read n from m good ge le = λ j low high long. good j (omega arith) (omega arith) long

-- ---- a buffer that is filled in two parts

pub as_filled : (a : Alphabet) (w : ℕ) (body t kept out : List ℕ) (read n at room : ℕ) → length out ≡ n
    → AskedAreGood a t read n × (out ≡ take n (drop read (decoded a t))) × Standing a w body t kept at room (read + n)
    → Filled a w body t kept out read at room
as_filled a w body t kept out read n at room len f =
    let g = subst (λ (k : ℕ). AskedAreGood a t read k × (out ≡ take k (drop read (decoded a t)))
    × Standing a w body t kept at room (read + k)) (sym len) f in
    record { good = g.0; bytes = g.1; stands = g.2 }

-- the front of a buffer is filled
pub front_filled : (a : Alphabet) (w : ℕ) (body t kept out xs : List ℕ) (read n at room : ℕ) → n ≤ length out
    → length xs ≡ length (take n out)
    → (let m = length (take n out) in AskedAreGood a t read m × (xs ≡ take m (drop read (decoded a t)))
    × Standing a w body t kept at room (read + m))
    → (length xs ≡ n) × (length (xs ++ drop n out) ≡ length out) × Filled a w body t kept xs read at room
    × Standing a w body t kept at room (read + n)
front_filled a w body t kept out xs read n at room le lx f =
    let size : length xs ≡ n = lx ∙ length-take-le n out le in
    let front = as_filled a w body t kept xs read _ at room lx f in (
      size,
      length_front n xs out size le,
      front,
      subst (λ (m : ℕ). Standing a w body t kept at room (read + m)) size front.stands,
    )

pub of_filled : (a : Alphabet) (w : ℕ) (body t kept out new : List ℕ) (read n at room : ℕ) → new ≡ out → length new ≡ n
    → Filled a w body t kept out read at room → AskedAreGood a t read n × (new ≡ take n (drop read (decoded a t)))
    × Standing a w body t kept at room (read + n)
of_filled a w body t kept out new read n at room is len f =
    let count : length out ≡ n = sym (ap length is) ∙ len in
    let g = subst (λ (k : ℕ). AskedAreGood a t read k × (out ≡ take k (drop read (decoded a t)))
    × Standing a w body t kept at room (read + k)) count (f.good, f.bytes, f.stands) in
    (g.0, is ∙ g.1, g.2)

pub two_parts : (out xs ys : List ℕ) (first m : ℕ) → length xs ≡ first → first ≤ length out
    → m ≡ length (xs ++ drop first out) - first → length ys ≡ m → put_mid first m (xs ++ drop first out) ys ≡ xs ++ ys
two_parts out xs ys first m lx le em ly =
    let one : List ℕ = xs ++ drop first out in
    let l1 : length one ≡ length out = omega (arith, length-append xs (drop first out), length-drop first out) in
    let l2 : length (put_mid first m one ys) ≡ length out = length-put_mid first m one ys (omega (arith, l1)) ly ∙ l1 in
    sym (take_all (length out) (put_mid first m one ys) (omega (arith, l2)))
    ∙ take-put_mid first m one ys (length out) (omega (arith, l1)) (omega (arith, l1))
    ∙ ap (λ (l : List ℕ). l ++ ys) (take_at xs (drop first out) first lx)

-- a block's rest and whole blocks
pub two_filled : (a : Alphabet) (w : ℕ) (body t kept new xs ys : List ℕ) (read first m place left next room : ℕ)
    → is_alphabet a ≡ true → length xs ≡ first → length ys ≡ m → (read + first) % 3 ≡ 0 → m % 3 ≡ 0
    → read + first + m < length (decoded a t)
    → AskedAreGood a t read first × (xs ≡ take first (drop read (decoded a t)))
    × Standing a w body t kept place left (read + first) → new ≡ xs ++ ys → EachBelow 256 new
    → characters_from w left (drop place body)
    ≡ put_before (unpadded_encoding a ys) (characters_from w room (drop next body)) → next ≤ length body
    → Filled a w body t kept (xs ++ ys) read next room
two_filled a w body t kept new xs ys read first m place left next room lawful lx ly thirds whole fits f is below text
    within =
    let small : EachBelow 256 ys =
    subst (λ (l : List ℕ). EachBelow 256 l) (drop_at xs ys (length xs) refl)
    (below-drop 256 (length xs) (xs ++ ys) (subst (EachBelow 256) is below)) in
    let one = as_filled a w body t kept xs read first place left lx f in
    filled_more a w body t kept kept xs ys read place left next room one
    (blocks_filled a w body t kept ys (read + length xs) place left next room lawful (omega (arith, lx, thirds))
    (omega (arith, ly, whole)) (omega (arith, lx, ly, fits)) one.stands small text within)
