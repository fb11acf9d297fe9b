-- What an encoder stands for.
use Rattle.std.proofs.Common.{◌≡◌, ◌↔◌, ℕ, zero, suc, ◌+◌, ◌-◌, ◌*◌, ◌/◌, ◌%◌, ◌<◌, ◌≤◌, Bool, true, false, List, []}
use Rattle.std.proofs.Common.{◌∷◌, ◌++◌, length, take, drop, refl, sym, ap, ◌∙◌, arith, inl, inr, Option, Some, None}
use Rattle.std.proofs.lemmas.List.{append_assoc, append-nil, length-append, take-append-drop, length-take-le}
use Rattle.std.proofs.lemmas.List.{length-drop, take_all}
use Rattle.std.proofs.lemmas.Bool.{cases_lt, lt-ltb, le-ltb}
use Rattle.std.proofs.Math.Nat.{lt-mul-div-succ, mul-div-le, mul-le-mul_left, add-div_right, div-eq_of_lt}
use Rattle.std.proofs.Math.Seq.{take-append-add}
use Rattle.std.specs.Prelude.{IsAscii}
use Rattle.base64ct.specs.declared.line_ending.LineEnding.TheVariants.{CR, LF, CRLF}
use Rattle.std.specs.List.{join_by}
use Rattle.std.specs.Simd.{first_chunks}
use Rattle.std.proofs.lemmas.Str.{IsAscii-append}
use Rattle.base64ct.specs.Encoding.{Alphabet, is_alphabet, unpadded_encoding, encoding, EachBelow}
use Rattle.base64ct.proofs.Sextets.{whole_bytes-nil}
use Rattle.base64ct.specs.Encoders.{unwrap_from}
use Rattle.base64ct.proofs.Encodings.{below-take}
use Rattle.base64ct.proofs.Unpadded.{unpadded-append, length-unpadded}
use Rattle.base64ct.proofs.GoodBlocks.{below-append, encoding-append}
use Rattle.base64ct.proofs.Padding.{length-encoding, padding_count}
use Rattle.base64ct.specs.Wrapping.{in_lines, wrap}
use Rattle.base64ct.specs.LineEndings.{ending_bytes}
use Rattle.base64ct.specs.declared.line_ending.LineEnding.{LineEnding}
use Rattle.base64ct.specs.Encoders.{wrap_from, room_after, whole_blocks, endings, bytes_in, ending_of, format_of, Wrote}
use Rattle.base64ct.specs.Encoders.{Stands}
use Rattle.base64ct.proofs.Wrapping.{wrap-append, wrap-nil, wrap-short, room-short, wrap-no_ending, length-short}
use Rattle.base64ct.proofs.Wrapping.{stands_read, stands_more, stands_none}

-- ---- pieces and lines

new_line : (w : ℕ) (e t : List ℕ) → 0 < w → 0 < length t → wrap_from w e 0 t ≡ e ++ wrap_from w e w t
unfolding wrap_from
new_line zero e t pos some = absurd (omega arith)
new_line (suc w) e [] pos some = absurd (omega arith)
new_line (suc w) e (c ∷ cs) pos some =
    let less : suc w - 1 ≡ w = omega arith in
    rw less refl

pieces_are : (w : ℕ) (e : List ℕ) (n : ℕ) (t : List ℕ) → 0 < w → (length t + (w - 1)) / w ≡ n
    → join_by (λ p. p) e (first_chunks w n t) ≡ wrap_from w e w t
pieces_are w e zero [] pos is = sym (wrap-nil w e w)
pieces_are w e zero (c ∷ cs) pos is =
    let below : length (c ∷ cs) + (w - 1) < w * (0 + 1) = rw is at (lt-mul-div-succ (length (c ∷ cs) + (w - 1)) pos) in
    absurd (omega arith)
pieces_are w e (suc zero) t pos is =
    let below : length t + (w - 1) < w * (1 + 1) = rw is at (lt-mul-div-succ (length t + (w - 1)) pos) in
    rw (take_all w t (omega arith), append-nil t) (sym (wrap-short w e w t (omega arith)))
pieces_are w e (suc (suc m)) t pos is =
    let above : w * (suc (suc m)) ≤ length t + (w - 1) = rw is at (mul-div-le (length t + (w - 1)) w) in
    let two : w * 2 ≤ w * (suc (suc m)) = mul-le-mul_left w (omega arith) in
    let more : w < length t = omega arith in
    let ld : length (drop w t) ≡ length t - w = length-drop w t in
    let lt : length (take w t) ≡ w = length-take-le w t (omega arith) in
    let sum : (length t + (w - 1)) ≡ (length (drop w t) + (w - 1)) + w = omega arith in
    let step = ap (λ (k : ℕ). k / w) sum ∙ add-div_right (length (drop w t) + (w - 1)) pos in
    let rest = pieces_are w e (suc m) (drop w t) pos (omega arith) in
    let none : room_after w w (length (take w t)) ≡ 0 =
    room-short w w (length (take w t)) (omega arith) ∙ omega arith in
    let whole : wrap_from w e w t ≡ take w t ++ (e ++ wrap_from w e w (drop w t)) =
    ap (λ (l : List ℕ). wrap_from w e w l) (sym (take-append-drop w t)) ∙ wrap-append w e w (take w t) (drop w t)
    ∙ rw (none, wrap-short w e w (take w t) (omega arith), new_line w e (drop w t) pos (omega arith)) refl in
    rw (whole, ← rest) (ap (λ (l : List ℕ). take w t ++ l) (append_assoc e (take w (drop w t)) _))

pub wrap_is : (w : ℕ) (e t : List ℕ) → 0 < w → wrap t w e ≡ wrap_from w e w t
wrap_is w e t pos = pieces_are w e ((length t + (w - 1)) / w) t pos refl

pub lines_are : (w : ℕ) (ending : Option LineEnding) (t : List ℕ) → 0 < w
    → in_lines (format_of w ending) t ≡ wrap_from w (ending_of ending) w t
lines_are w None t pos = sym (wrap-no_ending w w t)
lines_are w (Some e) t pos = wrap_is w (ending_bytes e) t pos

-- ---- the length of lines

length-long : (w : ℕ) (e : List ℕ) (room : ℕ) (t : List ℕ) → 0 < w → room < length t
    → length (wrap_from w e room t) ≡ length t + length e * ((length t - room - 1) / w + 1)
unfolding wrap_from
length-long w e room [] pos more = absurd (omega arith)
length-long w e zero (c ∷ cs) pos more =
    let first : length (c ∷ cs) - 0 - 1 ≡ length cs = omega arith in
    let joined : length (e ++ c ∷ wrap_from w e (w - 1) cs) ≡ length e + (1 + length (wrap_from w e (w - 1) cs)) =
    length-append e (c ∷ wrap_from w e (w - 1) cs) ∙ omega arith in
    rw first (elim (cases_lt (w - 1) (length cs)) [
      | inl lt ↦ let sum : length cs ≡ (length cs - (w - 1) - 1) + w = omega arith in
          let step : length cs / w ≡ (length cs - (w - 1) - 1) / w + 1 =
          ap (λ (k : ℕ). k / w) sum ∙ add-div_right (length cs - (w - 1) - 1) pos in
          let rest = length-long w e (w - 1) cs pos lt in
          rw step (omega (arith, joined, rest))
      | inr ge ↦ let none : length cs / w ≡ 0 = div-eq_of_lt (omega arith) in
          rw none (omega (arith, joined, length-short w e (w - 1) cs (omega arith)))
    ])
length-long w e (suc room) (c ∷ cs) pos more =
    let less : length (c ∷ cs) - suc room - 1 ≡ length cs - room - 1 = omega arith in
    rw less (omega (arith, length-long w e room cs pos (omega arith)))

pub length-wrap : (w : ℕ) (e : List ℕ) (room : ℕ) (t : List ℕ) (n : ℕ) → 0 < w → n ≡ length t
    → length (wrap_from w e room t) ≡ n + length e * endings w room n
length-wrap w e room t n pos is = rw is (elim (cases_lt room (length t)) [
  | inl lt ↦ rw (lt-ltb room (length t) lt) (length-long w e room t pos lt)
  | inr ge ↦ rw (le-ltb room (length t) ge) (length-short w e room t ge ∙ omega arith)
])

-- ---- the bytes so far and those that come

pub whole-append : (b h : List ℕ) → length b % 3 ≡ 0 → whole_blocks (b ++ h) ≡ b ++ whole_blocks h
whole-append b h e =
    let count : 3 * (length (b ++ h) / 3) ≡ length b + 3 * (length h / 3) = omega (arith, length-append b h) in
    rw count (take-append-add b h (3 * (length h / 3)))

whole-few : (h : List ℕ) → length h ≤ 2 → whole_blocks h ≡ []
whole-few h few =
    let none : 3 * (length h / 3) ≡ 0 = omega arith in
    rw none refl

whole-below : (b : List ℕ) → EachBelow 256 b → EachBelow 256 (whole_blocks b)
whole-below b below = below-take 256 (3 * (length b / 3)) b (omega arith) below

pub length-whole : (b : List ℕ) → length (whole_blocks b) ≡ 3 * (length b / 3)
length-whole b = length-take-le (3 * (length b / 3)) b (omega arith)

pub at_position : (a : Alphabet) (w : ℕ) (ending : Option LineEnding) (out wait : List ℕ) (p room : ℕ) (b : List ℕ)
    → 0 < w → length wait ≤ 2 → Stands a w (ending_of ending) out p room b
    → p ≡ length (in_lines (format_of w ending) (unpadded_encoding a (whole_blocks (b ++ wait))))
at_position a w ending out wait p room b pos few s =
    rw (
      whole-append b wait s.whole,
      whole-few wait few,
      append-nil b,
      lines_are w ending (unpadded_encoding a b) pos,
      ← s.front,
    ) (sym (length-take-le p out s.within))

-- a text behind what stands there
pub behind : (a : Alphabet) (w : ℕ) (ending : Option LineEnding) (out : List ℕ) (p room : ℕ) (b more : List ℕ) → 0 < w
    → Stands a w (ending_of ending) out p room b
    → length (in_lines (format_of w ending) (unpadded_encoding a b ++ more))
    ≡ p + length (wrap_from w (ending_of ending) room more)
behind a w ending out p room b more pos s =
    let e : List ℕ = ending_of ending in
    let n : length (wrap_from w e w (unpadded_encoding a b)) ≡ p =
    sym (ap length s.front) ∙ length-take-le p out s.within in
    rw (
      lines_are w ending (unpadded_encoding a b ++ more) pos,
      wrap-append w e w (unpadded_encoding a b) more,
      ← s.at,
      length-append (wrap_from w e w (unpadded_encoding a b)) (wrap_from w e room more),
      n,
    ) refl

pub joined_unpadded : (a : Alphabet) (b wait input : List ℕ) → EachBelow 256 b → length b % 3 ≡ 0
    → unpadded_encoding a (whole_blocks ((b ++ wait) ++ input)) ≡ unpadded_encoding a b
    ++ unpadded_encoding a (whole_blocks (wait ++ input))
joined_unpadded a b wait input below whole =
    rw (append_assoc b wait input, whole-append b (wait ++ input) whole)
    (unpadded-append a b (whole_blocks (wait ++ input)) below whole)

-- the blocks fit exactly where their text does
fit_exactly : (a : Alphabet) (w : ℕ) (ending : Option LineEnding) (out wait input : List ℕ) (p room n available : ℕ)
    (b : List ℕ) → 0 < w → EachBelow 256 wait → EachBelow 256 input
    → n ≡ 4 * ((length wait + length input) / 3) → available ≡ length out - p
    → Stands a w (ending_of ending) out p room b
    → (n + length (ending_of ending) * endings w room n ≤ available)
    ↔ (length (in_lines (format_of w ending) (unpadded_encoding a (whole_blocks ((b ++ wait) ++ input))))
    ≤ length out)
fit_exactly a w ending out wait input p room n available b pos bw bi en ea s =
    let e : List ℕ = ending_of ending in
    let held : List ℕ = wait ++ input in
    let bh : EachBelow 256 (whole_blocks held) = whole-below held (below-append wait input bw bi) in
    let count : n ≡ length (unpadded_encoding a (whole_blocks held)) =
    omega (arith, length-unpadded a (whole_blocks held) bh, length-whole held, length-append wait input) in
    let lines = length-wrap w e room (unpadded_encoding a (whole_blocks held)) n pos count in
    let text = ap (λ (t : List ℕ). length (in_lines (format_of w ending) t))
    (joined_unpadded a b wait input s.below s.whole)
    ∙ behind a w ending out p room b (unpadded_encoding a (whole_blocks held)) pos s in
    let within = s.within in
    (λ h. omega (arith, text, lines, h), λ h. omega (arith, text, lines, h))

room_for : (a : Alphabet) (w : ℕ) (ending : Option LineEnding) (out wait input : List ℕ) (p room n available : ℕ)
    (b : List ℕ) → 0 < w → EachBelow 256 wait → EachBelow 256 input
    → n ≡ 4 * ((length wait + length input) / 3) → available ≡ length out - p
    → Stands a w (ending_of ending) out p room b
    → n + length (ending_of ending) * endings w room n ≤ available
    → p + length (wrap_from w (ending_of ending) room (unpadded_encoding a (whole_blocks (wait ++ input))))
    ≤ length out
room_for a w ending out wait input p room n available b pos bw bi en ea s h =
    let text = ap (λ (t : List ℕ). length (in_lines (format_of w ending) t))
    (joined_unpadded a b wait input s.below s.whole)
    ∙ behind a w ending out p room b (unpadded_encoding a (whole_blocks (wait ++ input))) pos s in
    omega (arith, text, (fit_exactly a w ending out wait input p room n available b pos bw bi en ea s).0 h)

-- after the blocks are written
more_stand : (a : Alphabet) (w : ℕ) (e out new wait input : List ℕ) (p q room left : ℕ) (b : List ℕ)
    → is_alphabet a ≡ true → 0 < w → EachBelow 256 wait → EachBelow 256 input → Stands a w e out p room b
    → Wrote w e out new p q room left (unpadded_encoding a (whole_blocks (wait ++ input)))
    → Stands a w e new q left (bytes_in a w (length e) (take q new))
    × (bytes_in a w (length e) (take q new) ≡ b ++ whole_blocks (wait ++ input))
more_stand a w e out new wait input p q room left b lawful pos bw bi s f =
    let held : List ℕ = wait ++ input in
    let after : Stands a w e new q left (b ++ whole_blocks held) =
    stands_more a w e out new p q room left b (whole_blocks held) (whole-below held (below-append wait input bw bi))
    (omega (arith, length-whole held)) s f in
    let read = stands_read a w e new q left (b ++ whole_blocks held) lawful pos after in
    (rw read after, read)

pub more_bytes : (b wait input now last : List ℕ) → now ≡ b ++ whole_blocks (wait ++ input)
    → last ≡ drop (3 * (length (wait ++ input) / 3)) (wait ++ input) → now ++ last ≡ (b ++ wait) ++ input
more_bytes b wait input now last en el =
    let held : List ℕ = wait ++ input in
    rw (
      en,
      el,
      append_assoc b (whole_blocks held) (drop (3 * (length held / 3)) held),
      take-append-drop (3 * (length held / 3)) held,
    ) (sym (append_assoc b wait input))

pub none_read : (a : Alphabet) (w k : ℕ) → bytes_in a w k [] ≡ []
unfolding unwrap_from
none_read a w k = whole_bytes-nil a.low_first

pub none_stand : (a : Alphabet) (w : ℕ) (e out : List ℕ) (b : List ℕ) → b ≡ [] → Stands a w e out 0 w b
none_stand a w e out b is = rw is (stands_none a w e out)

-- ---- the last block

pub short_encoding : (a : Alphabet) (wait : List ℕ) → EachBelow 256 wait → length wait ≤ 2
    → length (encoding a wait) ≤ 4
short_encoding a wait below few = by_padding a.padded (length-encoding a wait below)
  where
    by_padding : (p : Bool)
        → length (encoding a wait) ≡ (4 * length wait + 2) / 3 + padding_count p ((4 * length wait + 2) / 3)
        → length (encoding a wait) ≤ 4
    by_padding true e = omega arith
    by_padding false e = omega arith

pub close_exactly : (a : Alphabet) (w : ℕ) (ending : Option LineEnding) (out wait : List ℕ) (p room n available : ℕ)
    (b : List ℕ) → 0 < w → n ≡ length (encoding a wait) → available ≡ length out - p
    → Stands a w (ending_of ending) out p room b
    → (n + length (ending_of ending) * endings w room n ≤ available)
    ↔ (length (in_lines (format_of w ending) (encoding a (b ++ wait))) ≤ length out)
close_exactly a w ending out wait p room n available b pos en ea s =
    let lines = length-wrap w (ending_of ending) room (encoding a wait) n pos en in
    let text = ap (λ (t : List ℕ). length (in_lines (format_of w ending) t)) (encoding-append a b wait s.below s.whole)
    ∙ behind a w ending out p room b (encoding a wait) pos s in
    let within = s.within in
    (λ h. omega (arith, text, lines, h), λ h. omega (arith, text, lines, h))

pub closed_text : (a : Alphabet) (w : ℕ) (ending : Option LineEnding) (out new wait : List ℕ) (p q room left : ℕ)
    (b : List ℕ) → 0 < w → Stands a w (ending_of ending) out p room b
    → Wrote w (ending_of ending) out new p q room left (encoding a wait)
    → take q new ≡ in_lines (format_of w ending) (encoding a (b ++ wait))
closed_text a w ending out new wait p q room left b pos s f =
    let e : List ℕ = ending_of ending in
    f.put ∙ rw (
      s.front,
      s.at,
      encoding-append a b wait s.below s.whole,
      lines_are w ending (unpadded_encoding a b ++ encoding a wait) pos,
    )
    (sym (wrap-append w e w (unpadded_encoding a b) (encoding a wait)))

-- ---- ASCII

wrap-ascii : (w : ℕ) (e : List ℕ) (room : ℕ) (t : List ℕ) → IsAscii e → IsAscii t → IsAscii (wrap_from w e room t)
unfolding wrap_from
wrap-ascii w e room [] he ht = λ i. omega arith
wrap-ascii w e zero (c ∷ cs) he ht =
    IsAscii-append e (c ∷ wrap_from w e (w - 1) cs) he
    (elim [ zero ↦ ht 0 | suc i ↦ wrap-ascii w e (w - 1) cs he (λ j. ht (suc j)) i ])
wrap-ascii w e (suc room) (c ∷ cs) he ht = elim [ zero ↦ ht 0 | suc i ↦ wrap-ascii w e room cs he (λ j. ht (suc j)) i ]

ending-ascii : (e : Option LineEnding) → IsAscii (ending_of e)
ending-ascii None = λ i. omega arith
ending-ascii (Some CR) = elim [ zero ↦ omega arith | suc i ↦ omega arith ]
ending-ascii (Some LF) = elim [ zero ↦ omega arith | suc i ↦ omega arith ]
ending-ascii (Some CRLF) = elim [ zero ↦ omega arith | suc zero ↦ omega arith | suc (suc i) ↦ omega arith ]

pub lines-ascii : (w : ℕ) (ending : Option LineEnding) (t : List ℕ) → 0 < w → IsAscii t
    → IsAscii (in_lines (format_of w ending) t)
lines-ascii w ending t pos h =
    rw (lines_are w ending t pos) (wrap-ascii w (ending_of ending) w t (ending-ascii ending) h)

-- ---- an encoder's fields, where the bytes that wait stand in a longer list, and the ending is written out

module _ {a : Alphabet} {w : ℕ} {out : List ℕ} {p room : ℕ} {b : List ℕ} where
  pub fields_fit : (ending : Option LineEnding) → Stands a w (ending_of ending) out p room b
      → (written waiting input : List ℕ) (count : ℕ) → written ≡ ending_of ending → EachBelow 256 (take count waiting)
      → count ≤ length waiting → 0 < w → EachBelow 256 input → (let n = 4 * ((count + length input) / 3) in
      (n + length written * endings w room n ≤ length out - p)
      ↔ (length (in_lines (format_of w ending)
      (unpadded_encoding a (whole_blocks ((b ++ take count waiting) ++ input)))) ≤ length out))
  fields_fit ending s written waiting input count same bw le pos bi =
      rw same (fit_exactly a w ending out (take count waiting) input p room (4 * ((count + length input) / 3))
      (length out - p) b pos bw bi (rw (length-take-le count waiting le) refl) refl s)

  pub fields_room : (ending : Option LineEnding) → Stands a w (ending_of ending) out p room b
      → (written waiting input : List ℕ) (count : ℕ) → written ≡ ending_of ending → EachBelow 256 (take count waiting)
      → count ≤ length waiting → 0 < w → EachBelow 256 input → (let n = 4 * ((count + length input) / 3) in
      n + length written * endings w room n ≤ length out - p
      → p + length (wrap_from w written room (unpadded_encoding a (whole_blocks (take count waiting ++ input))))
      ≤ length out)
  fields_room ending s written waiting input count same bw le pos bi h =
      rw same (room_for a w ending out (take count waiting) input p room (4 * ((count + length input) / 3))
      (length out - p) b pos bw bi (rw (length-take-le count waiting le) refl) refl s (rw same at h))

  pub fields_stand : (ending : Option LineEnding) → Stands a w (ending_of ending) out p room b
      → (written waiting input : List ℕ) (count : ℕ) → written ≡ ending_of ending → EachBelow 256 (take count waiting)
      → 0 < w → EachBelow 256 input → is_alphabet a ≡ true → {new : List ℕ} {q left : ℕ}
      → Wrote w written out new p q room left (unpadded_encoding a (whole_blocks (take count waiting ++ input)))
      → (let now = bytes_in a w (length (ending_of ending)) (take q new) in
      Stands a w (ending_of ending) new q left now × (now ≡ b ++ whole_blocks (take count waiting ++ input)))
  fields_stand ending s written waiting input count same bw pos bi lawful {new} {q} {left} wrote =
      more_stand a w (ending_of ending) out new (take count waiting) input p q room left b lawful pos bw bi s
      (rw same at wrote)
