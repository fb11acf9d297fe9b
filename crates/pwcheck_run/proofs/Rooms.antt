-- The room that an encoding takes in lines with a line feed between two.
use Rattle.std.proofs.Common.{◌≡◌, ℕ, ◌+◌, ◌-◌, ◌*◌, ◌/◌, ◌<◌, ◌≤◌, List, [], ◌∷◌, length, refl, sym, ap, ◌∙◌, arith}
use Rattle.std.proofs.Common.{inl, inr, Some}
use Rattle.std.proofs.lemmas.List.{length-take-le}
use Rattle.std.proofs.lemmas.Bool.{cases_lt, lt-ltb, le-ltb}
use Rattle.std.proofs.Math.Nat.{add-div_right, div-eq_of_lt, div-mul-le_self, le-div_iff_mul-le}
use Rattle.base64ct.specs.Alphabets.{base64}
use Rattle.base64ct.specs.Encoding.{EachBelow, encoding, unpadded_encoding}
use Rattle.base64ct.specs.Encoders.{endings, whole_blocks}
use Rattle.base64ct.specs.Wrapping.{in_lines, wrap}
use Rattle.base64ct.proofs.Encodings.{below-take}
use Rattle.base64ct.proofs.Encoders.{length-wrap, wrap_is}
use Rattle.base64ct.proofs.Padding.{length-encoding}
use Rattle.base64ct.proofs.Unpadded.{length-unpadded}

-- the characters of a text and its line feeds
lines_length : (w : ℕ) (t : List ℕ) → 0 < w → length (wrap t w (10 ∷ [])) ≡ length t + endings w w (length t)
lines_length w t pos = ap length (wrap_is w (10 ∷ []) t pos) ∙ length-wrap w (10 ∷ []) w t (length t) pos refl
    ∙ omega arith

feeds : (w n : ℕ) → 0 < w → 0 < n → endings w w n ≡ (n - 1) / w
feeds w n pos some = elim (cases_lt w n) [
  | inl lt ↦
      let sum : n - 1 ≡ (n - w - 1) + w = omega (arith, lt) in
      rw (lt-ltb w n lt) (sym (ap (λ (k : ℕ). k / w) sum ∙ add-div_right (n - w - 1) pos))
  | inr ge ↦ rw (le-ltb w n ge) (sym (div-eq_of_lt (omega (arith, ge, some))))
]

quotient_grows : (w m n : ℕ) → 0 < w → m ≤ n → m / w ≤ n / w
quotient_grows w m n pos more =
    (le-div_iff_mul-le {k = w} {x = m / w} {y = n} pos).1 (omega (arith, div-mul-le_self m w, more))

-- more characters take no fewer line feeds
feeds_grow : (w m n : ℕ) → 0 < w → m ≤ n → endings w w m ≤ endings w w n
feeds_grow w m n pos more = elim (cases_lt w m) [
  | inl lt ↦
      let longer : w < n = omega (arith, lt, more) in
      let fewer : (m - w - 1) / w ≤ (n - w - 1) / w =
      quotient_grows w (m - w - 1) (n - w - 1) pos (omega (arith, more)) in
      rw (lt-ltb w m lt, lt-ltb w n longer) (omega (arith, fewer))
  | inr ge ↦ rw (le-ltb w m ge) (omega arith)
]

-- an encoding of some bytes has a character
pub encoding_some : (b : List ℕ) → EachBelow 256 b → 0 < length b → 0 < length (encoding base64 b)
encoding_some b below some = omega (arith, length-encoding base64 b below, some)

pub encoding_short : (b : List ℕ) → EachBelow 256 b → length b ≤ 1048576 → length (encoding base64 b) ≤ 2000000
encoding_short b below short = omega (arith, length-encoding base64 b below, short)

-- the room of the encoding in lines
pub room_is : (w : ℕ) (b : List ℕ) → 0 < w → EachBelow 256 b → 0 < length b
    → length (encoding base64 b) + (length (encoding base64 b) - 1) / w ≡ length (wrap (encoding base64 b) w (10 ∷ []))
room_is w b pos below some =
    sym (lines_length w (encoding base64 b) pos
    ∙ ap (λ (k : ℕ). length (encoding base64 b) + k)
    (feeds w (length (encoding base64 b)) pos (encoding_some b below some)))

pub room_some : (w : ℕ) (b : List ℕ) → 0 < w → EachBelow 256 b → 0 < length b
    → 0 < length (wrap (encoding base64 b) w (10 ∷ []))
room_some w b pos below some = omega (arith, lines_length w (encoding base64 b) pos, encoding_some b below some)

-- the whole blocks of an input fit where its encoding does
pub blocks_fit : (w : ℕ) (b : List ℕ) → 0 < w → EachBelow 256 b
    → length (in_lines (Some (w, 10 ∷ [])) (unpadded_encoding base64 (whole_blocks b)))
    ≤ length (wrap (encoding base64 b) w (10 ∷ []))
blocks_fit w b pos below =
    let whole : length (whole_blocks b) ≡ 3 * (length b / 3) = length-take-le (3 * (length b / 3)) b (omega arith) in
    let blocks = length-unpadded base64 (whole_blocks b) (below-take 256 (3 * (length b / 3)) b (omega arith) below) in
    let fewer : length (unpadded_encoding base64 (whole_blocks b)) ≤ length (encoding base64 b) =
    omega (arith, blocks, whole, length-encoding base64 b below) in
    omega (
      arith,
      fewer,
      lines_length w (unpadded_encoding base64 (whole_blocks b)) pos,
      lines_length w (encoding base64 b) pos,
      feeds_grow w (length (unpadded_encoding base64 (whole_blocks b))) (length (encoding base64 b)) pos fewer,
    )
