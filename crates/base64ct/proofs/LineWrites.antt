-- Characters put into lines.
use Rattle.std.proofs.Common.{◌≡◌, ℕ, ◌+◌, ◌-◌, ◌<◌, ◌≤◌, List, [], ◌∷◌, ◌++◌, length, take, drop, sym, ap, ◌∙◌, subst}
use Rattle.std.proofs.Common.{arith, take-add, slice_index, slice_set}
use Rattle.std.proofs.lemmas.List.{append-nil, length-append, take-append-drop, length-take-le, length-drop, drop-drop}
use Rattle.std.proofs.lemmas.List.{drop_all, drop_more, take-set, drop-set}
use borrow.Rule.Slice.PartMut.{put_mid}
use Rattle.base64ct.specs.Encoders.{wrap_from, room_after, Wrote}
use Rattle.base64ct.proofs.Wrapping.{wrap-append, length-short, length-across, room-short, stride_wrote, wrote_more}
use Rattle.base64ct.proofs.Wrapping.{wrote_length, length-put_mid}

-- the first characters are written, and the others fit
pub record Lining (w : ℕ) (e chars old out : List ℕ) (position done at room left : ℕ) : Type 0 where
  pub wrote : Wrote w e old out position at room left (take done chars)
  pub fits : at + length (wrap_from w e left (drop done chars)) ≤ length out

-- characters that the line takes come first
pub lining_first : (w : ℕ) (e chars out ys : List ℕ) (position k d room : ℕ)
    → position + length (wrap_from w e room chars) ≤ length out → d ≤ length chars → d ≤ room → k ≡ d
    → ys ≡ take d chars
    → Lining w e chars out (put_mid position k out ys) position d (position + d) room (room - d)
lining_first w e chars out ys position k d room fits within some ek is =
    let front : List ℕ = take d chars in
    let lf : length front ≡ d = length-take-le d chars within in
    let ly : length ys ≡ k = ap length is ∙ lf ∙ sym ek in
    let after : room_after w room (length front) ≡ room - d =
    ap (λ (n : ℕ). room_after w room n) lf ∙ room-short w room d some in
    let parts : wrap_from w e room chars ≡ wrap_from w e room front ++ wrap_from w e (room - d) (drop d chars) =
    ap (λ (t : List ℕ). wrap_from w e room t) (sym (take-append-drop d chars))
    ∙ wrap-append w e room front (drop d chars)
    ∙ ap (λ (r : ℕ). wrap_from w e room front ++ wrap_from w e r (drop d chars)) after in
    let count = ap length parts ∙ length-append (wrap_from w e room front) (wrap_from w e (room - d) (drop d chars)) in
    let short = length-short w e room front (omega (arith, lf, some)) in
    let same = length-put_mid position k out ys (omega (arith, fits, count, short, lf, ek)) ly in
    record {
      wrote = stride_wrote w e out front [] ys position k d room (is ∙ sym (append-nil front)) (sym lf) some
          (omega (arith, fits));
      fits = omega (arith, fits, count, short, lf, same);
    }

-- a line more fits
pub lining_fits : (w : ℕ) (e chars old out : List ℕ) (position done at room left n : ℕ)
    → Lining w e chars old out position done at room left → left ≡ 0 → 0 < n → n ≤ w → done + n ≤ length chars
    → at + length e + n ≤ length out
lining_fits w e chars old out position done at room left n s none some line within =
    let piece : List ℕ = take n (drop done chars) in
    let lp : length piece ≡ n = length-take-le n (drop done chars) (omega (arith, length-drop done chars, within)) in
    let parts : wrap_from w e left (drop done chars) ≡ wrap_from w e left piece
    ++ wrap_from w e (room_after w left (length piece)) (drop n (drop done chars)) =
    ap (λ (t : List ℕ). wrap_from w e left t) (sym (take-append-drop n (drop done chars)))
    ∙ wrap-append w e left piece (drop n (drop done chars)) in
    omega (
      arith,
      s.fits,
      ap length parts,
      length-append (wrap_from w e left piece)
          (wrap_from w e (room_after w left (length piece)) (drop n (drop done chars))),
      length-across w e left piece (omega (arith, none, lp, some)) (omega (arith, lp, line)),
      lp,
    )

-- a line more
pub lining_more : (w : ℕ) (e chars old out new : List ℕ) (position done at next room left last n : ℕ)
    → Lining w e chars old out position done at room left → length new ≡ length out
    → Wrote w e out new at next left last (take n (drop done chars))
    → Lining w e chars old new position (done + n) next room last
lining_more w e chars old out new position done at next room left last n s len f =
    let piece : List ℕ = take n (drop done chars) in
    let rest : List ℕ = drop (done + n) chars in
    let parts : wrap_from w e left (drop done chars) ≡ wrap_from w e left piece ++ wrap_from w e last rest =
    ap (λ (t : List ℕ). wrap_from w e left t) (sym (take-append-drop n (drop done chars)))
    ∙ wrap-append w e left piece (drop n (drop done chars))
    ∙ ap (λ (t : List ℕ). wrap_from w e left piece ++ wrap_from w e (room_after w left (length piece)) t)
    (drop-drop n done chars) ∙ ap (λ (r : ℕ). wrap_from w e left piece ++ wrap_from w e r rest) (sym f.at) in
    let count = wrote_length w e out new at next left last piece (omega (arith, s.fits)) f in
    record {
      wrote = subst (λ (t : List ℕ). Wrote w e old new position next room last t) (sym (take-add done n chars))
          (wrote_more w e old out new position at next room left last (take done chars) piece s.wrote f);
      fits = omega (
        arith,
        s.fits,
        ap length parts,
        length-append (wrap_from w e left piece) (wrap_from w e last rest),
        count,
        len,
      );
    }

-- an ending of one byte
pub ending_put : (out e : List ℕ) (p x : ℕ) → p < length out → length e ≡ 1 → x ≡ slice_index e 0
    → slice_set out p x ≡ take p out ++ (e ++ drop (length e) (drop p out))
ending_put out e p x lt len is =
    let all : e ≡ x ∷ [] = drop_more e 0 0 (omega arith)
    ∙ ap (λ (l : List ℕ). slice_index e 0 ∷ l) (drop_all (0 + 1) e (omega arith))
    ∙ ap (λ (c : ℕ). c ∷ []) (sym is) in
    let tail : e ++ drop (length e) (drop p out) ≡ x ∷ drop (p + 1) out =
    ap (λ (l : List ℕ). l ++ drop (length e) (drop p out)) all
    ∙ ap (λ (l : List ℕ). x ∷ l) (ap (λ (n : ℕ). drop n (drop p out)) len ∙ drop-drop 1 p out) in
    sym (take-append-drop p (slice_set out p x))
    ∙ ap (λ (l : List ℕ). l ++ drop p (slice_set out p x)) (take-set out p x)
    ∙ ap (λ (l : List ℕ). take p out ++ l) (drop-set out p x lt ∙ sym tail)
