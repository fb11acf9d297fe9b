-- Characters laid in lines, piece by piece.
use Rattle.std.proofs.Common.{◌≡◌, ℕ, ◌+◌, ◌<◌, ◌≤◌, List, [], ◌∷◌, ◌++◌, length, take, drop, refl, sym, ap, ◌∙◌, arith}
use Rattle.std.proofs.Common.{take-add, length-set}
use Rattle.std.specs.Prelude.{slice_set}
use Rattle.std.proofs.lemmas.List.{append_assoc, length-take-le}
use Rattle.std.proofs.lemmas.Grind.{take-set_at}
use Rattle.std.proofs.lemmas.Slice.{take-put_mid}
use borrow.Rule.Slice.PartMut.{put_mid}
use Rattle.base64ct.specs.Encoders.{wrap_from, room_after}
use Rattle.base64ct.proofs.Wrapping.{room_after-add, wrap-append, wrap-nil, wrap-short, wrap-new_line}

-- the first characters are written in lines
pub record Laying (w : ℕ) (e : List ℕ) (room : ℕ) (chars out : List ℕ) (done at left : ℕ) : Type 0 where
  pub put : take at out ≡ wrap_from w e room (take done chars)
  pub at_room : left ≡ room_after w room done

pub room_none : (w room : ℕ) → room ≡ room_after w room 0
unfolding room_after
room_none w room = refl

pub laying_none : (w : ℕ) (e : List ℕ) (room : ℕ) (chars out : List ℕ) → Laying w e room chars out 0 0 room
laying_none w e room chars out = record { put = sym (wrap-nil w e room); at_room = room_none w room }

pub laying_more : (w : ℕ) (e : List ℕ) (room : ℕ) (chars out out' xs : List ℕ) (done at left n to left' : ℕ)
    → Laying w e room chars out done at left → xs ≡ take n (drop done chars) → done + n ≤ length chars
    → take to out' ≡ take at out ++ wrap_from w e left xs → left' ≡ room_after w left n
    → Laying w e room chars out' (done + n) to left'
laying_more w e room chars out out' xs done at left n to left' f is fits put at_room =
    let len : length (take done chars) ≡ done = length-take-le done chars (omega arith) in
    record {
      put = put ∙ ap (λ (t : List ℕ). t ++ wrap_from w e left xs) f.put
          ∙ ap (λ (r : ℕ). wrap_from w e room (take done chars) ++ wrap_from w e r xs)
          (f.at_room ∙ ap (λ (k : ℕ). room_after w room k) (sym len))
          ∙ sym (wrap-append w e room (take done chars) xs)
          ∙ ap (λ (t : List ℕ). wrap_from w e room (take done chars ++ t)) is
          ∙ ap (λ (t : List ℕ). wrap_from w e room t) (sym (take-add done n chars));
      at_room = at_room ∙ ap (λ (r : ℕ). room_after w r n) f.at_room ∙ sym (room_after-add w room done n);
    }

-- some characters on the line
pub put_within : (w : ℕ) (e chars out ys : List ℕ) (at left n k : ℕ) → ys ≡ take n chars → n ≤ length chars → n ≤ left
    → k ≡ n → at + n ≤ length out
    → take (at + n) (put_mid at k out ys) ≡ take at out ++ wrap_from w e left (take n chars)
put_within w e chars out ys at left n k is short within same fits =
    let len : length (take n chars) ≡ n = length-take-le n chars short in
    take-put_mid at k out ys (at + n) (omega (arith, ap length is)) (omega arith)
    ∙ ap (λ (t : List ℕ). take at out ++ t) (is ∙ sym (wrap-short w e left (take n chars) (omega arith)))

-- some on a new line
pub put_behind : (w : ℕ) (chars out ys : List ℕ) (at start n k feed : ℕ) → ys ≡ take n chars → n ≤ length chars → 0 < n
    → n ≤ w → k ≡ n → start ≡ at + 1 → feed ≡ 10 → start + n ≤ length out
    → take (start + n) (put_mid start k (slice_set out at feed) ys) ≡ take at out
    ++ wrap_from w (10 ∷ []) 0 (take n chars)
put_behind w chars out ys at start n k feed is short some within same next ten fits =
    let len : length (take n chars) ≡ n = length-take-le n chars short in
    take-put_mid start k (slice_set out at feed) ys (start + n) (omega (arith, ap length is))
    (omega (arith, length-set out at feed))
    ∙ rw (take-set_at out at start feed next (omega arith), is, ten)
    (append_assoc (take at out) (10 ∷ []) (take n chars)
    ∙ ap (λ (t : List ℕ). take at out ++ t)
    (sym (wrap-new_line w (10 ∷ []) (take n chars) (omega arith) (omega arith))))
