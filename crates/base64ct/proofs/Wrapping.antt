-- Text written in lines.
use Rattle.std.proofs.Common.{◌≡◌, ℕ, zero, suc, ◌+◌, ◌-◌, ◌%◌, ◌<◌, ◌≤◌, true, List, [], ◌∷◌, ◌++◌, length, take, drop}
use Rattle.std.proofs.Common.{refl, sym, ap, ◌∙◌, arith, take-add}
use Rattle.std.proofs.lemmas.List.{append_assoc, append-nil, length-append, take_at, take-append-drop, length-take-le}
use Rattle.std.proofs.lemmas.List.{length-drop, drop-drop}
use Rattle.std.proofs.lemmas.Slice.{take-put_mid}
use borrow.Rule.Slice.PartMut.{put_mid}
use Rattle.base64ct.proofs.Encodings.{below-take, below-drop}
use Rattle.std.proofs.lemmas.Bool.{lt-ltb, le-ltb}
use Rattle.base64ct.specs.Encoding.{Alphabet, is_alphabet, unpadded_encoding, unpadded_len, EachBelow}
use Rattle.base64ct.proofs.Unpadded.{bytes-unpadded, length-unpadded, unpadded-append, unpadded-nil}
use Rattle.base64ct.proofs.GoodBlocks.{below-append}
use Rattle.base64ct.specs.Encoders.{wrap_from, room_after, unwrap_from, bytes_in, Stands, Wrote}

pub room_after-add : (w room m n : ℕ) → room_after w room (m + n) ≡ room_after w (room_after w room m) n
unfolding room_after
room_after-add w room zero n = ap (λ (k : ℕ). room_after w room k) (omega arith)
room_after-add w zero (suc m) n =
    let next : suc m + n ≡ suc (m + n) = omega arith in
    rw next (room_after-add w (w - 1) m n)
room_after-add w (suc room) (suc m) n =
    let next : suc m + n ≡ suc (m + n) = omega arith in
    rw next (room_after-add w room m n)

pub wrap-append : (w : ℕ) (e : List ℕ) (room : ℕ) (xs ys : List ℕ)
    → wrap_from w e room (xs ++ ys) ≡ wrap_from w e room xs ++ wrap_from w e (room_after w room (length xs)) ys
unfolding wrap_from room_after
wrap-append w e room [] ys = refl
wrap-append w e zero (c ∷ cs) ys =
    rw (wrap-append w e (w - 1) cs ys) (sym (append_assoc e (c ∷ wrap_from w e (w - 1) cs) _))
wrap-append w e (suc room) (c ∷ cs) ys = ap (λ (t : List ℕ). c ∷ t) (wrap-append w e room cs ys)

pub wrap-nil : (w : ℕ) (e : List ℕ) (room : ℕ) → wrap_from w e room [] ≡ []
unfolding wrap_from
wrap-nil w e room = refl

pub wrap-short : (w : ℕ) (e : List ℕ) (room : ℕ) (xs : List ℕ) → length xs ≤ room → wrap_from w e room xs ≡ xs
unfolding wrap_from
wrap-short w e room [] h = refl
wrap-short w e zero (c ∷ cs) h = absurd (omega arith)
wrap-short w e (suc room) (c ∷ cs) h = ap (λ (t : List ℕ). c ∷ t) (wrap-short w e room cs (omega arith))

pub room-short : (w room n : ℕ) → n ≤ room → room_after w room n ≡ room - n
unfolding room_after
room-short w room zero h = omega arith
room-short w zero (suc n) h = absurd (omega arith)
room-short w (suc room) (suc n) h = room-short w room n (omega arith) ∙ omega arith

pub wrap-new_line : (w : ℕ) (e ys : List ℕ) → 0 < length ys → length ys ≤ w → wrap_from w e 0 ys ≡ e ++ ys
unfolding wrap_from
wrap-new_line w e [] some h = absurd (omega arith)
wrap-new_line w e (c ∷ cs) some h = rw (wrap-short w e (w - 1) cs (omega arith)) refl

pub wrap-across : (w : ℕ) (e : List ℕ) (room : ℕ) (xs ys : List ℕ) → length xs ≡ room → 0 < length ys → length ys ≤ w
    → wrap_from w e room (xs ++ ys) ≡ xs ++ (e ++ ys)
wrap-across w e room xs ys at some h =
    let none : room_after w room (length xs) ≡ 0 = room-short w room (length xs) (omega arith) ∙ omega arith in
    wrap-append w e room xs ys ∙ rw (none, wrap-short w e room xs (omega arith), wrap-new_line w e ys some h) refl

pub room-new_line : (w n : ℕ) → 0 < n → n ≤ w → room_after w 0 n ≡ w - n
unfolding room_after
room-new_line w zero some h = absurd (omega arith)
room-new_line w (suc n) some h = room-short w (w - 1) n (omega arith) ∙ omega arith

pub room-across : (w room n : ℕ) → 0 < n → n ≤ w → room_after w room (room + n) ≡ w - n
room-across w room n some h =
    let none : room_after w room room ≡ 0 = room-short w room room (omega arith) ∙ omega arith in
    room_after-add w room room n ∙ rw none (room-new_line w n some h)

-- without an ending the lines are one
pub wrap-no_ending : (w room : ℕ) (t : List ℕ) → wrap_from w [] room t ≡ t
unfolding wrap_from
wrap-no_ending w room [] = refl
wrap-no_ending w zero (c ∷ cs) = ap (λ (t : List ℕ). c ∷ t) (wrap-no_ending w (w - 1) cs)
wrap-no_ending w (suc room) (c ∷ cs) = ap (λ (t : List ℕ). c ∷ t) (wrap-no_ending w room cs)

-- ---- what was wrapped comes back

unwrap-ending : (w k : ℕ) (e rest : List ℕ) → length e ≤ k
    → unwrap_from w k (length e) (e ++ rest) ≡ unwrap_from w k 0 rest
unfolding unwrap_from
unwrap-ending w k [] rest h = refl
unwrap-ending w k (c ∷ cs) rest h = rw (lt-ltb (length cs) k (omega arith)) (unwrap-ending w k cs rest (omega arith))

pub unwrap-wrap : (w : ℕ) (e : List ℕ) (room n : ℕ) (t : List ℕ) → 0 < w → n ≡ room + length e
    → unwrap_from w (length e) n (wrap_from w e room t) ≡ t
unfolding wrap_from unwrap_from
unwrap-wrap w e room n [] some is = refl
unwrap-wrap w e zero n (c ∷ cs) some is =
    let at : n ≡ length e = omega arith in
    rw (at, unwrap-ending w (length e) e (c ∷ wrap_from w e (w - 1) cs) (omega arith))
    (ap (λ (t : List ℕ). c ∷ t) (unwrap-wrap w e (w - 1) (w - 1 + length e) cs some refl))
unwrap-wrap w e (suc room) zero (c ∷ cs) some is = absurd (omega arith)
unwrap-wrap w e (suc room) (suc n) (c ∷ cs) some is =
    rw (le-ltb n (length e) (omega arith)) (ap (λ (t : List ℕ). c ∷ t) (unwrap-wrap w e room n cs some (omega arith)))

-- ---- writes in a row

pub wrote_none : (w : ℕ) (e out : List ℕ) (position room : ℕ) → position ≤ length out
    → Wrote w e out out position position room room []
unfolding wrap_from room_after
wrote_none w e out position room h = record { put = sym (append-nil (take position out)); within = h; at = refl }

pub wrote_more : (w : ℕ) (e old mid new : List ℕ) (p q r room left last : ℕ) (xs ys : List ℕ)
    → Wrote w e old mid p q room left xs → Wrote w e mid new q r left last ys
    → Wrote w e old new p r room last (xs ++ ys)
wrote_more w e old mid new p q r room left last xs ys f g = record {
  put = g.put ∙ rw (f.put, f.at, wrap-append w e room xs ys) (append_assoc (take p old) (wrap_from w e room xs) _);
  within = g.within;
  at = g.at ∙ rw (f.at, length-append xs ys) (sym (room_after-add w room (length xs) (length ys)));
}

-- ---- the bytes so far

pub stands_read : (a : Alphabet) (w : ℕ) (e out : List ℕ) (p room : ℕ) (b : List ℕ) → is_alphabet a ≡ true → 0 < w
    → Stands a w e out p room b → bytes_in a w (length e) (take p out) ≡ b
stands_read a w e out p room b lawful some s =
    rw (s.front, unwrap-wrap w e w (w + length e) (unpadded_encoding a b) some refl) (bytes-unpadded a b lawful s.below)

pub stands_none : (a : Alphabet) (w : ℕ) (e out : List ℕ) → Stands a w e out 0 w []
unfolding room_after
stands_none a w e out =
    record {
      below = λ i. omega arith;
      whole = refl;
      front = rw (unpadded-nil a) (sym (wrap-nil w e w));
      within = omega arith;
      at = rw (unpadded-nil a) refl;
    }

pub stands_more : (a : Alphabet) (w : ℕ) (e old new : List ℕ) (p q room left : ℕ) (b c : List ℕ) → EachBelow 256 c
    → length c % 3 ≡ 0
    → Stands a w e old p room b → Wrote w e old new p q room left (unpadded_encoding a c)
    → Stands a w e new q left (b ++ c)
stands_more a w e old new p q room left b c below whole s f =
    let more : unpadded_encoding a (b ++ c) ≡ unpadded_encoding a b ++ unpadded_encoding a c =
    unpadded-append a b c s.below s.whole in
    record {
      below = below-append b c s.below below;
      whole = omega (arith, length-append b c, s.whole, whole);
      front = f.put ∙ rw (s.front, s.at, more, wrap-append w e w (unpadded_encoding a b) (unpadded_encoding a c)) refl;
      within = f.within;
      at = f.at ∙ rw (s.at, more, length-append (unpadded_encoding a b) (unpadded_encoding a c))
          (sym (room_after-add w w (length (unpadded_encoding a b)) (length (unpadded_encoding a c))));
    }

-- ---- how much is written

pub wrote_length : (w : ℕ) (e old new : List ℕ) (p q room left : ℕ) (xs : List ℕ) → p ≤ length old
    → Wrote w e old new p q room left xs → q ≡ p + length (wrap_from w e room xs)
wrote_length w e old new p q room left xs h f =
    let lp : length (take p old) ≡ p = length-take-le p old h in
    let lq : length (take q new) ≡ q = length-take-le q new f.within in
    omega (arith, lp, lq, ap length f.put, length-append (take p old) (wrap_from w e room xs))

pub length-short : (w : ℕ) (e : List ℕ) (room : ℕ) (xs : List ℕ) → length xs ≤ room
    → length (wrap_from w e room xs) ≡ length xs
length-short w e room xs h = ap length (wrap-short w e room xs h)

pub length-across : (w : ℕ) (e : List ℕ) (room : ℕ) (xs : List ℕ) → room < length xs → length xs ≤ w
    → length (wrap_from w e room xs) ≡ length xs + length e
length-across w e room xs more h =
    let parts : take room xs ++ drop room xs ≡ xs = take-append-drop room xs in
    let lt : length (take room xs) ≡ room = length-take-le room xs (omega arith) in
    let sum = ap length parts ∙ refl in
    let ld : length (drop room xs) ≡ length xs - room = length-drop room xs in
    let is : wrap_from w e room xs ≡ take room xs ++ (e ++ drop room xs) =
    ap (λ (t : List ℕ). wrap_from w e room t) (sym parts)
    ∙ wrap-across w e room (take room xs) (drop room xs) lt (omega arith) (omega arith) in
    ap length is ∙ omega (
      arith,
      length-append (take room xs) (e ++ drop room xs),
      length-append e (drop room xs),
      lt,
      ld,
    )

-- ---- the writes of `put`

pub length-put_mid : (p k : ℕ) (out ys : List ℕ) → p + k ≤ length out → length ys ≡ k
    → length (put_mid p k out ys) ≡ length out
length-put_mid p k out ys h e =
    let is : length (put_mid p k out ys) ≡ length (take p out ++ (ys ++ drop k (drop p out))) = refl in
    omega (
      arith,
      is,
      length-append (take p out) (ys ++ drop k (drop p out)),
      length-append ys (drop k (drop p out)),
      length-take-le p out (omega arith),
      length-drop k (drop p out),
      length-drop p out,
    )

pub wrote_short : (w : ℕ) (e out ys : List ℕ) (p k room : ℕ) (xs : List ℕ) → k ≡ length xs → ys ≡ xs
    → p + length xs ≤ length out → length xs ≤ room
    → Wrote w e out (put_mid p k out ys) p (p + length xs) room (room - length xs) xs
wrote_short w e out ys p k room xs ek is fits h = record {
  put = take-put_mid p k out ys (p + length xs) (omega (arith, ap length is)) (omega arith)
      ∙ rw (is, wrap-short w e room xs h) refl;
  within = omega (arith, length-put_mid p k out ys (omega arith) (ap length is ∙ sym ek));
  at = sym (room-short w room (length xs) h);
}

pub wrote_across : (w : ℕ) (e out xs front back one two three : List ℕ) (p m n q k l o room left : ℕ)
    → front ≡ take room xs → back ≡ drop room xs → one ≡ front → two ≡ e → three ≡ back
    → room < length xs → length xs ≤ w → m ≡ p + room → n ≡ m + length e → q ≡ n + length back → k ≡ room → l ≡ length e
    → o ≡ length back → left ≡ w - length back → q ≤ length out
    → Wrote w e out (put_mid n o (put_mid m l (put_mid p k out one) two) three) p q room left xs
wrote_across w e out xs front back one two three p m n q k l o room left ef eb e1 e2 e3 more h em en eq ek el eo eleft
    fits =
    let lf : length front ≡ room = ap length ef ∙ length-take-le room xs (omega arith) in
    let lb : length back ≡ length xs - room = ap length eb ∙ length-drop room xs in
    let l1 : length (put_mid p k out one) ≡ length out =
    length-put_mid p k out one (omega arith) (ap length e1 ∙ omega arith) in
    let l2 : length (put_mid m l (put_mid p k out one) two) ≡ length out =
    length-put_mid m l (put_mid p k out one) two (omega arith) (ap length e2 ∙ omega arith) ∙ l1 in
    let l3 : length (put_mid n o (put_mid m l (put_mid p k out one) two) three) ≡ length out =
    length-put_mid n o (put_mid m l (put_mid p k out one) two) three (omega arith) (ap length e3 ∙ omega arith)
    ∙ l2 in
    let t1 : take m (put_mid p k out one) ≡ take p out ++ one =
    take-put_mid p k out one m (omega (arith, ap length e1)) (omega arith) in
    let t2 : take n (put_mid m l (put_mid p k out one) two) ≡ take m (put_mid p k out one) ++ two =
    take-put_mid m l (put_mid p k out one) two n (omega (arith, ap length e2)) (omega arith) in
    let t3 : take q (put_mid n o (put_mid m l (put_mid p k out one) two) three)
    ≡ take n (put_mid m l (put_mid p k out one) two) ++ three =
    take-put_mid n o (put_mid m l (put_mid p k out one) two) three q (omega (arith, ap length e3)) (omega arith) in
    let parts : front ++ back ≡ xs = rw (ef, eb) (take-append-drop room xs) in
    let wrapped : wrap_from w e room xs ≡ front ++ (e ++ back) =
    ap (λ (t : List ℕ). wrap_from w e room t) (sym parts)
    ∙ wrap-across w e room front back lf (omega arith) (omega arith) in
    let sum : length xs ≡ room + length back = omega arith in
    record {
      put = t3 ∙ rw (t2, t1, wrapped, e1, e2, e3)
          (append_assoc (take p out ++ front) e back ∙ append_assoc (take p out) front (e ++ back));
      within = omega arith;
      at = eleft ∙ rw sum (sym (room-across w room (length back) (omega arith) (omega arith)));
    }

-- ---- strides

-- the characters of the first bytes of input are written, and those of the others fit
pub record Striding (a : Alphabet) (w : ℕ) (e input old out : List ℕ) (position done at room left : ℕ) : Type 0 where
  pub wrote : Wrote w e old out position at room left (unpadded_encoding a (take done input))
  pub fits : at + length (wrap_from w e left (unpadded_encoding a (drop done input))) ≤ length out

pub striding_none : (a : Alphabet) (w : ℕ) (e input out : List ℕ) (position room : ℕ)
    → position + length (wrap_from w e room (unpadded_encoding a input)) ≤ length out
    → Striding a w e input out out position 0 position room room
striding_none a w e input out position room h =
    record { wrote = rw (unpadded-nil a) (wrote_none w e out position room (omega arith)); fits = h }

-- the characters from some place on are those of the next bytes and those behind them
pub unpadded_apart : (a : Alphabet) (input : List ℕ) (done m : ℕ) → EachBelow 256 input → m % 3 ≡ 0
    → done + m ≤ length input → unpadded_encoding a (drop done input) ≡ unpadded_encoding a (take m (drop done input))
    ++ unpadded_encoding a (drop (done + m) input)
unpadded_apart a input done m below whole h =
    let len : length (take m (drop done input)) ≡ m =
    length-take-le m (drop done input) (omega (arith, length-drop done input)) in
    let parts : take m (drop done input) ++ drop m (drop done input) ≡ drop done input =
    take-append-drop m (drop done input) in
    ap (λ (t : List ℕ). unpadded_encoding a t) (sym parts)
    ∙ unpadded-append a (take m (drop done input)) (drop m (drop done input))
    (below-take 256 m (drop done input) (omega arith) (below-drop 256 done input below)) (omega arith)
    ∙ rw (drop-drop m done input) refl

-- the characters of a stride, as they stand at the front of a buffer
pub stride_characters : (a : Alphabet) (input chars dst : List ℕ) (done m k n : ℕ) → EachBelow 256 input → k ≡ m
    → done + m ≤ length input → n ≡ unpadded_len (length (take k (drop done input)))
    → dst ≡ unpadded_encoding a (take k (drop done input)) ++ drop n chars
    → take n dst ≡ unpadded_encoding a (take m (drop done input))
stride_characters a input chars dst done m k n below same within count written =
    let below_src = below-take 256 k (drop done input) (omega arith) (below-drop 256 done input below) in
    ap (λ (l : List ℕ). take n l) written
    ∙ take_at (unpadded_encoding a (take k (drop done input))) (drop n chars) n
    (omega (arith, count, length-unpadded a (take k (drop done input)) below_src)) ∙ rw same refl

pub striding_fits : (a : Alphabet) (w : ℕ) (e input old out : List ℕ) (position done at room left m : ℕ) (xs : List ℕ)
    → EachBelow 256 input → m % 3 ≡ 0 → done + m ≤ length input → xs ≡ unpadded_encoding a (take m (drop done input))
    → Striding a w e input old out position done at room left
    → at + length (wrap_from w e left xs)
    + length (wrap_from w e (room_after w left (length xs)) (unpadded_encoding a (drop (done + m) input)))
    ≤ length out
striding_fits a w e input old out position done at room left m xs below whole h is s =
    let apart : unpadded_encoding a (drop done input) ≡ xs ++ unpadded_encoding a (drop (done + m) input) =
    unpadded_apart a input done m below whole h ∙ rw is refl in
    let parted = ap (λ (t : List ℕ). length (wrap_from w e left t)) apart
    ∙ ap length (wrap-append w e left xs (unpadded_encoding a (drop (done + m) input)))
    ∙ length-append (wrap_from w e left xs) _ in
    omega (arith, s.fits, parted)

pub striding_step : (a : Alphabet) (w : ℕ) (e input old out new : List ℕ) (position done at next room left last m : ℕ)
    (xs : List ℕ) → EachBelow 256 input → done % 3 ≡ 0 → m % 3 ≡ 0 → done + m ≤ length input
    → xs ≡ unpadded_encoding a (take m (drop done input)) → length new ≡ length out
    → Striding a w e input old out position done at room left → Wrote w e out new at next left last xs
    → Striding a w e input old new position (done + m) next room last
striding_step a w e input old out new position done at next room left last m xs below whole more h is len s f =
    let fit = striding_fits a w e input old out position done at room left m xs below more h is s in
    let count = wrote_length w e out new at next left last xs (omega arith) f in
    let lt : length (take done input) ≡ done = length-take-le done input (omega arith) in
    let joined : unpadded_encoding a (take (done + m) input) ≡ unpadded_encoding a (take done input) ++ xs =
    rw (take-add done m input, is)
    (unpadded-append a (take done input) (take m (drop done input)) (below-take 256 done input (omega arith) below)
    (omega arith)) in
    record {
      wrote = rw joined (wrote_more w e old out new position at next room left last
          (unpadded_encoding a (take done input)) xs s.wrote f);
      fits = rw f.at (omega (arith, fit, count, len));
    }

pub length-wrap_le : (w : ℕ) (e : List ℕ) (room : ℕ) (t : List ℕ) → length t ≤ length (wrap_from w e room t)
unfolding wrap_from
length-wrap_le w e room [] = omega arith
length-wrap_le w e zero (c ∷ cs) =
    omega (arith, length-append e (c ∷ wrap_from w e (w - 1) cs), length-wrap_le w e (w - 1) cs)
length-wrap_le w e (suc room) (c ∷ cs) = omega (arith, length-wrap_le w e room cs)

-- some characters are written behind the others, in the line
pub stride_wrote : (w : ℕ) (e out xs more ys : List ℕ) (at k n left : ℕ) → ys ≡ xs ++ more → n ≡ length xs → n ≤ left
    → at ≤ length out → Wrote w e out (put_mid at k out ys) at (at + n) left (left - n) xs
stride_wrote w e out xs more ys at k n left is en h fits =
    let post : List ℕ = drop k (drop at out) in
    let lf : length (take at out ++ xs) ≡ at + n =
    omega (arith, length-append (take at out) xs, length-take-le at out fits) in
    let new : put_mid at k out ys ≡ (take at out ++ xs) ++ (more ++ post) =
    rw is (rw (append_assoc xs more post) (sym (append_assoc (take at out) xs (more ++ post)))) in
    record {
      put = ap (λ (t : List ℕ). take (at + n) t) new ∙ take_at (take at out ++ xs) (more ++ post) (at + n) lf
          ∙ rw (wrap-short w e left xs (omega arith)) refl;
      within = omega (arith, ap length new, length-append (take at out ++ xs) (more ++ post));
      at = rw (← en) (sym (room-short w left n h));
    }

-- an ending and some characters are written behind the others, where the line has no room
pub line_wrote : (w : ℕ) (e out one xs more ys : List ℕ) (at l m n : ℕ) → one ≡ e → l ≡ length e → ys ≡ xs ++ more
    → n ≡ length xs → 0 < n → n ≤ w → at + length e ≤ length out
    → Wrote w e out (put_mid (at + length e) m (put_mid at l out one) ys) at (at + length e + n) 0 (w - n) xs
line_wrote w e out one xs more ys at l m n e1 el ey en pos h fits =
    let ended : List ℕ = put_mid at l out one in
    let len : length ended ≡ length out = length-put_mid at l out one (omega arith) (ap length e1 ∙ sym el) in
    let front : take (at + length e) ended ≡ take at out ++ one =
    take-put_mid at l out one (at + length e) (omega (arith, ap length e1)) (omega arith) in
    let f = stride_wrote w e ended xs more ys (at + length e) m n w ey en h (omega (arith, len)) in
    record {
      put = f.put ∙ rw (front, e1, wrap-short w e w xs (omega arith), wrap-new_line w e xs (omega arith) (omega arith))
          (append_assoc (take at out) e xs);
      within = f.within;
      at = rw (← en) (sym (room-new_line w n pos h));
    }
