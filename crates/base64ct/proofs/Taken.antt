-- Characters taken from lines.
use Rattle.std.proofs.Common.{◌≡◌, ℕ, zero, suc, ◌+◌, ◌-◌, ◌<◌, ◌≤◌, ◌==◌, ◌&&◌, ◌||◌, true, false, List, [], ◌∷◌, ◌++◌}
use Rattle.std.proofs.Common.{length, take, drop, refl, sym, ap, ◌∙◌, arith, slice_index, slice_set, Option, Some, None}
use Rattle.std.proofs.lemmas.List.{append_assoc, length-drop, drop_all, drop_more, take_more_set}
use Rattle.base64ct.specs.Wrapping.{characters_from, put_before}

pub before-before : (xs ys : List ℕ) (o : Option (List ℕ)) → put_before xs (put_before ys o) ≡ put_before (xs ++ ys) o
before-before xs ys None = refl
before-before xs ys (Some t) = ap (λ (l : List ℕ). Some l) (sym (append_assoc xs ys t))

pub before-nil : (o : Option (List ℕ)) → put_before [] o ≡ o
before-nil None = refl
before-nil (Some t) = refl

-- a character more, where the line has room
pub character_more : (w room : ℕ) (body : List ℕ) (at : ℕ) → 0 < room → at < length body
    → characters_from w room (drop at body)
    ≡ put_before (slice_index body at ∷ []) (characters_from w (room - 1) (drop (at + 1) body))
unfolding characters_from
character_more w room body at some lt = rw (drop_more body at 0 lt) (step room some)
  where
    step : (r : ℕ) → 0 < r → characters_from w r (slice_index body at ∷ drop (at + 1) body)
        ≡ put_before (slice_index body at ∷ []) (characters_from w (r - 1) (drop (at + 1) body))
    step zero h = absurd (omega arith)
    step (suc r) h = let less : suc r - 1 ≡ r = omega arith in rw less refl

-- ---- endings

-- the text behind an ending begins a line
begin_line : (w f : ℕ) (rest : List ℕ) → 0 < w
    → characters_from w w (f ∷ rest) ≡ put_before (f ∷ []) (characters_from w (w - 1) rest)
unfolding characters_from
begin_line zero f rest pos = absurd (omega arith)
begin_line (suc w) f rest pos = let less : suc w - 1 ≡ w = omega arith in rw less refl

pub ending_two : (w c d : ℕ) (rest : List ℕ) → 0 < w → c ≡ 13 → d ≡ 10 → 0 < length rest
    → characters_from w 0 (c ∷ d ∷ rest) ≡ characters_from w w rest
unfolding characters_from
ending_two w c d [] pos ec ed some = absurd (omega arith)
ending_two w c d (f ∷ rest) pos ec ed some = rw (ec, ed) (sym (begin_line w f rest pos))

pub ending_two_none : (w c d : ℕ) → c ≡ 13 → d ≡ 10 → characters_from w 0 (c ∷ d ∷ []) ≡ None
unfolding characters_from
ending_two_none w c d ec ed = rw (ec, ed) refl

pub ending_one_none : (w c : ℕ) → characters_from w 0 (c ∷ []) ≡ None
unfolding characters_from
ending_one_none w c = refl

-- CR without LF behind it, or LF
pub ending_one : (w c : ℕ) (rest : List ℕ) → 0 < w → ((c == 13) || (c == 10)) ≡ true
    → ((c == 13) && (slice_index rest 0 == 10)) ≡ false → 0 < length rest
    → characters_from w 0 (c ∷ rest) ≡ characters_from w w rest
unfolding characters_from
ending_one w c [] pos is not some = absurd (omega arith)
ending_one w c (d ∷ []) pos is not some = rw (not, is) (sym (begin_line w d [] pos))
ending_one w c (d ∷ f ∷ rest) pos is not some = rw (not, is) (sym (begin_line w d (f ∷ rest) pos))

pub ending_other : (w c : ℕ) (rest : List ℕ) → (c == 13) ≡ false → (c == 10) ≡ false
    → characters_from w 0 (c ∷ rest) ≡ None
unfolding characters_from
ending_other w c [] cr lf = refl
ending_other w c (d ∷ []) cr lf = rw (cr, lf) refl
ending_other w c (d ∷ f ∷ rest) cr lf = rw (cr, lf) refl

-- ---- endings at a place of a body

pub place_two : (w : ℕ) (body : List ℕ) (at next : ℕ) → 0 < w → next ≡ at + 2 → slice_index body at ≡ 13
    → slice_index body (at + 1) ≡ 10 → next < length body
    → characters_from w 0 (drop at body) ≡ characters_from w w (drop next body)
place_two w body at next pos en cr lf lt =
    let two : at + 1 + 1 ≡ next = omega arith in
    rw (drop_more body at 0 (omega arith), drop_more body (at + 1) 0 (omega arith), two)
    (ending_two w (slice_index body at) (slice_index body (at + 1)) (drop next body) pos cr lf
    (omega (arith, length-drop next body)))

pub place_one : (w : ℕ) (body : List ℕ) (at next : ℕ) → 0 < w → next ≡ at + 1
    → ((slice_index body at == 13) || (slice_index body at == 10)) ≡ true
    → ((slice_index body at == 13) && (slice_index body (at + 1) == 10)) ≡ false → next < length body
    → characters_from w 0 (drop at body) ≡ characters_from w w (drop next body)
place_one w body at next pos en is not lt =
    let first : slice_index (drop (at + 1) body) 0 ≡ slice_index body (at + 1) =
    rw (drop_more body (at + 1) 0 (omega arith)) refl in
    rw (drop_more body at 0 (omega arith), en)
    (ending_one w (slice_index body at) (drop (at + 1) body) pos is (rw first not)
    (omega (arith, length-drop (at + 1) body)))

pub place_end_two : (w : ℕ) (body : List ℕ) (at : ℕ) → slice_index body at ≡ 13 → slice_index body (at + 1) ≡ 10
    → at + 2 ≡ length body → characters_from w 0 (drop at body) ≡ None
place_end_two w body at cr lf len =
    rw (
      drop_more body at 0 (omega arith),
      drop_more body (at + 1) 0 (omega arith),
      drop_all (at + 1 + 1) body (omega arith),
    )
    (ending_two_none w (slice_index body at) (slice_index body (at + 1)) cr lf)

pub place_end_one : (w : ℕ) (body : List ℕ) (at : ℕ) → at + 1 ≡ length body → characters_from w 0 (drop at body) ≡ None
place_end_one w body at len =
    rw (drop_more body at 0 (omega arith), drop_all (at + 1) body (omega arith))
    (ending_one_none w (slice_index body at))

pub place_other : (w : ℕ) (body : List ℕ) (at : ℕ) → at < length body → (slice_index body at == 13) ≡ false
    → (slice_index body at == 10) ≡ false → characters_from w 0 (drop at body) ≡ None
place_other w body at lt cr lf =
    rw (drop_more body at 0 lt) (ending_other w (slice_index body at) (drop (at + 1) body) cr lf)

-- four characters at once
pub four_more : (w room : ℕ) (body : List ℕ) (at : ℕ) → 4 ≤ room → at + 4 ≤ length body
    → characters_from w room (drop at body)
    ≡ put_before (slice_index body at ∷ slice_index body (at + 1) ∷ slice_index body (at + 2)
    ∷ slice_index body (at + 3) ∷ []) (characters_from w (room - 4) (drop (at + 4) body))
four_more w room body at h fits =
    let a2 : at + 1 + 1 ≡ at + 2 = omega arith in
    let a3 : at + 2 + 1 ≡ at + 3 = omega arith in
    let a4 : at + 3 + 1 ≡ at + 4 = omega arith in
    let r2 : room - 1 - 1 ≡ room - 2 = omega arith in
    let r3 : room - 2 - 1 ≡ room - 3 = omega arith in
    let r4 : room - 3 - 1 ≡ room - 4 = omega arith in
    let one = character_more w room body at (omega arith) (omega arith) in
    let two = character_more w (room - 1) body (at + 1) (omega arith) (omega arith) in
    let three = character_more w (room - 2) body (at + 2) (omega arith) (omega arith) in
    let four = character_more w (room - 3) body (at + 3) (omega arith) (omega arith) in
    one ∙ ap (λ (o : Option (List ℕ)). put_before (slice_index body at ∷ []) o)
    (two ∙ ap (λ (o : Option (List ℕ)). put_before (slice_index body (at + 1) ∷ []) o)
    (rw (a2, r2) (three ∙ ap (λ (o : Option (List ℕ)). put_before (slice_index body (at + 2) ∷ []) o)
    (rw (a3, r3) (four ∙ rw (a4, r4) refl)))))
    ∙ fold (characters_from w (room - 4) (drop (at + 4) body))
  where
    fold : (o : Option (List ℕ))
        → put_before (slice_index body at ∷ [])
        (put_before (slice_index body (at + 1) ∷ [])
        (put_before (slice_index body (at + 2) ∷ []) (put_before (slice_index body (at + 3) ∷ []) o)))
        ≡ put_before (slice_index body at ∷ slice_index body (at + 1) ∷ slice_index body (at + 2)
        ∷ slice_index body (at + 3) ∷ []) o
    fold None = refl
    fold (Some t) = refl

-- a character more is taken into the block
pub taken_more : (w room left : ℕ) (body block : List ℕ) (at place count : ℕ) → 0 < left → place < length body
    → count < length block
    → characters_from w room (drop at body) ≡ put_before (take count block) (characters_from w left (drop place body))
    → characters_from w room (drop at body)
    ≡ put_before (take (count + 1) (slice_set block count (slice_index body place)))
    (characters_from w (left - 1) (drop (place + 1) body))
taken_more w room left body block at place count some lt fits e =
    e ∙ rw (character_more w left body place some lt, take_more_set block count (slice_index body place) fits)
    (before-before (take count block) (slice_index body place ∷ []) _)
