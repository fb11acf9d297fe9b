-- Texts in lines, and the layout by position.
use Rattle.std.proofs.Common.{◌≡◌, ℕ, zero, suc, ◌+◌, ◌-◌, ◌<◌, ◌≤◌, ◌==◌, ◌&&◌, ◌||◌, Bool, true, false, List, [], ◌∷◌}
use Rattle.std.proofs.Common.{◌++◌, length, map, replicate, refl, sym, ap, ◌∙◌, subst, arith, inl, inr, slice_index}
use Rattle.std.proofs.Common.{Option, Some, None}
use Rattle.std.specs.Prelude.{◌⊎◌, not, ⊤}
use Rattle.std.specs.List.{join_by, list_all}
use Rattle.std.proofs.lemmas.Bool.{cases_Bool, eqb-true, and_parts, not-true}
use Rattle.std.proofs.lemmas.List.{append_assoc, append-nil, length-append}
use Rattle.std.proofs.lemmas.Option.{same_Some, none-some}
use Rattle.base64ct.specs.Encoding.{Alphabet, holds_no_ending, character, encoding, padding, groups, equals_sign}
use Rattle.base64ct.specs.Wrapping.{IsEnding, AreLines, Wrapped, MayEnd, StandsInLines, without_end, put_before}
use Rattle.base64ct.specs.Wrapping.{characters_from, layout}
use Rattle.base64ct.proofs.Padding.{encoding-is}
use Rattle.base64ct.proofs.Taken.{before-before, before-nil, ending_one, ending_two}
use Rattle.base64ct.proofs.Firsts.{before_some, one_line, text_nil}

-- no byte is CR or LF
abbrev pub NoEnds : List ℕ → Type 0
NoEnds [] = ⊤
NoEnds (c ∷ cs) = ((c == 13) ≡ false) × ((c == 10) ≡ false) × NoEnds cs

pub no_ends-append : (xs ys : List ℕ) → NoEnds xs → NoEnds ys → NoEnds (xs ++ ys)
no_ends-append [] ys hx hy = hy
no_ends-append (x ∷ xs) ys hx hy = (hx.0, hx.1, no_ends-append xs ys hx.2 hy)

pub no_ends-left : (xs ys : List ℕ) → NoEnds (xs ++ ys) → NoEnds xs
no_ends-left [] ys h = tt
no_ends-left (x ∷ xs) ys h = (h.0, h.1, no_ends-left xs ys h.2)

pub no_ends-right : (xs ys : List ℕ) → NoEnds (xs ++ ys) → NoEnds ys
no_ends-right [] ys h = h
no_ends-right (x ∷ xs) ys h = no_ends-right xs ys h.2

-- ---- an encoding has none

no_end : (cs : List ℕ) (v : ℕ) → list_all (λ c. not (c == 13) && not (c == 10)) cs ≡ true
    → ((slice_index cs v == 13) ≡ false) × ((slice_index cs v == 10) ≡ false)
no_end [] v h = (refl, refl)
no_end (c ∷ cs) zero h = let parts = and_parts _ _ h in let both = and_parts _ _ parts.0 in
    (not-true _ both.0, not-true _ both.1)
no_end (c ∷ cs) (suc v) h = no_end cs v (and_parts _ _ h).1

no_ends-map : (a : Alphabet) (vs : List ℕ) → holds_no_ending a ≡ true → NoEnds (map (character a) vs)
no_ends-map a [] h = tt
no_ends-map a (v ∷ vs) h = let e = no_end a.characters v h in (e.0, e.1, no_ends-map a vs h)

no_ends-equals : (n : ℕ) → NoEnds (replicate n equals_sign)
no_ends-equals zero = tt
no_ends-equals (suc n) = (refl, refl, no_ends-equals n)

no_ends-padding : (p : Bool) (n : ℕ) → NoEnds (padding p n)
no_ends-padding true n = no_ends-equals _
no_ends-padding false n = tt

pub no_ends-encoding : (a : Alphabet) (b : List ℕ) → holds_no_ending a ≡ true → NoEnds (encoding a b)
no_ends-encoding a b h =
    rw (encoding-is a b) (no_ends-append _ _ (no_ends-map a (groups a.low_first b) h)
    (no_ends-padding a.padded (length (groups a.low_first b))))

-- ---- the end of a text

pub end_parts : (text : List ℕ) → MayEnd text (without_end text)
unfolding without_end
end_parts [] = inl refl
end_parts (c ∷ []) = elim (cases_Bool (c == 13)) [
  | inl cr ↦ rw cr (inr (13 ∷ [], inl refl, ap (λ (x : ℕ). x ∷ []) (eqb-true c 13 cr)))
  | inr nf ↦ elim (cases_Bool (c == 10)) [
    | inl lf ↦ rw (nf, lf) (inr (10 ∷ [], inr (inl refl), ap (λ (x : ℕ). x ∷ []) (eqb-true c 10 lf)))
    | inr none ↦ rw (nf, none) (inl refl)
  ]
]
end_parts (c ∷ d ∷ []) = elim (cases_Bool ((c == 13) && (d == 10))) [
  | inl both ↦ let parts = and_parts _ _ both in
      rw both (inr (13 ∷ 10 ∷ [], inr (inr refl), rw (eqb-true c 13 parts.0, eqb-true d 10 parts.1) refl))
  | inr other ↦ rw other (longer c (d ∷ []) (without_end (d ∷ [])) (end_parts (d ∷ [])))
]
  where
    longer : (c : ℕ) (text t : List ℕ) → MayEnd text t → MayEnd (c ∷ text) (c ∷ t)
    longer c text t (inl e) = inl (ap (λ (l : List ℕ). c ∷ l) e)
    longer c text t (inr (e, is, sum)) = inr (e, is, ap (λ (l : List ℕ). c ∷ l) sum)
end_parts (c ∷ d ∷ f ∷ rest) = longer c (d ∷ f ∷ rest) (without_end (d ∷ f ∷ rest)) (end_parts (d ∷ f ∷ rest))
  where
    longer : (c : ℕ) (text t : List ℕ) → MayEnd text t → MayEnd (c ∷ text) (c ∷ t)
    longer c text t (inl e) = inl (ap (λ (l : List ℕ). c ∷ l) e)
    longer c text t (inr (e, is, sum)) = inr (e, is, ap (λ (l : List ℕ). c ∷ l) sum)

-- a text without endings in it has none at its end
without_none : (t : List ℕ) → NoEnds t → without_end t ≡ t
unfolding without_end
without_none [] h = refl
without_none (c ∷ []) h = rw (h.0, h.1) refl
without_none (c ∷ d ∷ []) h = rw (h.0, h.2.0, h.2.1) refl
without_none (c ∷ d ∷ f ∷ rest) h = ap (λ (l : List ℕ). c ∷ l) (without_none (d ∷ f ∷ rest) h.2)

without_one : (t e : List ℕ) → 0 < length t → NoEnds t → IsEnding e → without_end (t ++ e) ≡ t
unfolding without_end
without_one [] e some h is = absurd (omega arith)
without_one (c ∷ []) e some h (inl cr) = rw (cr, h.0) refl
without_one (c ∷ []) e some h (inr (inl lf)) = rw (lf, h.0) refl
without_one (c ∷ []) e some h (inr (inr both)) = rw both refl
without_one (c ∷ d ∷ []) e some h (inl cr) = rw cr (ap (λ (l : List ℕ). c ∷ l) (rw (h.2.0) refl))
without_one (c ∷ d ∷ []) e some h (inr (inl lf)) = rw lf (ap (λ (l : List ℕ). c ∷ l) (rw (h.2.0) refl))
without_one (c ∷ d ∷ []) e some h (inr (inr both)) = rw both refl
without_one (c ∷ d ∷ f ∷ rest) e some h is =
    ap (λ (l : List ℕ). c ∷ l) (without_one (d ∷ f ∷ rest) e (omega arith) h.2 is)

pub without_ending : (text t : List ℕ) → 0 < length t → NoEnds t → MayEnd text t → without_end text ≡ t
without_ending text t some h (inl e) = rw e (without_none t h)
without_ending text t some h (inr (e, is, sum)) = rw sum (without_one t e some h is)

-- what stands before a byte that is no LF stays
without_front : (xs : List ℕ) (f : ℕ) (rest : List ℕ) → (f == 10) ≡ false
    → without_end (xs ++ f ∷ rest) ≡ xs ++ without_end (f ∷ rest)
unfolding without_end
without_front [] f rest nf = refl
without_front (x ∷ []) f [] nf = elim (cases_Bool (x == 13)) [ inl cr ↦ rw (cr, nf) refl | inr other ↦ rw other refl ]
without_front (x ∷ []) f (g ∷ rest) nf = refl
without_front (x ∷ y ∷ []) f rest nf = ap (λ (l : List ℕ). x ∷ l) (without_front (y ∷ []) f rest nf)
without_front (x ∷ y ∷ z ∷ xs) f rest nf = ap (λ (l : List ℕ). x ∷ l) (without_front (y ∷ z ∷ xs) f rest nf)

-- a text that begins with no ending keeps its first byte
without_first : (f : ℕ) (rest : List ℕ) → (f == 13) ≡ false → (f == 10) ≡ false
    → (body : List ℕ) × (without_end (f ∷ rest) ≡ f ∷ body)
unfolding without_end
without_first f [] cr lf = ([], rw (cr, lf) refl)
without_first f (g ∷ []) cr lf = (without_end (g ∷ []), rw cr refl)
without_first f (g ∷ h ∷ rest) cr lf = (without_end (g ∷ h ∷ rest), refl)

-- ---- lines to layout

pub line_taken : (w room : ℕ) (line more : List ℕ) → length line ≤ room
    → characters_from w room (line ++ more) ≡ put_before line (characters_from w (room - length line) more)
unfolding characters_from
line_taken w room [] more h = let same : room - 0 ≡ room = omega arith in
    rw same (sym (before-nil (characters_from w room more)))
line_taken w zero (c ∷ line) more h = absurd (omega arith)
line_taken w (suc room) (c ∷ line) more h =
    let less : suc room - suc (length line) ≡ room - length line = omega arith in
    rw (line_taken w room line more (omega arith), less) (before-before (c ∷ []) line _)

ending_taken : (w : ℕ) (e : List ℕ) (f : ℕ) (body : List ℕ) → 0 < w → IsEnding e → (f == 10) ≡ false
    → characters_from w 0 (e ++ f ∷ body) ≡ characters_from w w (f ∷ body)
ending_taken w e f body pos (inl cr) nf = rw cr (ending_one w 13 (f ∷ body) pos refl (rw nf refl) (omega arith))
ending_taken w e f body pos (inr (inl lf)) nf = rw lf (ending_one w 10 (f ∷ body) pos refl refl (omega arith))
ending_taken w e f body pos (inr (inr both)) nf = rw both (ending_two w 13 10 (f ∷ body) pos refl refl (omega arith))

-- a text of lines begins with a character
first_of : (w : ℕ) (lines : List (List ℕ)) (text : List ℕ) → 0 < w → AreLines w lines text
    → NoEnds (join_by (λ l. l) [] lines) → (f : ℕ) × (rest : List ℕ) × (text ≡ f ∷ rest) × ((f == 13) ≡ false)
    × ((f == 10) ≡ false)
unfolding AreLines
first_of w [] text pos a h = absurd a
first_of w ([] ∷ []) text pos a h = absurd (omega (arith, a.0))
first_of w ((c ∷ cs) ∷ []) text pos a h = elim a.2 [
  | inl e ↦ (c, cs, e, h.0, h.1)
  | inr m ↦ (c, cs ++ m.0, m.2, h.0, h.1)
]
first_of w ([] ∷ next ∷ lines) text pos a h = absurd (omega (arith, a.0))
first_of w ((c ∷ cs) ∷ next ∷ lines) text pos a h = (c, cs ++ a.1.0 ++ a.1.1, a.1.3, h.0, h.1)

pub lines_laid : (w : ℕ) (lines : List (List ℕ)) (text : List ℕ) → 0 < w → AreLines w lines text
    → NoEnds (join_by (λ l. l) [] lines) → characters_from w w (without_end text) ≡ Some (join_by (λ l. l) [] lines)
unfolding AreLines
lines_laid w [] text pos a h = absurd a
lines_laid w (line ∷ []) text pos a h =
    let own : NoEnds line = rw (append-nil line) at h in
    let body : without_end text ≡ line = without_ending text line a.0 own a.2 in
    rw (body, append-nil line) (one_line w w line a.1)
lines_laid w (line ∷ next ∷ lines) text pos a h =
    let t : List ℕ = join_by (λ l. l) [] (next ∷ lines) in
    let e : List ℕ = a.1.0 in
    let rest : List ℕ = a.1.1 in
    let own : NoEnds line = no_ends-left line t h in
    let more : NoEnds t = no_ends-right line t h in
    let first = first_of w (next ∷ lines) rest pos a.1.4 more in
    let kept = without_first first.0 first.1 first.3 first.4 in
    let laid : characters_from w w (without_end rest) ≡ Some t = lines_laid w (next ∷ lines) rest pos a.1.4 more in
    let body : without_end text ≡ line ++ (e ++ first.0 ∷ kept.0) =
    ap (λ (l : List ℕ). without_end l) (a.1.3 ∙ ap (λ (l : List ℕ). line ++ e ++ l) first.2)
    ∙ without_front (line ++ e) first.0 first.1 first.4 ∙ ap (λ (l : List ℕ). (line ++ e) ++ l) kept.1
    ∙ append_assoc line e (first.0 ∷ kept.0) in
    let none : w - length line ≡ 0 = omega (arith, a.0) in
    let behind : characters_from w w (first.0 ∷ kept.0) ≡ Some t =
    ap (λ (l : List ℕ). characters_from w w l) (sym (ap (λ (l : List ℕ). without_end l) first.2 ∙ kept.1)) ∙ laid in
    rw (
      body,
      line_taken w w line (e ++ first.0 ∷ kept.0) (omega (arith, a.0)),
      none,
      ending_taken w e first.0 kept.0 pos a.1.2 first.4,
      behind,
    ) refl

-- ---- layout to lines

one_more : (w : ℕ) (line e text t : List ℕ) → length line ≡ w → IsEnding e → Wrapped text w t
    → Wrapped (line ++ e ++ text) w (line ++ t)
unfolding AreLines
one_more w line e text t full is ([], a, sum) = absurd a
one_more w line e text t full is (next ∷ lines, a, sum) =
    (line ∷ next ∷ lines, (full, (e, text, is, refl, a)), ap (λ (l : List ℕ). line ++ l) sum)

last_line : (w : ℕ) (line text : List ℕ) → 0 < length line → length line ≤ w → MayEnd text line → Wrapped text w line
unfolding AreLines
last_line w line text some few ends = (line ∷ [], (some, few, ends), sym (append-nil line))

same_wrapped : (w : ℕ) (x y s t : List ℕ) → x ≡ y → s ≡ t → Wrapped y w t → Wrapped x w s
same_wrapped w x y s t e f h =
    subst (λ (l : List ℕ). Wrapped x w l) (sym f) (subst (λ (l : List ℕ). Wrapped l w t) (sym e) h)

one_ending : (c : ℕ) → ((c == 13) || (c == 10)) ≡ true → IsEnding (c ∷ [])
one_ending c is = elim (cases_Bool (c == 13)) [
  | inl cr ↦ inl (ap (λ (x : ℕ). x ∷ []) (eqb-true c 13 cr))
  | inr other ↦ inr (inl (ap (λ (x : ℕ). x ∷ []) (eqb-true c 10 (rw other at is))))
]

two_ending : (c d : ℕ) → ((c == 13) && (d == 10)) ≡ true → IsEnding (c ∷ d ∷ [])
two_ending c d is = let parts = and_parts _ _ is in inr (inr (rw (eqb-true c 13 parts.0, eqb-true d 10 parts.1) refl))

may_end : (pre tail : List ℕ) → (tail ≡ []) ⊎ IsEnding tail → MayEnd (pre ++ tail) pre
may_end pre tail (inl e) = inl (rw e (append-nil pre))
may_end pre tail (inr is) = inr (tail, is, refl)

-- characters more in the line
pub laid_lines : (w room : ℕ) (pre body t tail : List ℕ) → 0 < w → length pre + room ≡ w → 0 < length (pre ++ body)
    → characters_from w room body ≡ Some t → (tail ≡ []) ⊎ IsEnding tail
    → Wrapped ((pre ++ body) ++ tail) w (pre ++ t)
unfolding characters_from
laid_lines w room pre [] t tail pos full some laid ends =
    let none : t ≡ [] = sym (same_Some [] t (sym (text_nil w room) ∙ laid)) in
    let more : 0 < length pre = omega (arith, some, length-append pre []) in
    same_wrapped w ((pre ++ []) ++ tail) (pre ++ tail) (pre ++ t) pre (ap (λ (l : List ℕ). l ++ tail) (append-nil pre))
    (ap (λ (l : List ℕ). pre ++ l) none ∙ append-nil pre)
    (last_line w pre (pre ++ tail) more (omega (arith, full)) (may_end pre tail ends))
laid_lines w (suc room) pre (c ∷ rest) t tail pos full some laid ends =
    let parts = before_some (c ∷ []) t (characters_from w room rest) laid in
    let longer : length (pre ++ c ∷ []) + room ≡ w = omega (arith, full, length-append pre (c ∷ [])) in
    let next = laid_lines w room (pre ++ c ∷ []) rest parts.0 tail pos longer
    (omega (arith, length-append (pre ++ c ∷ []) rest, length-append pre (c ∷ []))) parts.1 ends in
    same_wrapped w ((pre ++ c ∷ rest) ++ tail) (((pre ++ c ∷ []) ++ rest) ++ tail) (pre ++ t)
    ((pre ++ c ∷ []) ++ parts.0)
    (ap (λ (l : List ℕ). l ++ tail) (sym (append_assoc pre (c ∷ []) rest)))
    (ap (λ (l : List ℕ). pre ++ l) parts.2 ∙ sym (append_assoc pre (c ∷ []) parts.0)) next
laid_lines w zero pre (c ∷ []) t tail pos full some laid ends = absurd (none-some t laid)
laid_lines w zero pre (c ∷ d ∷ []) t tail pos full some laid ends = elim (cases_Bool ((c == 13) && (d == 10))) [
  | inl both ↦ absurd (none-some t (rw both at laid))
  | inr other ↦ elim (cases_Bool ((c == 13) || (c == 10))) [
    | inl one ↦
        let parts = before_some (d ∷ []) t (Some []) (rw (other, one) at laid) in
        let none : parts.0 ≡ [] = sym (same_Some [] parts.0 parts.1) in
        let next = last_line w (d ∷ []) (d ∷ tail) (omega arith) (omega arith) (may_end (d ∷ []) tail ends) in
        same_wrapped w ((pre ++ c ∷ d ∷ []) ++ tail) (pre ++ (c ∷ []) ++ d ∷ tail) (pre ++ t) (pre ++ d ∷ [])
        (append_assoc pre (c ∷ d ∷ []) tail ∙ sym (append_assoc pre (c ∷ []) (d ∷ tail)))
        (ap (λ (l : List ℕ). pre ++ l) (parts.2 ∙ ap (λ (l : List ℕ). d ∷ l) none))
        (one_more w pre (c ∷ []) (d ∷ tail) (d ∷ []) (omega (arith, full)) (one_ending c one) next)
    | inr none ↦ absurd (none-some t (rw (other, none) at laid))
  ]
]
laid_lines w zero pre (c ∷ d ∷ f ∷ rest) t tail pos full some laid ends = elim (cases_Bool ((c == 13) && (d == 10))) [
  | inl both ↦
      let parts = before_some (f ∷ []) t (characters_from w (w - 1) rest) (rw both at laid) in
      let next = laid_lines w (w - 1) (f ∷ []) rest parts.0 tail pos (omega arith) (omega arith) parts.1 ends in
      same_wrapped w ((pre ++ c ∷ d ∷ f ∷ rest) ++ tail) (pre ++ (c ∷ d ∷ []) ++ f ∷ (rest ++ tail)) (pre ++ t)
      (pre ++ f ∷ parts.0)
      (append_assoc pre (c ∷ d ∷ f ∷ rest) tail ∙ sym (append_assoc pre (c ∷ d ∷ []) (f ∷ (rest ++ tail))))
      (ap (λ (l : List ℕ). pre ++ l) parts.2)
      (one_more w pre (c ∷ d ∷ []) (f ∷ (rest ++ tail)) (f ∷ parts.0) (omega (arith, full)) (two_ending c d both)
      next)
  | inr other ↦ elim (cases_Bool ((c == 13) || (c == 10))) [
    | inl one ↦
        let parts = before_some (d ∷ []) t (characters_from w (w - 1) (f ∷ rest)) (rw (other, one) at laid) in
        let next = laid_lines w (w - 1) (d ∷ []) (f ∷ rest) parts.0 tail pos (omega arith) (omega arith) parts.1 ends in
        same_wrapped w ((pre ++ c ∷ d ∷ f ∷ rest) ++ tail) (pre ++ (c ∷ []) ++ d ∷ ((f ∷ rest) ++ tail)) (pre ++ t)
        (pre ++ d ∷ parts.0)
        (append_assoc pre (c ∷ d ∷ f ∷ rest) tail ∙ sym (append_assoc pre (c ∷ []) (d ∷ ((f ∷ rest) ++ tail))))
        (ap (λ (l : List ℕ). pre ++ l) parts.2)
        (one_more w pre (c ∷ []) (d ∷ ((f ∷ rest) ++ tail)) (d ∷ parts.0) (omega (arith, full)) (one_ending c one)
        next)
    | inr none ↦ absurd (none-some t (rw (other, none) at laid))
  ]
]

laid_wrapped : (w : ℕ) (text t : List ℕ) → 0 < w → 0 < length t → characters_from w w (without_end text) ≡ Some t
    → Wrapped text w t
laid_wrapped w text t pos some laid =
    let body : List ℕ = without_end text in
    let long : 0 < length body = nonempty body laid in
    elim (end_parts text) [
      | inl e ↦ same_wrapped w text (body ++ []) t t (e ∙ sym (append-nil body)) refl
          (laid_lines w w [] body t [] pos (omega arith) long laid (inl refl))
      | inr m ↦ same_wrapped w text (body ++ m.0) t t m.2 refl
          (laid_lines w w [] body t m.0 pos (omega arith) long laid (inr m.1))
    ]
  where
    nonempty : (body : List ℕ) → characters_from w w body ≡ Some t → 0 < length body
    nonempty [] e = let none : [] ≡ t = same_Some [] t (sym (text_nil w w) ∙ e) in
        absurd (omega (arith, ap length none, some))
    nonempty (c ∷ body) e = omega arith

-- ---- both ways

pub lines_are_laid : (text t : List ℕ) (width : Option ℕ) → ((w : ℕ) → width ≡ Some w → 0 < w) → NoEnds t
    → StandsInLines text width t → layout text width ≡ Some t
lines_are_laid text t None wide h s = ap (λ (l : List ℕ). Some l) (without_ending text t s.0 h s.1)
lines_are_laid text t (Some w) wide h (lines, a, sum) =
    let own : NoEnds (join_by (λ l. l) [] lines) = subst NoEnds sum h in
    lines_laid w lines text (wide w refl) a own ∙ ap (λ (l : List ℕ). Some l) (sym sum)

pub laid_stands : (text t : List ℕ) (width : Option ℕ) → ((w : ℕ) → width ≡ Some w → 0 < w) → 0 < length t
    → layout text width ≡ Some t → StandsInLines text width t
laid_stands text t None wide some laid =
    (some, subst (MayEnd text) (same_Some (without_end text) t laid) (end_parts text))
laid_stands text t (Some w) wide some laid = laid_wrapped w text t (wide w refl) some laid

-- a text in lines of an encoding begins with no ending
pub stands_first : (text t : List ℕ) (width : Option ℕ) → ((w : ℕ) → width ≡ Some w → 0 < w) → NoEnds t
    → StandsInLines text width t → (f : ℕ) × (rest : List ℕ) × (text ≡ f ∷ rest) × ((f == 13) ≡ false)
    × ((f == 10) ≡ false)
stands_first text [] None wide h s = absurd (omega (arith, s.0))
stands_first text (c ∷ cs) None wide h s = elim s.1 [
  | inl e ↦ (c, cs, e, h.0, h.1)
  | inr m ↦ (c, cs ++ m.0, m.2, h.0, h.1)
]
stands_first text t (Some w) wide h (lines, a, sum) = first_of w lines text (wide w refl) a (subst NoEnds sum h)
