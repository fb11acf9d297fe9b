-- What a crash leaves while a group is added.
use Rattle.std.proofs.Common.{◌≡◌, inl, inr, ℕ, zero, suc, ◌+◌, ◌-◌, ◌<◌, ◌≤◌, true, List, [], ◌∷◌, ◌++◌, length, get_or, take, drop, refl, sym, ◌∙◌, ap, subst, arith, append_assoc, length-append, length-drop, take-append-drop}
use Rattle.std.specs.Prelude.{min}
use Rattle.std.proofs.lemmas.List.{take_at, drop_at, drop_more, take_all, drop_all, append-nil}
use Rattle.std.proofs.lemmas.Bool.{cases_eq}
use Rattle.std.proofs.lemmas.Bool.Decides.{nat_tests}
use Rattle.line_log.specs.Device.{Holds, Torn, Follows, Only}
use Rattle.line_log.specs.Log.{header, is_open, open_lines, recovered, joined, written, at_rest, IsGroup, IsSettled, IsEnd, Stands, IsBeforeOrAfter}
use Rattle.line_log.specs.Staged.{staged}
use Rattle.line_log.specs.declared.log.LineLog.{LineLog}
use Rattle.line_log.proofs.LogLines.{AreLines, AreLines-append, joined-append, open_lines_are, open_lines_closed, short_nothing, not_open, open_lines-joined, shut_text}

-- a file that ends so stands for its lines
end_nothing : (end : List ℕ) → IsEnd end → open_lines end ≡ []
end_nothing end is = elim is.shut [
  | inl shut ↦ shut_text end shut
  | inr short ↦ short_nothing end short
]

pub stands : (lines : List (List ℕ)) (end file : List ℕ) → AreLines lines → file ≡ written lines ++ end → IsEnd end → Stands lines file
stands lines end file are split ends = record {
  end = end;
  split = split;
  ends = ends;
  counts = ap recovered split ∙ open_lines-joined lines end are ∙ ap (λ (ls : List (List ℕ)). lines ++ ls) (end_nothing end ends) ∙ append-nil lines;
}

pub written-append : (lines group : List (List ℕ)) (rest : List ℕ) → written (lines ++ group) ++ rest ≡ written lines ++ (joined group ++ rest)
written-append lines group rest =
    ap (λ (t : List ℕ). header ++ t) (ap (λ (t : List ℕ). t ++ rest) (joined-append lines group) ∙ append_assoc (joined lines) (joined group) rest)

-- ---- what a torn write keeps

take_less : (k n : ℕ) (xs : List ℕ) → k ≤ n → take k (take n xs) ≡ take k xs
take_less zero n xs le = refl
take_less (suc k) zero xs le = absurd (omega arith)
take_less (suc k) (suc n) [] le = refl
take_less (suc k) (suc n) (x ∷ xs) le = ap (λ (l : List ℕ). x ∷ l) (take_less k n xs (omega arith))

-- what stands before the range and before the old end
pub torn_keeps : (k at n : ℕ) (old new : List ℕ) → k ≤ at → k ≤ length old → Torn at n old new → take k new ≡ take k old
torn_keeps k at n old new before within torn =
    sym (take_less k (min at (length old)) new (omega (arith, before, within)))
    ∙ ap (λ (l : List ℕ). take k l) torn.before
    ∙ take_less k at old before

-- ---- a group

gate_is : (gate : ℕ) (rest : List ℕ) → is_open (gate ∷ rest) ≡ true → gate ≡ 115
gate_is gate rest is = grind (arith, nat_tests)

joined_opens : (lines : List (List ℕ)) → AreLines lines → 0 < length (joined lines) → joined lines ≡ 115 ∷ drop 1 (joined lines)
joined_opens [] are some = absurd (omega arith)
joined_opens ([] ∷ more) are some = absurd (cc are.0.0)
joined_opens ((gate ∷ rest) ∷ more) are some = ap (λ (b : ℕ). b ∷ (rest ++ 10 ∷ joined more)) (gate_is gate rest are.0.0)

-- a group begins with an open byte
pub group_opens : (group : List ℕ) → IsGroup group → group ≡ 115 ∷ drop 1 group
group_opens group is =
    let some : 0 < length (joined (open_lines group)) = subst (λ (t : List ℕ). 0 < length t) is.whole is.some in
    subst (λ (t : List ℕ). t ≡ 115 ∷ drop 1 t) (sym is.whole) (joined_opens (open_lines group) (open_lines_are group) some)

pub group_length : (group : List ℕ) → IsGroup group → length group ≡ length (drop 1 group) + 1
group_length group is = omega (arith, ap length (group_opens group is))

module _ (lines : List (List ℕ)) (end : ℕ) (are : AreLines lines) (place : end ≡ length (written lines)) where
  pub length-at_rest : length (at_rest lines) ≡ end + 1
  length-at_rest = omega (arith, place, length-append (written lines) (35 ∷ []))

  pub rest_stands : Stands lines (at_rest lines)
  rest_stands = stands lines (35 ∷ []) (at_rest lines) are refl (record { shut = inl refl; short = omega arith })

  pub only_stands : (file : List ℕ) → file ≡ at_rest lines → (f : List ℕ) → f ≡ file → Stands lines f
  only_stands file is f same = subst (Stands lines) (sym (same ∙ is)) rest_stands

  module _ (group : List ℕ) (is : IsGroup group) where
    -- The closed byte stands, and there is no more behind it than the group and another.
    pub record IsUnderWay (c : List ℕ) : Type 0 where
      pub front : take (end + 1) c ≡ at_rest lines
      pub long : end + 1 ≤ length c
      pub short : length c ≤ end + length group + 1

    pub under_way_stands : (c : List ℕ) → IsUnderWay c → Stands lines c
    under_way_stands c under =
        let whole : c ≡ written lines ++ 35 ∷ drop (end + 1) c =
        sym (take-append-drop (end + 1) c) ∙ ap (λ (l : List ℕ). l ++ drop (end + 1) c) under.front ∙ append_assoc (written lines) (35 ∷ []) (drop (end + 1) c) in
        stands lines (35 ∷ drop (end + 1) c) c are whole (record { shut = inl refl; short = omega (arith, length-drop (end + 1) c, under.short, under.long, is.short) })

    pub rest_under_way : (c : List ℕ) → c ≡ at_rest lines → IsUnderWay c
    rest_under_way c same = record {
      front = ap (λ (l : List ℕ). take (end + 1) l) same ∙ take_all _ _ (omega (arith, length-at_rest));
      long = omega (arith, ap length same, length-at_rest);
      short = omega (arith, ap length same, length-at_rest, is.some);
    }

    -- a write behind the closed byte
    pub torn_behind : (at n : ℕ) (d c : List ℕ) → end + 1 ≤ at → at + n ≤ end + length group + 1 → IsUnderWay d → Torn at n d c → IsUnderWay c
    torn_behind at n d c behind fits under torn = record {
      front = torn_keeps (end + 1) at n d c behind under.long torn ∙ under.front;
      long = omega (arith, under.long, torn.no_shorter);
      short = omega (arith, under.short, torn.no_longer, fits);
    }

    tail_length : length (take (length group - 1) (drop 1 group)) + 1 ≡ length group
    tail_length = omega (arith, ap length (take_all (length group - 1) (drop 1 group) (omega (arith, length-drop 1 group))), group_length group is)

    -- the first write and the second, at any moment
    pub after_first : (old new : List ℕ → Type 0) → ((c : List ℕ) → old c → IsUnderWay c) → Follows (Torn (end + 1) (length (take (length group - 1) (drop 1 group)))) old new
        → (c : List ℕ) → new c → IsUnderWay c
    after_first old new here follows c left =
        let from = follows c left in
        torn_behind (end + 1) (length (take (length group - 1) (drop 1 group))) from.0 c (omega arith) (omega (arith, tail_length)) (here from.0 from.1) from.2

    pub after_second : (d c : List ℕ) → IsUnderWay d → Torn (end + length group) 1 d c → IsUnderWay c
    after_second d c under torn = torn_behind (end + length group) 1 d c (omega (arith, is.some)) (omega arith) under torn

    -- what the two writes make
    pub written_first : (c : List ℕ) → Holds (at_rest lines) (end + 1) (take (length group - 1) (drop 1 group)) c → c ≡ at_rest lines ++ drop 1 group
    written_first c all =
        let holds = subst (λ (b : List ℕ). Holds (at_rest lines) (end + 1) b c) (take_all (length group - 1) (drop 1 group) (omega (arith, length-drop 1 group))) all in
        holds
        ∙ ap (λ (l : List ℕ). l ++ drop 1 group ++ drop (end + 1 + length (drop 1 group)) (at_rest lines)) (take_all _ _ (omega (arith, length-at_rest)))
        ∙ ap (λ (l : List ℕ). at_rest lines ++ drop 1 group ++ l) (drop_all (end + 1 + length (drop 1 group)) (at_rest lines) (omega (arith, length-at_rest)))
        ∙ append-nil (at_rest lines ++ drop 1 group)

    pub length_first : length (at_rest lines ++ drop 1 group) ≡ end + length group
    length_first = omega (arith, length-append (at_rest lines) (drop 1 group), length-at_rest, group_length group is)

    pub written_second : (d c : List ℕ) → d ≡ at_rest lines ++ drop 1 group → Holds d (end + length group) (35 ∷ []) c → c ≡ staged lines group
    written_second d c is_first holds =
        let size : length d ≡ end + length group = omega (arith, ap length is_first, length_first) in
        holds
        ∙ ap (λ (l : List ℕ). l ++ (35 ∷ []) ++ drop (end + length group + 1) d) (take_all _ _ (omega (arith, size)))
        ∙ ap (λ (l : List ℕ). d ++ (35 ∷ []) ++ l) (drop_all (end + length group + 1) d (omega (arith, size)))
        ∙ append-nil (d ++ 35 ∷ [])
        ∙ ap (λ (l : List ℕ). l ++ 35 ∷ []) is_first
        ∙ append_assoc (at_rest lines) (drop 1 group) (35 ∷ [])
        ∙ append_assoc (written lines) (35 ∷ []) (drop 1 group ++ 35 ∷ [])

    -- ---- the gate

    abbrev rest : List ℕ
    rest = drop 1 group ++ 35 ∷ []

    length-rest : length rest ≡ length group
    length-rest = omega (arith, length-append (drop 1 group) (35 ∷ []), group_length group is)

    front : take end (staged lines group) ≡ written lines
    front = take_at (written lines) (35 ∷ rest) end (sym place)

    back : drop (end + 1) (staged lines group) ≡ rest
    back =
        ap (λ (l : List ℕ). drop (end + 1) l) (sym (append_assoc (written lines) (35 ∷ []) rest)) ∙ drop_at (at_rest lines) rest (end + 1) length-at_rest

    pub length-staged : length (staged lines group) ≡ end + 1 + length group
    length-staged = omega (arith, place, length-append (written lines) (35 ∷ rest), length-rest)

    -- with the group open, the file is at rest again
    pub opened : written lines ++ 115 ∷ rest ≡ at_rest (lines ++ open_lines group)
    opened =
        ap (λ (t : List ℕ). written lines ++ (t ++ 35 ∷ [])) (sym (group_opens group is) ∙ is.whole)
        ∙ sym (written-append lines (open_lines group) (35 ∷ []))

    are_after : AreLines (lines ++ open_lines group)
    are_after = AreLines-append lines (open_lines group) are (open_lines_are group)

    -- the group stands whole in each outcome of the write of its first byte
    pub torn_gate : (c : List ℕ) → Torn end 1 (staged lines group) c → IsBeforeOrAfter lines (open_lines group) c
    torn_gate c torn =
        let gate = get_or c end 0 in
        let tail : drop end c ≡ gate ∷ rest =
        drop_more c end 0 (omega (arith, torn.no_shorter, length-staged)) ∙ ap (λ (l : List ℕ). gate ∷ l) (torn.after ∙ back) in
        let kept : take end c ≡ written lines = torn_keeps end end 1 (staged lines group) c (omega arith) (omega (arith, length-staged)) torn ∙ front in
        let whole : c ≡ written lines ++ gate ∷ rest =
        sym (take-append-drop end c) ∙ ap (λ (l : List ℕ). l ++ drop end c) kept ∙ ap (λ (l : List ℕ). written lines ++ l) tail in
        elim (cases_eq gate 115) [
          | inl open_gate ↦
              let now : c ≡ at_rest (lines ++ open_lines group) = whole ∙ ap (λ (b : ℕ). written lines ++ b ∷ rest) open_gate ∙ opened in
              inr (stands (lines ++ open_lines group) (35 ∷ []) c are_after now (record { shut = inl refl; short = omega arith }))
          | inr shut ↦ inl (stands lines (gate ∷ rest) c are whole (record { shut = inl (not_open gate rest shut); short = omega (arith, is.short, length-rest) }))
        ]

    pub written_gate : (c : List ℕ) → Holds (staged lines group) end (115 ∷ []) c → c ≡ at_rest (lines ++ open_lines group)
    written_gate c holds =
        holds
        ∙ ap (λ (l : List ℕ). l ++ (115 ∷ []) ++ drop (end + 1) (staged lines group)) front
        ∙ ap (λ (l : List ℕ). written lines ++ (115 ∷ []) ++ l) back
        ∙ append_assoc (written lines) (115 ∷ []) rest
        ∙ opened

    -- the place of the closed byte afterwards
    pub place_after : end + length group ≡ length (written (lines ++ open_lines group))
    place_after = omega (arith, place, ap length opened, length-rest, length-append (written lines) (115 ∷ rest), length-append (written (lines ++ open_lines group)) (35 ∷ []))

    pub staged_counts : recovered (staged lines group) ≡ lines
    staged_counts = open_lines_closed lines 35 rest are (omega arith)

    pub staged_stands : Stands lines (staged lines group)
    staged_stands = stands lines (35 ∷ rest) (staged lines group) are refl (record { shut = inl refl; short = omega (arith, length-rest, is.short) })

-- a file at rest, all of it on the disk
pub settled : {D : Type 0} (seen : D → List ℕ) (may_leave : D → List ℕ → Type 0) (log : LineLog D) (lines : List (List ℕ)) → AreLines lines → seen log.device ≡ at_rest lines → log.end ≡ length (written lines) → Only (seen log.device) (may_leave log.device) → IsSettled seen may_leave log
settled seen may_leave log lines are is place only =
    let stands_for : recovered (seen log.device) ≡ lines = ap recovered is ∙ open_lines_closed lines 35 [] are (omega arith) in
    record {
      file = is ∙ ap at_rest (sym stands_for);
      place = place ∙ ap (λ (ls : List (List ℕ)). length (written ls)) (sym stands_for);
      durable = only;
    }

-- its lines
pub rest_counts : (lines : List (List ℕ)) → AreLines lines → (file : List ℕ) → file ≡ at_rest lines → recovered file ≡ lines
rest_counts lines are file is = ap recovered is ∙ open_lines_closed lines 35 [] are (omega arith)
