-- What a crash leaves while the end of a file is repaired.
use Rattle.std.proofs.Common.{◌≡◌, inl, inr, ℕ, ◌+◌, ◌≤◌, false, List, [], ◌∷◌, ◌++◌, length, take, drop, refl, sym, ◌∙◌, ap, arith, subst, length-drop, take-append-drop}
use Rattle.std.proofs.lemmas.List.{append-nil, take_at, take_all, drop_all, drop_at}
use Rattle.line_log.specs.Device.{Holds, Torn, Cut, Zeroed}
use Rattle.line_log.specs.Log.{is_open, written, at_rest, IsEnd, Stands}
use Rattle.line_log.proofs.LogLines.{AreLines}
use Rattle.line_log.proofs.Crash.{stands, torn_keeps}

zeroed_no_longer : (old new : List ℕ) → Zeroed old new → length new ≤ length old
zeroed_no_longer old [] zeroed = omega arith
zeroed_no_longer [] (b ∷ new) zeroed = absurd zeroed
zeroed_no_longer (a ∷ old) (b ∷ new) zeroed = omega (arith, zeroed_no_longer old new zeroed.1)

zeroed_shut : (old new : List ℕ) → is_open old ≡ false → Zeroed old new → is_open new ≡ false
zeroed_shut old [] shut zeroed = refl
zeroed_shut [] (b ∷ new) shut zeroed = absurd zeroed
zeroed_shut (a ∷ old) (b ∷ new) shut zeroed = elim zeroed.0 [
  | inl same ↦ ap (λ (g : ℕ). is_open (g ∷ new)) same ∙ shut
  | inr cleared ↦ ap (λ (g : ℕ). is_open (g ∷ new)) cleared
]

-- a beginning of an end is an end, with zeros too
end_zeroed : (old new : List ℕ) → IsEnd old → Zeroed old new → IsEnd new
end_zeroed old new is zeroed = record {
  shut = elim is.shut [ inl shut ↦ inl (zeroed_shut old new shut zeroed) | inr short ↦ inr (omega (arith, short, zeroed_no_longer old new zeroed)) ];
  short = omega (arith, is.short, zeroed_no_longer old new zeroed);
}

module _ (lines : List (List ℕ)) (end : ℕ) (are : AreLines lines) (place : end ≡ length (written lines)) where
  pub cut_done : (file : List ℕ) → Stands lines file → take end file ≡ written lines
  cut_done file left = ap (λ (l : List ℕ). take end l) left.split ∙ take_at (written lines) left.end end (sym place)

  -- any cut keeps the lines
  pub cut_keeps : (file c : List ℕ) → Stands lines file → Cut end file c → Stands lines c
  cut_keeps file c left cut =
      let behind : drop end file ≡ left.end = ap (λ (l : List ℕ). drop end l) left.split ∙ drop_at (written lines) left.end end (sym place) in
      let whole : c ≡ written lines ++ drop end c = sym (take-append-drop end c) ∙ ap (λ (l : List ℕ). l ++ drop end c) (cut.front ∙ cut_done file left) in
      stands lines (drop end c) c are whole (end_zeroed left.end (drop end c) left.ends (subst (λ (l : List ℕ). Zeroed l (drop end c)) behind cut.rest))

  -- one byte behind the lines is no line
  pub torn_end : (c : List ℕ) → Torn end 1 (written lines) c → Stands lines c
  torn_end c torn =
      let front : take end c ≡ written lines = torn_keeps end end 1 (written lines) c (omega arith) (omega (arith, place)) torn ∙ take_all end (written lines) (omega (arith, place)) in
      let whole : c ≡ written lines ++ drop end c = sym (take-append-drop end c) ∙ ap (λ (l : List ℕ). l ++ drop end c) front in
      let small : length (drop end c) ≤ 1 = omega (arith, length-drop end c, place, torn.no_longer) in
      stands lines (drop end c) c are whole (record { shut = inr small; short = omega (arith, small) })

  pub written_end : (c : List ℕ) → Holds (written lines) end (35 ∷ []) c → c ≡ at_rest lines
  written_end c holds =
      holds
      ∙ ap (λ (l : List ℕ). l ++ (35 ∷ []) ++ drop (end + 1) (written lines)) (take_all end (written lines) (omega (arith, place)))
      ∙ ap (λ (l : List ℕ). written lines ++ (35 ∷ []) ++ l) (drop_all (end + 1) (written lines) (omega (arith, place)))
      ∙ append-nil (at_rest lines)
