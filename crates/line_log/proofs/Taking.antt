-- How lines are taken one by one.
use Rattle.std.proofs.Common.{◌≡◌, inl, inr, ℕ, ◌+◌, ◌-◌, ◌≤◌, Bool, true, false, cond, List, [], ◌∷◌, ◌++◌, length, drop, refl, sym, ◌∙◌, ap, subst, arith, length-append, None, Some}
use Rattle.std.specs.Prelude.{nat_le, not, ◌||◌, ◌&&◌}
use Rattle.std.proofs.lemmas.List.{append-nil, drop_at}
use Rattle.std.proofs.lemmas.Bool.Decides.{nat_tests}
use Rattle.line_log.specs.Log.{group_max, is_open, is_end, IsEnd, IsLine, open_lines, joined}
use Rattle.line_log.specs.Taker.{after_all, line_fault, text_fault}
use Rattle.line_log.specs.declared.reopen.OpenError.TheVariants.{BadLine, BadEnd}
use Rattle.line_log.proofs.LogLines.{AreLines, AreLines-push, open_lines-joined, joined-push}

module _ {S : Type 0} (takes : S → List ℕ → Bool) (after : S → List ℕ → S) where
  pub after_push : (s0 s : S) (lines : List (List ℕ)) (line : List ℕ) → after_all takes after s0 lines ≡ Some s → takes s line ≡ true
      → after_all takes after s0 (lines ++ line ∷ []) ≡ Some (after s line)
  after_push s0 s [] line so_far taken = by_same (some_same so_far)
    where
      some_same : Some s0 ≡ Some s → s0 ≡ s
      some_same e = cc e

      by_same : s0 ≡ s → after_all takes after s0 (line ∷ []) ≡ Some (after s line)
      by_same same = subst (λ (x : S). after_all takes after x (line ∷ []) ≡ Some (after s line)) (sym same) (ap (λ b. cond b (Some (after s line)) None) taken)
  after_push s0 s (l ∷ lines) line so_far taken = by_test (takes s0 l) refl (λ rest. after_push (after s0 l) s lines line rest taken)
    where
      by_test : (t : Bool) → takes s0 l ≡ t → (after_all takes after (after s0 l) lines ≡ Some s → after_all takes after (after s0 l) (lines ++ line ∷ []) ≡ Some (after s line))
          → after_all takes after s0 ((l ∷ lines) ++ line ∷ []) ≡ Some (after s line)
      by_test true is more =
          ap (λ b. cond b (after_all takes after (after s0 l) (lines ++ line ∷ [])) None) is
          ∙ more (sym (ap (λ b. cond b (after_all takes after (after s0 l) lines) None) is) ∙ so_far)
      by_test false is more = absurd (cc (ap (λ b. cond b (after_all takes after (after s0 l) lines) None) is, so_far))

  -- the first fault behind lines that are taken
  pub fault_behind : (s0 s : S) (at : ℕ) (lines more : List (List ℕ)) (end : List ℕ) → after_all takes after s0 lines ≡ Some s
      → line_fault takes after s0 at (lines ++ more) end ≡ line_fault takes after s (at + length (joined lines)) more end
  fault_behind s0 s at [] more end so_far =
      let same : s0 ≡ s = cc so_far in
      let there : at ≡ at + 0 = omega arith in
      ap (λ (x : S). line_fault takes after x at more end) same ∙ ap (λ (n : ℕ). line_fault takes after s n more end) there
  fault_behind s0 s at (l ∷ lines) more end so_far = by_test (takes s0 l) refl (λ rest. fault_behind (after s0 l) s (at + (length l + 1)) lines more end rest)
    where
      by_test : (t : Bool) → takes s0 l ≡ t
          → (after_all takes after (after s0 l) lines ≡ Some s → line_fault takes after (after s0 l) (at + (length l + 1)) (lines ++ more) end ≡ line_fault takes after s (at + (length l + 1) + length (joined lines)) more end)
          → line_fault takes after s0 at ((l ∷ lines) ++ more) end ≡ line_fault takes after s (at + length (joined (l ∷ lines))) more end
      by_test true is then =
          let size : at + (length l + 1) + length (joined lines) ≡ at + length (joined (l ∷ lines)) = omega (arith, length-append l (10 ∷ joined lines)) in
          ap (λ b. cond b (line_fault takes after (after s0 l) (at + (length l + 1)) (lines ++ more) end) (Some (BadLine at))) is
          ∙ then (sym (ap (λ b. cond b (after_all takes after (after s0 l) lines) None) is) ∙ so_far)
          ∙ ap (λ (n : ℕ). line_fault takes after s n more end) size
      by_test false is then = absurd (cc (ap (λ b. cond b (after_all takes after (after s0 l) lines) None) is, so_far))

  -- a line that isn't taken ends it
  pub not_taken : (s0 s : S) (lines more : List (List ℕ)) (line : List ℕ) → after_all takes after s0 lines ≡ Some s → takes s line ≡ false
      → after_all takes after s0 (lines ++ line ∷ more) ≡ None
  not_taken s0 s [] more line so_far other = by_same (some_same so_far)
    where
      some_same : Some s0 ≡ Some s → s0 ≡ s
      some_same e = cc e

      by_same : s0 ≡ s → after_all takes after s0 (line ∷ more) ≡ None
      by_same same = subst (λ (x : S). after_all takes after x (line ∷ more) ≡ None) (sym same) (ap (λ b. cond b (after_all takes after (after s line) more) None) other)
  not_taken s0 s (l ∷ lines) more line so_far other = by_test (takes s0 l) refl (λ rest. not_taken (after s0 l) s lines more line rest other)
    where
      by_test : (t : Bool) → takes s0 l ≡ t → (after_all takes after (after s0 l) lines ≡ Some s → after_all takes after (after s0 l) (lines ++ line ∷ more) ≡ None)
          → after_all takes after s0 ((l ∷ lines) ++ line ∷ more) ≡ None
      by_test true is then =
          ap (λ b. cond b (after_all takes after (after s0 l) (lines ++ line ∷ more)) None) is
          ∙ then (sym (ap (λ b. cond b (after_all takes after (after s0 l) lines) None) is) ∙ so_far)
      by_test false is then = absurd (cc (ap (λ b. cond b (after_all takes after (after s0 l) lines) None) is, so_far))

  -- so many lines of the text have been taken
  pub record Progress (s0 s : S) (text rest : List ℕ) : Type 0 where
    pub lines : List (List ℕ)
    pub are : AreLines lines
    pub split : text ≡ joined lines ++ rest
    pub all : after_all takes after s0 lines ≡ Some s

  pub begun : (s : S) (text : List ℕ) → Progress s s text text
  begun s text = record { lines = []; are = tt; split = refl; all = refl }

  pub goes_on : (s0 s next : S) (text rest line behind : List ℕ) → Progress s0 s text rest → IsLine line → rest ≡ line ++ 10 ∷ behind → takes s line ≡ true → next ≡ after s line
      → Progress s0 next text behind
  goes_on s0 s next text rest line behind p is parts taken same = record {
    lines = p.lines ++ line ∷ [];
    are = AreLines-push p.lines line p.are is;
    split = p.split ∙ ap (λ (t : List ℕ). joined p.lines ++ t) parts ∙ sym (joined-push p.lines line behind);
    all = after_push s0 s p.lines line p.all taken ∙ ap Some (sym same);
  }

  module _ (s0 s : S) (text rest : List ℕ) (p : Progress s0 s text rest) where
    pub lines_then : open_lines text ≡ p.lines ++ open_lines rest
    lines_then = ap open_lines p.split ∙ open_lines-joined p.lines rest p.are

    pub lines_all : open_lines rest ≡ [] → open_lines text ≡ p.lines
    lines_all none = lines_then ∙ ap (λ (ls : List (List ℕ)). p.lines ++ ls) none ∙ append-nil p.lines

    pub size : length text ≡ length (joined p.lines) + length rest
    size = ap length p.split ∙ length-append (joined p.lines) rest

    pub rest_is : (n : ℕ) → n ≡ length text - length rest → drop n text ≡ rest
    rest_is n is = ap (λ (t : List ℕ). drop n t) p.split ∙ drop_at (joined p.lines) rest n (omega (arith, size, is))

    place : 11 + length (joined p.lines) ≡ 11 + (length text - length rest)
    place = omega (arith, size)

    faults_then : text_fault takes after s0 text ≡ line_fault takes after s (11 + (length text - length rest)) (open_lines rest) (drop (length (joined (open_lines text))) text)
    faults_then =
        ap (λ (ls : List (List ℕ)). line_fault takes after s0 11 ls (drop (length (joined (open_lines text))) text)) lines_then
        ∙ fault_behind s0 s 11 p.lines (open_lines rest) (drop (length (joined (open_lines text))) text) p.all
        ∙ ap (λ (n : ℕ). line_fault takes after s n (open_lines rest) (drop (length (joined (open_lines text))) text)) place

    -- the next line isn't taken
    pub fault_at_line : (line : List ℕ) (more : List (List ℕ)) → open_lines rest ≡ line ∷ more → takes s line ≡ false
        → text_fault takes after s0 text ≡ Some (BadLine (11 + (length text - length rest)))
    fault_at_line line more next other =
        faults_then
        ∙ ap (λ (ls : List (List ℕ)). line_fault takes after s (11 + (length text - length rest)) ls (drop (length (joined (open_lines text))) text)) next
        ∙ ap (λ b. cond b (line_fault takes after (after s line) (11 + (length text - length rest) + (length line + 1)) more (drop (length (joined (open_lines text))) text)) (Some (BadLine (11 + (length text - length rest))))) other

    -- all lines are taken
    pub fault_at_end : open_lines rest ≡ [] → text_fault takes after s0 text ≡ cond (is_end rest) None (Some (BadEnd (11 + (length text - length rest))))
    fault_at_end none =
        faults_then
        ∙ ap (λ (ls : List (List ℕ)). line_fault takes after s (11 + (length text - length rest)) ls (drop (length (joined (open_lines text))) text)) none
        ∙ ap (λ (t : List ℕ). cond (is_end t) None (Some (BadEnd (11 + (length text - length rest)))))
        (rest_is (length (joined (open_lines text))) (omega (arith, size, ap (λ (ls : List (List ℕ)). length (joined ls)) (lines_all none))))

-- the two words for an end
pub end_is : (end : List ℕ) → is_end end ≡ true → IsEnd end
end_is end is = by_short (nat_le (length end) 1) refl
  where
    by_short : (t : Bool) → nat_le (length end) 1 ≡ t → IsEnd end
    by_short true short = let le : length end ≤ 1 = grind (arith, nat_tests) in record { shut = inr le; short = omega (arith, le) }
    by_short false long =
        let both : (not (is_open end) && nat_le (length end) (group_max + 1)) ≡ true = sym (ap (λ b. b || (not (is_open end) && nat_le (length end) (group_max + 1))) long) ∙ is in
        by_open (is_open end) refl both
      where
        by_open : (o : Bool) → is_open end ≡ o → (not (is_open end) && nat_le (length end) (group_max + 1)) ≡ true → IsEnd end
        by_open true is_o both = absurd (cc (ap (λ b. not b && nat_le (length end) (group_max + 1)) is_o, both))
        by_open false is_o both =
            let le_is : nat_le (length end) (group_max + 1) ≡ true = sym (ap (λ b. not b && nat_le (length end) (group_max + 1)) is_o) ∙ both in
            let le : length end ≤ (group_max + 1) = grind (arith, nat_tests) in
            record { shut = inl is_o; short = le }

pub end_test : (end : List ℕ) → IsEnd end → is_end end ≡ true
end_test end is = elim is.shut [
  | inl shut ↦ by_short (nat_le (length end) 1) (is_open end) (nat_le (length end) (group_max + 1)) shut fits
  | inr short ↦ let one : nat_le (length end) 1 ≡ true = grind (arith, nat_tests, short) in ap (λ b. b || (not (is_open end) && nat_le (length end) (group_max + 1))) one
]
  where
    fits : nat_le (length end) (group_max + 1) ≡ true
    fits = let short = is.short in grind (arith, nat_tests, short)

    by_short : (a b c : Bool) → b ≡ false → c ≡ true → (a || (not b && c)) ≡ true
    by_short true b c shut fits = refl
    by_short false b c shut fits = rw (shut, fits) refl
