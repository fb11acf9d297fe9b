-- How the lines of a text are walked.
use Rattle.std.proofs.Common.{◌≡◌, ℕ, ◌+◌, ◌-◌, List, [], ◌∷◌, ◌++◌, length, refl, sym, ◌∙◌, ap, arith, length-append}
use Rattle.std.proofs.lemmas.List.{append-nil}
use Rattle.line_log.specs.Log.{AreWhole, IsLine, joined, open_lines}
use Rattle.line_log.proofs.LogLines.{AreLines, AreLines-push, joined-push, open_lines-joined, parts, parts_lines}

-- so many lines of the text have been walked
pub record Walked (text rest : List ℕ) : Type 0 where
  pub lines : List (List ℕ)
  pub are : AreLines lines
  pub split : text ≡ joined lines ++ rest

pub start : (text : List ℕ) → Walked text text
start text = record { lines = []; are = tt; split = refl }

pub one_more : (text rest line behind : List ℕ) → Walked text rest → IsLine line → rest ≡ line ++ 10 ∷ behind → Walked text behind
one_more text rest line behind w is parts = record {
  lines = w.lines ++ line ∷ [];
  are = AreLines-push w.lines line w.are is;
  split = w.split ∙ ap (λ (t : List ℕ). joined w.lines ++ t) parts ∙ sym (joined-push w.lines line behind);
}

pub walked_size : (text rest : List ℕ) (w : Walked text rest) → length text ≡ length (joined w.lines) + length rest
walked_size text rest w = ap length w.split ∙ length-append (joined w.lines) rest

pub walked_length : (text rest : List ℕ) → Walked text rest → open_lines rest ≡ [] → length text - length rest ≡ length (joined (open_lines text))
walked_length text rest w none =
    let lines : open_lines text ≡ w.lines = ap open_lines w.split ∙ open_lines-joined w.lines rest w.are ∙ ap (λ (ls : List (List ℕ)). w.lines ++ ls) none ∙ append-nil w.lines in
    omega (arith, walked_size text rest w, ap (λ (ls : List (List ℕ)). length (joined ls)) lines)

-- a text is whole where its lines are as long as it is
pub whole_by_length : (text : List ℕ) → length (joined (open_lines text)) ≡ length text → AreWhole text
whole_by_length text same =
    let p = parts text in
    let lines = parts_lines text in
    let nothing : length p.end ≡ 0 = omega (arith, ap length p.split, length-append (joined p.lines) p.end, same, ap (λ (ls : List (List ℕ)). length (joined ls)) lines) in
    p.split ∙ ap (λ (t : List ℕ). joined p.lines ++ t) (nil_of p.end nothing) ∙ append-nil (joined p.lines) ∙ ap joined (sym lines)
  where
    nil_of : (xs : List ℕ) → length xs ≡ 0 → xs ≡ []
    nil_of [] none = refl
    nil_of (x ∷ xs) none = absurd (omega (arith, none))
