-- What an answer says of its line.
use Rattle.std.proofs.Common.{◌≡◌, ◌≢◌, ℕ, Bool, true, false, List, [], ◌∷◌, ◌++◌, length, refl, sym, ap, ◌∙◌, inl, inr}
use Rattle.std.proofs.Common.{Option, Err}
use Rattle.std.specs.Prelude.{nat_lt, if◌then◌else◌, codes}
use Rattle.std.specs.List.{list_any, before_last, after_last}
use Rattle.std.specs.Str.{is_utf8}
use Rattle.pieces.specs.Characters.{is_tab}
use Rattle.stored_check.specs.declared.error.StoredError.TheVariants.{OutOfMemory}
use Rattle.any_check.proofs.Known.{given_other}
use Rattle.any_check.specs.Given.{given_verdict}
use Rattle.any_check.specs.declared.numbers.SchemeCosts.{SchemeCosts}
use Rattle.any_check.specs.declared.error.AnyError.TheVariants.{Stored}
use Rattle.shadow_check.specs.Lines.{IsLineAnswer, IsTextAnswer, answer_word, is_match, line_answer}
use Rattle.shadow_check.specs.Lines.{line_may_lack, line_output, cut_answer}
use Rattle.shadow_check.specs.declared.lines.LineAnswer.{LineAnswer}
use Rattle.shadow_check.specs.declared.lines.LineAnswer.TheVariants.{BadLine, Checked, TooLong}

-- ---- from a line to its text

pub of_text : (limits : Option SchemeCosts) (line : List ℕ) (a : LineAnswer) → nat_lt 8192 (length line) ≡ false
    → is_utf8 line ≡ true → IsTextAnswer limits line a → IsLineAnswer limits line a
unfolding line_answer line_may_lack
of_text limits line a short text h = rw (short, text) h

pub of_other : (limits : Option SchemeCosts) (line : List ℕ) → nat_lt 8192 (length line) ≡ false
    → is_utf8 line ≡ false → IsLineAnswer limits line BadLine
unfolding line_answer
of_other limits line short other = inl (rw (short, other) refl)

-- ---- want of memory

abbrev Known : LineAnswer → Type 0
Known a = a ≢ Checked (Err (Stored OutOfMemory))

by_test : (t : Bool) (x y : LineAnswer) → Known x → Known y → Known (if t then x else y)
by_test true x y hx hy = hx
by_test false x y hx hy = hy

of_verdict : (limits : Option SchemeCosts) (password stored : List ℕ)
    → Known (Checked (given_verdict limits password stored))
of_verdict limits password stored = λ h. given_other limits password stored (cc h)

known_text : (limits : Option SchemeCosts) (text : List ℕ) → Known (cut_answer limits text)
known_text limits text = by_test (list_any is_tab text) _ _
    (of_verdict limits (before_last is_tab text) (after_last is_tab text)) (λ h. cc)

known : (limits : Option SchemeCosts) (line : List ℕ) → Known (line_answer limits line)
unfolding line_answer
known limits line = by_test (nat_lt 8192 (length line)) _ _ (λ h. cc)
    (by_test (is_utf8 line) _ _ (known_text limits line) (λ h. cc))

pub lacks_memory : (limits : Option SchemeCosts) (line : List ℕ) (a : LineAnswer) → IsLineAnswer limits line a
    → a ≡ Checked (Err (Stored OutOfMemory)) → line_may_lack limits line ≡ true
lacks_memory limits line a (inl is) h = absurd (known limits line (sym is ∙ h))
lacks_memory limits line a (inr lacks) h = lacks.1

pub is_known : (limits : Option SchemeCosts) (line : List ℕ) (a : LineAnswer) → IsLineAnswer limits line a
    → Known a → a ≡ line_answer limits line
is_known limits line a (inl is) h = is
is_known limits line a (inr lacks) h = absurd (h lacks.0)

-- ---- lines that are too long

answer_long : (limits : Option SchemeCosts) (l : List ℕ) → nat_lt 8192 (length l) ≡ true → line_answer limits l ≡ TooLong
unfolding line_answer
answer_long limits l long = rw long refl

pub long_output : (limits : Option SchemeCosts) (l : List ℕ) → nat_lt 8192 (length l) ≡ true
    → line_output limits l ≡ codes "toolong" ++ 10 ∷ []
long_output limits l long = ap (λ a. answer_word a ++ 10 ∷ []) (answer_long limits l long)

pub long_match : (limits : Option SchemeCosts) (l : List ℕ) → nat_lt 8192 (length l) ≡ true
    → is_match (line_answer limits l) ≡ false
long_match limits l long = ap is_match (answer_long limits l long)
