-- The rules of a program over lines whose stored texts are converted first.
use Rattle.std.specs.Prelude.{ℕ, Bool, List, Ok, Err}
use Rattle.line_program.specs.Rules.{LineRules, StateRules, each_line}
use Rattle.application_texts.specs.declared.makers.Maker.{Maker}
use Rattle.foreign_lines.specs.Handed.{Handed, by_reply, by_test, handed}
use Rattle.foreign_lines.specs.declared.parts.LineForm.{LineForm}

-- the state behind a line: that of the program where it gets one, else the same
abbrev pub by_after : {St : Type 0} → (List ℕ → St) → St → Handed → St
by_after after s (Ok line) = after line
by_after after s (Err text) = s

-- By what shows the foreign spelling, the form of the lines and the program of a state, and what gives a state another
-- program.
abbrev pub foreign_state : {St In : Type 0} → (St → Maker) → (St → LineForm) → (St → In) → (St → In → St)
    → StateRules In → StateRules St
foreign_state foreign form inner with_inner r = record {
  reply = λ s line. by_reply (r.reply (inner s)) (handed (foreign s) (form s) line);
  after = λ s line. with_inner s (by_after (r.after (inner s)) (inner s) (handed (foreign s) (form s) line));
  is_good = λ s line. by_test (r.is_good (inner s)) (handed (foreign s) (form s) line);
  may_lack_memory = λ s line. by_test (r.may_lack_memory (inner s)) (handed (foreign s) (form s) line);
}

-- the same for lines that are answered each by itself
abbrev pub foreign_each : Maker → LineForm → (List ℕ → List ℕ) → (List ℕ → Bool) → (List ℕ → Bool) → LineRules
foreign_each foreign form reply is_good lacks =
    each_line (λ line. by_reply reply (handed foreign form line)) (λ line. by_test is_good (handed foreign form line))
    (λ line. by_test lacks (handed foreign form line))
