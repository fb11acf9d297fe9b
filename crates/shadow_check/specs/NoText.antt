-- The users of a file of passwords, those without a text told.
use Rattle.std.specs.Prelude.{◌≡◌, ◌≤◌, ℕ, Bool, false, List, [], ◌∷◌, ◌++◌, length, nat_lt, codes, if◌then◌else◌}
use Rattle.line_program.specs.Outcome.{Outcome}
use Rattle.line_program.specs.Rules.{LineRules, each_line}
use Rattle.line_io.specs.Limits.{line_max}
use Rattle.line_io.specs.Lines.{lines}
use Rattle.shadow_fields.specs.Fields.{has_user, user_of}
use Rattle.shadow_fields.specs.Loads.{Unfinished}
use Rattle.shadow_fields.specs.Passwords.{is_given}
use Rattle.shadow_fields.specs.Wanted.{has_line}
use Rattle.shadow_check.specs.declared.join.JoinEnd.{JoinEnd}
use Rattle.shadow_check.specs.declared.join.JoinEnd.TheVariants.{Passwords, Texts}

-- what is written for a user: nothing where the user has a text
abbrev pub left_output : Bool → List ℕ → List ℕ
left_output has_text user = if has_text then [] else user ++ 9 ∷ (codes "no-text" ++ 10 ∷ [])

-- what is written for a line of passwords
unfoldable pub no_text_output : (List ℕ → Bool) → List ℕ → List ℕ
no_text_output has_text line =
    if nat_lt line_max (length line) then codes "toolong" ++ 10 ∷ []
    else if has_user line then left_output (has_text (user_of line)) (user_of line)
    else codes "badline" ++ 10 ∷ []

-- a line is good where its user has a text
unfoldable pub no_text_is_good : (List ℕ → Bool) → List ℕ → Bool
no_text_is_good has_text line =
    if nat_lt line_max (length line) then false
    else if has_user line then has_text (user_of line) else false

-- the rules of a run; no memory is taken for a line
abbrev pub no_text_rules : (List ℕ → Bool) → LineRules
no_text_rules has_text = each_line (no_text_output has_text) (no_text_is_good has_text) (λ line. false)

-- The file of texts held `texts`, that of passwords `held`, of which `taken` was taken; `added` was written.
-- Where the texts weren't read to their end, nothing was taken of the passwords, and nothing written. Else each line of the
-- passwords is answered by whether its user has a line in the texts.
abbrev pub NoTextOutcome : JoinEnd → ℕ → List ℕ → List ℕ → List ℕ → List ℕ → Type 0
NoTextOutcome (Texts status) max texts held taken added =
    Unfinished is_given status max texts × (taken ≡ []) × (added ≡ [])
NoTextOutcome (Passwords status) max texts held taken added =
    (length texts ≤ max) × Outcome (no_text_rules (has_line (lines texts))) status max held taken added
