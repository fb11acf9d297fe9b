-- What a run over two files did.
use Rattle.std.specs.Prelude.{◌≡◌, ◌≤◌, ℕ, List, [], length, Option}
use Rattle.line_io.specs.Lines.{lines}
use Rattle.line_program.specs.Outcome.{Outcome}
use Rattle.line_program.specs.Rules.{LineRules}
use Rattle.shadow_fields.specs.Loads.{Unfinished}
use Rattle.shadow_fields.specs.Passwords.{is_given, password_of}
use Rattle.shadow_check.specs.declared.join.JoinEnd.{JoinEnd}
use Rattle.shadow_check.specs.declared.join.JoinEnd.TheVariants.{Passwords, Texts}

-- its status
abbrev pub status_of : JoinEnd → ℕ
status_of (Passwords status) = status
status_of (Texts status) = status

-- The rules of the texts are given by what finds the password of a user. The file of passwords held `given`, that of texts
-- `held`, of which `taken` was taken; `added` was written.
-- Where the passwords weren't read to their end, nothing was taken of the texts, and nothing written. Else each line of the texts is answered by the password that the last line of its user gives.
abbrev pub JoinOutcome : ((List ℕ → Option (List ℕ)) → LineRules) → JoinEnd → ℕ → List ℕ → List ℕ → List ℕ → List ℕ → Type 0
JoinOutcome rules (Passwords status) max given held taken added =
    Unfinished is_given status max given × (taken ≡ []) × (added ≡ [])
JoinOutcome rules (Texts status) max given held taken added =
    (length given ≤ max) × Outcome (rules (password_of (lines given))) status max held taken added
