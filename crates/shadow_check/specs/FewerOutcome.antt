-- What a run over two files did that keeps the passwords of the texts' users alone, and reads the texts twice.
use Rattle.std.specs.Prelude.{◌≡◌, ◌≤◌, ℕ, Bool, List, [], length, Option, Result, Ok, Err}
use Rattle.line_io.specs.Lines.{lines}
use Rattle.line_program.specs.Outcome.{Outcome}
use Rattle.line_program.specs.Rules.{LineRules}
use Rattle.shadow_fields.specs.Loads.{Unfinished}
use Rattle.shadow_fields.specs.Passwords.{is_given}
use Rattle.shadow_fields.specs.Wanted.{has_line, is_wanted_line, wanted_password}
use Rattle.shadow_check.specs.declared.join.JoinEnd.{JoinEnd}
use Rattle.shadow_check.specs.declared.join.JoinEnd.TheVariants.{Passwords, Texts}
use Rattle.shadow_check.specs.JoinOutcome.{status_of}

-- its status
abbrev pub fewer_status : Result JoinEnd ℕ → ℕ
fewer_status (Err status) = status
fewer_status (Ok end) = status_of end

-- The passwords gave `given`, the texts `held`, of which `taken` was taken; `added` was written. Where the passwords weren't
-- read to their end, nothing was taken of the texts, and nothing written. Else each line of the texts is answered by the
-- password that the last line of its user gives, if the user is wanted.
abbrev pub WantedOutcome : ((List ℕ → Option (List ℕ)) → LineRules) → (List ℕ → Bool) → JoinEnd → ℕ → List ℕ → List ℕ → List ℕ
    → List ℕ → Type 0
WantedOutcome rules is_wanted (Passwords status) max given held taken added =
    Unfinished (is_wanted_line is_wanted) status max given × (taken ≡ []) × (added ≡ [])
WantedOutcome rules is_wanted (Texts status) max given held taken added =
    (length given ≤ max) × Outcome (rules (wanted_password is_wanted (lines given))) status max held taken added

-- The texts gave `first` when they were read for their users. Where that reading ended early (`Err`), nothing was taken of
-- the texts after it, and nothing written. Else those users are wanted who have a line there.
abbrev pub FewerOutcome : ((List ℕ → Option (List ℕ)) → LineRules) → Result JoinEnd ℕ → ℕ → List ℕ → List ℕ → List ℕ → List ℕ
    → List ℕ → Type 0
FewerOutcome rules (Err status) max first given held taken added =
    Unfinished is_given status max first × (taken ≡ []) × (added ≡ [])
FewerOutcome rules (Ok end) max first given held taken added =
    (length first ≤ max) × WantedOutcome rules (has_line (lines first)) end max given held taken added
