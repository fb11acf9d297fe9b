-- The lines of a file of users: a user, a colon, and a line of a password and a stored text.
use Rattle.std.specs.Prelude.{ℕ, Bool, false, List, [], ◌∷◌, ◌++◌, length, nat_lt, codes, Option, if◌then◌else◌}
use Rattle.line_program.specs.Rules.{LineRules, each_line}
use Rattle.line_io.specs.Limits.{line_max}
use Rattle.shadow_fields.specs.Fields.{has_user, rest_of, user_of}
use Rattle.shadow_check.specs.Lines.{line_is_good, line_may_lack, line_output}
use Rattle.any_check.specs.declared.numbers.SchemeCosts.{SchemeCosts}

-- what is written for a line: its user, a tab, and what is written for the line behind the colon
unfoldable pub user_output : Option SchemeCosts → List ℕ → List ℕ
user_output limits line =
    if nat_lt line_max (length line) then codes "toolong" ++ 10 ∷ []
    else if has_user line then user_of line ++ 9 ∷ line_output limits (rest_of line)
    else codes "badline" ++ 10 ∷ []

-- a line is good where the one behind the colon is
unfoldable pub user_is_good : Option SchemeCosts → List ℕ → Bool
user_is_good limits line =
    if nat_lt line_max (length line) then false
    else if has_user line then line_is_good limits (rest_of line) else false

-- memory may be wanting
unfoldable pub user_may_lack : Option SchemeCosts → List ℕ → Bool
user_may_lack limits line =
    if nat_lt line_max (length line) then false
    else if has_user line then line_may_lack limits (rest_of line) else false

-- the rules of a run
abbrev pub user_line_rules : Option SchemeCosts → LineRules
user_line_rules limits = each_line (user_output limits) (user_is_good limits) (user_may_lack limits)
