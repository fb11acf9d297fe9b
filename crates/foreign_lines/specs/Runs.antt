-- What runs over lines of foreign texts owe.
use Rattle.std.specs.Prelude.{ℕ, List, Option}
use Rattle.line_program.specs.Rules.{LineRules}
use Rattle.shadow_check.specs.Lines.{line_is_good, line_may_lack, line_output}
use Rattle.any_check.specs.declared.numbers.SchemeCosts.{SchemeCosts}
use Rattle.shadow_check.specs.Join.{joined_is_good, joined_may_lack, joined_output}
use Rattle.shadow_check.specs.Users.{user_is_good, user_may_lack, user_output}
use Rattle.application_texts.specs.declared.makers.Maker.{Maker}
use Rattle.foreign_lines.specs.Rules.{foreign_each}
use Rattle.foreign_lines.specs.declared.parts.LineForm.TheVariants.{Password, UserPassword, UserText}

-- lines of a password and a stored text
abbrev pub foreign_rules : Maker → Option SchemeCosts → LineRules
foreign_rules foreign limits =
    foreign_each foreign Password (line_output limits) (line_is_good limits) (line_may_lack limits)

-- the same behind a user
abbrev pub foreign_user_rules : Maker → Option SchemeCosts → LineRules
foreign_user_rules foreign limits =
    foreign_each foreign UserPassword (user_output limits) (user_is_good limits) (user_may_lack limits)

-- lines of texts, by what finds the password of a user
abbrev pub foreign_joined_rules : Maker → Option SchemeCosts → (List ℕ → Option (List ℕ)) → LineRules
foreign_joined_rules foreign limits find =
    foreign_each foreign UserText (joined_output limits find) (joined_is_good limits find) (joined_may_lack limits find)
