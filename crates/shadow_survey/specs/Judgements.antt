-- The judgement on a stored text.
use Rattle.std.specs.Prelude.{ℕ, ◌==◌, List, length, Option, Some, None}
use Rattle.std.specs.Prelude.{if◌then◌else◌}
use Rattle.std.specs.Str.{is_utf8}
use Rattle.shadow_fields.specs.Fields.{is_locked}
use Rattle.any_check.specs.Kinds.{text_kind}
use Rattle.any_check.specs.Records.{accepted}
use Rattle.any_check.specs.declared.kinds.TextKind.{TextKind}
use Rattle.any_check.specs.declared.kinds.TextKind.TheVariants as of
use Rattle.any_check.specs.declared.numbers.TextCosts.{TextCosts}
use Rattle.shadow_survey.specs.Leasts.{weakness_of}
use Rattle.shadow_survey.specs.Unsupported.{form_of}
use Rattle.shadow_survey.specs.declared.least.LeastCosts.{LeastCosts}
use Rattle.shadow_survey.specs.declared.least.Weakness.{Weakness}
use Rattle.shadow_survey.specs.declared.judgement.Judgement.{Judgement}
use Rattle.shadow_survey.specs.declared.judgement.Judgement.TheVariants.{Empty, Invalid, Locked, Strong, Unsupported, Weak}

-- by what is weak, if something is
abbrev pub judged_weakness : TextCosts → Option Weakness → Judgement
judged_weakness text None = Strong text
judged_weakness text (Some what) = Weak text what

-- by what the text is: one that has no verdict is named by its form
abbrev pub judged_kind : LeastCosts → List ℕ → TextKind → Judgement
judged_kind least text of.NoScheme = Unsupported (form_of text)
judged_kind least text of.Invalid = Invalid
judged_kind least text (of.Valid costs) = judged_weakness costs (weakness_of least costs)

-- the first that holds: there is none, it is locked, it is no UTF-8; else by what it is
unfoldable pub judged : LeastCosts → List ℕ → Judgement
judged least text =
    if length text == 0 then Empty else if is_locked text then Locked
    else if is_utf8 text then judged_kind least text (text_kind accepted text) else Invalid
