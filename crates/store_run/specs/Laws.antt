-- Laws over lines that are imported.
use Rattle.std.specs.Prelude.{◌≡◌, ◌⊎◌, ◌<◌, ℕ, List, codes, false, length, true, Err, None, Ok, Some}
use Rattle.foreign_lines.specs.Converting.{converted_line, stays}
use Rattle.foreign_lines.specs.Parts.{text_in}
use Rattle.application_texts.specs.Makers.{read_by}
use Rattle.application_texts.specs.declared.makers.Maker.{Maker}
use Rattle.foreign_text.specs.declared.fault.ForeignFault.TheVariants.{Locked}
use Rattle.line_io.specs.Limits.{line_max}
use Rattle.pw_file.specs.Commands.{Set, command}
use Rattle.pw_file.specs.History.{Says}
use Rattle.pw_file.specs.declared.reply.Word.TheVariants.{BadCommand, TooLong}
use Rattle.pw_store.specs.Run.{State, store_after, store_reply}
use Rattle.set_lines.specs.Sets.{set_of}
use Rattle.shadow_fields.specs.Fields.{first_field, has_user, rest_of, user_of}
use Rattle.shadow_table.specs.AnyTexts.{any_texts}
use Rattle.shadow_table.specs.declared.rules.TableRules.{TableRules}

-- A line without a user and a colon, or with a tab before its colon, becomes no command.
abbrev pub NoUserNoCommand : Type 0
NoUserNoCommand = (r : TableRules) (line : List ℕ) → has_user line ≡ false → command (any_texts r) (set_of line) ≡ None

-- Its reply is `bad-command`, or `toolong` where it is too long for a command, and it changes no user, whether writes fail or not.
abbrev pub NoUserNoChange : Type 0
NoUserNoChange = (r : TableRules) (s : State) (line : List ℕ) → has_user line ≡ false
    → ((store_after (any_texts r) s (set_of line)).rows ≡ s.rows)
    × ((store_reply (any_texts r) s (set_of line) ≡ Says BadCommand)
    ⊎ ((line_max < length (set_of line)) × (store_reply (any_texts r) s (set_of line) ≡ Says TooLong)))

-- What is set for a text of another maker: the converted one; `!` where the account is locked in the maker's own way; or an empty
-- text or a locked one as it is, up to a colon.
abbrev pub IsImported : Maker → List ℕ → List ℕ → Type 0
IsImported foreign given text =
    (read_by foreign given ≡ Ok text)
    ⊎ (((read_by foreign given ≡ Err Locked) × (text ≡ codes "!")) ⊎ ((stays foreign given ≡ true) × (text ≡ first_field given)))

-- A converted line that is a command sets such a text for its user.
abbrev pub ImportsConverted : Type 0
ImportsConverted = (r : TableRules) (foreign : Maker) (line user text : List ℕ)
    → command (any_texts r) (set_of (converted_line foreign line)) ≡ Some (Set user text)
    → (has_user line ≡ true) × ((user ≡ user_of line) × IsImported foreign (text_in foreign (rest_of line)) text)
