-- The rules of a run over a table: a bound on cost, texts that a password can match, and upgrades that never weaken a text.
use Rattle.std.specs.Prelude.{ℕ, ◌&&◌, ◌||◌, Bool, true, false, List, [], ◌∷◌, length, nat_le, not, unwrap_or, Option, Some, None, Result, Ok, Err}
use Rattle.phc.specs.Encoded.{decoding}
use Rattle.phc.specs.Grammar.{salt_fault}
use Rattle.phc.specs.declared.error.Error as phc_error
use Rattle.phc.specs.declared.error.Error.TheVariants.{SaltTooLong, SaltTooShort}
use Rattle.phc_kdf.specs.Limits.{password_max}
use Rattle.pieces.specs.Faults.{first_fault, unless}
use Rattle.any_check.specs.Cost.{is_costly}
use Rattle.any_check.specs.Kinds.{is_valid, text_kind}
use Rattle.any_check.specs.Records.{accepted}
use Rattle.any_check.specs.declared.numbers.SchemeCosts.{SchemeCosts}
use Rattle.any_make.specs.Costs.{salt_length}
use Rattle.any_make.specs.Made.{made}
use Rattle.any_make.specs.declared.error.MakeFault.{MakeFault}
use Rattle.pw_file.specs.Limits.{text_max}
use Rattle.shadow_table.specs.Fields.{is_field, is_locked_text}
use Rattle.shadow_table.specs.Strength.{is_weaker_kind, keeps_kind}
use Rattle.shadow_table.specs.declared.rules.TableRules.{TableRules}

-- ---- a bound on cost

-- the check of a password under the bound is `too-costly`: the password isn't too long, and the text asks for more than the bound
abbrev pub is_too_costly : Option SchemeCosts → List ℕ → List ℕ → Bool
is_too_costly None password text = false
is_too_costly (Some limits) password text = nat_le (length password) password_max && is_costly accepted limits text

-- ---- texts that no password matches

-- a text that the table takes isn't locked, and no check can match it: no scheme has it, or it has a fault
abbrev pub is_unmatched : List ℕ → Bool
is_unmatched text =
    nat_le (length text) text_max && is_field text && not (is_locked_text text) && not (is_valid (text_kind accepted text))

-- a run by these rules doesn't set the text
abbrev pub is_refused_text : TableRules → List ℕ → Bool
is_refused_text r text = r.strict && is_unmatched text

-- ---- upgrades

-- the bytes that the text of a salt is the encoding of
abbrev pub bytes_of_salt : List ℕ → List ℕ
bytes_of_salt salt = unwrap_or (decoding salt) []

-- why a salt isn't taken: a fault of its text, or a length that isn't the one of the salts of the scheme
abbrev pub fault_of_salt : TableRules → List ℕ → Option phc_error.Error
fault_of_salt r salt = first_fault
    (salt_fault salt
    ∷ unless (nat_le (salt_length r.upgrade_to) (length (bytes_of_salt salt))) SaltTooShort
    ∷ unless (nat_le (length (bytes_of_salt salt)) (salt_length r.upgrade_to)) SaltTooLong
    ∷ [])

-- A text that was made comes in the place of an old one: the table takes it, a check of it is within the bound, and it isn't weaker.
abbrev pub is_put : TableRules → List ℕ → List ℕ → List ℕ → Bool
is_put r password old fresh =
    nat_le (length fresh) text_max && is_field fresh && not (is_locked_text fresh) && not (is_too_costly r.limits password fresh)
    && not (is_weaker_kind (text_kind accepted fresh) (text_kind accepted old))

-- by what was made: where no text can be made of the password the old one stays too
abbrev pub keeps_beside : TableRules → List ℕ → List ℕ → Result (List ℕ) MakeFault → Bool
keeps_beside r password old (Ok fresh) = not (is_put r password old fresh)
keeps_beside r password old (Err e) = true

-- a text that the password matches stays
abbrev pub keeps : TableRules → List ℕ → List ℕ → List ℕ → Bool
keeps r password salt old =
    keeps_kind r.upgrade_to (text_kind accepted old) || keeps_beside r password old (made r.upgrade_to password (bytes_of_salt salt))

-- the text that was made, if one was
abbrev pub text_made : Result (List ℕ) MakeFault → List ℕ
text_made (Ok fresh) = fresh
text_made (Err e) = []

-- the text that an upgrade makes
abbrev pub fresh_text : TableRules → List ℕ → List ℕ → List ℕ
fresh_text r password salt = text_made (made r.upgrade_to password (bytes_of_salt salt))
