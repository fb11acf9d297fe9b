-- The lines of a shadow or htpasswd file, each answered by its user's password in another file.
use Rattle.std.specs.Prelude.{ℕ, Bool, true, false, ◌==◌, List, [], ◌∷◌, ◌++◌, length, nat_lt, codes, Option}
use Rattle.std.specs.Prelude.{Some, None, Ok, Err, if◌then◌else◌}
use Rattle.std.specs.Str.{is_utf8}
use Rattle.line_program.specs.Rules.{LineRules, each_line}
use Rattle.line_io.specs.Limits.{line_max}
use Rattle.shadow_fields.specs.Fields.{has_user, is_locked, text_of_line, user_of}
use Rattle.any_check.specs.Given.{given_may_lack, given_verdict}
use Rattle.any_check.specs.Table.{any_word}
use Rattle.any_check.specs.declared.numbers.SchemeCosts.{SchemeCosts}
use Rattle.shadow_check.specs.declared.answer.JoinAnswer.{JoinAnswer}
use Rattle.shadow_check.specs.declared.answer.JoinAnswer.TheVariants.{Checked, Empty, Locked, NoPassword, NotText}

-- ---- the answer to a stored text and to the user's password, if there is one

-- by both, where the password is UTF-8
abbrev pub text_answer : Option SchemeCosts → List ℕ → List ℕ → JoinAnswer
text_answer limits password text = if is_utf8 text then Checked (given_verdict limits password text) else NotText

-- by both
abbrev pub both_answer : Option SchemeCosts → List ℕ → List ℕ → JoinAnswer
both_answer limits password text = if is_utf8 password then text_answer limits password text else NotText

-- by the password
abbrev pub password_answer : Option SchemeCosts → Option (List ℕ) → List ℕ → JoinAnswer
password_answer limits None text = NoPassword
password_answer limits (Some password) text = both_answer limits password text

-- the first that holds: no text, a locked one, no password, one of the two is no UTF-8; else the verdict
unfoldable pub join_answer : Option SchemeCosts → Option (List ℕ) → List ℕ → JoinAnswer
join_answer limits password text =
    if length text == 0 then Empty else if is_locked text then Locked else password_answer limits password text

-- memory may be wanting for both
abbrev pub text_may_lack : Option SchemeCosts → List ℕ → List ℕ → Bool
text_may_lack limits password text = if is_utf8 text then given_may_lack limits password text else false

abbrev pub both_may_lack : Option SchemeCosts → List ℕ → List ℕ → Bool
both_may_lack limits password text = if is_utf8 password then text_may_lack limits password text else false

abbrev pub password_may_lack : Option SchemeCosts → Option (List ℕ) → List ℕ → Bool
password_may_lack limits None text = false
password_may_lack limits (Some password) text = both_may_lack limits password text

-- memory may be wanting for a stored text and a password
unfoldable pub join_may_lack : Option SchemeCosts → Option (List ℕ) → List ℕ → Bool
join_may_lack limits password text =
    if length text == 0 then false else if is_locked text then false else password_may_lack limits password text

-- ---- words

abbrev pub join_word : JoinAnswer → List ℕ
join_word Empty = codes "empty"
join_word Locked = codes "locked"
join_word NoPassword = codes "no-password"
join_word NotText = codes "badline"
join_word (Checked r) = any_word r

-- a match
abbrev pub is_join_match : JoinAnswer → Bool
is_join_match (Checked (Ok b)) = b
is_join_match (Checked (Err e)) = false
is_join_match Empty = false
is_join_match Locked = false
is_join_match NoPassword = false
is_join_match NotText = false

-- a match or a mismatch
abbrev pub join_has_verdict : JoinAnswer → Bool
join_has_verdict (Checked (Ok b)) = true
join_has_verdict (Checked (Err e)) = false
join_has_verdict Empty = false
join_has_verdict Locked = false
join_has_verdict NoPassword = false
join_has_verdict NotText = false

-- ---- a line, by what finds the password of a user

-- the answer for the user of a line
abbrev pub joined_answer : Option SchemeCosts → (List ℕ → Option (List ℕ)) → List ℕ → JoinAnswer
joined_answer limits find line = join_answer limits (find (user_of line)) (text_of_line line)

-- what is written for a line: its user, a tab, the word and a line feed
unfoldable pub joined_output : Option SchemeCosts → (List ℕ → Option (List ℕ)) → List ℕ → List ℕ
joined_output limits find line =
    if nat_lt line_max (length line) then codes "toolong" ++ 10 ∷ []
    else if has_user line then user_of line ++ 9 ∷ (join_word (joined_answer limits find line) ++ 10 ∷ [])
    else codes "badline" ++ 10 ∷ []

-- a line is good where the password matches
unfoldable pub joined_is_good : Option SchemeCosts → (List ℕ → Option (List ℕ)) → List ℕ → Bool
joined_is_good limits find line =
    if nat_lt line_max (length line) then false
    else if has_user line then is_join_match (joined_answer limits find line) else false

-- memory may be wanting
unfoldable pub joined_may_lack : Option SchemeCosts → (List ℕ → Option (List ℕ)) → List ℕ → Bool
joined_may_lack limits find line =
    if nat_lt line_max (length line) then false
    else if has_user line then join_may_lack limits (find (user_of line)) (text_of_line line) else false

-- the rules of a run
abbrev pub joined_rules : Option SchemeCosts → (List ℕ → Option (List ℕ)) → LineRules
joined_rules limits find = each_line (joined_output limits find) (joined_is_good limits find) (joined_may_lack limits find)
