-- The reply to a line, and the output of an input.
use Rattle.std.specs.Prelude.{ℕ, Bool, true, false, List, [], ◌∷◌, ◌++◌, length, nat_lt, map, fold, codes, Option, None}
use Rattle.std.specs.Prelude.{Some, unwrap_or, Result, Ok, Err, is_ok, if◌then◌else◌}
use Rattle.std.specs.List.{flat_map}
use Rattle.pw_file.specs.Answers.{set_answer, check_answer, remove_answer, upgrade_answer, check_may_lack, upgrade_may_lack}
use Rattle.pw_file.specs.Commands.{Command, command, set_line}
use Rattle.pw_file.specs.Commands as of
use Rattle.pw_file.specs.History.{History, Reply, Rows, text, users}
use Rattle.pw_file.specs.History.{Says, Lists}
use Rattle.pw_file.specs.Policy.{TextPolicy}
use Rattle.pw_file.specs.declared.error.FileError.{FileError}
use Rattle.pw_file.specs.declared.error.FileError.TheVariants as refused
use Rattle.pw_file.specs.declared.reply.Word.{Word}
use Rattle.pw_file.specs.declared.reply.Word.TheVariants.{TooLong, BadCommand, Done, TextLong, BadText, Full, NoUser}
use Rattle.pw_file.specs.declared.reply.Word.TheVariants.{Locked, BadSalt, Invalid, Match, Mismatch, Upgraded, FileFull, DiskFault, Kept, TooCostly}
use Rattle.line_io.specs.Limits.{line_max}

-- ---- words

-- the word of a refusal; want of memory has none of its own
abbrev pub error_word : {T V : Type 0} → FileError T V → Word
error_word refused.NoUser = NoUser
error_word refused.Locked = Locked
error_word refused.TextTooLong = TextLong
error_word (refused.BadText fault) = BadText
error_word refused.Full = Full
error_word (refused.BadSalt fault) = BadSalt
error_word (refused.Check fault) = Invalid
error_word refused.TooCostly = TooCostly
error_word refused.Unmatched = Invalid
error_word refused.Kept = Kept
error_word refused.OutOfMemory = Invalid

-- the word of the answer of `set` and of `remove`
abbrev pub set_word : {T V : Type 0} → Result (Unit {0}) (FileError T V) → Word
set_word (Ok done) = Done
set_word (Err e) = error_word e

-- the word of the answer of `check`
abbrev pub check_word : {T V : Type 0} → Result Bool (FileError T V) → Word
check_word (Ok true) = Match
check_word (Ok false) = Mismatch
check_word (Err e) = error_word e

-- the word of the answer of `upgrade`
abbrev pub upgrade_word : {T V : Type 0} → Result Bool (FileError T V) → Word
upgrade_word (Ok true) = Upgraded
upgrade_word (Ok false) = Mismatch
upgrade_word (Err e) = error_word e

-- the text of a word
abbrev pub word_text : Word → List ℕ
word_text TooLong = codes "toolong"
word_text BadCommand = codes "bad-command"
word_text Done = codes "ok"
word_text TextLong = codes "text-long"
word_text BadText = codes "bad-text"
word_text Full = codes "full"
word_text NoUser = codes "no-user"
word_text Locked = codes "locked"
word_text BadSalt = codes "bad-salt"
word_text Invalid = codes "invalid"
word_text Match = codes "match"
word_text Mismatch = codes "mismatch"
word_text Upgraded = codes "upgraded"
word_text FileFull = codes "file-full"
word_text DiskFault = codes "disk-fault"
word_text Kept = codes "kept"
word_text TooCostly = codes "too-costly"

-- a user and its text, as the command that sets it, and a line feed
abbrev pub row_line : List ℕ × List ℕ → List ℕ
row_line row = set_line row.0 row.1 ++ 10 ∷ []

-- what is written: the word and a line feed, or a line for each user
abbrev pub reply_text : Reply → List ℕ
reply_text (Says word) = word_text word ++ 10 ∷ []
reply_text (Lists rows) = flat_map row_line rows

-- ---- replies

-- each user with its text
abbrev pub rows : {T V : Type 0} → TextPolicy T V → History → Rows
rows p h = map (λ user. (user, unwrap_or (text p h user) [])) (users p h)

-- the reply to a command, by the text that each user has, by how many users have one, and by the rows of a listing
abbrev pub reply_by : {T V : Type 0} → TextPolicy T V → (List ℕ → Option (List ℕ)) → ℕ → Rows → Option Command → Reply
reply_by p text_of count listed None = Says BadCommand
reply_by p text_of count listed (Some (of.Set user new)) = Says (set_word (set_answer p (text_of user) count new))
reply_by p text_of count listed (Some (of.Check user password)) =
    Says (check_word (check_answer p (text_of user) password))
reply_by p text_of count listed (Some (of.Upgrade user salt password)) =
    Says (upgrade_word (upgrade_answer p (text_of user) password salt))
reply_by p text_of count listed (Some (of.Remove user)) = Says (set_word (remove_answer p (text_of user)))
reply_by p text_of count listed (Some of.Listing) = Lists listed

-- the reply to a command, over the lines before it
abbrev pub reply_to : {T V : Type 0} → TextPolicy T V → History → Option Command → Reply
reply_to p h c = reply_by p (text p h) (length (users p h)) (rows p h) c

-- the reply to a line, over the lines before it
unfoldable pub reply : {T V : Type 0} → TextPolicy T V → History → List ℕ → Reply
reply p h line = if nat_lt line_max (length line) then Says TooLong else reply_to p h (command p line)

-- one more line, with its reply
abbrev pub answered : {T V : Type 0} → TextPolicy T V → History → List ℕ → History
answered p h line = h ++ (line, reply p h line) ∷ []

-- lines, each with its reply over those before it
abbrev pub history : {T V : Type 0} → TextPolicy T V → List (List ℕ) → History
history p lines = fold (answered p) [] lines

-- the words that are good
abbrev pub is_good_word : Word → Bool
is_good_word Done = true
is_good_word Match = true
is_good_word Upgraded = true
is_good_word Kept = true
is_good_word word = false

-- `ok`, `match`, `upgraded`, `kept` or a listing
abbrev pub is_good : Reply → Bool
is_good (Says word) = is_good_word word
is_good (Lists rows) = true

-- ---- want of memory

-- a text that is taken, a verdict that needs memory, or an upgrade of a text that matches or whose verdict needs memory
abbrev pub is_costly_by : {T V : Type 0} → TextPolicy T V → (List ℕ → Option (List ℕ)) → ℕ → Option Command → Bool
is_costly_by p text_of count None = false
is_costly_by p text_of count (Some (of.Set user new)) = is_ok (set_answer p (text_of user) count new)
is_costly_by p text_of count (Some (of.Check user password)) = check_may_lack p (text_of user) password
is_costly_by p text_of count (Some (of.Upgrade user salt password)) =
    upgrade_may_lack p (text_of user) password salt
is_costly_by p text_of count (Some (of.Remove user)) = false
is_costly_by p text_of count (Some of.Listing) = false

-- memory may be wanting for a command
abbrev pub command_is_costly : {T V : Type 0} → TextPolicy T V → History → Option Command → Bool
command_is_costly p h c = is_costly_by p (text p h) (length (users p h)) c

-- memory may be wanting for a line
unfoldable pub is_costly : {T V : Type 0} → TextPolicy T V → History → List ℕ → Bool
is_costly p h line = if nat_lt line_max (length line) then false else command_is_costly p h (command p line)
