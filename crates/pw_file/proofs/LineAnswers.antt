-- A line is answered as its reply over the table says.
use Rattle.std.proofs.Common.{◌≡◌, ℕ, ◌≤◌, ◌<◌, Bool, true, false, List, [], ◌∷◌, length, refl, sym, ap, ◌∙◌, arith}
use Rattle.std.proofs.Common.{inl, inr, Option, Some, None, Result, Ok, Err}
use Rattle.std.specs.Prelude.{nat_le, nat_lt, is_ok, if◌then◌else◌}
use Rattle.std.proofs.lemmas.Bool.Decides.{nat_tests}
use Rattle.phc.specs.declared.error.Error as phc_error
use Rattle.pieces.specs.Faults.{first_fault, unless}
use Rattle.pw_file.specs.Answers.{IsAnswer, bad_text, check_answer, check_may_lack, checked, done_or_fault, has_room, judged}
use Rattle.pw_file.specs.Answers.{remove_answer, renewal, set_answer, upgrade_answer, with_salt, upgrade_may_lack}
use Rattle.pw_file.specs.Calls.{is_want, rows_after_remove, rows_after_set, rows_after_upgrade}
use Rattle.pw_file.specs.Commands as of
use Rattle.pw_file.specs.History.{Lists, Reply, Rows, Says, change_of, is_done, is_upgraded, text_in}
use Rattle.pw_file.specs.Lines.{AnswersLineOver, Asks, line_reply}
use Rattle.pw_file.specs.Policy.{TextPolicy}
use Rattle.pw_file.specs.Replies.{check_word, error_word, is_costly_by, reply_by, set_word, upgrade_word}
use Rattle.pw_file.specs.Rules.{changed, table_after, table_is_costly, table_reply}
use Rattle.pw_file.specs.declared.error.FileError.{FileError}
use Rattle.pw_file.specs.declared.error.FileError.TheVariants as refused
use Rattle.pw_file.specs.declared.reply.LineReply.TheVariants as replies
use Rattle.pw_file.specs.declared.reply.Word.{Word}
use Rattle.pw_file.specs.declared.reply.Word.TheVariants.{BadCommand, Match, Mismatch, TooLong}
use Rattle.pw_file.proofs.Calls.{no_change, unchanged}

pub long_is : (line : List ℕ) → 8192 < length line → nat_lt 8192 (length line) ≡ true
long_is line long = grind (arith, nat_tests, long)

module _ {T V : Type 0} (p : TextPolicy T V) where
  -- ---- want of memory is no answer of the definitions

  set_cases : (a : Bool) (b : Option T) (c : Bool)
      → is_want (done_or_fault {T = T} {V = V}
      (first_fault (unless a refused.TextTooLong ∷ (bad_text b ∷ (unless c refused.Full ∷ []))))) ≡ false
  set_cases false b c = refl
  set_cases true (Some e) c = refl
  set_cases true None false = refl
  set_cases true None true = refl

  set_known : (had : Option (List ℕ)) (n : ℕ) (new : List ℕ) → is_want (set_answer p had n new) ≡ false
  set_known had n new = set_cases (nat_le (length new) 1024) (p.text_fault new) (has_room p had n)

  remove_known : (had : Option (List ℕ)) → is_want (remove_answer p had) ≡ false
  remove_known None = refl
  remove_known (Some text) = refl

  checked_cases : (r : Result Bool V) → is_want (checked {T = T} r) ≡ false
  checked_cases (Ok b) = refl
  checked_cases (Err e) = refl

  bound_cases : (costly : Bool) (r : Result Bool V)
      → is_want (if costly then Err refused.TooCostly else checked {T = T} r) ≡ false
  bound_cases true r = refl
  bound_cases false r = checked_cases r

  judged_known : (password text : List ℕ) → is_want (judged p password text) ≡ false
  judged_known password text = bound_cases (p.is_too_costly password text) (p.verdict password text)

  check_cases : (text password : List ℕ) (locked : Bool) → p.is_locked text ≡ locked
      → is_want (check_answer p (Some text) password) ≡ false
  check_cases text password true is = rw is refl
  check_cases text password false is = rw is (judged_known password text)

  check_known : (had : Option (List ℕ)) (password : List ℕ) → is_want (check_answer p had password) ≡ false
  check_known None password = refl
  check_known (Some text) password = check_cases text password (p.is_locked text) refl

  salt_cases : (fault : Option phc_error.Error) (answer : Result Bool (FileError T V)) → is_want answer ≡ false
      → is_want (with_salt fault answer) ≡ false
  salt_cases (Some e) answer known = refl
  salt_cases None answer known = known

  renewal_cases : (stays : Bool) (answer : Result Bool (FileError T V)) → is_want answer ≡ false
      → is_want (renewal stays answer) ≡ false
  renewal_cases true (Ok true) known = refl
  renewal_cases false (Ok true) known = refl
  renewal_cases stays (Ok false) known = refl
  renewal_cases stays (Err e) known = known

  upgrade_cases : (text password salt : List ℕ) (locked : Bool) → p.is_locked text ≡ locked
      → is_want (upgrade_answer p (Some text) password salt) ≡ false
  upgrade_cases text password salt true is = rw is refl
  upgrade_cases text password salt false is =
      rw is (salt_cases (p.salt_fault salt) (renewal (p.stays password salt text) (judged p password text))
      (renewal_cases (p.stays password salt text) (judged p password text) (judged_known password text)))

  upgrade_known : (had : Option (List ℕ)) (password salt : List ℕ)
      → is_want (upgrade_answer p had password salt) ≡ false
  upgrade_known None password salt = refl
  upgrade_known (Some text) password salt = upgrade_cases text password salt (p.is_locked text) refl

  -- ---- replies

  short_line : (line : List ℕ) → length line ≤ 8192 → nat_lt 8192 (length line) ≡ false
  short_line line h = grind (arith, nat_tests, h)

  reply_is : (table : Rows) (line : List ℕ) (c : Option of.Command) → length line ≤ 8192 → of.command p line ≡ c
      → table_reply p table line ≡ reply_by p (text_in table) (length table) table c
  unfolding table_reply
  reply_is table line c short is = rw (short_line line short, is) refl

  costly_is : (table : Rows) (line : List ℕ) (c : Option of.Command) → length line ≤ 8192 → of.command p line ≡ c
      → table_is_costly p table line ≡ is_costly_by p (text_in table) (length table) c
  unfolding table_is_costly
  costly_is table line c short is = rw (short_line line short, is) refl

  pub long_reply : (table : Rows) (line : List ℕ) → 8192 < length line → table_reply p table line ≡ Says TooLong
  unfolding table_reply
  long_reply table line long = rw (long_is line long) refl

module _ {T V : Type 0} (p : TextPolicy T V) (old : Rows) (line : List ℕ) where
  after_is : (r : Reply) → table_reply p old line ≡ r → table_after p old line ≡ changed old (change_of p (of.command p line) r)
  after_is r is = ap (λ (reply : Reply). changed old (change_of p (of.command p line) reply)) is

  says : {A : Type 0} (answer : Result A (FileError T V)) (word : Word) (new : Rows) → is_want answer ≡ false
      → table_reply p old line ≡ Says word
      → new ≡ changed old (change_of p (of.command p line) (Says word))
      → AnswersLineOver p old line new (line_reply answer word)
  says answer word new known is next = rw known (sym is, next ∙ sym (after_is (Says word) is))

  -- a reply that says of no change
  stays : (word : Word) → is_done (Says word) ≡ false → is_upgraded (Says word) ≡ false
      → old ≡ changed old (change_of p (of.command p line) (Says word))
  stays word a b = rw (unchanged p (of.command p line) word a b) refl

  refusal : (e : FileError T V) → old ≡ changed old (change_of p (of.command p line) (Says (error_word e)))
  refusal e = let no = no_change e in stays (error_word e) no.0 no.1

  -- what is answered to a command that is no listing: what it is to be, or want of memory, where that may be
  answered : {A : Type 0} (c : of.Command) (truth answer : Result A (FileError T V)) (may : Bool)
      (word_of : Result A (FileError T V) → Word) (after : Rows) → Asks p line c
      → reply_by p (text_in old) (length old) old (Some c) ≡ Says (word_of truth)
      → is_costly_by p (text_in old) (length old) (Some c) ≡ may → is_want truth ≡ false → IsAnswer truth may answer
      → after ≡ changed old (change_of p (of.command p line) (Says (word_of answer)))
      → (answer ≡ Err refused.OutOfMemory → after ≡ old)
      → AnswersLineOver p old line after (line_reply answer (word_of answer))
  answered {A} c truth answer may word_of after asks reply costly known (inl is) next same =
      says answer (word_of answer) after (ap is_want is ∙ known)
      (reply_is p old line _ asks.0 asks.1 ∙ reply ∙ ap (λ (a : Result A (FileError T V)). Says (word_of a)) (sym is)) next
  answered c truth answer may word_of after asks reply costly known (inr (want, lacks)) next same =
      let is_costly : table_is_costly p old line ≡ true = costly_is p old line _ asks.0 asks.1 ∙ costly ∙ lacks in
      let none = same want in
      rw want (is_costly, none)

  -- ---- set

  set_next : (user new : List ℕ) (answer : Result (Unit {0}) (FileError T V)) → of.command p line ≡ Some (of.Set user new)
      → rows_after_set old user new answer ≡ changed old (change_of p (of.command p line) (Says (set_word answer)))
  set_next user new (Ok done) is = rw is refl
  set_next user new (Err e) is = refusal e

  pub set_answered : (user new : List ℕ) (after : Rows) (answer : Result (Unit {0}) (FileError T V))
      → Asks p line (of.Set user new)
      → IsAnswer (set_answer p (text_in old user) (length old) new)
      (is_ok (set_answer p (text_in old user) (length old) new)) answer
      → after ≡ rows_after_set old user new answer
      → AnswersLineOver p old line after (line_reply answer (set_word answer))
  set_answered user new after answer asks is rows =
      answered (of.Set user new) (set_answer p (text_in old user) (length old) new) answer _ set_word after asks refl refl
      (set_known p (text_in old user) (length old) new) is (rows ∙ set_next user new answer asks.1)
      (λ want. rows ∙ ap (rows_after_set old user new) want)

  -- ---- remove

  remove_next : (user : List ℕ) (answer : Result (Unit {0}) (FileError T V)) → of.command p line ≡ Some (of.Remove user)
      → rows_after_remove old user answer ≡ changed old (change_of p (of.command p line) (Says (set_word answer)))
  remove_next user (Ok done) is = rw is refl
  remove_next user (Err e) is = refusal e

  pub remove_answered : (user : List ℕ) (after : Rows) (answer : Result (Unit {0}) (FileError T V)) → Asks p line (of.Remove user)
      → answer ≡ remove_answer p (text_in old user) → after ≡ rows_after_remove old user answer
      → AnswersLineOver p old line after (line_reply answer (set_word answer))
  remove_answered user after answer asks is rows =
      answered (of.Remove user) (remove_answer p (text_in old user)) answer false set_word after asks refl refl
      (remove_known p (text_in old user)) (inl is) (rows ∙ remove_next user answer asks.1)
      (λ want. rows ∙ ap (rows_after_remove old user) want)

  -- ---- check

  check_next : (answer : Result Bool (FileError T V))
      → old ≡ changed old (change_of p (of.command p line) (Says (check_word answer)))
  check_next (Ok true) = stays Match refl refl
  check_next (Ok false) = stays Mismatch refl refl
  check_next (Err e) = refusal e

  pub check_answered : (user password : List ℕ) (answer : Result Bool (FileError T V)) → Asks p line (of.Check user password)
      → IsAnswer (check_answer p (text_in old user) password) (check_may_lack p (text_in old user) password) answer
      → AnswersLineOver p old line old (line_reply answer (check_word answer))
  check_answered user password answer asks is =
      answered (of.Check user password) (check_answer p (text_in old user) password) answer _ check_word old asks
      refl refl (check_known p (text_in old user) password) is (check_next answer) (λ want. refl)

  -- ---- upgrade

  upgrade_next : (user salt password : List ℕ) (answer : Result Bool (FileError T V))
      → of.command p line ≡ Some (of.Upgrade user salt password)
      → rows_after_upgrade p old user password salt answer
      ≡ changed old (change_of p (of.command p line) (Says (upgrade_word answer)))
  upgrade_next user salt password (Ok true) is = rw is refl
  upgrade_next user salt password (Ok false) is = stays Mismatch refl refl
  upgrade_next user salt password (Err e) is = refusal e

  pub upgrade_answered : (user salt password : List ℕ) (after : Rows) (answer : Result Bool (FileError T V))
      → Asks p line (of.Upgrade user salt password)
      → IsAnswer (upgrade_answer p (text_in old user) password salt) (upgrade_may_lack p (text_in old user) password salt)
      answer
      → after ≡ rows_after_upgrade p old user password salt answer
      → AnswersLineOver p old line after (line_reply answer (upgrade_word answer))
  upgrade_answered user salt password after answer asks is rows =
      answered (of.Upgrade user salt password) (upgrade_answer p (text_in old user) password salt) answer _ upgrade_word
      after asks refl refl (upgrade_known p (text_in old user) password salt) is
      (rows ∙ upgrade_next user salt password answer asks.1)
      (λ want. rows ∙ ap (rows_after_upgrade p old user password salt) want)

  -- ---- list, and lines that are no command

  pub list_answered : Asks p line of.Listing → AnswersLineOver p old line old (Some replies.Listing)
  list_answered asks =
      let is : table_reply p old line ≡ Lists old = reply_is p old line _ asks.0 asks.1 in
      let none : change_of p (of.command p line) (Lists old) ≡ None = rw asks.1 refl in
      (sym is, sym (after_is (Lists old) is ∙ ap (changed old) none))

  word_answered : (word : Word) → table_reply p old line ≡ Says word → is_done (Says word) ≡ false
      → is_upgraded (Says word) ≡ false → AnswersLineOver p old line old (Some (replies.Word word))
  word_answered word is a b = (sym is, stays word a b ∙ sym (after_is (Says word) is))

  pub bad_answered : length line ≤ 8192 → of.command p line ≡ None
      → AnswersLineOver p old line old (Some (replies.Word BadCommand))
  bad_answered short none = word_answered BadCommand (reply_is p old line None short none) refl refl

  pub long_answered : 8192 < length line → AnswersLineOver p old line old (Some (replies.Word TooLong))
  long_answered long = word_answered TooLong (long_reply p old line long) refl refl

  pub long_after : 8192 < length line → old ≡ table_after p old line
  long_after long = stays TooLong refl refl ∙ sym (after_is (Says TooLong) (long_reply p old line long))
