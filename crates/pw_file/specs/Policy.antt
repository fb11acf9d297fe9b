-- A policy: which names users have, which texts are taken, and how a text is judged. A table is one of a policy.
use Rattle.std.specs.Prelude.{◌≡◌, ◌≤◌, ℕ, Bool, true, false, List, length, Option, None, Result, Ok, is_ok}
use Rattle.std.specs.List.{list_any}
use Rattle.std.specs.Str.{IsUtf8}
use Rattle.line_io.specs.Lines.{NoFeed}
use Rattle.phc.specs.Grammar.{salt_fault}
use Rattle.phc.specs.declared.error.Error as phc_error
use Rattle.pieces.specs.Characters.{is_tab}
use Rattle.phc_kdf.specs.Limits.{password_max}
use Rattle.pw_file.specs.Limits.{name_max, text_max}

-- by the faults of texts, and by the causes that there is no verdict; want of memory is neither
pub record TextPolicy (T V : Type 0) : Type 0 where
  -- the name of a user
  pub is_name : List ℕ → Bool
  -- why a text is not taken
  pub text_fault : List ℕ → Option T
  -- a text that no password is judged by
  pub is_locked : List ℕ → Bool
  -- the verdict on a password and a text that is not locked, or the first cause that there is none
  pub verdict : List ℕ → List ℕ → Result Bool V
  -- memory may be wanting for it
  pub may_lack : List ℕ → List ℕ → Bool
  -- the most users of a table
  pub users_max : ℕ
  -- `remove`, which takes a user away, is a command
  pub takes_remove : Bool
  -- a text that the table takes, and that a run over a store doesn't set
  pub is_refused : List ℕ → Bool
  -- the check of a password by a text asks for more than the bound on cost
  pub is_too_costly : List ℕ → List ℕ → Bool
  -- why the text of a salt is not taken for an upgrade
  pub salt_fault : List ℕ → Option phc_error.Error
  -- an upgrade by a password and a salt leaves this text, which the password matches, as it is
  pub stays : List ℕ → List ℕ → List ℕ → Bool
  -- the text that an upgrade makes of a password and the text of a salt
  pub fresh : List ℕ → List ℕ → List ℕ

-- What is known of the text that an upgrade makes of a password.
pub record IsFresh {T V : Type 0} (p : TextPolicy T V) (password text : List ℕ) : Type 0 where
  -- it is a text that the table takes, and it isn't locked
  pub short : length text ≤ text_max
  pub taken : p.text_fault text ≡ None
  pub unlocked : p.is_locked text ≡ false
  -- it is within the bound on cost, and the password matches it
  pub affordable : p.is_too_costly password text ≡ false
  pub matches : length password ≤ password_max → p.verdict password text ≡ Ok true

-- What the laws of tables rest on.
pub record IsLawful {T V : Type 0} (p : TextPolicy T V) : Type 0 where
  -- a name is a part of a line of text
  pub name_short : (name : List ℕ) → p.is_name name ≡ true → length name ≤ name_max
  pub name_utf8 : (name : List ℕ) → p.is_name name ≡ true → IsUtf8 name
  pub name_tabless : (name : List ℕ) → p.is_name name ≡ true → list_any is_tab name ≡ false
  pub name_feedless : (name : List ℕ) → p.is_name name ≡ true → NoFeed name
  -- and so is a text that is taken
  pub text_utf8 : (text : List ℕ) → p.text_fault text ≡ None → IsUtf8 text
  pub text_feedless : (text : List ℕ) → p.text_fault text ≡ None → NoFeed text
  -- a salt of an upgrade is one of the PHC string format
  pub salt_taken : (salt : List ℕ) → p.salt_fault salt ≡ None → salt_fault salt ≡ None
  -- the text that an upgrade makes in the place of one that doesn't stay
  pub fresh : (password salt text : List ℕ) → p.salt_fault salt ≡ None → p.stays password salt text ≡ false
      → IsFresh p password (p.fresh password salt)
  -- a password on which there is a verdict has at most 4,096 bytes
  pub judged_short : (password text : List ℕ) → is_ok (p.verdict password text) ≡ true → length password ≤ password_max
  -- memory may be wanting only where there is a verdict
  pub lack_judged : (password text : List ℕ) → p.may_lack password text ≡ true → is_ok (p.verdict password text) ≡ true
  -- a table has room for a second user
  pub some_users : 2 ≤ p.users_max
