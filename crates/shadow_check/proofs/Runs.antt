-- What the runs over two files do, by what the loading of their tables says.
use Rattle.std.proofs.Common.{◌≡◌, ℕ, ◌<◌, ◌≤◌, Bool, List, [], length, Option, None, Some, rules}
use Rattle.std.specs.Prelude.{IfSome, Ok, Err, is_some}
use Rattle.line_io.specs.Devices.{WhereTold}
use Rattle.line_io.specs.Lines.{lines}
use Rattle.line_program.specs.Outcome.{Outcome}
use Rattle.line_program.specs.Rules.{LineRules}
use Rattle.shadow_fields.specs.Loads.{Loaded, Unfinished}
use Rattle.shadow_fields.specs.Passwords.{UserPasswords, is_given, password_in, password_of}
use Rattle.shadow_fields.specs.Wanted.{LoadedWanted, has_line, is_in, is_wanted_line, wanted_password}
use Rattle.shadow_check.specs.FewerOutcome.{FewerOutcome, WantedOutcome}
use Rattle.shadow_check.specs.JoinOutcome.{JoinOutcome}
use Rattle.shadow_check.specs.NoText.{NoTextOutcome, no_text_rules}
use Rattle.shadow_check.specs.declared.join.JoinEnd.{JoinEnd}
use Rattle.shadow_check.specs.declared.join.JoinEnd.TheVariants.{Passwords, Texts}
use Rattle.shadow_check.proofs.TwoFiles.{both, first_alone}

-- ---- a table that ended early, or that has what the file says

module _ (rows : UserPasswords) (status max : ℕ) where
  loaded_early : 1 < status → (held taken added : List ℕ) → Loaded rows status max held taken added
      → (added ≡ []) × Unfinished is_given status max held
  loaded_early high held taken added o = (o.nothing, o.early high)

  loaded_rows : status ≤ 1 → (held taken added : List ℕ) → Loaded rows status max held taken added
      → (added ≡ []) × (length held ≤ max) × (password_in rows ≡ password_of (lines held))
  loaded_rows low held taken added o = (o.nothing, (o.done low).0, λ i user. ((o.done low).2 user) i)

  loaded_users : status ≤ 1 → (held taken added : List ℕ) → Loaded rows status max held taken added
      → (added ≡ []) × (length held ≤ max) × (is_in rows ≡ has_line (lines held))
  loaded_users low held taken added o = (o.nothing, (o.done low).0, λ i user. is_some (((o.done low).2 user) i))

  module _ (is_wanted : List ℕ → Bool) where
    wanted_early : 1 < status → (held taken added : List ℕ) → LoadedWanted is_wanted rows status max held taken added
        → (added ≡ []) × Unfinished (is_wanted_line is_wanted) status max held
    wanted_early high held taken added o = (o.nothing, o.early high)

    wanted_rows : status ≤ 1 → (held taken added : List ℕ) → LoadedWanted is_wanted rows status max held taken added
        → (added ≡ []) × (length held ≤ max) × (password_in rows ≡ wanted_password is_wanted (lines held))
    wanted_rows low held taken added o = (o.nothing, (o.done low).0, λ i user. ((o.done low).2 user) i)

-- ---- the runs

module _ (owed : (List ℕ → Option (List ℕ)) → LineRules) (rows : UserPasswords) (status max : ℕ) where
  -- the passwords weren't read to their end
  pub passwords_end : 1 < status → (left left_now t w w_mid : Option (List ℕ))
      → WhereTold left left_now w w_mid (λ held taken added. Loaded rows status max held taken added)
      → IfSome left (λ given. WhereTold t t w w_mid
      (λ held taken added. JoinOutcome owed (Passwords status) max given held taken added))
  passwords_end high =
      first_alone (λ given. Unfinished is_given status max given) (Loaded rows status max) (loaded_early rows status max high)

  -- they were, and the texts followed
  pub texts_end : (status2 : ℕ) → status ≤ 1 → (left left_now t t_now w w_mid w_now : Option (List ℕ))
      → WhereTold left left_now w w_mid (λ held taken added. Loaded rows status max held taken added)
      → WhereTold t t_now w_mid w_now
      (λ held taken added. Outcome (owed (password_in rows)) status2 max held taken added)
      → IfSome left (λ given. WhereTold t t_now w w_now
      (λ held taken added. JoinOutcome owed (Texts status2) max given held taken added))
  texts_end status2 low =
      both (λ (find : List ℕ → Option (List ℕ)). Outcome (owed find) status2 max) (password_in rows)
      (λ given. password_of (lines given)) max (Loaded rows status max) (loaded_rows rows status max low)

  -- the same of the passwords that are wanted
  module _ (is_wanted : List ℕ → Bool) where
    pub wanted_end : 1 < status → (left left_now t w w_mid : Option (List ℕ))
        → WhereTold left left_now w w_mid (λ held taken added. LoadedWanted is_wanted rows status max held taken added)
        → IfSome left (λ given. WhereTold t t w w_mid
        (λ held taken added. WantedOutcome owed is_wanted (Passwords status) max given held taken added))
    wanted_end high =
        first_alone (λ given. Unfinished (is_wanted_line is_wanted) status max given) (LoadedWanted is_wanted rows status max)
        (wanted_early rows status max is_wanted high)

    pub wanted_texts_end : (status2 : ℕ) → status ≤ 1 → (left left_now t t_now w w_mid w_now : Option (List ℕ))
        → WhereTold left left_now w w_mid (λ held taken added. LoadedWanted is_wanted rows status max held taken added)
        → WhereTold t t_now w_mid w_now
        (λ held taken added. Outcome (owed (password_in rows)) status2 max held taken added)
        → IfSome left (λ given. WhereTold t t_now w w_now
        (λ held taken added. WantedOutcome owed is_wanted (Texts status2) max given held taken added))
    wanted_texts_end status2 low =
        both (λ (find : List ℕ → Option (List ℕ)). Outcome (owed find) status2 max) (password_in rows)
        (λ given. wanted_password is_wanted (lines given)) max (LoadedWanted is_wanted rows status max)
        (wanted_rows rows status max is_wanted low)

  -- the users weren't read to their end
  pub users_end : 1 < status → (left left_now p t w w_mid : Option (List ℕ))
      → WhereTold left left_now w w_mid (λ held taken added. Loaded rows status max held taken added)
      → IfSome left (λ first. IfSome p (λ given. WhereTold t t w w_mid
      (λ held taken added. FewerOutcome owed (Err status) max first given held taken added)))
  users_end high left left_now None t w w_mid o = search rules
  users_end high left left_now (Some given) t w w_mid o =
      first_alone (λ first. Unfinished is_given status max first) (Loaded rows status max) (loaded_early rows status max high)
      left left_now t w w_mid o

  -- they were, and the others followed
  pub fewer_end : (end : JoinEnd) → status ≤ 1 → (left left_now p t t_now w w_mid w_now : Option (List ℕ))
      → WhereTold left left_now w w_mid (λ held taken added. Loaded rows status max held taken added)
      → IfSome p (λ given. WhereTold t t_now w_mid w_now
      (λ held taken added. WantedOutcome owed (is_in rows) end max given held taken added))
      → IfSome left (λ first. IfSome p (λ given. WhereTold t t_now w w_now
      (λ held taken added. FewerOutcome owed (Ok end) max first given held taken added)))
  fewer_end end low left left_now None t t_now w w_mid w_now o q = search rules
  fewer_end end low left left_now (Some given) t t_now w w_mid w_now o q =
      both (λ (wanted : List ℕ → Bool). WantedOutcome owed wanted end max given) (is_in rows)
      (λ first. has_line (lines first)) max (Loaded rows status max) (loaded_users rows status max low) left left_now t t_now w
      w_mid w_now o q

-- ---- users without a text

module _ (rows : UserPasswords) (status max : ℕ) where
  -- the texts weren't read to their end
  pub no_texts_end : 1 < status → (left left_now t w w_mid : Option (List ℕ))
      → WhereTold left left_now w w_mid (λ held taken added. Loaded rows status max held taken added)
      → IfSome left (λ given. WhereTold t t w w_mid
      (λ held taken added. NoTextOutcome (Texts status) max given held taken added))
  no_texts_end high =
      first_alone (λ given. Unfinished is_given status max given) (Loaded rows status max) (loaded_early rows status max high)

  -- they were, and the passwords followed
  pub told_end : (status2 : ℕ) → status ≤ 1 → (left left_now t t_now w w_mid w_now : Option (List ℕ))
      → WhereTold left left_now w w_mid (λ held taken added. Loaded rows status max held taken added)
      → WhereTold t t_now w_mid w_now (λ held taken added. Outcome (no_text_rules (is_in rows)) status2 max held taken added)
      → IfSome left (λ given. WhereTold t t_now w w_now
      (λ held taken added. NoTextOutcome (Passwords status2) max given held taken added))
  told_end status2 low =
      both (λ (has_text : List ℕ → Bool). Outcome (no_text_rules has_text) status2 max) (is_in rows)
      (λ given. has_line (lines given)) max (Loaded rows status max) (loaded_users rows status max low)
