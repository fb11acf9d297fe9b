-- What a run of the loading of wanted users says of the table.
use Rattle.std.proofs.Common.{◌≡◌, ℕ, Bool, true, false, List, [], ◌∷◌, refl, sym, ap, ◌∙◌, arith, Option, rules}
use Rattle.std.specs.Prelude.{fold, Some, None, if◌then◌else◌, ◌&&◌, is_some, slice_get, zero, suc}
use Rattle.std.proofs.lemmas.Bool.Decides.{nat_tests}
use Rattle.std.specs.List.{list_all}
use Rattle.line_io.specs.Lines.{lines}
use Rattle.line_program.specs.Rules.{after_lines, all_good, from_state, replies}
use Rattle.line_program.specs.Outcome.{StateOutcome}
use Rattle.shadow_fields.specs.Fields.{rest_of, user_of}
use Rattle.shadow_fields.specs.Passwords.{UserPasswords, is_given, is_same, password_behind, password_in, password_of, with_password}
use Rattle.shadow_fields.specs.Wanted.{LoadedWanted, has_line, is_in, is_wanted_line, wanted_behind}
use Rattle.shadow_fields.specs.WantedRules.{loading_wanted_rules}
use Rattle.shadow_fields.specs.declared.wanted.LoadingWanted.{LoadingWanted}
use Rattle.shadow_fields.proofs.Loaded.{none_before, unfinished}
use Rattle.shadow_fields.proofs.Tables.{password_inserted, same_true}

-- ---- behind a line

module _ (is_wanted : List ℕ → Bool) where
  -- a user is wanted as the user of the line is, where it is that user
  same_wanted : (q user : List ℕ) (t : Bool) → is_same q user ≡ t → t ≡ true → is_wanted q ≡ is_wanted user
  same_wanted q user t here is = ap is_wanted (same_true q user (here ∙ is))

  wanted_cases : (given wanted : Bool) (same : Bool) (wants : Bool) (rows : UserPasswords) (line q : List ℕ)
      → is_same q (user_of line) ≡ same → (same ≡ true → wants ≡ wanted)
      → password_in (if given && wanted then with_password rows (user_of line) (rest_of line) else rows) q
      ≡ (if wants then (if given && same then Some (rest_of line) else password_in rows q) else password_in rows q)
  wanted_cases false wanted same true rows line q here tie = refl
  wanted_cases false wanted same false rows line q here tie = refl
  wanted_cases true false true true rows line q here tie = absurd (let e = tie refl in cc)
  wanted_cases true false true false rows line q here tie = refl
  wanted_cases true false false true rows line q here tie = refl
  wanted_cases true false false false rows line q here tie = refl
  wanted_cases true true true true rows line q here tie =
      password_inserted rows (user_of line) (rest_of line) q ∙ rw here refl
  wanted_cases true true true false rows line q here tie = absurd (let e = tie refl in cc)
  wanted_cases true true false true rows line q here tie =
      password_inserted rows (user_of line) (rest_of line) q ∙ rw here refl
  wanted_cases true true false false rows line q here tie =
      password_inserted rows (user_of line) (rest_of line) q ∙ rw here refl

  line_behind : (rows : UserPasswords) (line q : List ℕ)
      → password_in (wanted_behind is_wanted rows line) q
      ≡ (if is_wanted q then password_behind q (password_in rows q) line else password_in rows q)
  line_behind rows line q =
      wanted_cases (is_given line) (is_wanted (user_of line)) (is_same q (user_of line)) (is_wanted q) rows line q refl
      (same_wanted q (user_of line) (is_same q (user_of line)) refl)

  folded_cases : (wants : Bool) (q : List ℕ) (rows more : UserPasswords) (line : List ℕ) (ls : List (List ℕ))
      → password_in more q ≡ (if wants then password_behind q (password_in rows q) line else password_in rows q)
      → (if wants then fold (password_behind q) (password_in more q) ls else password_in more q)
      ≡ (if wants then fold (password_behind q) (password_behind q (password_in rows q) line) ls else password_in rows q)
  folded_cases true q rows more line ls h = ap (λ (last : Option (List ℕ)). fold (password_behind q) last ls) h
  folded_cases false q rows more line ls h = h

  pub wanted_lines : (ls : List (List ℕ)) (rows : UserPasswords) (q : List ℕ)
      → password_in (fold (wanted_behind is_wanted) rows ls) q
      ≡ (if is_wanted q then fold (password_behind q) (password_in rows q) ls else password_in rows q)
  wanted_lines [] rows q = if_same (is_wanted q) (password_in rows q) where
    if_same : (t : Bool) (x : Option (List ℕ)) → x ≡ (if t then x else x)
    if_same true x = refl
    if_same false x = refl
  wanted_lines (line ∷ ls) rows q =
      wanted_lines ls (wanted_behind is_wanted rows line) q
      ∙ folded_cases (is_wanted q) q rows (wanted_behind is_wanted rows line) line ls (line_behind rows line q)

-- ---- a user who has a line

same_self : (x : List ℕ) → is_same x x ≡ true
same_self [] = refl
same_self (a ∷ x) = rw (same_self x) (grind (arith, nat_tests))

still_some : (q : List ℕ) (t : Bool) (last : Option (List ℕ)) (line : List ℕ) → is_some last ≡ true
    → is_some (if t then Some (rest_of line) else last) ≡ true
still_some q true last line h = refl
still_some q false last line h = h

stays : (q : List ℕ) (ls : List (List ℕ)) (last : Option (List ℕ)) → is_some last ≡ true
    → is_some (fold (password_behind q) last ls) ≡ true
stays q [] last h = h
stays q (line ∷ ls) last h =
    stays q ls (password_behind q last line) (still_some q (is_given line && is_same q (user_of line)) last line h)

given_at : (ls : List (List ℕ)) (last : Option (List ℕ)) (i : ℕ) (line : List ℕ) → slice_get ls i ≡ Some line
    → is_given line ≡ true → is_some (fold (password_behind (user_of line)) last ls) ≡ true
given_at [] last i line here given = absurd (cc)
given_at (l ∷ ls) last zero line here given =
    let same : l ≡ line = search rules in
    stays (user_of line) ls (password_behind (user_of line) last l)
    (rw (same, given, same_self (user_of line)) refl)
given_at (l ∷ ls) last (suc i) line here given = given_at ls (password_behind (user_of line) last l) i line here given

pub has_line_of : (ls : List (List ℕ)) (i : ℕ) (line : List ℕ) → slice_get ls i ≡ Some line → is_given line ≡ true
    → has_line ls (user_of line) ≡ true
unfolding password_of
has_line_of ls i line here given = given_at ls None i line here given

-- ---- the run

nothing_put : (s : LoadingWanted) (ls : List (List ℕ)) → replies loading_wanted_rules s ls ≡ []
nothing_put s [] = refl
nothing_put s (l ∷ ls) = nothing_put (loading_wanted_rules.after s l) ls

good_each : (s : LoadingWanted) (ls : List (List ℕ)) → all_good loading_wanted_rules s ls ≡ list_all is_given ls
good_each s [] = refl
good_each s (l ∷ ls) = ap (λ b. is_given l && b) (good_each (loading_wanted_rules.after s l) ls)

rows_after : (s : LoadingWanted) (ls : List (List ℕ))
    → (after_lines loading_wanted_rules s ls).passwords ≡ fold (wanted_behind (is_in s.users)) s.passwords ls
rows_after s [] = refl
rows_after s (l ∷ ls) = rows_after (loading_wanted_rules.after s l) ls

users_stay : (s : LoadingWanted) (ls : List (List ℕ)) → (after_lines loading_wanted_rules s ls).users ≡ s.users
users_stay s [] = refl
users_stay s (l ∷ ls) = users_stay (loading_wanted_rules.after s l) ls

pub loaded_wanted : (s s_now : LoadingWanted) → s.passwords ≡ [] → (status max : ℕ) (held taken added : List ℕ)
    → StateOutcome loading_wanted_rules s s_now status max held taken added
    → LoadedWanted (is_in s.users) s_now.passwords status max held taken added
unfolding password_of
loaded_wanted s s_now empty status max held taken added o = record {
  done = λ low. (
    (o.0.done low).0,
    (o.0.done low).1,
    λ user. ap (λ (t : LoadingWanted). password_in t.passwords user) (o.1 low)
        ∙ ap (λ (rows : UserPasswords). password_in rows user) (rows_after s (lines held))
        ∙ wanted_lines (is_in s.users) (lines held) s.passwords user
        ∙ rw empty refl,
  );
  verdict = λ low. o.0.verdict low ∙ ap (λ (b : Bool). if b then 0 else 1) (good_each s (lines held));
  early = unfinished (from_state loading_wanted_rules s) (is_wanted_line (is_in s.users))
      (λ before line asks. rw (sym (users_stay s before)) (asks)) status max held taken added o.0;
  nothing = none_before added (rw (nothing_put s (lines held)) at o.0.beginning);
}
