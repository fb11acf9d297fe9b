-- What a run of the loading says of the table.
use Rattle.std.proofs.Common.{◌≡◌, ℕ, ◌<◌, Bool, true, false, List, [], ◌∷◌, length, refl, ap, ◌∙◌, arith, rules}
use Rattle.std.specs.Prelude.{fold, nat_lt, if◌then◌else◌, ◌&&◌, ◌||◌, Some, slice_get, zero, suc}
use Rattle.std.specs.List.{list_all, list_any}
use Rattle.line_io.specs.Lines.{lines}
use Rattle.line_io.specs.Runs.{IsPrefix}
use Rattle.line_program.specs.Outcome.{Outcome}
use Rattle.line_program.specs.Rules.{LineRules, after_lines, all_good, from_state, replies}
use Rattle.line_program.specs.Outcome.{StateOutcome}
use Rattle.shadow_fields.specs.Fields.{has_user}
use Rattle.shadow_fields.specs.LoadRules.{loading_rules, rows_behind}
use Rattle.shadow_fields.specs.Loads.{Loaded, Unfinished}
use Rattle.shadow_fields.specs.Passwords.{UserPasswords, is_given, password_in, password_of}
use Rattle.shadow_fields.specs.declared.load.Loading.{Loading}
use Rattle.shadow_fields.proofs.Tables.{lines_behind}

-- ---- a line by its user

pub given_user : (line : List ℕ) → nat_lt 8192 (length line) ≡ false → is_given line ≡ has_user line
given_user line short = rw short refl

pub given_long : (line : List ℕ) → nat_lt 8192 (length line) ≡ true → is_given line ≡ false
given_long line long = rw long refl

pub rows_given : (rows : UserPasswords) (line : List ℕ) → is_given line ≡ false → rows_behind rows line ≡ rows
rows_given rows line other = rw other refl

-- ---- a reading that wasn't finished

-- one of the lines at a place is one of all
any_there : (takes : List ℕ → Bool) (ls : List (List ℕ)) (k : ℕ) (line : List ℕ) → slice_get ls k ≡ Some line
    → takes line ≡ true → list_any takes ls ≡ true
any_there takes [] k line here is = absurd (cc)
any_there takes (l ∷ ls) zero line here is =
    let same : l ≡ line = search rules in
    rw (same, is) refl
any_there takes (l ∷ ls) (suc k) line here is = later (takes l) (any_there takes ls k line here is) where
  later : (t : Bool) → list_any takes ls ≡ true → (t || list_any takes ls) ≡ true
  later true h = refl
  later false h = h

-- by the table of outcomes, where memory is asked for at such lines alone
pub unfinished : (r : LineRules) (takes : List ℕ → Bool)
    → ((before : List (List ℕ)) (line : List ℕ) → r.may_lack_memory before line ≡ true → takes line ≡ true)
    → (status max : ℕ) (held taken added : List ℕ) → Outcome r status max held taken added → 1 < status
    → Unfinished takes status max held
unfinished r takes only status max held taken added o high = record {
  unfinished = high;
  budget = λ h. (o.budget h).0;
  out_of_memory = λ h.
      let at = o.want_of_memory h in
      any_there takes (lines held) at.0 at.1 at.3 (only _ at.1 at.4);
}

-- ---- the run

nothing_put : (s : Loading) (ls : List (List ℕ)) → replies loading_rules s ls ≡ []
nothing_put s [] = refl
nothing_put s (l ∷ ls) = nothing_put (loading_rules.after s l) ls

good_each : (s : Loading) (ls : List (List ℕ)) → all_good loading_rules s ls ≡ list_all is_given ls
good_each s [] = refl
good_each s (l ∷ ls) = ap (λ b. is_given l && b) (good_each (loading_rules.after s l) ls)

rows_after : (s : Loading) (ls : List (List ℕ))
    → (after_lines loading_rules s ls).passwords ≡ fold rows_behind s.passwords ls
rows_after s [] = refl
rows_after s (l ∷ ls) = rows_after (loading_rules.after s l) ls

pub none_before : (part : List ℕ) → IsPrefix part [] → part ≡ []
none_before [] p = refl
none_before (b ∷ part) p = absurd (let e = ap length p.1 in omega arith)

pub loaded : (s s_now : Loading) → s.passwords ≡ [] → (status max : ℕ) (held taken added : List ℕ)
    → StateOutcome loading_rules s s_now status max held taken added
    → Loaded s_now.passwords status max held taken added
unfolding password_of
loaded s s_now empty status max held taken added o = record {
  done = λ low. (
    (o.0.done low).0,
    (o.0.done low).1,
    λ user. ap (λ (t : Loading). password_in t.passwords user) (o.1 low)
        ∙ ap (λ (rows : UserPasswords). password_in rows user) (rows_after s (lines held))
        ∙ lines_behind (lines held) s.passwords user
        ∙ rw empty refl,
  );
  verdict = λ low. o.0.verdict low ∙ ap (λ (b : Bool). if b then 0 else 1) (good_each s (lines held));
  early = unfinished (from_state loading_rules s) is_given (λ before line asks. asks) status max held taken added o.0;
  nothing = none_before added (rw (nothing_put s (lines held)) at o.0.beginning);
}
