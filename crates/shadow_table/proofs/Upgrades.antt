-- What an upgrade that says `upgraded` leaves.
use Rattle.std.proofs.Common.{◌≡◌, ◌⊎◌, inl, inr, ℕ, zero, suc, ◌≤◌, Bool, true, false, List, length, refl, sym, ap, arith, subst}
use Rattle.std.specs.Prelude.{◌&&◌, ◌||◌, IfOk, is_ok, is_some, nat_le, nat_lt, not, Option, Some, None, Result, Ok, Err, if◌then◌else◌}
use Rattle.std.proofs.lemmas.Bool.{and_parts, or_parts, false≢true}
use Rattle.std.proofs.lemmas.Bool.Decides.{nat_tests}
use Rattle.phc.specs.declared.error.Error as phc_error
use Rattle.std.specs.Str.{IsUtf8}
use Rattle.pieces.specs.Faults.{unless}
use Rattle.scheme_list.specs.Schemes.{row_of}
use Rattle.any_make.specs.Made.{made}
use Rattle.any_check.specs.Cost.{is_costly, verdict_within}
use Rattle.any_check.specs.Given.{given_verdict}
use Rattle.any_check.specs.Kinds.{is_valid, text_kind}
use Rattle.any_check.specs.Records.{accepted, tag}
use Rattle.any_check.specs.declared.error.AnyError.{AnyError}
use Rattle.any_check.specs.declared.kinds.TextKind.{TextKind}
use Rattle.any_check.specs.declared.kinds.TextKind.TheVariants.{NoScheme, Invalid, Valid}
use Rattle.any_check.specs.declared.numbers.TextCosts.{TextCosts}
use Rattle.any_check.specs.Laws.{ValidIsVerdictOnSome}
use Rattle.pw_file.specs.Answers.{checked, judged, renewal, upgrade_answer, with_salt}
use Rattle.pw_file.specs.declared.error.FileError.{FileError}
use Rattle.pw_file.specs.declared.error.FileError.TheVariants as refused
use Rattle.shadow_table.specs.AnyLaws.{any_lawful, made_parts, put_parts, text_utf8}
use Rattle.shadow_table.specs.AnyTexts.{any_texts}
use Rattle.shadow_table.specs.Fields.{is_locked_text}
use Rattle.shadow_table.specs.Plain.{plain_rules}
use Rattle.shadow_table.specs.Laws.{CostlyByVerdict, IsNoWeaker, NeverWeakens}
use Rattle.shadow_table.specs.Rules.{bytes_of_salt, fault_of_salt, fresh_text, is_put, is_too_costly, keeps}
use Rattle.shadow_table.specs.Strength.{costs_memory, costs_work, has_less, is_fewer, is_weaker, keeps_kind}
use Rattle.shadow_table.specs.declared.fault.FieldFault.{FieldFault}
use Rattle.shadow_table.specs.declared.fault.FieldFault.TheVariants.{Byte}
use Rattle.shadow_table.specs.declared.rules.TableRules.{TableRules}

-- ---- numbers

no_fewer : (new old : ℕ) → is_fewer new old ≡ false → (new ≡ 0) ⊎ (old ≤ new)
no_fewer zero old h = inl refl
no_fewer (suc n) old h = inr (grind (arith, nat_tests, h))

-- what counts only where something isn't weak
unless_weak : (weak t : Bool) → not weak && t ≡ false → weak ≡ false → t ≡ false
unless_weak false t h is = h
unless_weak true t h is = absurd (false≢true (sym is))

no_weaker : (new old : TextCosts) → is_weaker new old ≡ false → IsNoWeaker old new
no_weaker new old h =
    let memory = nat_lt (costs_memory new) (costs_memory old) in
    let work = nat_lt (costs_work new) (costs_work old) in
    let a = or_parts (memory || work) (has_less new old) h in
    let b = or_parts memory work a.0 in
    let rounds = is_fewer new.costs.rounds old.costs.rounds in
    let cost = is_fewer new.costs.cost old.costs.cost in
    let less = unless_weak (row_of old.scheme).is_weak (rounds || cost) a.1 in
    let first = b.0 in
    let second = b.1 in
    record {
      memory = grind (arith, nat_tests, first);
      work = grind (arith, nat_tests, second);
      rounds = λ strong. no_fewer new.costs.rounds old.costs.rounds (or_parts rounds cost (less strong)).0;
      cost = λ strong. no_fewer new.costs.cost old.costs.cost (or_parts rounds cost (less strong)).1;
    }

-- ---- texts with a verdict

valid_kind : (kind : TextKind) → is_valid kind ≡ true → (costs : TextCosts) × (kind ≡ Valid costs)
valid_kind NoScheme h = absurd (false≢true h)
valid_kind Invalid h = absurd (false≢true h)
valid_kind (Valid costs) h = (costs, refl)

verdict_kind : ValidIsVerdictOnSome → (password text : List ℕ) (b : Bool) → given_verdict None password text ≡ Ok b → (costs : TextCosts) × (text_kind accepted text ≡ Valid costs)
verdict_kind valid password text b is =
    let ok : is_ok (given_verdict None password text) ≡ true = ap is_ok is in
    valid_kind (text_kind accepted text)
    ((valid accepted tag text).1 (password, any_lawful_short password text ok, ok))
  where
    any_lawful_short : (password text : List ℕ) → is_ok (given_verdict None password text) ≡ true → length password ≤ 4096
    any_lawful_short password text ok = (any_lawful plain_rules).judged_short password text ok

-- ---- the answer

abbrev Answer : Type 0
Answer = Result Bool (FileError FieldFault AnyError)

renewal_ok : (stays : Bool) (a : Answer) → renewal stays a ≡ Ok true → (stays ≡ false) × (a ≡ Ok true)
renewal_ok true (Ok true) h = absurd (cc h)
renewal_ok false (Ok true) h = (refl, refl)
renewal_ok stays (Ok false) h = absurd (cc h)
renewal_ok stays (Err e) h = absurd (cc h)

checked_ok : (r : Result Bool AnyError) → checked {T = FieldFault} r ≡ Ok true → r ≡ Ok true
checked_ok (Ok true) h = refl
checked_ok (Ok false) h = absurd (cc h)
checked_ok (Err e) h = absurd (cc h)

judged_ok : (costly : Bool) (r : Result Bool AnyError) → (if costly then Err refused.TooCostly else checked {T = FieldFault} r) ≡ Ok true → r ≡ Ok true
judged_ok true r h = absurd (cc h)
judged_ok false r h = checked_ok r h

-- by whether the old text is locked, by the fault of the salt, and by the verdict
module _ (r : TableRules) (old password salt : List ℕ) where
  -- an upgrade that says `upgraded`
  record IsMatched : Type 0 where
    pub good : fault_of_salt r salt ≡ None
    pub leaves : keeps r password salt old ≡ false
    pub verdict : given_verdict None password old ≡ Ok true

  by_salt : (fault : Option phc_error.Error) → fault_of_salt r salt ≡ fault
      → with_salt fault (renewal (keeps r password salt old) (judged (any_texts r) password old)) ≡ Ok true → IsMatched
  by_salt (Some e) at h = absurd (cc h)
  by_salt None at h =
      let parts = renewal_ok (keeps r password salt old) (judged (any_texts r) password old) h in
      record {
        good = at;
        leaves = parts.0;
        verdict = judged_ok (is_too_costly r.limits password old) (given_verdict None password old) parts.1;
      }

  by_lock : (locked : Bool) → is_locked_text old ≡ locked → upgrade_answer (any_texts r) (Some old) password salt ≡ Ok true → IsMatched
  by_lock true at h = absurd (cc (rw at at h))
  by_lock false at h = by_salt (fault_of_salt r salt) refl (rw at at h)

pub never_weakens : ValidIsVerdictOnSome → NeverWeakens
never_weakens valid r old password salt h =
    let m = by_lock r old password salt (is_locked_text old) refl h in
    let law = any_lawful r in
    let good = law.salt_taken salt m.good in
    let made = made_parts r password salt old good m.leaves in
    let before = verdict_kind valid password old true m.verdict in
    let after = verdict_kind valid password (fresh_text r password salt) true made.matches in
    let stronger : is_weaker after.0 before.0 ≡ false = rw (after.1, before.1) at made.put.no_weaker in
    let fresh = law.fresh password salt old m.good m.leaves in
    record {
      matched = m.verdict;
      old_costs = before.0;
      fresh_costs = after.0;
      old_is = before.1;
      fresh_is = after.1;
      no_weaker = no_weaker after.0 before.0 stronger;
      matches = rw (fresh.unlocked, fresh.affordable, made.matches) refl;
    }

-- ---- a bound on cost

pub costly_by_verdict : CostlyByVerdict
unfolding verdict_within
costly_by_verdict None password text h = absurd (false≢true h)
costly_by_verdict (Some limits) password text h =
    let parts = and_parts (nat_le (length password) 4096) (is_costly accepted limits text) h in
    let short = parts.0 in
    let fits : nat_lt 4096 (length password) ≡ false = grind (arith, nat_tests, short) in
    rw (fits, parts.1) refl

-- ---- texts that are put

not_not : (t : Bool) → not (not t) ≡ t
not_not true = refl
not_not false = refl

-- bytes that are no text aren't put
pub not_put : (r : TableRules) (password old fresh : List ℕ) → (IsUtf8 fresh → ⊥) → false ≡ is_put r password old fresh
not_put r password old fresh never = by_test (is_put r password old fresh) refl
  where
    by_test : (t : Bool) → is_put r password old fresh ≡ t → false ≡ t
    by_test false at = refl
    by_test true at = absurd (never (text_utf8 fresh (ap (λ (t : Bool). unless t Byte) (put_parts r password old fresh at).is_text)))

-- where a text was made, the old one stays exactly where that isn't put
pub put_stays : {A E : Type 0} (r : TableRules) (password salt old fresh : List ℕ) (answer : Result (Option A) E)
    → keeps_kind r.upgrade_to (text_kind accepted old) ≡ false → made r.upgrade_to password (bytes_of_salt salt) ≡ Ok fresh
    → IfOk answer (λ new. is_some new ≡ is_put r password old fresh) → IfOk answer (λ new. is_some new ≡ not (keeps r password salt old))
put_stays r password salt old fresh answer other at h =
    let same : not (keeps r password salt old) ≡ is_put r password old fresh = rw (other, at) (not_not (is_put r password old fresh)) in
    subst (λ (b : Bool). IfOk answer (λ new. is_some new ≡ b)) (sym same) h
