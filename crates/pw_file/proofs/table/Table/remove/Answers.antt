use Rattle.std.proofs.Common.{rules, ◌≡◌, ◌≤◌, ℕ, ◌+◌, Bool, true, false, sym, ap, ◌∙◌, arith, Option, None, Some, Ok, Err, refl}
use Rattle.std.specs.Prelude.{String, string_bytes, is_none, is_some, if◌then◌else◌}
use Rattle.std.specs.Option.{option_map}
use Rattle.pw_file.specs.Answers.{remove_answer}
use Rattle.pw_file.specs.Calls.{without}
use Rattle.pw_file.specs.History.{Rows, text_in}
use Rattle.pw_file.specs.Policy.{TextPolicy}
use Rattle.pw_file.specs.Table.{rows_of}
use Rattle.pw_file.specs.declared.error.FileError.TheVariants.{NoUser}
use Rattle.pw_file.proofs.Calls.{remove_content}
use Rattle.pw_file.proofs.Content.{other_false}
use Rattle.pw_file.proofs.Entries.{rows_left, rows_text, short_left}
use Rattle.pw_file.proofs.table.Table.remove.Goals as goal

away_few : (n m k : ℕ) (t : Bool) → n + (if t then 1 else 0) ≡ m → m ≤ k → n ≤ k
away_few n m k true is le = omega (arith, is, le)
away_few n m k false is le = omega (arith, is, le)

was_away : {A T V : Type 0} (p : TextPolicy T V) (text : Option (String A)) → is_none text ≡ true
    → remove_answer p (option_map string_bytes text) ≡ Err NoUser
was_away p None none = refl
was_away p (Some text) never = absurd (cc never)

was_there : {A T V : Type 0} (p : TextPolicy T V) (text : Option (String A)) → is_none text ≡ false
    → remove_answer p (option_map string_bytes text) ≡ Ok tt
was_there p None never = absurd (cc never)
was_there p (Some text) some = refl

pub invariant_of-self : goal.invariant_of-self
invariant_of-self g c = (
  away_few _ _ _ (is_some c.swap_remove-removed.result) c.swap_remove-removed.ensures.len c.self.invariant.0,
  rw c.swap_remove-removed.ensures.entries (short_left c.self.inside.texts.entries c.args.user.now c.self.invariant.1),
)

pub invariant_of-self-2 : goal.invariant_of-self-2
invariant_of-self-2 g c = (
  away_few _ _ _ (is_some c.swap_remove-removed.result) c.swap_remove-removed.ensures.len c.self.invariant.0,
  rw c.swap_remove-removed.ensures.entries (short_left c.self.inside.texts.entries c.args.user.now c.self.invariant.1),
)

pub returns-then-is_none-clause-answer : goal.returns-then-is_none-clause-answer
returns-then-is_none-clause-answer g c =
    let entries = c.self.inside.texts.entries in
    let user = c.args.user.now in
    sym (ap (remove_answer g.P.Policy.policy)
    (sym (ap (λ (rows : Rows). text_in rows user) c.self.view_is) ∙ rows_text entries user
    ∙ ap (option_map string_bytes) (sym c.swap_remove-removed.ensures.value))
    ∙ was_away g.P.Policy.policy c.swap_remove-removed.result (search rules))

pub returns-then-is_none-clause-rows : goal.returns-then-is_none-clause-rows
returns-then-is_none-clause-rows g c = search rules

pub returns-then-is_none-clause-content : goal.returns-then-is_none-clause-content
returns-then-is_none-clause-content g c = λ takes h held.
    rw (returns-then-is_none-clause-rows g c)
    (remove_content g.P.Policy.policy g.met.P.Policy.lawful h c.args.self.now c.args.user.now held (Err NoUser) takes (λ is. absurd (cc is)))

pub returns-clause-answer : goal.returns-clause-answer
returns-clause-answer g c =
    let entries = c.self.inside.texts.entries in
    let user = c.args.user.now in
    sym (ap (remove_answer g.P.Policy.policy)
    (sym (ap (λ (rows : Rows). text_in rows user) c.self.view_is) ∙ rows_text entries user
    ∙ ap (option_map string_bytes) (sym c.swap_remove-removed.ensures.value))
    ∙ was_there g.P.Policy.policy c.swap_remove-removed.result (search rules))

pub returns-clause-rows : goal.returns-clause-rows
returns-clause-rows g c =
    ap rows_of c.swap_remove-removed.ensures.entries ∙ rows_left c.self.inside.texts.entries c.args.user.now
    ∙ ap (λ (rows : Rows). without rows c.args.user.now) c.self.view_is

pub returns-clause-others : goal.returns-clause-others
returns-clause-others g c = λ other apart.
    let entries = c.self.inside.texts.entries in
    let user = c.args.user.now in
    rows_text c.swap_remove-removed.new.self.entries other
    ∙ ap (option_map string_bytes) (c.swap_remove-removed.ensures.updates.2 other (other_false user other (λ e. apart (sym e))))
    ∙ sym (rows_text entries other) ∙ ap (λ (rows : Rows). text_in rows other) c.self.view_is

pub returns-clause-content : goal.returns-clause-content
returns-clause-content g c = λ takes h held.
    let name = rw c.as_str-name.ensures.text at c.as_str-name.ensures.name in
    rw (returns-clause-rows g c)
    (remove_content g.P.Policy.policy g.met.P.Policy.lawful h c.args.self.now c.args.user.now held (Ok tt) takes (λ is. name))
