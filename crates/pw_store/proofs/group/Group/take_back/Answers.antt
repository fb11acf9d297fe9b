use Rattle.std.proofs.Common.{rules, ◌≡◌, ◌++◌, ◌∷◌, [], ℕ, List, sym, subst, Option}
use Rattle.pw_file.specs.History.{Rows}
use Rattle.pw_store.specs.Staged.{Undoes, undo_of}
use Rattle.pw_store.proofs.Grouped.{undo_last}
use Rattle.pw_store.proofs.group.Group.take_back.Goals as goal

pub loop-replaced-init : goal.loop-replaced-init
loop-replaced-init g c = record { none = c.clear.ensures.items; back = λ rows held. held }

pub loop-replaced-preserved : goal.loop-replaced-preserved
loop-replaced-preserved g c = record {
  none = c.loop-replaced.invariant.none;
  back = λ rows held.
      let more : undo_of c.loop-replaced.self ≡ c.pop.new.self.items ++ c.in-Some.replaced ∷ [] = rw c.in-Some.is at c.pop.ensures.items in
      let u = undo_last rows c.pop.new.self.items c.in-Some.replaced c.loop-replaced.table
      (subst (λ (us : List (List ℕ × Option (List ℕ))). Undoes rows us c.loop-replaced.table) more (c.loop-replaced.invariant.back rows held)) in
      subst (λ (t : Rows). Undoes rows c.pop.new.self.items t) (sym (c.put_back.ensures.back u.mid u.new u.is u.was)) u.undoes;
}

pub returns-clause-back : goal.returns-clause-back
returns-clause-back g c = λ rows held.
    let none : undo_of c.loop-replaced.self ≡ [] = search rules in
    subst (λ (us : List (List ℕ × Option (List ℕ))). Undoes rows us c.loop-replaced.table) none (c.loop-replaced.invariant.back rows held)

pub returns-clause-lines : goal.returns-clause-lines
returns-clause-lines g c = c.loop-replaced.invariant.none
