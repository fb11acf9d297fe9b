use Rattle.std.proofs.Common.{◌⊎◌, inl, inr, ⊎_elim, ℕ, List, [], refl}
use Rattle.line_log.specs.Log.{Stands}
use Rattle.line_log.proofs.Moments.{weaker}
use Rattle.pw_store.specs.Store.{StandsFor}
use Rattle.pw_store.proofs.Grouped.{rows_of_lines, stands_as}
use Rattle.pw_store.proofs.recovery.create.Goals as goal

pub returns-in-Ok-clause-same : goal.returns-in-Ok-clause-same
returns-in-Ok-clause-same g c = rows_of_lines g.P.Policy.policy _ [] [] c.in-Ok.ensures.lines refl

pub returns-in-Ok-clause-any_moment : goal.returns-in-Ok-clause-any_moment
returns-in-Ok-clause-any_moment g c =
    let old = c.args.device.now in
    let Q : List ℕ → Type 0 = λ f. g.D.Device.may_leave old f ⊎ Stands [] f in
    let P : List ℕ → Type 0 = λ f. g.D.Device.may_leave old f ⊎ StandsFor g.P.Policy.policy [] f in
    weaker g.D.Device.moment g.D.Device.left_since old c.create.new.device Q P c.create.ensures.any_moment
    (λ f has. ⊎_elim (λ was. inl was) (λ s. inr (stands_as g.P.Policy.policy [] [] f s refl)) has)

pub returns-in-Err-clause-any_moment : goal.returns-in-Err-clause-any_moment
returns-in-Err-clause-any_moment g c =
    let old = c.args.device.now in
    let Q : List ℕ → Type 0 = λ f. g.D.Device.may_leave old f ⊎ Stands [] f in
    let P : List ℕ → Type 0 = λ f. g.D.Device.may_leave old f ⊎ StandsFor g.P.Policy.policy [] f in
    weaker g.D.Device.moment g.D.Device.left_since old c.create.new.device Q P c.create.ensures.any_moment
    (λ f has. ⊎_elim (λ was. inl was) (λ s. inr (stands_as g.P.Policy.policy [] [] f s refl)) has)
