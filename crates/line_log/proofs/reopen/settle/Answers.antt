use Rattle.std.proofs.Common.{◌⊎◌, inl, inr, ℕ, List, subst}
use Rattle.line_log.specs.Log.{Stands, recovered}
use Rattle.line_log.proofs.Moments.{and_then, goes_on, started, weaker}
use Rattle.line_log.proofs.reopen.settle.Goals as goal

pub returns-in-Ok-clause-any_moment : goal.returns-in-Ok-clause-any_moment
returns-in-Ok-clause-any_moment g c =
    let old = c.args.device.now in
    let lines = recovered (g.D.Device.seen old) in
    let P : List ℕ → Type 0 = λ f. g.D.Device.may_leave old f ⊎ Stands lines f in
    let at_start = started g.D.Device.moment g.D.Device.left_since old P (λ f since. inl (g.met.D.Device.only_now old f since)) in
    let run_1 = goes_on g.D.Device.moment g.D.Device.left_since old old c.sync.new.self P _ at_start c.sync.ensures.time (λ f now. inl (c.sync.ensures.crash f now)) in
    let run_2 = weaker g.D.Device.moment g.D.Device.left_since c.sync.new.self c.repair.new.device _ P c.repair.ensures.any_moment
    (λ f stands. inr (subst (λ (file : List ℕ). Stands (recovered file) f) c.sync.ensures.seen stands)) in
    and_then g.D.Device.moment g.D.Device.left_since old c.sync.new.self c.repair.new.device P run_1 run_2

pub returns-in-Err-clause-any_moment : goal.returns-in-Err-clause-any_moment
returns-in-Err-clause-any_moment g c =
    let old = c.args.device.now in
    let lines = recovered (g.D.Device.seen old) in
    let P : List ℕ → Type 0 = λ f. g.D.Device.may_leave old f ⊎ Stands lines f in
    let at_start = started g.D.Device.moment g.D.Device.left_since old P (λ f since. inl (g.met.D.Device.only_now old f since)) in
    let run_1 = goes_on g.D.Device.moment g.D.Device.left_since old old c.sync.new.self P _ at_start c.sync.ensures.time (λ f now. inl (c.sync.ensures.crash f now)) in
    let run_2 = weaker g.D.Device.moment g.D.Device.left_since c.sync.new.self c.repair.new.device _ P c.repair.ensures.any_moment
    (λ f stands. inr (subst (λ (file : List ℕ). Stands (recovered file) f) c.sync.ensures.seen stands)) in
    and_then g.D.Device.moment g.D.Device.left_since old c.sync.new.self c.repair.new.device P run_1 run_2
