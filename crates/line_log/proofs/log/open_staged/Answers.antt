use Rattle.std.proofs.Common.{inl, ⊎_elim, ℕ, List, [], ◌∷◌, length, drop, sym, ◌∙◌, ap, subst, arith}
use Rattle.line_log.specs.Device.{Holds, Torn}
use Rattle.line_log.specs.Log.{IsBeforeOrAfter, Stands, open_lines, recovered}
use Rattle.line_log.proofs.LogLines.{open_lines_are}
use Rattle.line_log.proofs.Moments.{weaker}
use Rattle.line_log.proofs.Crash.{length-staged, staged_stands, torn_gate, written_gate}
use Rattle.line_log.proofs.log.open_staged.Goals as goal

pub returns-in_err-write_synced-clause-any_moment : goal.returns-in_err-write_synced-clause-any_moment
returns-in_err-write_synced-clause-any_moment g c =
    let old = c.args.device.now in
    let lines = recovered (g.D.Device.seen old) in
    let are = open_lines_are (drop 11 (g.D.Device.seen old)) in
    let end = c.args.end in
    let group = c.args.group.now in
    let is = c.requires.group in
    let place = c.requires.place in
    let P : List ℕ → Type 0 = IsBeforeOrAfter lines (open_lines group) in
    let here : (f : List ℕ) → g.D.Device.may_leave old f → P f = λ f now. inl (subst (Stands lines) (sym (c.requires.durable f now ∙ c.requires.file)) (staged_stands lines end are place group is)) in
    weaker g.D.Device.moment g.D.Device.left_since old c.write_synced.new.device _ P c.write_synced.ensures.any_moment
    (λ f left. ⊎_elim (here f) (λ torn. torn_gate lines end are place group is f (subst (λ d. Torn end 1 d f) (c.requires.durable torn.0 torn.1 ∙ c.requires.file) torn.2)) left)

pub returns-clause-any_moment : goal.returns-clause-any_moment
returns-clause-any_moment g c =
    let old = c.args.device.now in
    let lines = recovered (g.D.Device.seen old) in
    let are = open_lines_are (drop 11 (g.D.Device.seen old)) in
    let end = c.args.end in
    let group = c.args.group.now in
    let is = c.requires.group in
    let place = c.requires.place in
    let P : List ℕ → Type 0 = IsBeforeOrAfter lines (open_lines group) in
    let here : (f : List ℕ) → g.D.Device.may_leave old f → P f = λ f now. inl (subst (Stands lines) (sym (c.requires.durable f now ∙ c.requires.file)) (staged_stands lines end are place group is)) in
    weaker g.D.Device.moment g.D.Device.left_since old c.write_synced.new.device _ P c.write_synced.ensures.any_moment
    (λ f left. ⊎_elim (here f) (λ torn. torn_gate lines end are place group is f (subst (λ d. Torn end 1 d f) (c.requires.durable torn.0 torn.1 ∙ c.requires.file) torn.2)) left)

pub returns-clause-opened : goal.returns-clause-opened
returns-clause-opened g c =
    let old = c.args.device.now in
    let lines = recovered (g.D.Device.seen old) in
    let are = open_lines_are (drop 11 (g.D.Device.seen old)) in
    let end = c.args.end in
    let holds = subst (λ f. Holds f end (115 ∷ []) (g.D.Device.seen c.write_synced.new.device)) c.requires.file c.in_ok-write_synced.ensures.written in
    written_gate lines end are c.requires.place c.args.group.now c.requires.group _ holds

pub write_synced-requires : goal.write_synced-requires
write_synced-requires g c =
    omega (arith, ap length c.requires.file, length-staged (recovered (g.D.Device.seen c.args.device.now)) c.args.end (open_lines_are (drop 11 (g.D.Device.seen c.args.device.now))) c.requires.place c.args.group.now c.requires.group)
