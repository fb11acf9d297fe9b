use Rattle.std.proofs.Common.{◌⊎◌, ⊎_elim, ℕ, ◌+◌, ◌-◌, List, length, take, drop, ◌∙◌, ap, subst, arith}
use Rattle.line_log.specs.Device.{Holds}
use Rattle.line_log.specs.Log.{Stands, recovered}
use Rattle.line_log.specs.Staged.{TornFrom}
use Rattle.line_log.proofs.LogLines.{open_lines_are}
use Rattle.line_log.proofs.Moments.{and_then, goes_on, started, weaker}
use Rattle.line_log.proofs.Crash.{IsUnderWay, after_first, after_second, length_first, rest_under_way, under_way_stands, written_first, written_second}
use Rattle.line_log.proofs.log.stage.Goals as goal

pub returns-in_err-write_at-clause-any_moment : goal.returns-in_err-write_at-clause-any_moment
returns-in_err-write_at-clause-any_moment g c =
    let old = c.args.device.now in
    let lines = recovered (g.D.Device.seen old) in
    let are = open_lines_are (drop 11 (g.D.Device.seen old)) in
    let end = c.args.end in
    let group = c.args.group.now in
    let is = c.requires.group in
    let place = c.requires.place in
    let P : List ℕ → Type 0 = Stands lines in
    let Under = IsUnderWay lines end are place group is in
    let stand : (f : List ℕ) → Under f → P f = under_way_stands lines end are place group is in
    let here : (f : List ℕ) → g.D.Device.may_leave old f → Under f = λ f now. rest_under_way lines end are place group is f (c.requires.durable f now ∙ c.requires.file) in
    let at_start = started g.D.Device.moment g.D.Device.left_since old P (λ f since. stand f (here f (g.met.D.Device.only_now old f since))) in
    let first : (f : List ℕ) → g.D.Device.may_leave c.write_at.new.self f → Under f = after_first lines end are place group is _ _ here c.write_at.ensures.crash in
    let run_1 = goes_on g.D.Device.moment g.D.Device.left_since old old c.write_at.new.self P _ at_start c.write_at.ensures.time (λ f now. stand f (first f now)) in
    run_1

pub returns-in_err-write_synced-clause-any_moment : goal.returns-in_err-write_synced-clause-any_moment
returns-in_err-write_synced-clause-any_moment g c =
    let old = c.args.device.now in
    let lines = recovered (g.D.Device.seen old) in
    let are = open_lines_are (drop 11 (g.D.Device.seen old)) in
    let end = c.args.end in
    let group = c.args.group.now in
    let is = c.requires.group in
    let place = c.requires.place in
    let P : List ℕ → Type 0 = Stands lines in
    let Under = IsUnderWay lines end are place group is in
    let stand : (f : List ℕ) → Under f → P f = under_way_stands lines end are place group is in
    let here : (f : List ℕ) → g.D.Device.may_leave old f → Under f = λ f now. rest_under_way lines end are place group is f (c.requires.durable f now ∙ c.requires.file) in
    let at_start = started g.D.Device.moment g.D.Device.left_since old P (λ f since. stand f (here f (g.met.D.Device.only_now old f since))) in
    let first : (f : List ℕ) → g.D.Device.may_leave c.write_at.new.self f → Under f = after_first lines end are place group is _ _ here c.write_at.ensures.crash in
    let run_1 = goes_on g.D.Device.moment g.D.Device.left_since old old c.write_at.new.self P _ at_start c.write_at.ensures.time (λ f now. stand f (first f now)) in
    let closed : (f : List ℕ) → g.D.Device.may_leave c.write_at.new.self f ⊎ TornFrom (end + length group) 1 (g.D.Device.may_leave c.write_at.new.self) f → P f = λ f left.
    ⊎_elim (λ was. stand f (first f was)) (λ torn. stand f (after_second lines end are place group is torn.0 f (first torn.0 torn.1) torn.2)) left in
    let run_2 = weaker g.D.Device.moment g.D.Device.left_since c.write_at.new.self c.write_synced.new.device _ P c.write_synced.ensures.any_moment closed in
    and_then g.D.Device.moment g.D.Device.left_since old c.write_at.new.self c.write_synced.new.device P run_1 run_2

pub returns-clause-any_moment : goal.returns-clause-any_moment
returns-clause-any_moment g c =
    let old = c.args.device.now in
    let lines = recovered (g.D.Device.seen old) in
    let are = open_lines_are (drop 11 (g.D.Device.seen old)) in
    let end = c.args.end in
    let group = c.args.group.now in
    let is = c.requires.group in
    let place = c.requires.place in
    let P : List ℕ → Type 0 = Stands lines in
    let Under = IsUnderWay lines end are place group is in
    let stand : (f : List ℕ) → Under f → P f = under_way_stands lines end are place group is in
    let here : (f : List ℕ) → g.D.Device.may_leave old f → Under f = λ f now. rest_under_way lines end are place group is f (c.requires.durable f now ∙ c.requires.file) in
    let at_start = started g.D.Device.moment g.D.Device.left_since old P (λ f since. stand f (here f (g.met.D.Device.only_now old f since))) in
    let first : (f : List ℕ) → g.D.Device.may_leave c.write_at.new.self f → Under f = after_first lines end are place group is _ _ here c.write_at.ensures.crash in
    let run_1 = goes_on g.D.Device.moment g.D.Device.left_since old old c.write_at.new.self P _ at_start c.write_at.ensures.time (λ f now. stand f (first f now)) in
    let closed : (f : List ℕ) → g.D.Device.may_leave c.write_at.new.self f ⊎ TornFrom (end + length group) 1 (g.D.Device.may_leave c.write_at.new.self) f → P f = λ f left.
    ⊎_elim (λ was. stand f (first f was)) (λ torn. stand f (after_second lines end are place group is torn.0 f (first torn.0 torn.1) torn.2)) left in
    let run_2 = weaker g.D.Device.moment g.D.Device.left_since c.write_at.new.self c.write_synced.new.device _ P c.write_synced.ensures.any_moment closed in
    and_then g.D.Device.moment g.D.Device.left_since old c.write_at.new.self c.write_synced.new.device P run_1 run_2

pub write_synced-requires : goal.write_synced-requires
write_synced-requires g c =
    let old = c.args.device.now in
    let lines = recovered (g.D.Device.seen old) in
    let are = open_lines_are (drop 11 (g.D.Device.seen old)) in
    let end = c.args.end in
    let group = c.args.group.now in
    let is = c.requires.group in
    let place = c.requires.place in
    let holds = subst (λ f. Holds f (end + 1) (take (length group - 1) (drop 1 group)) (g.D.Device.seen c.write_at.new.self)) c.requires.file c.in_ok-write_at.ensures.written in
    let is_first = written_first lines end are place group is _ holds in
    omega (arith, ap length is_first, length_first lines end are place group is)

pub returns-clause-staged : goal.returns-clause-staged
returns-clause-staged g c =
    let old = c.args.device.now in
    let lines = recovered (g.D.Device.seen old) in
    let are = open_lines_are (drop 11 (g.D.Device.seen old)) in
    let end = c.args.end in
    let group = c.args.group.now in
    let is = c.requires.group in
    let place = c.requires.place in
    let holds = subst (λ f. Holds f (end + 1) (take (length group - 1) (drop 1 group)) (g.D.Device.seen c.write_at.new.self)) c.requires.file c.in_ok-write_at.ensures.written in
    let is_first = written_first lines end are place group is _ holds in
    written_second lines end are place group is _ _ is_first c.in_ok-write_synced.ensures.written
