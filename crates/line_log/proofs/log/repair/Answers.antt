use Rattle.std.proofs.Common.{◌⊎◌, ⊎_elim, ℕ, List, [], ◌∷◌, drop, sym, ◌∙◌, subst}
use Rattle.line_log.specs.Device.{Cut, Holds, Torn}
use Rattle.line_log.specs.Log.{Stands, recovered}
use Rattle.line_log.specs.Staged.{TornFrom}
use Rattle.line_log.proofs.LogLines.{open_lines_are}
use Rattle.line_log.proofs.Moments.{and_then, goes_on, started, weaker}
use Rattle.line_log.proofs.Ends.{cut_done, cut_keeps, torn_end, written_end}
use Rattle.line_log.proofs.log.repair.Goals as goal

pub returns-in_err-cut-clause-any_moment : goal.returns-in_err-cut-clause-any_moment
returns-in_err-cut-clause-any_moment g c =
    let file = g.D.Device.seen c.args.device.now in
    let lines = recovered file in
    let are = open_lines_are (drop 11 file) in
    let end = c.args.end in
    let place = c.requires.place in
    let left = c.requires.left in
    let P : List ℕ → Type 0 = Stands lines in
    let here : (f : List ℕ) → g.D.Device.may_leave c.args.device.now f → P f = λ f now. subst P (sym (c.requires.durable f now)) left in
    let at_start = started g.D.Device.moment g.D.Device.left_since c.args.device.now P (λ f since. here f (g.met.D.Device.only_now c.args.device.now f since)) in
    let after_cut : (f : List ℕ) → g.D.Device.may_leave c.cut.new.self f → P f = λ f now.
    let from = c.cut.ensures.crash f now in
    cut_keeps lines end are place file f left (subst (λ d. Cut end d f) (c.requires.durable from.0 from.1) from.2) in
    let run_1 = goes_on g.D.Device.moment g.D.Device.left_since c.args.device.now c.args.device.now c.cut.new.self P _ at_start c.cut.ensures.time after_cut in
    run_1

pub returns-in_err-sync-clause-any_moment : goal.returns-in_err-sync-clause-any_moment
returns-in_err-sync-clause-any_moment g c =
    let file = g.D.Device.seen c.args.device.now in
    let lines = recovered file in
    let are = open_lines_are (drop 11 file) in
    let end = c.args.end in
    let place = c.requires.place in
    let left = c.requires.left in
    let P : List ℕ → Type 0 = Stands lines in
    let here : (f : List ℕ) → g.D.Device.may_leave c.args.device.now f → P f = λ f now. subst P (sym (c.requires.durable f now)) left in
    let at_start = started g.D.Device.moment g.D.Device.left_since c.args.device.now P (λ f since. here f (g.met.D.Device.only_now c.args.device.now f since)) in
    let after_cut : (f : List ℕ) → g.D.Device.may_leave c.cut.new.self f → P f = λ f now.
    let from = c.cut.ensures.crash f now in
    cut_keeps lines end are place file f left (subst (λ d. Cut end d f) (c.requires.durable from.0 from.1) from.2) in
    let run_1 = goes_on g.D.Device.moment g.D.Device.left_since c.args.device.now c.args.device.now c.cut.new.self P _ at_start c.cut.ensures.time after_cut in
    let run_2 = goes_on g.D.Device.moment g.D.Device.left_since c.args.device.now c.cut.new.self c.sync.new.self P _ run_1 c.sync.ensures.time (λ f now. after_cut f (c.sync.ensures.crash f now)) in
    run_2

pub returns-in_err-write_synced-clause-any_moment : goal.returns-in_err-write_synced-clause-any_moment
returns-in_err-write_synced-clause-any_moment g c =
    let file = g.D.Device.seen c.args.device.now in
    let lines = recovered file in
    let are = open_lines_are (drop 11 file) in
    let end = c.args.end in
    let place = c.requires.place in
    let left = c.requires.left in
    let P : List ℕ → Type 0 = Stands lines in
    let here : (f : List ℕ) → g.D.Device.may_leave c.args.device.now f → P f = λ f now. subst P (sym (c.requires.durable f now)) left in
    let at_start = started g.D.Device.moment g.D.Device.left_since c.args.device.now P (λ f since. here f (g.met.D.Device.only_now c.args.device.now f since)) in
    let after_cut : (f : List ℕ) → g.D.Device.may_leave c.cut.new.self f → P f = λ f now.
    let from = c.cut.ensures.crash f now in
    cut_keeps lines end are place file f left (subst (λ d. Cut end d f) (c.requires.durable from.0 from.1) from.2) in
    let run_1 = goes_on g.D.Device.moment g.D.Device.left_since c.args.device.now c.args.device.now c.cut.new.self P _ at_start c.cut.ensures.time after_cut in
    let run_2 = goes_on g.D.Device.moment g.D.Device.left_since c.args.device.now c.cut.new.self c.sync.new.self P _ run_1 c.sync.ensures.time (λ f now. after_cut f (c.sync.ensures.crash f now)) in
    let is_cut = c.in_ok-cut.ensures.cut ∙ cut_done lines end are place file left in
    let only_cut : (f : List ℕ) → g.D.Device.may_leave c.sync.new.self f → P f = λ f now. after_cut f (c.sync.ensures.crash f now) in
    let closed : (f : List ℕ) → g.D.Device.may_leave c.sync.new.self f ⊎ TornFrom end 1 (g.D.Device.may_leave c.sync.new.self) f → P f = λ f may.
    ⊎_elim (only_cut f) (λ torn. torn_end lines end are place f (subst (λ d. Torn end 1 d f) (c.in_ok-sync.ensures.durable torn.0 torn.1 ∙ is_cut) torn.2)) may in
    let run_3 = weaker g.D.Device.moment g.D.Device.left_since c.sync.new.self c.write_synced.new.device _ P c.write_synced.ensures.any_moment closed in
    and_then g.D.Device.moment g.D.Device.left_since c.args.device.now c.sync.new.self c.write_synced.new.device P run_2 run_3

pub returns-clause-any_moment : goal.returns-clause-any_moment
returns-clause-any_moment g c =
    let file = g.D.Device.seen c.args.device.now in
    let lines = recovered file in
    let are = open_lines_are (drop 11 file) in
    let end = c.args.end in
    let place = c.requires.place in
    let left = c.requires.left in
    let P : List ℕ → Type 0 = Stands lines in
    let here : (f : List ℕ) → g.D.Device.may_leave c.args.device.now f → P f = λ f now. subst P (sym (c.requires.durable f now)) left in
    let at_start = started g.D.Device.moment g.D.Device.left_since c.args.device.now P (λ f since. here f (g.met.D.Device.only_now c.args.device.now f since)) in
    let after_cut : (f : List ℕ) → g.D.Device.may_leave c.cut.new.self f → P f = λ f now.
    let from = c.cut.ensures.crash f now in
    cut_keeps lines end are place file f left (subst (λ d. Cut end d f) (c.requires.durable from.0 from.1) from.2) in
    let run_1 = goes_on g.D.Device.moment g.D.Device.left_since c.args.device.now c.args.device.now c.cut.new.self P _ at_start c.cut.ensures.time after_cut in
    let run_2 = goes_on g.D.Device.moment g.D.Device.left_since c.args.device.now c.cut.new.self c.sync.new.self P _ run_1 c.sync.ensures.time (λ f now. after_cut f (c.sync.ensures.crash f now)) in
    let is_cut = c.in_ok-cut.ensures.cut ∙ cut_done lines end are place file left in
    let only_cut : (f : List ℕ) → g.D.Device.may_leave c.sync.new.self f → P f = λ f now. after_cut f (c.sync.ensures.crash f now) in
    let closed : (f : List ℕ) → g.D.Device.may_leave c.sync.new.self f ⊎ TornFrom end 1 (g.D.Device.may_leave c.sync.new.self) f → P f = λ f may.
    ⊎_elim (only_cut f) (λ torn. torn_end lines end are place f (subst (λ d. Torn end 1 d f) (c.in_ok-sync.ensures.durable torn.0 torn.1 ∙ is_cut) torn.2)) may in
    let run_3 = weaker g.D.Device.moment g.D.Device.left_since c.sync.new.self c.write_synced.new.device _ P c.write_synced.ensures.any_moment closed in
    and_then g.D.Device.moment g.D.Device.left_since c.args.device.now c.sync.new.self c.write_synced.new.device P run_2 run_3

pub returns-clause-at_rest : goal.returns-clause-at_rest
returns-clause-at_rest g c =
    let file = g.D.Device.seen c.args.device.now in
    let lines = recovered file in
    let are = open_lines_are (drop 11 file) in
    let end = c.args.end in
    let is_cut = c.in_ok-cut.ensures.cut ∙ cut_done lines end are c.requires.place file c.requires.left in
    let holds = subst (λ f. Holds f end (35 ∷ []) (g.D.Device.seen c.write_synced.new.device)) (c.sync.ensures.seen ∙ is_cut) c.in_ok-write_synced.ensures.written in
    written_end lines end are c.requires.place _ holds
