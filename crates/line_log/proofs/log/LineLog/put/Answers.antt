use Rattle.std.proofs.Common.{◌≡◌, inl, ℕ, ◌++◌, List, length, drop, sym, ◌∙◌, ap, subst}
use Rattle.line_log.specs.Device.{LeavesOnly}
use Rattle.line_log.specs.Log.{IsBeforeOrAfter, Stands, at_rest, open_lines, recovered, written}
use Rattle.line_log.specs.Staged.{staged}
use Rattle.line_log.proofs.LogLines.{AreLines-append, open_lines_are}
use Rattle.line_log.proofs.Moments.{and_then, weaker}
use Rattle.line_log.proofs.Crash.{place_after, rest_counts, settled, staged_counts}
use Rattle.line_log.proofs.log.LineLog.put.Goals as goal

pub open_staged-requires-clause-file : goal.open_staged-requires-clause-file
open_staged-requires-clause-file g c =
    let s = c.requires.settled in
    let old = c.args.self.now.device in
    let lines = recovered (g.D.Device.seen old) in
    let are = open_lines_are (drop 11 (g.D.Device.seen old)) in
    let end = c.args.self.now.end in
    let group = c.args.group.now in
    let is = c.requires.group in
    let counts : recovered (g.D.Device.seen c.stage.new.device) ≡ lines = ap recovered c.in_ok-stage.ensures.staged ∙ staged_counts lines end are s.place group is in
    c.in_ok-stage.ensures.staged ∙ ap (λ (ls : List (List ℕ)). staged ls group) (sym counts)

pub open_staged-requires-clause-place : goal.open_staged-requires-clause-place
open_staged-requires-clause-place g c =
    let s = c.requires.settled in
    let old = c.args.self.now.device in
    let lines = recovered (g.D.Device.seen old) in
    let are = open_lines_are (drop 11 (g.D.Device.seen old)) in
    let end = c.args.self.now.end in
    let group = c.args.group.now in
    let is = c.requires.group in
    let counts : recovered (g.D.Device.seen c.stage.new.device) ≡ lines = ap recovered c.in_ok-stage.ensures.staged ∙ staged_counts lines end are s.place group is in
    s.place ∙ ap (λ (ls : List (List ℕ)). length (written ls)) (sym counts)

pub returns-in_err-open_staged-clause-any_moment : goal.returns-in_err-open_staged-clause-any_moment
returns-in_err-open_staged-clause-any_moment g c =
    let s = c.requires.settled in
    let old = c.args.self.now.device in
    let lines = recovered (g.D.Device.seen old) in
    let are = open_lines_are (drop 11 (g.D.Device.seen old)) in
    let end = c.args.self.now.end in
    let group = c.args.group.now in
    let is = c.requires.group in
    let counts : recovered (g.D.Device.seen c.stage.new.device) ≡ lines = ap recovered c.in_ok-stage.ensures.staged ∙ staged_counts lines end are s.place group is in
    let P : List ℕ → Type 0 = IsBeforeOrAfter lines (open_lines group) in
    let first = weaker g.D.Device.moment g.D.Device.left_since old c.stage.new.device (Stands lines) P c.stage.ensures.any_moment (λ f stand. inl stand) in
    let second = subst (λ (ls : List (List ℕ)). LeavesOnly g.D.Device.moment g.D.Device.left_since c.stage.new.device c.open_staged.new.device (IsBeforeOrAfter ls (open_lines group))) counts c.open_staged.ensures.any_moment in
    and_then g.D.Device.moment g.D.Device.left_since old c.stage.new.device c.open_staged.new.device P first second

pub returns-clause-any_moment : goal.returns-clause-any_moment
returns-clause-any_moment g c =
    let s = c.requires.settled in
    let old = c.args.self.now.device in
    let lines = recovered (g.D.Device.seen old) in
    let are = open_lines_are (drop 11 (g.D.Device.seen old)) in
    let end = c.args.self.now.end in
    let group = c.args.group.now in
    let is = c.requires.group in
    let counts : recovered (g.D.Device.seen c.stage.new.device) ≡ lines = ap recovered c.in_ok-stage.ensures.staged ∙ staged_counts lines end are s.place group is in
    let P : List ℕ → Type 0 = IsBeforeOrAfter lines (open_lines group) in
    let first = weaker g.D.Device.moment g.D.Device.left_since old c.stage.new.device (Stands lines) P c.stage.ensures.any_moment (λ f stand. inl stand) in
    let second = subst (λ (ls : List (List ℕ)). LeavesOnly g.D.Device.moment g.D.Device.left_since c.stage.new.device c.open_staged.new.device (IsBeforeOrAfter ls (open_lines group))) counts c.open_staged.ensures.any_moment in
    and_then g.D.Device.moment g.D.Device.left_since old c.stage.new.device c.open_staged.new.device P first second

pub returns-clause-accepted : goal.returns-clause-accepted
returns-clause-accepted g c =
    let s = c.requires.settled in
    let old = c.args.self.now.device in
    let lines = recovered (g.D.Device.seen old) in
    let are = open_lines_are (drop 11 (g.D.Device.seen old)) in
    let end = c.args.self.now.end in
    let group = c.args.group.now in
    let is = c.requires.group in
    let counts : recovered (g.D.Device.seen c.stage.new.device) ≡ lines = ap recovered c.in_ok-stage.ensures.staged ∙ staged_counts lines end are s.place group is in
    let file : g.D.Device.seen c.open_staged.new.device ≡ at_rest (lines ++ open_lines group) = c.in_ok-open_staged.ensures.opened ∙ ap (λ (ls : List (List ℕ)). at_rest (ls ++ open_lines group)) counts in
    let all = AreLines-append lines (open_lines group) are (open_lines_are group) in
    settled _ _ _ (lines ++ open_lines group) all file (place_after lines end are s.place group is) c.in_ok-open_staged.ensures.durable

pub returns-clause-lines : goal.returns-clause-lines
returns-clause-lines g c =
    let s = c.requires.settled in
    let old = c.args.self.now.device in
    let lines = recovered (g.D.Device.seen old) in
    let are = open_lines_are (drop 11 (g.D.Device.seen old)) in
    let end = c.args.self.now.end in
    let group = c.args.group.now in
    let is = c.requires.group in
    let counts : recovered (g.D.Device.seen c.stage.new.device) ≡ lines = ap recovered c.in_ok-stage.ensures.staged ∙ staged_counts lines end are s.place group is in
    let file : g.D.Device.seen c.open_staged.new.device ≡ at_rest (lines ++ open_lines group) = c.in_ok-open_staged.ensures.opened ∙ ap (λ (ls : List (List ℕ)). at_rest (ls ++ open_lines group)) counts in
    let all = AreLines-append lines (open_lines group) are (open_lines_are group) in
    rest_counts (lines ++ open_lines group) all _ file
