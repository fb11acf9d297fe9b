use Rattle.std.proofs.Common.{inl, inr, ⊎_elim, drop}
use Rattle.line_log.specs.Log.{recovered}
use Rattle.line_log.proofs.LogLines.{open_lines_are}
use Rattle.line_log.proofs.Moments.{weaker}
use Rattle.line_log.proofs.Crash.{only_stands}
use Rattle.line_log.proofs.log.LineLog.rewrite.Goals as goal

pub returns-in_err-self-clause-any_moment : goal.returns-in_err-self-clause-any_moment
returns-in_err-self-clause-any_moment g c =
    let s = c.requires.settled in
    let old = c.args.self.now.device in
    let lines = recovered (g.D.Device.seen old) in
    let are = open_lines_are (drop 11 (g.D.Device.seen old)) in
    weaker g.D.Device.moment g.D.Device.left_since old c.create.new.device _ _ c.create.ensures.any_moment
    (λ f has. ⊎_elim (λ was. inl (only_stands lines c.args.self.now.end are s.place _ s.file f (s.durable f was))) (λ new. inr new) has)

pub returns-clause-any_moment : goal.returns-clause-any_moment
returns-clause-any_moment g c =
    let s = c.requires.settled in
    let old = c.args.self.now.device in
    let lines = recovered (g.D.Device.seen old) in
    let are = open_lines_are (drop 11 (g.D.Device.seen old)) in
    weaker g.D.Device.moment g.D.Device.left_since old c.create.new.device _ _ c.create.ensures.any_moment
    (λ f has. ⊎_elim (λ was. inl (only_stands lines c.args.self.now.end are s.place _ s.file f (s.durable f was))) (λ new. inr new) has)

pub returns-clause-accepted : goal.returns-clause-accepted
returns-clause-accepted g c = c.in_ok-self.ensures.settled

pub returns-clause-lines : goal.returns-clause-lines
returns-clause-lines g c = c.in_ok-self.ensures.lines
