use Rattle.std.proofs.Common.{◌≡◌, ◌++◌, drop, sym, ◌∙◌}
use Rattle.line_log.specs.Log.{header, recovered}
use Rattle.line_log.proofs.LogLines.{open_lines_are}
use Rattle.line_log.proofs.Parsed.{fault_of_text, fault_without_header, not_refused, parsed, place_is}
use Rattle.line_log.proofs.Crash.{rest_counts, settled}
use Rattle.line_log.specs.declared.reopen.OpenError.TheVariants.{NoHeader}
use Rattle.line_log.proofs.reopen.recover.Goals as goal

pub returns-in-Ok-settle-clause-same : goal.returns-in-Ok-settle-clause-same
returns-in-Ok-settle-clause-same g c =
    rest_counts (recovered (g.D.Device.seen c.args.device.now)) (open_lines_are (drop 11 (g.D.Device.seen c.args.device.now))) _ c.in-Ok-settle.ensures.at_rest

pub returns-in-Ok-settle-clause-settled : goal.returns-in-Ok-settle-clause-settled
returns-in-Ok-settle-clause-settled g c =
    let file = g.D.Device.seen c.args.device.now in
    let front : file ≡ header ++ c.in-Some.text.now = sym c.requires.bytes ∙ c.in-Some.ensures.some in
    let place = place_is file c.in-Some.text.now front c.in-Ok.len c.in-Ok.ensures.bound c.in-Ok.ensures.parts in
    settled _ _ _ (recovered file) (open_lines_are (drop 11 file)) c.in-Ok-settle.ensures.at_rest place c.in-Ok-settle.ensures.durable

pub settle-requires-clause-place : goal.settle-requires-clause-place
settle-requires-clause-place g c =
    let front : g.D.Device.seen c.args.device.now ≡ header ++ c.in-Some.text.now = sym c.requires.bytes ∙ c.in-Some.ensures.some in
    place_is (g.D.Device.seen c.args.device.now) c.in-Some.text.now front c.in-Ok.len c.in-Ok.ensures.bound c.in-Ok.ensures.parts

pub settle-requires-clause-left : goal.settle-requires-clause-left
settle-requires-clause-left g c =
    let front : g.D.Device.seen c.args.device.now ≡ header ++ c.in-Some.text.now = sym c.requires.bytes ∙ c.in-Some.ensures.some in
    parsed (g.D.Device.seen c.args.device.now) c.in-Some.text.now front c.in-Ok.len c.in-Ok.ensures.parts c.in-Ok.ensures.end

pub returns-in_default-clause-accepted : goal.returns-in_default-clause-accepted
returns-in_default-clause-accepted g c = λ left taken.
    let file = g.D.Device.seen c.args.device.now in
    not_refused g.T.Taker.takes g.T.Taker.after c.args.state.now file left taken NoHeader
    (λ refused. fault_without_header g.T.Taker.takes g.T.Taker.after c.args.state.now file (λ text is. c.after_header.ensures.none c.in_default.is text (c.requires.bytes ∙ is)))

pub returns-in-Err-clause-accepted : goal.returns-in-Err-clause-accepted
returns-in-Err-clause-accepted g c = λ left taken.
    let file = g.D.Device.seen c.args.device.now in
    let front : file ≡ header ++ c.in-Some.text.now = sym c.requires.bytes ∙ c.in-Some.ensures.some in
    not_refused g.T.Taker.takes g.T.Taker.after c.args.state.now file left taken c.in-Err.e
    (λ refused. fault_of_text file c.in-Some.text.now front g.T.Taker.takes g.T.Taker.after c.args.state.now ∙ c.in-Err.ensures.err refused)
