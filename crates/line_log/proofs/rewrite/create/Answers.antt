use Rattle.std.proofs.Common.{◌≡◌, ◌⊎◌, inl, inr, ⊎_elim, ℕ, ◌+◌, List, length, refl, ◌∙◌, ap, arith}
use Rattle.line_log.specs.Log.{Stands, at_rest, open_lines, written}
use Rattle.line_log.proofs.LogLines.{open_lines_are}
use Rattle.line_log.proofs.Moments.{and_then, weaker}
use Rattle.line_log.proofs.Crash.{only_stands, rest_counts, settled}
use Rattle.line_log.proofs.rewrite.create.Goals as goal

pub returns-in_err-put_in_place-clause-any_moment : goal.returns-in_err-put_in_place-clause-any_moment
returns-in_err-put_in_place-clause-any_moment g c =
    let old = c.args.device.now in
    let mid = c.write_replacement.new.device in
    let next = open_lines c.args.lines.now in
    let are = open_lines_are c.args.lines.now in
    let P : List ℕ → Type 0 = λ f. g.D.Device.may_leave old f ⊎ Stands next f in
    let before = weaker g.D.Device.moment g.D.Device.left_since old mid (g.D.Device.may_leave old) P c.write_replacement.ensures.any_moment (λ f was. inl was) in
    let is_next = c.in_ok-write_replacement.ensures.replacement in
    let placed : (f : List ℕ) → g.D.Device.may_leave mid f ⊎ (f ≡ g.D.Device.replacement mid) → P f = λ f left.
    ⊎_elim (λ was. inl (c.write_replacement.ensures.crash f was)) (λ new. inr (only_stands next (length (written next)) are refl _ is_next f new)) left in
    let after = weaker g.D.Device.moment g.D.Device.left_since mid c.put_in_place.new.device _ P c.put_in_place.ensures.any_moment placed in
    and_then g.D.Device.moment g.D.Device.left_since old mid c.put_in_place.new.device P before after

pub returns-clause-any_moment : goal.returns-clause-any_moment
returns-clause-any_moment g c =
    let old = c.args.device.now in
    let mid = c.write_replacement.new.device in
    let next = open_lines c.args.lines.now in
    let are = open_lines_are c.args.lines.now in
    let P : List ℕ → Type 0 = λ f. g.D.Device.may_leave old f ⊎ Stands next f in
    let before = weaker g.D.Device.moment g.D.Device.left_since old mid (g.D.Device.may_leave old) P c.write_replacement.ensures.any_moment (λ f was. inl was) in
    let is_next = c.in_ok-write_replacement.ensures.replacement in
    let placed : (f : List ℕ) → g.D.Device.may_leave mid f ⊎ (f ≡ g.D.Device.replacement mid) → P f = λ f left.
    ⊎_elim (λ was. inl (c.write_replacement.ensures.crash f was)) (λ new. inr (only_stands next (length (written next)) are refl _ is_next f new)) left in
    let after = weaker g.D.Device.moment g.D.Device.left_since mid c.put_in_place.new.device _ P c.put_in_place.ensures.any_moment placed in
    and_then g.D.Device.moment g.D.Device.left_since old mid c.put_in_place.new.device P before after

pub returns-clause-settled : goal.returns-clause-settled
returns-clause-settled g c =
    let next = open_lines c.args.lines.now in
    let are = open_lines_are c.args.lines.now in
    let file : g.D.Device.seen c.put_in_place.new.device ≡ at_rest next = c.in_ok-put_in_place.ensures.replaced ∙ c.in_ok-write_replacement.ensures.replacement in
    let place : 11 + length c.args.lines.now ≡ length (written next) = omega (arith, ap length c.requires.whole) in
    settled _ _ _ next are file place c.in_ok-put_in_place.ensures.durable

pub returns-clause-lines : goal.returns-clause-lines
returns-clause-lines g c =
    let next = open_lines c.args.lines.now in
    let are = open_lines_are c.args.lines.now in
    let file : g.D.Device.seen c.put_in_place.new.device ≡ at_rest next = c.in_ok-put_in_place.ensures.replaced ∙ c.in_ok-write_replacement.ensures.replacement in
    rest_counts next are _ file
