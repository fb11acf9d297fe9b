use Rattle.std.proofs.Common.{◌+◌, ◌-◌, ◌++◌, ◌∷◌, ℕ, List, None, Some, length, cond, refl, sym, ◌∙◌, ap, arith, length-append}
use Rattle.line_log.specs.Log.{is_end, joined, open_lines}
use Rattle.line_log.specs.Taker.{after_all}
use Rattle.line_log.specs.declared.reopen.OpenError.TheVariants.{BadEnd}
use Rattle.line_log.proofs.Taking.{begun, goes_on, lines_all, fault_at_line, fault_at_end, size, rest_is}
use Rattle.line_log.proofs.reopen.take_lines.Goals as goal

pub loop-line-init : goal.loop-line-init
loop-line-init g c = record { progress = begun g.T.Taker.takes g.T.Taker.after c.args.state.now c.args.text.now }

pub overflow_sub-result : goal.overflow_sub-result
overflow_sub-result g c = omega (arith, size g.T.Taker.takes g.T.Taker.after c.args.state.now c.loop-line.state c.args.text.now c.loop-line.rest.now c.loop-line.invariant.progress)

pub overflow_sub-len : goal.overflow_sub-len
overflow_sub-len g c = omega (arith, size g.T.Taker.takes g.T.Taker.after c.args.state.now c.loop-line.state c.args.text.now c.loop-line.rest.now c.loop-line.invariant.progress)

pub returns-in-Ok-false-clause-err : goal.returns-in-Ok-false-clause-err
returns-in-Ok-false-clause-err g c = λ refused.
    fault_at_line g.T.Taker.takes g.T.Taker.after c.args.state.now c.loop-line.state c.args.text.now c.loop-line.rest.now c.loop-line.invariant.progress
    c.in-Some.line.now (open_lines c.in-Some.after.now) c.in-Some.ensures.lines (sym c.in-Ok-false.ensures.taken ∙ c.in-Ok-false.field-0-test)

pub loop-line-smaller : goal.loop-line-smaller
loop-line-smaller g c = omega (arith, ap length c.in-Some.ensures.parts, length-append c.in-Some.line.now (10 ∷ c.in-Some.after.now))

pub loop-line-preserved : goal.loop-line-preserved
loop-line-preserved g c = record {
  progress = goes_on g.T.Taker.takes g.T.Taker.after c.args.state.now c.loop-line.state c.take.new.self c.args.text.now c.loop-line.rest.now c.in-Some.line.now c.in-Some.after.now c.loop-line.invariant.progress c.in-Some.ensures.line c.in-Some.ensures.parts (sym c.in-Ok-true.ensures.taken ∙ c.in-Ok-true.field-0-test) (c.in-Ok-true.ensures.after c.in-Ok-true.field-0-test);
}

pub returns-then-is_end-clause-all : goal.returns-then-is_end-clause-all
returns-then-is_end-clause-all g c =
    let p = c.loop-line.invariant.progress in
    let none = c.first_line.ensures.none c.in_default.is in
    let lines = lines_all g.T.Taker.takes g.T.Taker.after c.args.state.now c.loop-line.state c.args.text.now c.loop-line.rest.now c.loop-line.invariant.progress none in
    ap (λ (ls : List (List ℕ)). after_all g.T.Taker.takes g.T.Taker.after c.args.state.now ls) lines ∙ p.all

pub returns-then-is_end-clause-parts : goal.returns-then-is_end-clause-parts
returns-then-is_end-clause-parts g c =
    let p = c.loop-line.invariant.progress in
    let none = c.first_line.ensures.none c.in_default.is in
    let lines = lines_all g.T.Taker.takes g.T.Taker.after c.args.state.now c.loop-line.state c.args.text.now c.loop-line.rest.now c.loop-line.invariant.progress none in
    let rest = rest_is g.T.Taker.takes g.T.Taker.after c.args.state.now c.loop-line.state c.args.text.now c.loop-line.rest.now c.loop-line.invariant.progress (length c.args.text.now - length c.loop-line.rest.now) refl in
    p.split ∙ ap (λ (ls : List (List ℕ)). joined ls ++ c.loop-line.rest.now) (sym lines) ∙ ap (λ (t : List ℕ). joined (open_lines c.args.text.now) ++ t) (sym rest)

pub returns-then-is_end-clause-end : goal.returns-then-is_end-clause-end
returns-then-is_end-clause-end g c =
    let rest = rest_is g.T.Taker.takes g.T.Taker.after c.args.state.now c.loop-line.state c.args.text.now c.loop-line.rest.now c.loop-line.invariant.progress (length c.args.text.now - length c.loop-line.rest.now) refl in
    ap is_end rest ∙ sym c.is_end.ensures ∙ c.if-is_end.true

pub returns-then-is_end-clause-ok : goal.returns-then-is_end-clause-ok
returns-then-is_end-clause-ok g c =
    fault_at_end g.T.Taker.takes g.T.Taker.after c.args.state.now c.loop-line.state c.args.text.now c.loop-line.rest.now c.loop-line.invariant.progress (c.first_line.ensures.none c.in_default.is)
    ∙ ap (λ b. cond b None (Some (BadEnd (11 + (length c.args.text.now - length c.loop-line.rest.now))))) (sym c.is_end.ensures ∙ c.if-is_end.true)

pub returns-else-is_end-clause-err : goal.returns-else-is_end-clause-err
returns-else-is_end-clause-err g c = λ refused.
    fault_at_end g.T.Taker.takes g.T.Taker.after c.args.state.now c.loop-line.state c.args.text.now c.loop-line.rest.now c.loop-line.invariant.progress (c.first_line.ensures.none c.in_default.is)
    ∙ ap (λ b. cond b None (Some (BadEnd (11 + (length c.args.text.now - length c.loop-line.rest.now))))) (sym c.is_end.ensures ∙ c.if-is_end.false)
