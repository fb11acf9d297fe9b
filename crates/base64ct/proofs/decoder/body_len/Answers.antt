use Rattle.std.proofs.Common.{◌≡◌, ◌-◌, suc, length, arith, ◌∙◌, sym}
use Rattle.std.proofs.lemmas.Bool.{ne_eqb}
use Rattle.std.proofs.lemmas.List.{take_all}
use Rattle.base64ct.proofs.Ends.{end_two, end_none, end_nil, end_lf, end_cr, end_single}
use Rattle.base64ct.proofs.decoder.body_len.Goals as goal

pub returns-then-n-eq0-clause-body : goal.returns-then-n-eq0-clause-body
returns-then-n-eq0-clause-body c = end_nil c.args.input.now (omega (arith, c.if-n-eq0.true))

pub returns-then-last-eq13-clause-body : goal.returns-then-last-eq13-clause-body
returns-then-last-eq13-clause-body c =
    sym (end_cr (length c.args.input.now - 1) c.args.input.now (omega (arith, c.if-n-eq0.false))
    (omega (arith, c.if-last-eq13.true)))

pub returns-then-last-ne10-clause-body : goal.returns-then-last-ne10-clause-body
returns-then-last-ne10-clause-body c =
    take_all (length c.args.input.now) c.args.input.now (omega arith)
    ∙ sym (end_none (length c.args.input.now - 1) c.args.input.now (omega (arith, c.if-n-eq0.false))
    (ne_eqb _ 13 (λ e. omega (arith, e, c.if-last-eq13.false)))
    (ne_eqb _ 10 (λ e. omega (arith, e, c.if-last-ne10.true))))

pub returns-then-n-eq1-clause-body : goal.returns-then-n-eq1-clause-body
returns-then-n-eq1-clause-body c =
    end_single c.args.input.now (length c.args.input.now - 1) (omega (arith, c.if-n-eq1.true))
    (omega (arith, c.if-n-eq1.true)) (omega (arith, c.if-last-ne10.false))

pub returns-then-input-n-eq13-clause-body : goal.returns-then-input-n-eq13-clause-body
returns-then-input-n-eq13-clause-body c =
    let next : suc (length c.args.input.now - 2) ≡ length c.args.input.now - 1 =
    omega (arith, c.if-n-eq1.false, c.if-n-eq0.false) in
    sym (end_two (length c.args.input.now - 2) c.args.input.now (omega (arith, c.if-n-eq1.false, c.if-n-eq0.false))
    (omega (arith, c.if-input-n-eq13.true)) (rw next (omega (arith, c.if-last-ne10.false))))

pub returns-clause-body : goal.returns-clause-body
returns-clause-body c =
    sym (end_lf (length c.args.input.now - 2) (length c.args.input.now - 1) c.args.input.now
    (omega (arith, c.if-n-eq1.false, c.if-n-eq0.false)) (omega (arith, c.if-n-eq1.false, c.if-n-eq0.false))
    (omega (arith, c.if-last-ne10.false)) (ne_eqb _ 13 (λ e. omega (arith, e, c.if-input-n-eq13.false))))
