use Rattle.std.proofs.Common.{◌≡◌, ◌+◌, List, ℕ, Result, Ok, Err, sym, subst, ◌∙◌, IfOk}
use Rattle.std.specs.Prelude.{OnOk}
use Rattle.phc.specs.Counts.{layout_comparisons, layout_looks}
use Rattle.phc.specs.Grammar.{Layout}
use Rattle.phc.specs.Record.{phc_text, record_text}
use Rattle.phc.specs.declared.error.Error.{Error}
use Rattle.phc.specs.declared.password_hash.PasswordHash.{PasswordHash}
use Rattle.phc.proofs.Printed.{prints_back}
use Rattle.phc.proofs.TextParts.{no_record, parts_are, pieces_are, record_is}
use Rattle.phc.proofs.password_hash.PasswordHash.new_counted.Goals as goal

by_answer : (s : List ℕ) (r : Result PasswordHash Error) → r ≡ phc_text s → IfOk r (λ h. record_text h ≡ s)
by_answer s (Ok h) is = prints_back s h (sym is)
by_answer s (Err e) is = tt

pub returns-in_default-clause-record_or_fault : goal.returns-in_default-clause-record_or_fault
returns-in_default-clause-record_or_fault c = sym (no_record c.args.s.now (sym c.in_default.ensures.rest))

pub returns-clause-record_or_fault : goal.returns-clause-record_or_fault
returns-clause-record_or_fault c =
    let are = pieces_are c.args.s.now c.in-Some.body.now _ _ (sym c.in-Some.ensures.rest)
    c.first_piece.ensures.pieces in
    c.record_of.ensures.record_or_fault ∙ record_is c.args.s.now _ _ _ are c.layout.ensures

pub returns-clause-prints_back : goal.returns-clause-prints_back
returns-clause-prints_back c =
    let are = pieces_are c.args.s.now c.in-Some.body.now _ _ (sym c.in-Some.ensures.rest)
    c.first_piece.ensures.pieces in
    by_answer c.args.s.now c.record_of.result
    (c.record_of.ensures.record_or_fault ∙ record_is c.args.s.now _ _ _ are c.layout.ensures)

pub returns-clause-looks : goal.returns-clause-looks
returns-clause-looks c =
    let are = pieces_are c.args.s.now c.in-Some.body.now _ _ (sym c.in-Some.ensures.rest)
    c.first_piece.ensures.pieces in
    subst (λ (l : Layout). OnOk c.record_of.result
    (c.record_of.new.counts.looks ≡ c.args.counts.now.looks + layout_looks l))
    (parts_are c.args.s.now _ _ _ are c.layout.ensures) c.record_of.ensures.looks

pub returns-clause-sames : goal.returns-clause-sames
returns-clause-sames c =
    let are = pieces_are c.args.s.now c.in-Some.body.now _ _ (sym c.in-Some.ensures.rest)
    c.first_piece.ensures.pieces in
    subst (λ (l : Layout). OnOk c.record_of.result
    (c.record_of.new.counts.sames ≡ c.args.counts.now.sames + layout_comparisons l))
    (parts_are c.args.s.now _ _ _ are c.layout.ensures) c.record_of.ensures.sames
