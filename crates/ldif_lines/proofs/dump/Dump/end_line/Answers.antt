use Rattle.std.proofs.Common.{◌∙◌, ◌++◌, ap, sym, List, ℕ}
use Rattle.ldif_lines.specs.Attributes.{is_dn}
use Rattle.ldif_lines.specs.Rests.{fresh, given_lines, named}
use Rattle.ldif_lines.specs.Steps.{held, waiting}
use Rattle.ldif_lines.proofs.Given.{ended_dn, ended_empty, ended_other}
use Rattle.ldif_lines.proofs.dump.Dump.end_line.Goals as goal

pub returns-then-len-eq0-clause-given : goal.returns-then-len-eq0-clause-given
unfolding waiting
returns-then-len-eq0-clause-given c more =
    let d = c.args.self.now in
    rw c.clear.ensures.fresh
    (ap (λ (w : List ℕ). w ++ given_lines fresh more) c.close.ensures.waiting
    ∙ ended_empty (waiting d) (held d.entry) d.line more (sym c.len.ensures.value ∙ c.if-len-eq0.true))

pub returns-then-is_dn-clause-given : goal.returns-then-is_dn-clause-given
unfolding waiting
returns-then-is_dn-clause-given c more =
    let d = c.args.self.now in
    rw (c.begin.ensures.named, c.as_slice-then-is_dn.ensures.value, c.close-then-is_dn.ensures.line)
    (ap (λ (w : List ℕ). w ++ given_lines (named d.line) more) c.close-then-is_dn.ensures.waiting
    ∙ ended_dn (waiting d) (held d.entry) d.line more (λ e. c.if-len-eq0.false (c.len.ensures.value ∙ e))
    (ap (λ (l : List ℕ). is_dn l) (sym c.as_slice.ensures.value) ∙ sym c.is_dn.ensures ∙ c.if-is_dn.true))

pub returns-clause-given : goal.returns-clause-given
unfolding waiting
returns-clause-given c more =
    let d = c.args.self.now in
    rw (c.take.ensures.held, c.as_slice-2.ensures.value)
    (ended_other (waiting d) (held d.entry) d.line more (λ e. c.if-len-eq0.false (c.len.ensures.value ∙ e))
    (ap (λ (l : List ℕ). is_dn l) (sym c.as_slice.ensures.value) ∙ sym c.is_dn.ensures ∙ c.if-is_dn.false))
