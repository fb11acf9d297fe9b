use Rattle.std.proofs.Common.{◌∙◌, ap, arith, drop, length, length-append, List, ℕ}
use Rattle.std.proofs.lemmas.List.{drop-append-le}
use Rattle.ldif_lines.specs.Rests.{held_rows}
use Rattle.ldif_lines.specs.Steps.{held, waiting}
use Rattle.ldif_lines.proofs.dump.Dump.close.Goals as goal

pub invariant_of-self : goal.invariant_of-self
invariant_of-self c = record {
  within =
      let d = c.args.self.now in
      let long = ap length c.put.ensures.put in
      omega (arith, long, length-append d.ready (held_rows (held d.entry)), d.within);
}

pub returns-clause-waiting : goal.returns-clause-waiting
unfolding waiting
returns-clause-waiting c =
    let d = c.args.self.now in
    ap (λ (ready : List ℕ). drop d.given ready) c.put.ensures.put
    ∙ drop-append-le d.given d.ready (held_rows (held d.entry)) d.within
