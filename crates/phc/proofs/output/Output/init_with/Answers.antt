use Rattle.std.proofs.Common.{rules, ◌∙◌, ap, Ok}
use Rattle.phc.proofs.BytesLemmas.{zeros_taken}
use Rattle.std.proofs.lemmas.List.{take_at}
use Rattle.phc.proofs.output.Output.init_with.Goals as goal

pub call_with-requires : goal.call_with-requires
call_with-requires g c =
    let least = c.if-output_size-lt-MIN_LENGTH.false in
    let most = c.if-output_size-gt-MAX_LENGTH.false in
    λ p shows. c.requires least most p (shows ∙ zeros_taken c.args.output_size most)

pub returns-in_err-call_with-clause-filled : goal.returns-in_err-call_with-clause-filled
returns-in_err-call_with-clause-filled g c =
    let called = c.call_with.ensures in
    λ least most. (
      c.call_with.result,
      c.call_with.new.slice,
      record {
        shown = called.shown;
        shows = called.shows ∙ zeros_taken c.args.output_size most;
        left = called.left;
        met = called.met;
        leaves = called.leaves;
      },
      rw c.in_err-call_with.was (search rules),
    )

pub returns-clause-filled : goal.returns-clause-filled
returns-clause-filled g c =
    let called = c.call_with.ensures in
    λ least most. (
      c.call_with.result,
      c.call_with.new.slice,
      record {
        shown = called.shown;
        shows = called.shows ∙ zeros_taken c.args.output_size most;
        left = called.left;
        met = called.met;
        leaves = called.leaves;
      },
      rw c.in_ok-call_with.was
          (ap Ok (c.from_slice.ensures.bytes ∙ take_at _ _ _ (c.call_with.auto.slice ∙ search rules))),
    )
