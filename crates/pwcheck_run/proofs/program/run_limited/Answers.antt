use Rattle.std.proofs.Common.{◌≡◌, arith}
use Rattle.std.specs.Prelude.{codes}
use Rattle.pwcheck_run.proofs.BenchWords.{bench_outcome, one_number}
use Rattle.pwcheck_run.proofs.program.run_limited.Goals as goal

pub returns-in-Some-clause-bench : goal.returns-in-Some-clause-bench
returns-in-Some-clause-bench g c = λ n is.
    bench_outcome n c.in-Some.n c.bench.result c.args.words.now _ _ is c.in-Some.ensures.lines c.bench.ensures.statuses
    c.bench.ensures.done c.bench.ensures.part

pub returns-in-Some-wrap_width-clause-wrapped : goal.returns-in-Some-wrap_width-clause-wrapped
returns-in-Some-wrap_width-clause-wrapped g c = λ w is.
    let width = c.in-Some-wrap_width.width in
    let same : w ≡ width = one_number (codes "wrap") 4 65536 w width c.args.words.now (omega arith) is
    c.in-Some-wrap_width.ensures.width in
    rw same c.wrap_input.ensures.outcome

pub returns-in-Some-unwrap_width-clause-unwrapped : goal.returns-in-Some-unwrap_width-clause-unwrapped
returns-in-Some-unwrap_width-clause-unwrapped g c = λ w is.
    let width = c.in-Some-unwrap_width.width in
    let same : w ≡ width = one_number (codes "unwrap") 4 65536 w width c.args.words.now (omega arith) is
    c.in-Some-unwrap_width.ensures.width in
    rw same c.unwrap_input.ensures.outcome
