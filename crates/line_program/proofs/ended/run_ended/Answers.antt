use Rattle.std.proofs.Common.{rules, arith, ◌≡◌, ◌<◌, ◌≤◌, false, true}
use Rattle.pieces.proofs.RisenCounts.{risen_since}
use Rattle.line_io.specs.Output.{has_failed}
use Rattle.line_io.proofs.Gathering.{put_part, put_whole, puts_then_none}
use Rattle.line_program.proofs.Endings.{told_cut, told_other, told_whole}
use Rattle.line_program.proofs.ended.run_ended.Goals as goal

pub returns-then-status-gt-SOME_OTHER : goal.returns-then-status-gt-SOME_OTHER
returns-then-status-gt-SOME_OTHER g c = record {
  told = record {
    statuses = c.run_state_lines-status.ensures.statuses;
    read_fault = c.run_state_lines-status.ensures.read_fault;
    write_fault = c.run_state_lines-status.ensures.write_fault;
    outcome = told_other g.R.Responder.rules g.R.Ending.ending c.args.responder.now c.run_state_lines-status.new.responder
        c.run_state_lines-status.result c.args.max _ _ _ _ c.run_state_lines-status.ensures.outcome
        c.if-status-gt-SOME_OTHER.true;
  };
}

pub returns-then-has_failed : goal.returns-then-has_failed
returns-then-has_failed g c =
    let failed : has_failed c.flush.new.self ≡ true = search rules in
    let put = puts_then_none _ _ _ _ _ _ c.new-out.result c.put_ending.new.out c.flush.new.self _
    c.put_ending.ensures.puts c.flush.ensures.puts in
    record {
      told = record {
        statuses = search rules;
        read_fault = λ h. absurd (omega arith);
        write_fault = λ h. risen_since _ _ _ c.run_state_lines-status.ensures.count
            (put.cause c.new-out.ensures.unfailed failed);
        outcome = told_cut g.R.Responder.rules g.R.Ending.ending c.args.responder.now
            c.run_state_lines-status.new.responder c.run_state_lines-status.result c.args.max _ _ _ _
            c.run_state_lines-status.ensures.outcome _ c.if-status-gt-SOME_OTHER.false
            (put_part _ _ _ _ c.new-out.result c.flush.new.self _ put c.new-out.ensures.none);
      };
    }

pub returns : goal.returns
returns g c =
    let unfailed : has_failed c.flush.new.self ≡ false = search rules in
    let put = puts_then_none _ _ _ _ _ _ c.new-out.result c.put_ending.new.out c.flush.new.self _
    c.put_ending.ensures.puts c.flush.ensures.puts in
    let low = c.if-status-gt-SOME_OTHER.false in
    record {
      told = record {
        statuses = c.run_state_lines-status.ensures.statuses;
        read_fault = c.run_state_lines-status.ensures.read_fault;
        write_fault = λ h. absurd (omega (arith, low));
        outcome = told_whole g.R.Responder.rules g.R.Ending.ending c.args.responder.now
            c.run_state_lines-status.new.responder c.run_state_lines-status.result c.args.max _ _ _ _
            c.run_state_lines-status.ensures.outcome _ low
            (put_whole _ _ _ _ c.new-out.result c.flush.new.self _ put c.new-out.ensures.none unfailed
            (c.flush.ensures.none unfailed));
      };
    }
