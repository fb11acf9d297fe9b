use Rattle.std.proofs.Common.{rules, arith, ◌≡◌, false, true, inl, inr, refl}
use Rattle.line_io.specs.Output.{has_failed}
use Rattle.line_io.proofs.Gathering.{put_part, put_whole, puts_then_none}
use Rattle.store_run.proofs.export.export_users.Goals as goal

pub returns-then-has_failed : goal.returns-then-has_failed
returns-then-has_failed g c =
    let failed : has_failed c.flush.new.self ≡ true = search rules in
    let put = puts_then_none _ _ _ _ _ _ c.new-out.result c.put_lines.new.out c.flush.new.self _
    c.put_lines.ensures.puts c.flush.ensures.puts in
    record {
      statuses = inr refl;
      all = λ h. absurd (omega arith);
      beginning = put_part _ _ _ _ c.new-out.result c.flush.new.self _ put c.new-out.ensures.none;
      write_fault = λ h. put.cause c.new-out.ensures.unfailed failed;
    }

pub returns : goal.returns
returns g c =
    let unfailed : has_failed c.flush.new.self ≡ false = search rules in
    let put = puts_then_none _ _ _ _ _ _ c.new-out.result c.put_lines.new.out c.flush.new.self _
    c.put_lines.ensures.puts c.flush.ensures.puts in
    record {
      statuses = inl refl;
      all = λ h. put_whole _ _ _ _ c.new-out.result c.flush.new.self _ put c.new-out.ensures.none unfailed (c.flush.ensures.none unfailed);
      beginning = put_part _ _ _ _ c.new-out.result c.flush.new.self _ put c.new-out.ensures.none;
      write_fault = λ h. absurd (omega arith);
    }
