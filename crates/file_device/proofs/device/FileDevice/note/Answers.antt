use Rattle.pieces.proofs.FaultLaws.{some_none}
use Rattle.file_device.proofs.Steps.{still_healthy, still_renewed}
use Rattle.std.proofs.Common.{true, false}
use Rattle.file_device.proofs.device.FileDevice.note.Goals as goal

pub invariant_of-self : goal.invariant_of-self
invariant_of-self c = record {
  healthy = λ none. still_healthy _ c.args.self.now.record.calls c.args.kind c.args.at c.args.bytes.now c.noted-self.ensures.call (c.args.self.now.healthy none);
  renewed = still_renewed _ c.args.self.now.record.calls c.args.kind c.args.at c.args.bytes.now true c.noted-self.ensures.call c.requires.kind c.args.self.now.renewed;
}

pub invariant_of-self-in-Err : goal.invariant_of-self-in-Err
invariant_of-self-in-Err c = record {
  healthy = λ none. absurd (some_none _ none);
  renewed = still_renewed _ c.args.self.now.record.calls c.args.kind c.args.at c.args.bytes.now false c.noted-self-in-Err.ensures.call c.requires.kind c.args.self.now.renewed;
}
