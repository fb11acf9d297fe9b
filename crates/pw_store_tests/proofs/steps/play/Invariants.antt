use Rattle.line_log.specs.contracts.memory.MemoryDeviceDevice.TheImpl.{ghosts}
use Rattle.pw_file.specs.StoredTexts.{stored_texts}
use Rattle.pw_store.specs.Stored.{IsSound}
use Rattle.pw_store_tests.proofs.steps.play.Given as goal

abbrev pub invariant-loop-i : goal.invariant-loop-i
invariant-loop-i g l = IsSound stored_texts ghosts.seen ghosts.may_leave l.store
