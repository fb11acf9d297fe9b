use Rattle.std.proofs.Common.{◌≡◌}
use Rattle.bcrypt_plain.specs.Measure.{all_kept, some_filled}
use Rattle.bcrypt_plain.specs.Schedule.{key_of}
use Rattle.bcrypt_plain.proofs.measure.is_measured.Given as goal

abbrev pub invariant-words : goal.invariant-words
invariant-words l = (l.kept ≡ all_kept (key_of l.password) l.i) × (l.filled ≡ some_filled (key_of l.password) l.i)
