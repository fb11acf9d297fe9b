use Rattle.std.proofs.Common.{◌≡◌}
use Rattle.scrypt_plain.specs.Scrypt.{double_rounds}
use Rattle.scrypt_plain.specs.Layout.{lane_words}
use Rattle.scrypt_plain.proofs.salsa.salsa20_8.Given as goal

abbrev pub invariant-rounds : goal.invariant-rounds
invariant-rounds l = lane_words l.x.a l.x.b l.x.c l.x.d ≡ double_rounds l._i (lane_words l.a l.b l.c l.d)
