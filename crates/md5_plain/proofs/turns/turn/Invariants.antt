use Rattle.std.proofs.Common.{◌≡◌, ℕ, List}
use Rattle.md5.specs.Md5.{md5}
use Rattle.sha_crypt.specs.Digest.{after_rounds}
use Rattle.md5_plain.proofs.turns.turn.Given as goal

abbrev pub invariant-rounds : goal.invariant-rounds
invariant-rounds l = (a : List ℕ) → l.before ≡ after_rounds md5 a l.password l.salt l.first
    → l.c ≡ after_rounds md5 a l.password l.salt l.i
