use Rattle.std.proofs.Common.{refl}
use Rattle.scrypt_plain.specs.Layout.{quarter_words}
use Rattle.scrypt_plain.proofs.salsa.quarter_rounds.Goals as goal

pub returns : goal.returns
unfolding quarter_words
returns c j h =
    rw (
      c.xor_rotated-a.ensures j h,
      c.xor_rotated-d.ensures j h,
      c.xor_rotated-c.ensures j h,
      c.xor_rotated-b.ensures j h,
    ) refl
