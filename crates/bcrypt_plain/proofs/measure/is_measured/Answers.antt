use Rattle.std.proofs.Common.{refl}
use Rattle.bcrypt_plain.specs.Measure.{all_kept, some_filled}
use Rattle.bcrypt_plain.specs.Schedule.{key_of}
use Rattle.bcrypt_plain.proofs.Measured.{filled_more, kept_more}
use Rattle.bcrypt_plain.proofs.measure.is_measured.Goals as goal

pub words-init : goal.words-init
unfolding all_kept some_filled
words-init c = (refl, refl)

pub words-preserved : goal.words-preserved
words-preserved c = (
  kept_more (key_of c.args.password.now) c.password_word.result c.words.i c.words.kept c.is_kept-kept.result
      c.words.invariant.0 c.password_word.ensures c.is_kept-kept.ensures,
  filled_more (key_of c.args.password.now) c.password_word.result c.words.i c.words.filled c.is_filled-filled.result
      c.words.invariant.1 c.password_word.ensures c.is_filled-filled.ensures,
)
