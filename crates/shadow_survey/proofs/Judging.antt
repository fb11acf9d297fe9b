-- The judgement by its cases.
use Rattle.std.proofs.Common.{◌≡◌, ℕ, List, length, true, false, refl}
use Rattle.std.specs.Prelude.{◌==◌}
use Rattle.std.specs.Str.{is_utf8}
use Rattle.any_check.specs.Kinds.{text_kind}
use Rattle.any_check.specs.Records.{accepted}
use Rattle.shadow_fields.specs.Fields.{is_locked}
use Rattle.shadow_survey.specs.Judgements.{judged, judged_kind}
use Rattle.shadow_survey.specs.declared.judgement.Judgement.TheVariants.{Invalid}
use Rattle.shadow_survey.specs.declared.least.LeastCosts.{LeastCosts}

pub of_text : (least : LeastCosts) (text : List ℕ) → length text == 0 ≡ false → is_locked text ≡ false
    → is_utf8 text ≡ true → judged least text ≡ judged_kind least text (text_kind accepted text)
unfolding judged
of_text least text some unlocked utf8 = rw (some, unlocked, utf8) refl

pub of_other : (least : LeastCosts) (text : List ℕ) → length text == 0 ≡ false → is_locked text ≡ false
    → is_utf8 text ≡ false → judged least text ≡ Invalid
unfolding judged
of_other least text some unlocked utf8 = rw (some, unlocked, utf8) refl
