use Rattle.std.proofs.Common.{rules, ◌≡◌, ◌∙◌, sym, ap, false, length}
use Rattle.std.specs.Prelude.{◌==◌}
use Rattle.std.proofs.lemmas.Str.{is_utf8-from_IsUtf8}
use Rattle.line_program.proofs.LastTab.{not_text}
use Rattle.any_check.specs.Kinds.{text_kind}
use Rattle.any_check.specs.Records.{accepted}
use Rattle.shadow_fields.specs.Fields.{is_locked}
use Rattle.shadow_survey.specs.Judgements.{judged_kind}
use Rattle.shadow_survey.proofs.Judging.{of_other, of_text}
use Rattle.shadow_survey.proofs.judgement.judged.Goals as goal

pub returns-in-Some : goal.returns-in-Some
returns-in-Some c =
    let some : length c.args.text.now == 0 ≡ false = search rules in
    let unlocked : is_locked c.args.text.now ≡ false = search rules in
    let text = is_utf8-from_IsUtf8 c.args.text.now c.in-Some.ensures.text.1 in
    let same = c.in-Some.ensures.text.0 in
    record {
      judgement = c.judged_kind.ensures ∙ ap (judged_kind c.args.least.now c.args.text.now) (c.text_kind.ensures.kind ∙ ap (text_kind accepted) same)
          ∙ sym (of_text c.args.least.now c.args.text.now some unlocked text);
    }

pub returns-in-None : goal.returns-in-None
returns-in-None c =
    let some : length c.args.text.now == 0 ≡ false = search rules in
    let unlocked : is_locked c.args.text.now ≡ false = search rules in
    record {
      judgement = sym (of_other c.args.least.now c.args.text.now some unlocked
          (not_text c.args.text.now c.in-None.ensures.text));
    }
