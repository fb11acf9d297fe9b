use Rattle.std.proofs.Common.{rules, ◌≡◌, None, Some}
use Rattle.mcf.specs.Grammar.{fault, parts}
use Rattle.md5_plain.specs.Verdict.{magic_of, md5_verdict}
use Rattle.md5_crypt.specs.Verdict.{md5_answer}
use Rattle.md5_crypt.proofs.Walk.{too_long, not_a_text, md5_text, other_text}
use Rattle.md5_crypt.proofs.check.check_legacy.Goals as goal

pub returns-then-password-gt-PASSWORD_MAX : goal.returns-then-password-gt-PASSWORD_MAX
returns-then-password-gt-PASSWORD_MAX g c = record
    { verdict = too_long _ _ _ c.args.password.now c.args.stored.now c.if-password-gt-PASSWORD_MAX.true }

pub returns-in-Err : goal.returns-in-Err
returns-in-Err g c =
    let bad : fault c.args.stored.now ≡ Some c.in-Err.field-0 = search rules in
    record {
      verdict = not_a_text _ _ _ c.args.password.now c.args.stored.now c.in-Err.field-0 _
          c.if-password-gt-PASSWORD_MAX.false bad c.check_other.ensures.answer;
    }

pub returns-in-Some : goal.returns-in-Some
returns-in-Some g c =
    let valid : fault c.args.stored.now ≡ None = search rules in
    let is : magic_of (parts c.args.stored.now).id ≡ Some c.in-Some.magic = search rules in
    let answer : c.check_fields.result ≡ md5_answer
    (md5_verdict c.in-Some.magic c.args.password.now (parts c.args.stored.now).fields) = search rules in
    record {
      verdict = md5_text _ _ _ c.args.password.now c.args.stored.now c.in-Some.magic _
          c.if-password-gt-PASSWORD_MAX.false valid is answer;
    }

pub returns-in-None : goal.returns-in-None
returns-in-None g c =
    let valid : fault c.args.stored.now ≡ None = search rules in
    let none : magic_of (parts c.args.stored.now).id ≡ None = search rules in
    record {
      verdict = other_text _ _ _ c.args.password.now c.args.stored.now _ c.if-password-gt-PASSWORD_MAX.false
          valid none c.check_other-in-None.ensures.answer;
    }
