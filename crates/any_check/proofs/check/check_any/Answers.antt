use Rattle.std.proofs.Common.{rules, ◌≡◌, None, Some}
use Rattle.any_check.specs.Table.{text_scheme}
use Rattle.any_check.proofs.Rows.{no_row, too_long, whole}
use Rattle.any_check.proofs.check.check_any.Goals as goal

pub returns-then-password-gt-PASSWORD_MAX : goal.returns-then-password-gt-PASSWORD_MAX
returns-then-password-gt-PASSWORD_MAX g c = record {
  verdict = too_long _ _ _ c.args.password.now c.args.stored.now c.if-password-gt-PASSWORD_MAX.true;
}

pub returns-in-None : goal.returns-in-None
returns-in-None g c =
    let is : text_scheme c.args.stored.now ≡ None = search rules in
    record { verdict = no_row _ _ _ c.args.password.now c.args.stored.now c.if-password-gt-PASSWORD_MAX.false is }

pub returns-in-Some : goal.returns-in-Some
returns-in-Some g c =
    let is : text_scheme c.args.stored.now ≡ Some c.in-Some.scheme = search rules in
    record {
      verdict = whole _ _ _ c.args.password.now c.args.stored.now c.if-password-gt-PASSWORD_MAX.false c.in-Some.scheme is
          c.checked.result c.checked.ensures;
    }
