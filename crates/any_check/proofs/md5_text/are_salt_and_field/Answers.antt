use Rattle.std.proofs.Common.{◌-◌, ◌+◌, arith, length, sym, ◌∙◌}
use Rattle.any_check.proofs.Md5Parts.{plain_rest}
use Rattle.any_check.proofs.md5_text.are_salt_and_field.Goals as goal

pub returns-then-are_crypt_characters : goal.returns-then-are_crypt_characters
returns-then-are_crypt_characters c = record {
  valid = λ all.
      let cut = length c.args.rest.now - 23 in
      plain_rest c.args.rest.now cut (length c.args.rest.now - (cut + 1)) (omega (arith, c.if-len-lt24.false))
      (omega (arith, c.if-len-lt24.false)) (omega (arith, c.if-len-gt31.false)) c.if-rest-cut-ne36.false
      (sym c.are_crypt_characters.ensures ∙ c.if-are_crypt_characters.true)
      (omega (arith, c.if-len-lt24.false))
      (c.is_field.ensures.characters all) (c.is_field.ensures.field all);
}
