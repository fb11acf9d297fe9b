use Rattle.std.proofs.Common.{List, ℕ, sym, ap, ◌∙◌}
use Rattle.bcrypt_plain.specs.Made as bcrypt
use Rattle.any_make.proofs.Makers.{bcrypt_is, bcrypt_never}
use Rattle.any_make.proofs.texts.bcrypt_made.Goals as goal

pub unreachable-requires : goal.unreachable-requires
unreachable-requires c =
    bcrypt_never c.args.password.now c.copy_from_slice.new.self c.args.cost c.in-Err.field-0 c.requires.cost
    c.requires.password c.requires.zero c.in-Err.ensures.text

pub returns : goal.returns
returns c =
    c.from_slice.ensures.bytes ∙ c.as_slice.ensures.value
    ∙ sym (bcrypt_is c.args.password.now c.copy_from_slice.new.self c.args.cost c.in-Ok.text c.in-Ok.ensures.text)
    ∙ ap (λ (s : List ℕ). bcrypt.bcrypt_text c.args.password.now s c.args.cost) c.copy_from_slice.ensures.after
