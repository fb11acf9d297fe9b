use Rattle.std.proofs.Common.{sym}
use Rattle.any_make.proofs.Makers.{yescrypt_is}
use Rattle.any_make.proofs.texts.yescrypt_made.Goals as goal

pub returns-in-Ok : goal.returns-in-Ok
returns-in-Ok c = record {
  text = sym (yescrypt_is c.args.password.now c.args.salt.now c.args.cost c.in-Ok.text c.in-Ok.ensures.text);
}
