use Rattle.std.proofs.Common.{◌≡◌, rules}
use Rattle.any_make.specs.Records.{scrypt_key}
use Rattle.any_make.proofs.Joined.{scrypt_is}
use Rattle.any_make.proofs.records.scrypt_text.Goals as goal

pub returns : goal.returns
returns c =
    let key : c.scrypt.new.out ≡ scrypt_key c.args.cost c.args.password.now c.args.salt.now = search rules in
    record {
      text = scrypt_is c.args.cost c.args.password.now c.args.salt.now c.scrypt.new.out c.scrypt_front.result
          c.with_fields.result key c.scrypt_front.ensures.text c.with_fields.ensures;
    }
