use Rattle.std.proofs.Common.{◌≡◌, rules}
use Rattle.any_make.specs.Records.{argon2_key}
use Rattle.any_make.proofs.Joined.{argon2_is}
use Rattle.any_make.proofs.records.argon2_text.Goals as goal

pub returns : goal.returns
returns c =
    let key : c.argon2.new.out ≡ argon2_key c.args.cost c.args.password.now c.args.salt.now = search rules in
    record {
      text = argon2_is c.args.cost c.args.password.now c.args.salt.now c.argon2.new.out c.argon2_front.result
          c.with_fields.result key c.argon2_front.ensures.text c.with_fields.ensures;
    }
