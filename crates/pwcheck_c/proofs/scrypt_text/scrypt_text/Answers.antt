use Rattle.std.proofs.Common.{◌≡◌, ◌^◌, rules}
use Rattle.scrypt_plain.specs.Scrypt.{scrypt}
use Rattle.pwcheck_c.proofs.ScryptTexts.{text_is}
use Rattle.pwcheck_c.proofs.scrypt_text.scrypt_text.Goals as goal

pub returns : goal.returns
returns c =
    let key : c.scrypt.new.out ≡ scrypt c.args.password.now c.args.salt.now (2 ^ c.args.ln) c.args.r c.args.p 32 =
    search rules in
    record {
      text = text_is c.args.ln c.args.r c.args.p c.args.password.now c.args.salt.now c.scrypt.new.out c.joined.result key
          c.joined.ensures.text;
    }
