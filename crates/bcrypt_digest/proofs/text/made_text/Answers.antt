use Rattle.std.proofs.Common.{rules, ◌≡◌}
use Rattle.bcrypt_digest.specs.Text.{made_text}
use Rattle.bcrypt_digest.proofs.MadeTexts.{made_utf8}
use Rattle.bcrypt_digest.proofs.text.made_text.Goals as goal

pub returns-clause-utf8 : goal.returns-clause-utf8
returns-clause-utf8 c =
    let is : c.push_all-6.new.self ≡ made_text c.args.id.now c.args.cost c.args.salt.now c.args.hash.now = search rules in
    rw is
    (made_utf8 c.args.id.now c.args.cost c.args.salt.now c.args.hash.now c.requires.cost c.utf8.id c.utf8.salt c.utf8.hash)
