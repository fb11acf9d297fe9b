use Rattle.std.proofs.Common.{◌≡◌, ℕ, ◌*◌, List, length, arith, subst}
use Rattle.std.proofs.lemmas.List.{take_all}
use Rattle.scrypt_plain.specs.Bytes.{bytes}
use Rattle.scrypt_plain.specs.Hmac.{HoldsHmac}
use Rattle.scrypt_plain.proofs.Blocks.{fed_more}
use Rattle.scrypt_plain.proofs.pbkdf2.salted_by_words.Goals as goal

pub salt-preserved : goal.salt-preserved
salt-preserved c =
    subst (λ (text : List ℕ). HoldsHmac c.update.new.self c.args.password.now text)
    (fed_more c.args.words.now c.le_bytes.result c.salt.i c.le_bytes.ensures)
    (c.update.ensures _ _ c.salt.invariant)

pub returns : goal.returns
returns c =
    let all : 16 * c.salt.i ≡ length c.args.words.now = omega arith in
    subst (λ (ws : List ℕ). HoldsHmac c.salt.salted c.args.password.now (bytes ws))
    (take_all (16 * c.salt.i) c.args.words.now (omega arith)) c.salt.invariant
