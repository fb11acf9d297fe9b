use Rattle.std.proofs.Common.{◌≡◌, length, refl, ap, ◌∙◌, arith, inl, rules}
use Rattle.base64ct.specs.Encoding.{EachBelow}
use Rattle.pwcheck_c.proofs.ScryptTexts.{same_text, taken_salt}
use Rattle.pwcheck_c.proofs.scrypt_text.pwcheck_scrypt_text.Goals as goal

pub returns-then-out-text_len-clause-text : goal.returns-then-out-text_len-clause-text
returns-then-out-text_len-clause-text c = λ taken.
    let below : EachBelow 256 c.args.salt.now = search rules in
    let salt : length c.args.salt.now ≡ 16 =
    taken_salt c.args.password.now c.args.salt.now c.args.ln c.args.r c.args.p taken in
    let size = c.text_len.ensures.length c.args.password.now c.args.salt.now below salt
    ∙ ap length (same_text c.args.password.now c.args.salt.now c.args.ln c.args.r c.args.p) in
    inl (record {
      room = λ fits. absurd (omega (arith, fits, size, c.if-out-text_len.true));
      no_room = λ short. (refl, refl, refl);
    })
