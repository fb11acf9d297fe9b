use Rattle.std.proofs.Common.{ℕ, refl, ap, ◌∙◌, arith, rules}
use Rattle.sha_crypt.specs.Simple.{sha256_text}
use Rattle.pwcheck_c.proofs.Salts.{text_put}
use Rattle.pwcheck_c.proofs.sha_text.pwcheck_sha256_crypt_text.Goals as goal

pub returns-else-out-sha_text_len-clause-text : goal.returns-else-out-sha_text_len-clause-text
returns-else-out-sha_text_len-clause-text c = λ taken.
    let put = text_put sha256_text c.args.password.now c.args.salt.now c.as_slice.result.now c.args.out.now
    c.put.new.out c.args.rounds c.in-Ok.params c.args.len.now c.put.new.len c.put.result c.new.result taken
    c.new.ensures.inside c.in-Ok.is
    (c.as_slice.ensures.value ∙ c.made_text-text.ensures
    ∙ ap (λ (n : ℕ). sha256_text c.args.password.now c.args.salt.now n) c.rounds.ensures.number)
    c.put.ensures.put in
    search rules

pub returns-then-out-sha_text_len-clause-text : goal.returns-then-out-sha_text_len-clause-text
returns-then-out-sha_text_len-clause-text c = λ taken.
    let size = c.sha_text_len.ensures.length c.args.password.now c.args.salt.now refl in
    record {
      room = λ fits. absurd (omega (arith, fits, size, c.if-out-sha_text_len.true));
      no_room = λ short. (refl, refl, refl);
    }
