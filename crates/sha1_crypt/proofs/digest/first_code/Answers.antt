use Rattle.std.proofs.Common.{[], ◌++◌, ap, ◌∙◌, List, ℕ}
use Rattle.std.specs.Prelude.{codes}
use Rattle.hmac_sha1.specs.Hmac.{hmac_sha1}
use Rattle.sha1_crypt.proofs.digest.first_code.Goals as goal

pub returns : goal.returns
returns c = λ password h.
    c.finalize.ensures password _
    (c.update-3.ensures password _
    (c.update-2.ensures password _ (c.update.ensures password [] (c.copy-state.ensures password [] h))))
    ∙ ap (λ (digits : List ℕ). hmac_sha1 password (c.args.salt.now ++ codes "$sha1$" ++ digits))
    (c.as_slice.ensures.value ∙ c.decimal_text.ensures)
