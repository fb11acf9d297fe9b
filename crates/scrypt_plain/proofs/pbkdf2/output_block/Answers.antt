use Rattle.std.proofs.Common.{ℕ, List, ◌++◌, ap, ◌∙◌}
use Rattle.scrypt_plain.specs.Hmac.{hmac}
use Rattle.scrypt_plain.proofs.pbkdf2.output_block.Goals as goal

pub returns : goal.returns
returns c = λ key salt h.
    c.finalize.ensures key (salt ++ c.to_be_bytes.result) (c.update.ensures key salt (c.copy-state.ensures key salt h))
    ∙ ap (λ (i : List ℕ). hmac key (salt ++ i)) c.to_be_bytes.ensures
