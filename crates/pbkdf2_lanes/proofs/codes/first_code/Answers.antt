use Rattle.std.proofs.Common.{[], ◌++◌, List, ℕ, ap, ◌∙◌, sym}
use Rattle.hmac_plain.specs.Hmac.{hmac_sha256}
use Rattle.pbkdf2_key.proofs.Blocks.{u_first}
use Rattle.pbkdf2_lanes.proofs.codes.first_code.Goals as goal

pub returns : goal.returns
returns c =
    let password = c.args.password.now in
    let salt = c.args.salt.now in
    let salted = c.update.ensures password [] c.new-message.ensures in
    let whole = c.update-2.ensures password salt salted in
    c.finalize.ensures password _ whole ∙ ap (λ (i : List ℕ). hmac_sha256 password (salt ++ i)) c.to_be_bytes.ensures
    ∙ sym (u_first hmac_sha256 32 password salt 1)
