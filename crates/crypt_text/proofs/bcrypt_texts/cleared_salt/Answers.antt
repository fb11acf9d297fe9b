use Rattle.std.proofs.Common.{ℕ, ap, ◌∙◌, ◌++◌, ◌∷◌, [], take}
use Rattle.crypt_text.proofs.Cleared.{last_set}
use Rattle.crypt_text.proofs.bcrypt_texts.cleared_salt.Goals as goal

pub returns : goal.returns
returns c =
    rw c.copy_from_slice.ensures.after
    (last_set c.args.characters.now c.cleared.result c.requires
    ∙ ap (λ (x : ℕ). take 21 c.args.characters.now ++ x ∷ []) c.cleared.ensures)
