use Rattle.std.proofs.Common.{ℕ, List, length, ap, ◌∙◌}
use Rattle.blake2b.specs.Words.{bytes}
use Rattle.argon2_plain.specs.Argon2.{variable_hash}
use Rattle.argon2_plain.proofs.derive.finish.Goals as goal

pub returns : goal.returns
returns c =
    c.tag_of.ensures ∙ ap (λ (z : List ℕ). variable_hash (length c.args.out.now) (bytes z)) c.last_blocks.ensures
