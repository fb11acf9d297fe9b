use Rattle.std.proofs.Common.{replicate, ap, ◌∙◌}
use Rattle.argon2_plain.specs.Filling.{address_block}
use Rattle.argon2_plain.specs.Permutation.{g}
use Rattle.argon2_plain.proofs.fill.put_addresses.Goals as goal

pub returns : goal.returns
unfolding address_block
returns c =
    let zero = replicate 128 0 in
    c.compress-2.ensures ∙ ap (g zero) (c.compress.ensures ∙ ap (g zero) c.counter_block-block.ensures)
