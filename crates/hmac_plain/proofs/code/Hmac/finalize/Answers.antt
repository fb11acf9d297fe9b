use Rattle.std.proofs.Common.{◌++◌, ap, ◌∙◌}
use Rattle.word_lists.specs.Lists.{xor_bytes}
use Rattle.hmac_plain.specs.Hmac.{block_key, hmac, opad}
use Rattle.hmac_plain.proofs.code.Hmac.finalize.Goals as goal

pub returns : goal.returns
unfolding hmac
returns g c = λ key text h.
    let digest = c.finish-digest.ensures _ h.inner in
    c.finish.ensures _ (c.feed.ensures _ h.outer)
    ∙ ap (λ d. g.H.HashFunction.hash (xor_bytes (block_key g.H.HashFunction.hash g.row.B key) (opad g.row.B) ++ d)) digest
