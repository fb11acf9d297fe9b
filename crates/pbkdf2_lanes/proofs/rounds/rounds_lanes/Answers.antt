use Rattle.std.proofs.Common.{◌≡◌, ◌∙◌, sym, ap, arith}
use Rattle.sha2.specs.Sha256.{digest_bytes, sha256}
use Rattle.word_lists.specs.Lists.{xor_bytes}
use Rattle.hmac_plain.specs.Hmac.{block_key, hmac_sha256, ipad, opad}
use Rattle.hmac_plain.specs.Lengths.{length-hmac_sha256}
use Rattle.pbkdf2_key.specs.Pbkdf2.{output_block}
use Rattle.pbkdf2_key.proofs.Blocks.{block_first, round_more, u_first}
use Rattle.sha2_lanes.specs.Lanes.{state}
use Rattle.pbkdf2_lanes.proofs.Digests.{hmac_is, length-inner, length-outer}
use Rattle.pbkdf2_lanes.proofs.rounds.rounds_lanes.Goals as goal

pub turns-init : goal.turns-init
turns-init c j password salt lt inner outer first =
    (first, first ∙ u_first hmac_sha256 32 password salt 1 ∙ sym (block_first hmac_sha256 32 password salt 1 length-hmac_sha256))

pub turns-preserved : goal.turns-preserved
turns-preserved c j password salt lt inner outer first =
    let before = c.turns.invariant j password salt lt inner outer first in
    let p = xor_bytes (block_key sha256 64 password) (ipad 64) in
    let q = xor_bytes (block_key sha256 64 password) (opad 64) in
    let code = c.code_of-next.ensures j p q lt (length-inner password) (length-outer password) inner outer
    ∙ hmac_is password (digest_bytes (state j c.turns.code) 8) in
    let next = round_more hmac_sha256 32 password salt 1 c.turns.round _ _ _ before.0 before.1 code in
    (next.0, c.sums-more.ensures j lt ∙ next.1)

pub returns : goal.returns
returns c j password salt lt inner outer first =
    let done : c.turns.round ≡ c.args.rounds = omega (arith, c.turns.auto.round-end (omega arith)) in
    (c.turns.invariant j password salt lt inner outer first).1 ∙ ap (output_block hmac_sha256 32 password salt 1) done
