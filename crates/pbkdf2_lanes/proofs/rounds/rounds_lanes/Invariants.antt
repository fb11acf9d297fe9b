use Rattle.std.proofs.Common.{◌≡◌, ◌<◌, ℕ, List}
use Rattle.sha2.specs.Sha256.{compress, digest_bytes, initial_hash_256, sha256}
use Rattle.word_lists.specs.Lists.{xor_bytes}
use Rattle.hmac_plain.specs.Hmac.{block_key, hmac_sha256, ipad, opad}
use Rattle.pbkdf2_key.specs.Pbkdf2.{output_block, u}
use Rattle.sha2_lanes.specs.Lanes.{state}
use Rattle.pbkdf2_lanes.proofs.rounds.rounds_lanes.Given as goal

abbrev pub invariant-turns : goal.invariant-turns
invariant-turns l = (j : ℕ) (password salt : List ℕ) → j < 8
    → state j l.inner ≡ compress initial_hash_256 (xor_bytes (block_key sha256 64 password) (ipad 64))
    → state j l.outer ≡ compress initial_hash_256 (xor_bytes (block_key sha256 64 password) (opad 64))
    → digest_bytes (state j l.fn.first) 8 ≡ u hmac_sha256 password salt 1 1
    → (digest_bytes (state j l.code) 8 ≡ u hmac_sha256 password salt 1 l.round)
    × (digest_bytes (state j l.sum) 8 ≡ output_block hmac_sha256 32 password salt 1 l.round)
