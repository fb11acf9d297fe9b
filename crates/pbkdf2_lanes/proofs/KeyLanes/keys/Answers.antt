use Rattle.std.proofs.Common.{◌≡◌, ℕ, List, [], ◌∷◌, ap, ◌∙◌}
use Rattle.std.specs.Prelude.{slice_index_or}
use Rattle.sha2.specs.Sha256.{digest_bytes}
use Rattle.sha2_lanes.specs.Lanes.{state}
use Rattle.pbkdf2_lanes.proofs.Digests.{below_eight}
use Rattle.pbkdf2_lanes.proofs.Keys.{key_is_block}
use Rattle.pbkdf2_lanes.proofs.KeyLanes.keys.Goals as goal

pub returns : goal.returns
returns c = record {
  keys = λ j password salt lt held.
      let s = c.rounds_lanes-blocks.result in
      let rows : List (List ℕ) =
      c.lane_bytes.result ∷ c.lane_bytes-2.result ∷ c.lane_bytes-3.result ∷ c.lane_bytes-4.result ∷ c.lane_bytes-5.result
      ∷ c.lane_bytes-6.result ∷ c.lane_bytes-7.result ∷ c.lane_bytes-8.result ∷ [] in
      let bytes = below_eight (λ (k : ℕ). slice_index_or rows k [] ≡ digest_bytes (state k s) 8)
      c.lane_bytes.ensures c.lane_bytes-2.ensures c.lane_bytes-3.ensures c.lane_bytes-4.ensures c.lane_bytes-5.ensures
      c.lane_bytes-6.ensures c.lane_bytes-7.ensures c.lane_bytes-8.ensures j lt in
      bytes
      ∙ c.rounds_lanes-blocks.ensures j password salt lt (c.loaded.ensures j ∙ held.inner)
      (c.loaded-2.ensures j ∙ held.outer) (ap (λ (x : List ℕ). digest_bytes x 8) (c.loaded-3.ensures j) ∙ held.first)
      ∙ key_is_block password salt c.args.rounds;
}
