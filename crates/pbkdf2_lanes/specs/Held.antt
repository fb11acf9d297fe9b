-- What a contract sees of eight lanes.
use Rattle.std.specs.Prelude.{◌≡◌, ℕ, List, [], ◌∷◌, slice_index}
use Rattle.sha2.specs.Sha256.{compress, digest_bytes, initial_hash_256, sha256}
use Rattle.word_lists.specs.Lists.{xor_bytes}
use Rattle.hmac_plain.specs.Hmac.{block_key, hmac_sha256, ipad, opad}
use Rattle.pbkdf2_key.specs.Pbkdf2.{u}
use Rattle.pbkdf2_lanes.specs.declared.KeyLanes.{KeyLanes}
use Rattle.pbkdf2_lanes.specs.declared.vectors.EightStates.{EightStates}

-- the state of lane j, which has eight words (FIPS 180-4, section 5.3.3)
abbrev pub state_at : EightStates → ℕ → List ℕ
state_at s j =
    slice_index s.a j ∷ slice_index s.b j ∷ slice_index s.c j ∷ slice_index s.d j ∷ slice_index s.e j ∷ slice_index s.f j
    ∷ slice_index s.g j ∷ slice_index s.h j ∷ []

-- Lane j holds this password and this salt: the hash values of SHA-256 after K xor ipad and after K xor opad (RFC 2104, section 2),
-- with the password as the key K; and U_1 of the first block (RFC 8018, section 5.2).
pub record HoldsKey (lanes : KeyLanes) (j : ℕ) (password salt : List ℕ) : Type 0 where
  pub inner : state_at lanes.inner j ≡ compress initial_hash_256 (xor_bytes (block_key sha256 64 password) (ipad 64))
  pub outer : state_at lanes.outer j ≡ compress initial_hash_256 (xor_bytes (block_key sha256 64 password) (opad 64))
  pub first : digest_bytes (state_at lanes.first j) 8 ≡ u hmac_sha256 password salt 1 1
