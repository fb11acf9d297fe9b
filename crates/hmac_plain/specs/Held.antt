-- What a contract sees of a message under a key.
use Rattle.std.specs.Prelude.{ℕ, List, ◌++◌}
use Rattle.word_lists.specs.Lists.{xor_bytes}
use Rattle.hmac_plain.specs.Hmac.{block_key, ipad, opad}
use Rattle.hmac_plain.specs.declared.code.Hmac.{Hmac}

-- the hashers, of which each holds a list of bytes, have taken in the key and this text
pub record HoldsHmac {S : Type 0} {n : ℕ} (H : List ℕ → List ℕ) (b : ℕ) (holds : S → List ℕ → Type 0)
    (state : Hmac b n S) (key text : List ℕ) : Type 0 where
  pub inner : holds state.inner (xor_bytes (block_key H b key) (ipad b) ++ text)
  pub outer : holds state.outer (xor_bytes (block_key H b key) (opad b))
