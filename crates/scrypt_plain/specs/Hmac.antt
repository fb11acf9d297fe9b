-- HMAC-SHA-256 (RFC 2104, section 2), on lists of bytes: HMAC with SHA-256, which works on blocks of 64 bytes.
use Rattle.std.specs.Prelude.{ℕ, List}
use Rattle.hmac_plain.specs.Held as of_any
use Rattle.hmac_plain.specs.Hmac as of_any_hash
use Rattle.hmac_plain.specs.declared.code.Hmac.{Hmac}
use Rattle.sha2.specs.Hashers.{Holds256}
use Rattle.sha2.specs.Sha256.{sha256}
use Rattle.sha2.specs.declared.Sha256.{Sha256}

-- the key as one block: itself, or its digest where it is longer than a block, filled with zeros at its end
abbrev pub block_key : List ℕ → List ℕ
block_key = of_any_hash.block_key sha256 64

-- the code of a text under a key
abbrev pub hmac : List ℕ → List ℕ → List ℕ
hmac = of_any_hash.hmac_sha256

-- the hashers have taken in the key and this text
abbrev pub HoldsHmac : Hmac 64 32 Sha256 → List ℕ → List ℕ → Type 0
HoldsHmac state key text = of_any.HoldsHmac sha256 64 (λ (s : Sha256) (m : List ℕ). Holds256 s m) state key text
