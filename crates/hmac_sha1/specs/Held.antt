-- What a hasher of SHA-1 has taken in. No public clause names these words.
use Rattle.std.specs.Prelude.{ℕ, List}
use Rattle.hmac_plain.specs.Held.{HoldsHmac}
use Rattle.hmac_plain.specs.declared.code.Hmac.{Hmac}
use Rattle.sha1.specs.Sha1.{Holds, sha1}
use Rattle.hmac_sha1.specs.declared.hasher.Sha1Hasher.{Sha1Hasher}

-- the hasher has taken in this message
abbrev pub HoldsSha1 : Sha1Hasher → List ℕ → Type 0
HoldsSha1 s m = Holds s.state m

-- the two hashers of HMAC-SHA-1 have taken in this key and this text
abbrev pub HoldsHmacSha1 : Hmac 64 20 Sha1Hasher → List ℕ → List ℕ → Type 0
HoldsHmacSha1 s key text = HoldsHmac sha1 64 HoldsSha1 s key text
