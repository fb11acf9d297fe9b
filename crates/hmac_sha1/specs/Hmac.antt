-- HMAC (RFC 2104, section 2) with SHA-1, whose blocks have 64 bytes (FIPS 180-4, section 1), on lists of bytes.
use Rattle.std.specs.Prelude.{ℕ, List}
use Rattle.sha1.specs.Sha1.{sha1}
use Rattle.hmac_plain.specs.Hmac.{hmac}

-- HMAC-SHA-1
abbrev pub hmac_sha1 : List ℕ → List ℕ → List ℕ
hmac_sha1 = hmac sha1 64
