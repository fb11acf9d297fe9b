-- Laws over the definitions.
use Rattle.std.specs.Prelude.{◌≡◌, ℕ, List, length}
use Rattle.hmac_sha1.specs.Hmac.{hmac_sha1}

-- a code has as many bytes as a digest
abbrev pub CodeLength : Type 0
CodeLength = (key text : List ℕ) → length (hmac_sha1 key text) ≡ 20
