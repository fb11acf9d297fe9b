-- Laws over the definitions.
use Rattle.std.specs.Prelude.{◌≡◌, ℕ, List, length}
use Rattle.hmac_plain.specs.Hmac.{hmac_sha256, hmac_sha384, hmac_sha512}

-- a code has as many bytes as a digest
abbrev pub CodeLengths : Type 0
CodeLengths =
    ((key text : List ℕ) → length (hmac_sha256 key text) ≡ 32)
    × ((key text : List ℕ) → length (hmac_sha384 key text) ≡ 48)
    × ((key text : List ℕ) → length (hmac_sha512 key text) ≡ 64)
