-- The encoding of salts and hashes.
use Rattle.std.specs.Prelude.{ℕ, List, Option}
use Rattle.base64ct.specs.Alphabets.{base64_unpadded}
use Rattle.base64ct.specs.Decoding as base64_back
use Rattle.base64ct.specs.Encoding as base64

-- bytes in Base64 without padding (RFC 4648, table 1 and section 3.2)
abbrev pub encoding : List ℕ → List ℕ
encoding bytes = base64.encoding base64_unpadded bytes

-- the bytes whose encoding t is, if there are any
abbrev pub decoding : List ℕ → Option (List ℕ)
decoding t = base64_back.decoding base64_unpadded t
