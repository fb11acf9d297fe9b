-- The salt of a text `$y$`, and the hash of both forms: bytes in crypt's alphabet, the low bits first.
use Rattle.std.specs.Prelude.{ℕ, List, [], ◌∷◌, ◌==◌, length, nat_le, Option, Some, None, if◌then◌else◌}
use Rattle.base64ct.specs.Alphabets.{base64_sha_crypt}
use Rattle.base64ct.specs.Decoding.{decoding}
use Rattle.base64ct.specs.Encoding.{encoding}

-- the characters of some bytes
abbrev pub crypt_field : List ℕ → List ℕ
crypt_field bytes = encoding base64_sha_crypt bytes

-- these bytes, unless there are none of them
abbrev pub some_bytes : Option (List ℕ) → Option (List ℕ)
some_bytes None = None
some_bytes (Some []) = None
some_bytes (Some (x ∷ bytes)) = Some (x ∷ bytes)

-- the bytes, 1 to 64, whose characters a text is: 64 bytes have 86 characters
abbrev pub salt_bytes : List ℕ → Option (List ℕ)
salt_bytes text = if nat_le (length text) 86 then some_bytes (decoding base64_sha_crypt text) else None

-- the 32 bytes whose characters a text is: these have 43 characters
abbrev pub hash_bytes : List ℕ → Option (List ℕ)
hash_bytes text = if length text == 43 then decoding base64_sha_crypt text else None
