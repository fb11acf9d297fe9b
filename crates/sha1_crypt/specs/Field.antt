-- The hash field of a digest: 28 characters. The 20 bytes and the first of them again are written in seven groups of three, of
-- each the last byte first (passlib's documentation of `sha1_crypt`, 'Algorithm'). So no bits are left over, and one byte stands
-- twice.
use Rattle.std.specs.Prelude.{◌≡◌, ◌==◌, ℕ, List, [], ◌∷◌, ◌++◌, length, take, slice_index, Option, Some, None, if◌then◌else◌}
use Rattle.base64ct.specs.Encoding.{EachBelow}
use Rattle.sha_crypt.specs.HashField.{hash_field, in_order}

-- the bytes that are written: the digest, and its first byte again
abbrev pub with_first : List ℕ → List ℕ
with_first digest = digest ++ take 1 digest

-- which of them stands at each place of the hash field; the same places lead back
abbrev pub map_sha1 : List ℕ
map_sha1 =
    2 ∷ 1 ∷ 0 ∷ 5 ∷ 4 ∷ 3 ∷ 8 ∷ 7 ∷ 6 ∷ 11 ∷ 10 ∷ 9 ∷ 14 ∷ 13 ∷ 12 ∷ 17 ∷ 16 ∷ 15 ∷ 20 ∷ 19 ∷ 18 ∷ []

-- the hash field of a digest
abbrev pub sha1_field : List ℕ → List ℕ
sha1_field digest = hash_field map_sha1 (with_first digest)

-- a text is the hash field of this digest
abbrev pub IsSha1FieldOf : List ℕ → List ℕ → Type 0
IsSha1FieldOf text digest = (length digest ≡ 20) × EachBelow 256 digest × (text ≡ sha1_field digest)

-- the digest of 21 bytes, where the last of them is the first again
abbrev pub digest_of : List ℕ → Option (List ℕ)
digest_of written = if slice_index written 20 == slice_index written 0 then Some (take 20 written) else None

-- the same of 21 bytes in the order in which they stand in the field
abbrev pub placed_digest : List ℕ → Option (List ℕ)
placed_digest bytes = digest_of (in_order map_sha1 bytes)
