-- The hash field of a digest: Drepper's text, step 22.
use Rattle.std.specs.Prelude.{◌≡◌, ℕ, zero, suc, true, ◌&&◌, Bool, List, [], ◌∷◌, ◌==◌, length, map, slice_index, Option}
use Rattle.std.specs.Prelude.{None, Some, is_some, if◌then◌else◌, nat_lt}
use Rattle.std.specs.List.{list_all}
use Rattle.base64ct.specs.Encoding.{encoding, EachBelow}
use Rattle.base64ct.specs.Decoding.{decoding}
use Rattle.base64ct.specs.Alphabets.{base64_sha_crypt}

-- which byte of a digest stands at each place of its hash field: the groups of step 22, the last byte of each first
abbrev pub map_sha256 : List ℕ
map_sha256 =
    20 ∷ 10 ∷ 0 ∷ 11 ∷ 1 ∷ 21 ∷ 2 ∷ 22 ∷ 12 ∷ 23 ∷ 13 ∷ 3
    ∷ 14 ∷ 4 ∷ 24 ∷ 5 ∷ 25 ∷ 15 ∷ 26 ∷ 16 ∷ 6 ∷ 17 ∷ 7 ∷ 27
    ∷ 8 ∷ 28 ∷ 18 ∷ 29 ∷ 19 ∷ 9 ∷ 30 ∷ 31 ∷ []

-- the same of SHA-512-crypt
abbrev pub map_sha512 : List ℕ
map_sha512 =
    42 ∷ 21 ∷ 0 ∷ 1 ∷ 43 ∷ 22 ∷ 23 ∷ 2 ∷ 44 ∷ 45 ∷ 24 ∷ 3
    ∷ 4 ∷ 46 ∷ 25 ∷ 26 ∷ 5 ∷ 47 ∷ 48 ∷ 27 ∷ 6 ∷ 7 ∷ 49 ∷ 28
    ∷ 29 ∷ 8 ∷ 50 ∷ 51 ∷ 30 ∷ 9 ∷ 10 ∷ 52 ∷ 31 ∷ 32 ∷ 11 ∷ 53
    ∷ 54 ∷ 33 ∷ 12 ∷ 13 ∷ 55 ∷ 34 ∷ 35 ∷ 14 ∷ 56 ∷ 57 ∷ 36 ∷ 15
    ∷ 16 ∷ 58 ∷ 37 ∷ 38 ∷ 17 ∷ 59 ∷ 60 ∷ 39 ∷ 18 ∷ 19 ∷ 61 ∷ 40
    ∷ 41 ∷ 20 ∷ 62 ∷ 63 ∷ []

-- each is the place of one of n bytes
abbrev pub are_places : ℕ → List ℕ → Bool
are_places n places = list_all (λ k. nat_lt k n) places

-- the bytes of a digest in the order of these places
abbrev pub in_order : List ℕ → List ℕ → List ℕ
in_order places digest = map (λ k. slice_index digest k) places

-- the hash field of a digest: the encoding of its bytes in the order of the places
unfoldable pub hash_field : List ℕ → List ℕ → List ℕ
hash_field places digest = encoding base64_sha_crypt (in_order places digest)

-- a text is the hash field of this digest of n bytes
abbrev pub IsHashFieldOf : ℕ → List ℕ → List ℕ → List ℕ → Type 0
IsHashFieldOf n places text digest = (length digest ≡ n) × EachBelow 256 digest × (text ≡ hash_field places digest)

-- a text is the hash field of some digest of n bytes
abbrev pub IsHashField : ℕ → List ℕ → List ℕ → Type 0
IsHashField n places text = (digest : List ℕ) × IsHashFieldOf n places text digest

-- these bytes, where there are n
abbrev pub of_length : ℕ → Option (List ℕ) → Option (List ℕ)
of_length n None = None
of_length n (Some bytes) = if length bytes == n then Some bytes else None

-- the n bytes whose encoding a text is
abbrev pub field_bytes : ℕ → List ℕ → Option (List ℕ)
field_bytes n text = of_length n (decoding base64_sha_crypt text)

-- the test for a hash field of n bytes
abbrev pub is_hash_field : ℕ → List ℕ → Bool
is_hash_field n text = is_some (field_bytes n text)

-- `back` tells where each of the places below n stands
abbrev pub undoes : ℕ → List ℕ → List ℕ → Bool
undoes zero places back = true
undoes (suc n) places back = (slice_index back (slice_index places n) == n) && undoes n places back
