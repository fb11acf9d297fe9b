-- The hash field of a digest: its 16 bytes in their order, encoded in 22 characters of crypt(3)'s alphabet, low bits first (phpass
-- 0.5, PasswordHash.php, `encode64`).
use Rattle.std.specs.Prelude.{ℕ, List, [], ◌∷◌}
use Rattle.sha_crypt.specs.HashField.{IsHashFieldOf, hash_field, in_order}

-- which byte of a digest stands at each place of its hash field: each at its own, so that the same places lead back
abbrev pub map_phpass : List ℕ
map_phpass = 0 ∷ 1 ∷ 2 ∷ 3 ∷ 4 ∷ 5 ∷ 6 ∷ 7 ∷ 8 ∷ 9 ∷ 10 ∷ 11 ∷ 12 ∷ 13 ∷ 14 ∷ 15 ∷ []

-- the hash field of a digest
abbrev pub phpass_field : List ℕ → List ℕ
phpass_field digest = hash_field map_phpass digest

-- a text is the hash field of this digest
abbrev pub IsPhpassFieldOf : List ℕ → List ℕ → Type 0
IsPhpassFieldOf text digest = IsHashFieldOf 16 map_phpass text digest

-- the digest of 16 bytes in the order of the field
abbrev pub digest_of : List ℕ → List ℕ
digest_of bytes = in_order map_phpass bytes
