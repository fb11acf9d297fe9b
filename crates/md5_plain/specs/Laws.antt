-- Laws over the definitions.
use Rattle.std.specs.Prelude.{◌≡◌, ◌↔◌, ℕ, List, length, true}
use Rattle.base64ct.specs.Encoding.{EachBelow}
use Rattle.sha_crypt.specs.HashField.{is_hash_field, IsHashField}
use Rattle.md5_plain.specs.Field.{map_md5, md5_field}

-- the test for hash fields tells those of some digest
abbrev pub FieldOfSomeDigest : Type 0
FieldOfSomeDigest = (text : List ℕ) → (is_hash_field 16 text ≡ true) ↔ IsHashField 16 map_md5 text

-- two digests with one hash field are equal
abbrev pub FieldOnce : Type 0
FieldOnce =
    (x y : List ℕ) → length x ≡ 16 → length y ≡ 16 → EachBelow 256 x → EachBelow 256 y
    → md5_field x ≡ md5_field y → x ≡ y
