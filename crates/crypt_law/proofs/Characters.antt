-- The characters of crypt's alphabet are bytes of settings.
use Rattle.std.proofs.Common.{◌≡◌, ℕ, ◌≤◌, true, List, refl, arith, inl, inr}
use Rattle.std.specs.Prelude.{◌&&◌, ◌||◌, nat_le}
use Rattle.std.specs.List.{list_all}
use Rattle.std.proofs.lemmas.Bool.{and_parts, or_cases}
use Rattle.std.proofs.lemmas.Bool.Decides.{nat_tests}
use Rattle.base64ct.specs.Encoding.{EachBelow}
use Rattle.pieces.specs.Characters.{is_crypt_character}
use Rattle.pieces.proofs.ByteTests.{all_weaker}
use Rattle.yescrypt_plain.specs.Field.{crypt_field}
use Rattle.yescrypt_plain.proofs.Fields.{field_passes}
use Rattle.crypt_law.proofs.Clean.{are_clean, is_clean}

by_range : (low high c : ℕ) → ((low ≤ c) → (c ≤ high) → is_clean c ≡ true) → (nat_le low c && nat_le c high) ≡ true
    → is_clean c ≡ true
by_range low high c clean h =
    let both = and_parts (nat_le low c) (nat_le c high) h in
    clean (grind (arith, nat_tests, both.0)) (grind (arith, nat_tests, both.1))

byte_clean : (c : ℕ) → is_crypt_character c ≡ true → is_clean c ≡ true
byte_clean c h =
    let digit = by_range 46 57 c (λ low high. grind (arith, nat_tests, low, high)) in
    let capital = by_range 65 90 c (λ low high. grind (arith, nat_tests, low, high)) in
    let small = by_range 97 122 c (λ low high. grind (arith, nat_tests, low, high)) in
    elim (or_cases ((nat_le 46 c && nat_le c 57) || (nat_le 65 c && nat_le c 90)) (nat_le 97 c && nat_le c 122) h) [
      | inl either ↦
          elim (or_cases (nat_le 46 c && nat_le c 57) (nat_le 65 c && nat_le c 90) either) [
            | inl is ↦ digit is
            | inr is ↦ capital is
          ]
      | inr is ↦ small is
    ]

pub characters_clean : (text : List ℕ) → list_all is_crypt_character text ≡ true → are_clean text ≡ true
characters_clean text h = all_weaker is_crypt_character is_clean byte_clean text h

pub field_clean : (bytes : List ℕ) → EachBelow 256 bytes → are_clean (crypt_field bytes) ≡ true
field_clean bytes below = field_passes is_clean bytes refl below
