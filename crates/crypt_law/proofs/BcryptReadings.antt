-- A text of bcrypt, read as a setting; and what a setting that is read says.
use Rattle.std.proofs.Common.{◌≡◌, ℕ, zero, suc, ◌+◌, ◌*◌, ◌/◌, ◌%◌, ◌<◌, ◌≤◌, true, false, List, [], ◌∷◌, ◌++◌}
use Rattle.std.proofs.Common.{length, map, take, drop, refl, sym, ap, ◌∙◌, arith, slice_index}
use Rattle.std.specs.Prelude.{◌==◌, nat_le, Some}
use Rattle.std.proofs.lemmas.Bool.Decides.{nat_tests}
use Rattle.std.proofs.lemmas.List.{append-nil, get_or-map, length-append, take-append-drop, take_at, drop_all}
use Rattle.std.proofs.Math.Seq.{drop-cons}
use Rattle.base64ct.specs.Alphabets.{base64_bcrypt}
use Rattle.base64ct.specs.Encoding.{EachBelow, character, encoding, groups}
use Rattle.base64ct.proofs.DecodingLaws.{decoding-encoding, length-decodable}
use Rattle.base64ct.proofs.Encodings.{length-groups}
use Rattle.base64ct.proofs.Sextets.{groups-one, groups-three}
use Rattle.base64ct.proofs.Values.{value-character}
use Rattle.bcrypt_plain.specs.Field.{bcrypt_field, field_bytes}
use Rattle.bcrypt_plain.specs.Made.{two_digits}
use Rattle.bcrypt_plain.proofs.MadeTexts.{cost_read}
use Rattle.crypt_text.specs.Settings.{BcryptSetting, bcrypt_setting, cleared, cleared_salt}

-- ---- the last value of 16 bytes has two bits, and four that are zero

pub record IsLast (v : ℕ) : Type 0 where
  pub half : ℕ
  pub small : half < 4
  pub is : v ≡ 16 * half

last_group : (k : ℕ) (bytes : List ℕ) → length bytes ≡ 3 * k + 1 → EachBelow 256 bytes
    → IsLast (slice_index (groups false bytes) (4 * k + 1))
last_group zero [] len below = absurd (omega (arith, len))
last_group zero (a ∷ []) len below =
    rw (groups-one false a (below 0)) (record { half = a % 4; small = omega arith; is = omega arith })
last_group zero (a ∷ (b ∷ bytes)) len below = absurd (omega (arith, len))
last_group (suc k) [] len below = absurd (omega (arith, len))
last_group (suc k) (a ∷ []) len below = absurd (omega (arith, len))
last_group (suc k) (a ∷ (b ∷ [])) len below = absurd (omega (arith, len))
last_group (suc k) (a ∷ (b ∷ (c ∷ rest))) len below =
    let more = last_group k rest (omega (arith, len)) (λ i. below (suc (suc (suc i)))) in
    let place : 4 * suc k + 1 ≡ suc (suc (suc (suc (4 * k + 1)))) = omega arith in
    rw (groups-three false a b c rest (below 0) (below 1) (below 2), place) more

-- ---- the characters of 16 bytes are cleared

cleared_character : (v : ℕ) → IsLast v → cleared (character base64_bcrypt v) ≡ character base64_bcrypt v
cleared_character v last =
    let small = last.small in
    let is = last.is in
    let value = value-character base64_bcrypt v refl (omega (arith, small, is)) in
    let same : 16 * (v / 16) ≡ v = omega (arith, small, is) in
    rw (value, same) refl

last_of : (xs : List ℕ) → length xs ≡ 22 → take 21 xs ++ slice_index xs 21 ∷ [] ≡ xs
last_of xs len =
    let one : drop 21 xs ≡ slice_index xs 21 ∷ drop 22 xs = drop-cons xs 21 0 (omega (arith, len)) in
    let none : drop 22 xs ≡ [] = drop_all 22 xs (omega (arith, len)) in
    ap (λ (t : List ℕ). take 21 xs ++ slice_index xs 21 ∷ t) (sym none)
    ∙ ap (λ (t : List ℕ). take 21 xs ++ t) (sym one) ∙ take-append-drop 21 xs

field_is : (salt : List ℕ) → bcrypt_field salt ≡ map (character base64_bcrypt) (groups false salt)
unfolding encoding
field_is salt = append-nil (map (character base64_bcrypt) (groups false salt))

pub field_long : (salt : List ℕ) → length salt ≡ 16 → EachBelow 256 salt → length (bcrypt_field salt) ≡ 22
field_long salt len below =
    length-decodable base64_bcrypt (bcrypt_field salt) salt refl (decoding-encoding base64_bcrypt salt refl below)
    ∙ ap (λ (k : ℕ). (4 * k + 2) / 3) len

last_character : (salt : List ℕ) → length salt ≡ 16 → EachBelow 256 salt
    → cleared (slice_index (bcrypt_field salt) 21) ≡ slice_index (bcrypt_field salt) 21
last_character salt len below =
    let values : List ℕ = groups false salt in
    let size : length values ≡ 22 = length-groups false salt below ∙ ap (λ (k : ℕ). (4 * k + 2) / 3) len in
    let at : slice_index (bcrypt_field salt) 21 ≡ character base64_bcrypt (slice_index values 21) =
    ap (λ (t : List ℕ). slice_index t 21) (field_is salt)
    ∙ get_or-map (character base64_bcrypt) values 21 0 0 (omega (arith, size)) in
    rw at (cleared_character (slice_index values 21) (last_group 5 salt (omega (arith, len)) below))

field_cleared : (salt : List ℕ) → length salt ≡ 16 → EachBelow 256 salt
    → cleared_salt (bcrypt_field salt) ≡ bcrypt_field salt
field_cleared salt len below =
    ap (λ (c : ℕ). take 21 (bcrypt_field salt) ++ c ∷ []) (last_character salt len below)
    ∙ last_of (bcrypt_field salt) (field_long salt len below)

-- ---- a text is read

salt_read : (salt more : List ℕ) → length salt ≡ 16 → EachBelow 256 salt
    → field_bytes 22 (cleared_salt (take 22 (bcrypt_field salt ++ more))) ≡ Some salt
salt_read salt more len below =
    let long = field_long salt len below in
    let test : (length (bcrypt_field salt) == 22) ≡ true = grind (arith, nat_tests, long) in
    ap (λ (t : List ℕ). field_bytes 22 (cleared_salt t)) (take_at (bcrypt_field salt) more 22 long)
    ∙ ap (field_bytes 22) (field_cleared salt len below)
    ∙ rw test (decoding-encoding base64_bcrypt salt refl below)

abbrev pub setting : ℕ → List ℕ → BcryptSetting
setting cost salt = record { cost = cost; salt = salt }

pub bcrypt_read : (cost : ℕ) (salt more : List ℕ) → 4 ≤ cost → cost ≤ 31 → length salt ≡ 16 → EachBelow 256 salt
    → bcrypt_setting (two_digits cost ++ 36 ∷ (bcrypt_field salt ++ more)) ≡ Some (setting cost salt)
unfolding bcrypt_setting
bcrypt_read cost salt more least most len below =
    let long = field_long salt len below in
    let room : 25 ≤ length (two_digits cost ++ 36 ∷ (bcrypt_field salt ++ more)) =
    omega (arith, length-append (bcrypt_field salt) more, long) in
    let test : nat_le 25 (length (two_digits cost ++ 36 ∷ (bcrypt_field salt ++ more))) ≡ true =
    grind (arith, nat_tests, room) in
    rw (test, cost_read cost least most, salt_read salt more len below) refl
