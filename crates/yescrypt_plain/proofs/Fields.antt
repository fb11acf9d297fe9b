-- The characters of salts and hashes.
use Rattle.std.proofs.Common.{◌≡◌, ℕ, zero, suc, ◌+◌, ◌*◌, ◌/◌, ◌≤◌, ◌<◌, Bool, true, false, List, [], ◌∷◌, ◌++◌}
use Rattle.std.proofs.Common.{length, map, drop, refl, ap, ◌∙◌, arith, rules, subst, inl, inr, Some, None, Result, Ok, Err}
use Rattle.std.specs.Prelude.{◌==◌, ◌↔◌, ◌⊎◌, nat_le, Option, IsErr, IfOk, if◌then◌else◌}
use Rattle.std.specs.List.{list_all}
use Rattle.std.proofs.lemmas.Bool.Decides.{nat_tests}
use Rattle.std.proofs.lemmas.List.{append-nil, drop_all}
use Rattle.std.proofs.lemmas.Option.{none-some, same_Some}
use Rattle.base64ct.specs.Alphabets.{base64_sha_crypt}
use Rattle.base64ct.specs.Decoding.{decoding}
use Rattle.base64ct.specs.Encoding.{EachBelow, character, encoding, groups, longest_input}
use Rattle.base64ct.specs.declared.errors.InvalidLengthError.{InvalidLengthError}
use Rattle.base64ct.proofs.DecodingLaws.{decoding-Some, decoding-encoding, length-decodable}
use Rattle.base64ct.proofs.Encodings.{groups-below}
use Rattle.pieces.proofs.ByteTests.{passes_at}
use Rattle.yescrypt_plain.specs.Field.{crypt_field, hash_bytes, salt_bytes, some_bytes}

pub field_len : (b : List ℕ) → EachBelow 256 b → length (crypt_field b) ≡ (4 * length b + 2) / 3
field_len b below = length-decodable base64_sha_crypt (encoding base64_sha_crypt b) b refl
    (decoding-encoding base64_sha_crypt b refl below)

-- ---- what the encoder leaves

-- of a buffer of just the right length
pub encoded : (bytes old new : List ℕ) (r : Result ℕ InvalidLengthError) → EachBelow 256 bytes
    → length bytes ≤ longest_input → length old ≡ (4 * length bytes + 2) / 3
    → IsErr r ↔ ((longest_input < length bytes) ⊎ (length old < length (encoding base64_sha_crypt bytes)))
    → IfOk r (λ n. (n ≡ length (encoding base64_sha_crypt bytes)) × (n ≤ length old)
    × (new ≡ encoding base64_sha_crypt bytes ++ drop n old))
    → new ≡ crypt_field bytes
encoded bytes old new (Ok n) small short room refused written =
    let len = field_len bytes small in
    let none : drop n old ≡ [] = drop_all n old (omega (arith, written.0)) in
    written.2 ∙ ap (λ (xs : List ℕ). encoding base64_sha_crypt bytes ++ xs) none
    ∙ append-nil (encoding base64_sha_crypt bytes)
encoded bytes old new (Err e) small short room refused written =
    let len = field_len bytes small in
    elim (refused.0 (search rules)) [ inl long ↦ absurd (omega arith) | inr full ↦ absurd (omega arith) ]

-- ---- hashes

hash_kept : (t : Bool) (r : Option (List ℕ)) (bytes : List ℕ) → (if t then r else None) ≡ Some bytes
    → (t ≡ true) × (r ≡ Some bytes)
hash_kept true r bytes h = (refl, h)
hash_kept false r bytes h = absurd (none-some bytes h)

-- a text is the field of these bytes
pub record IsField (text bytes : List ℕ) : Type 0 where
  pub below : EachBelow 256 bytes
  pub is : text ≡ crypt_field bytes
  pub len : length text ≡ (4 * length bytes + 2) / 3

decoded : (text bytes : List ℕ) → decoding base64_sha_crypt text ≡ Some bytes → IsField text bytes
decoded text bytes h =
    let parts = decoding-Some base64_sha_crypt text bytes h in
    record { below = parts.0; is = parts.1; len = length-decodable base64_sha_crypt text bytes refl h }

pub hash_is : (text bytes : List ℕ) → hash_bytes text ≡ Some bytes → IsField text bytes
hash_is text bytes h =
    decoded text bytes (hash_kept (length text == 43) (decoding base64_sha_crypt text) bytes h).1

pub hash_read : (bytes : List ℕ) → length bytes ≡ 32 → EachBelow 256 bytes
    → hash_bytes (crypt_field bytes) ≡ Some bytes
hash_read bytes len below =
    let long = field_len bytes below in
    let size : length (crypt_field bytes) ≡ 43 = long ∙ ap (λ (k : ℕ). (4 * k + 2) / 3) len in
    let test : (length (crypt_field bytes) == 43) ≡ true = grind (arith, nat_tests, size) in
    rw test (decoding-encoding base64_sha_crypt bytes refl below)

-- ---- salts

some_is : (r : Option (List ℕ)) (bytes : List ℕ) → some_bytes r ≡ Some bytes → (r ≡ Some bytes) × (1 ≤ length bytes)
some_is None bytes h = absurd (none-some bytes h)
some_is (Some []) bytes h = absurd (none-some bytes h)
some_is (Some (x ∷ xs)) bytes h =
    let same : x ∷ xs ≡ bytes = same_Some (x ∷ xs) bytes h in
    (h, subst (λ (ys : List ℕ). 1 ≤ length ys) same (omega arith))

pub some_again : (bytes : List ℕ) → 1 ≤ length bytes → some_bytes (Some bytes) ≡ Some bytes
some_again [] h = absurd (omega (arith, h))
some_again (x ∷ bytes) h = refl

-- a text is the field of 1 to 64 bytes
pub record IsSalt (text bytes : List ℕ) : Type 0 where
  pub least : 1 ≤ length bytes
  pub most : length bytes ≤ 64
  pub below : EachBelow 256 bytes
  pub is : text ≡ crypt_field bytes

pub salt_is : (text bytes : List ℕ) → salt_bytes text ≡ Some bytes → IsSalt text bytes
salt_is text bytes h =
    let both = hash_kept (nat_le (length text) 86) (some_bytes (decoding base64_sha_crypt text)) bytes h in
    let some = some_is (decoding base64_sha_crypt text) bytes both.1 in
    let field = decoded text bytes some.0 in
    let test = both.0 in
    let short : length text ≤ 86 = grind (arith, nat_tests, test) in
    let len = field.len in
    record { least = some.1; most = omega (arith, len, short); below = field.below; is = field.is }

pub salt_read : (bytes : List ℕ) → 1 ≤ length bytes → length bytes ≤ 64 → EachBelow 256 bytes
    → salt_bytes (crypt_field bytes) ≡ Some bytes
salt_read bytes least most below =
    let long = field_len bytes below in
    let short : length (crypt_field bytes) ≤ 86 = omega (arith, long, most) in
    let test : nat_le (length (crypt_field bytes)) 86 ≡ true = grind (arith, nat_tests, short) in
    rw test (ap some_bytes (decoding-encoding base64_sha_crypt bytes refl below) ∙ some_again bytes least)

-- ---- characters

each_passes : (p : ℕ → Bool) (vs : List ℕ) → list_all p base64_sha_crypt.characters ≡ true → EachBelow 64 vs
    → list_all p (map (character base64_sha_crypt) vs) ≡ true
each_passes p [] all below = refl
each_passes p (v ∷ vs) all below =
    let head : p (character base64_sha_crypt v) ≡ true = passes_at p base64_sha_crypt.characters v all (below zero) in
    rw head (each_passes p vs all (λ i. below (suc i)))

-- each character of a field passes a test that those of the alphabet pass
pub field_passes : (p : ℕ → Bool) (bytes : List ℕ) → list_all p base64_sha_crypt.characters ≡ true
    → EachBelow 256 bytes → list_all p (crypt_field bytes) ≡ true
unfolding encoding
field_passes p bytes all below =
    let values : List ℕ = groups true bytes in
    rw (append-nil (map (character base64_sha_crypt) values)) (each_passes p values all (groups-below true bytes below))
