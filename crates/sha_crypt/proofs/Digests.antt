-- The bytes and characters of salts, digests and hash fields that are made.
use Rattle.std.proofs.Common.{◌≡◌, ℕ, zero, suc, ◌/◌, ◌%◌, ◌^◌, ◌≤◌, Bool, true, List, [], ◌∷◌, ◌++◌, length, map}
use Rattle.std.proofs.Common.{slice_index, refl, ◌∙◌, length-append, arith}
use Rattle.std.specs.Int.{w32, w64, to_be_bytes}
use Rattle.std.specs.List.{list_all}
use Rattle.std.proofs.lemmas.List.{length-map}
use Rattle.base64ct.specs.Alphabets.{base64_sha_crypt}
use Rattle.base64ct.specs.Encoding.{EachBelow, character, encoding, groups}
use Rattle.base64ct.proofs.Encodings.{groups-below, length-groups}
use Rattle.base64ct.proofs.GoodBlocks.{below-append}
use Rattle.rand_core.specs.Stream.{Stream, next_u32}
use Rattle.sha2.specs.Sha256.{sha256}
use Rattle.sha2.specs.Sha256 as short
use Rattle.sha2.specs.Sha512.{sha512}
use Rattle.sha2.specs.Sha512 as long
use Rattle.sha2.proofs.Facts256.{length-sha256}
use Rattle.sha2.proofs.Facts512.{length-sha512}
use Rattle.sha_crypt.specs.Digest.{after_rounds, sha_crypt_digest, whole_salt_digest}
use Rattle.sha_crypt.specs.Families.{Scheme, scheme_256, scheme_512}
use Rattle.sha_crypt.specs.HashField.{field_bytes, hash_field, in_order, is_hash_field}
use Rattle.sha_crypt.specs.Records.{family_scheme}
use Rattle.sha_crypt.specs.Simple.{characters, word_character}
use Rattle.sha_crypt.specs.declared.errors.Family.{Family}
use Rattle.sha_crypt.specs.declared.errors.Family.TheVariants.{Sha256, Sha512}
use Rattle.sha_crypt.proofs.HashFields.{below_map, field_is_found}
use Rattle.pieces.proofs.ByteTests.{all_append, passes_at}
use Rattle.pieces.proofs.NumberBytes.{high_first}

-- ---- characters

values_pass : (p : ℕ → Bool) (values : List ℕ) → list_all p base64_sha_crypt.characters ≡ true → EachBelow 64 values
    → list_all p (map (character base64_sha_crypt) values) ≡ true
values_pass p [] h below = refl
values_pass p (v ∷ values) h below =
    rw (passes_at p base64_sha_crypt.characters v h (below 0)) (values_pass p values h (λ i. below (suc i)))

word_passes : (p : ℕ → Bool) (word : ℕ) → list_all p base64_sha_crypt.characters ≡ true → p (word_character word) ≡ true
word_passes p word h = passes_at p base64_sha_crypt.characters (word / 2 ^ 26 % 64) h (omega arith)

-- what holds of each character of the alphabet holds of a salt's
pub characters_pass : (p : ℕ → Bool) (n : ℕ) (s : Stream) → list_all p base64_sha_crypt.characters ≡ true
    → list_all p (characters n s).0 ≡ true
unfolding characters
characters_pass p zero s h = refl
characters_pass p (suc n) s h =
    let word : ℕ = (next_u32 (characters n s).1).0 in
    all_append p (characters n s).0 (word_character word ∷ []) (characters_pass p n s h)
    (rw (word_passes p word h) refl)

pub length-characters : (n : ℕ) (s : Stream) → length (characters n s).0 ≡ n
unfolding characters
length-characters zero s = refl
length-characters (suc n) s =
    let before = length-characters n s in
    omega (arith, before, length-append (characters n s).0 (word_character (next_u32 (characters n s).1).0 ∷ []))

-- ---- bytes

pub digest_bytes-below : (h : List ℕ) (n : ℕ) → EachBelow 256 (short.digest_bytes h n)
unfolding short.digest_bytes
digest_bytes-below h zero = λ i. omega arith
digest_bytes-below h (suc n) =
    below-append (short.digest_bytes h n) (to_be_bytes w32 (slice_index h n)) (digest_bytes-below h n)
    (high_first 4 (slice_index h n))

long-below : (h : List ℕ) (n : ℕ) → EachBelow 256 (long.digest_bytes h n)
unfolding long.digest_bytes
long-below h zero = λ i. omega arith
long-below h (suc n) = below-append (long.digest_bytes h n) (to_be_bytes w64 (slice_index h n)) (long-below h n)
    (high_first 8 (slice_index h n))

pub sha256-below : (m : List ℕ) → EachBelow 256 (sha256 m)
unfolding sha256
sha256-below m = digest_bytes-below _ 8

pub sha512-below : (m : List ℕ) → EachBelow 256 (sha512 m)
unfolding sha512
sha512-below m = long-below _ 8

-- ---- digests

-- a family whose digests are of so many bytes
pub record IsScheme (s : Scheme) : Type 0 where
  pub bytes : (m : List ℕ) → EachBelow 256 (s.hash m)
  pub size : (m : List ℕ) → length (s.hash m) ≡ s.size
  pub places : length s.places ≡ s.size
  pub some : 1 ≤ s.size

is_256 : IsScheme scheme_256
is_256 = record { bytes = sha256-below; size = length-sha256; places = refl; some = omega arith }

is_512 : IsScheme scheme_512
is_512 = record { bytes = sha512-below; size = length-sha512; places = refl; some = omega arith }

pub is_scheme : (family : Family) → IsScheme (family_scheme family)
is_scheme Sha256 = is_256
is_scheme Sha512 = is_512

-- after some rounds the digest is one of the hash function
of_hash : (P : List ℕ → Type 0) (H : List ℕ → List ℕ) (password salt : List ℕ) (n : ℕ) → ((m : List ℕ) → P (H m))
    → 1 ≤ n → P (sha_crypt_digest H password salt n)
unfolding sha_crypt_digest whole_salt_digest after_rounds
of_hash P H password salt zero all some = absurd (omega (arith, some))
of_hash P H password salt (suc n) all some = all _

-- the hash field of a password's digest
abbrev pub made_hash : Scheme → List ℕ → List ℕ → ℕ → List ℕ
made_hash s password salt n = hash_field s.places (sha_crypt_digest s.hash password salt n)

pub hash_is_field : (s : Scheme) → IsScheme s → (password salt : List ℕ) (n : ℕ) → 1 ≤ n
    → is_hash_field s.size (made_hash s password salt n) ≡ true
hash_is_field s is password salt n some =
    field_is_found s.size s.places (made_hash s password salt n) (field_bytes s.size (made_hash s password salt n)) refl
    is.places (
      sha_crypt_digest s.hash password salt n,
      (
        of_hash (λ (d : List ℕ). length d ≡ s.size) s.hash password salt n is.size some,
        of_hash (λ (d : List ℕ). EachBelow 256 d) s.hash password salt n is.bytes some,
        refl,
      ),
    )

-- what holds of each character of the alphabet holds of a hash field's
pub hash_passes : (p : ℕ → Bool) (s : Scheme) → IsScheme s → (password salt : List ℕ) (n : ℕ) → 1 ≤ n
    → list_all p base64_sha_crypt.characters ≡ true
    → list_all p (made_hash s password salt n) ≡ true
unfolding hash_field encoding
hash_passes p s is password salt n some h =
    let digest : List ℕ = sha_crypt_digest s.hash password salt n in
    let bytes : List ℕ = in_order s.places digest in
    let below : EachBelow 256 bytes =
    below_map s.places digest (of_hash (λ (d : List ℕ). EachBelow 256 d) s.hash password salt n is.bytes some) in
    all_append p (map (character base64_sha_crypt) (groups true bytes)) []
    (values_pass p (groups true bytes) h (groups-below true bytes below)) refl

-- a hash field has a character
pub hash_some : (s : Scheme) → IsScheme s → (password salt : List ℕ) (n : ℕ) → 1 ≤ n
    → 1 ≤ length (made_hash s password salt n)
unfolding hash_field encoding
hash_some s is password salt n some =
    let digest : List ℕ = sha_crypt_digest s.hash password salt n in
    let at : ℕ → ℕ = λ k. slice_index digest k in
    let bytes : List ℕ = in_order s.places digest in
    let below : EachBelow 256 bytes =
    below_map s.places digest (of_hash (λ (d : List ℕ). EachBelow 256 d) s.hash password salt n is.bytes some) in
    let count : length bytes ≡ s.size = length-map s.places at ∙ is.places in
    let values = length-groups true bytes below in
    let texts = length-map (groups true bytes) (character base64_sha_crypt) in
    let whole = length-append (map (character base64_sha_crypt) (groups true bytes)) [] in
    omega (arith, is.some, count, values, texts, whole)
