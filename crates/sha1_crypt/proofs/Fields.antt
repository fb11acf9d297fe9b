-- Hash fields: the digest with its first byte again, and back.
use Rattle.std.proofs.Common.{◌≡◌, ℕ, zero, suc, ◌+◌, Bool, true, false, List, [], ◌∷◌, ◌++◌, length}
use Rattle.std.proofs.Common.{take, drop, refl, sym, ap, subst, ◌∙◌, arith, length-append}
use Rattle.std.specs.Prelude.{◌==◌, slice_index, Option, Some, None, MatchOption, if◌then◌else◌}
use Rattle.std.proofs.lemmas.Bool.Decides.{nat_tests}
use Rattle.std.proofs.lemmas.List.{take-append-drop, take_at}
use Rattle.std.proofs.lemmas.Option.{none-some, same_Some}
use Rattle.base64ct.specs.Alphabets.{base64_sha_crypt}
use Rattle.base64ct.specs.Decoding.{decoding}
use Rattle.base64ct.specs.Encoding.{EachBelow, encoding}
use Rattle.base64ct.proofs.DecodingLaws.{decoding-encoding, length-decodable}
use Rattle.base64ct.proofs.Encodings.{below-take}
use Rattle.base64ct.proofs.GoodBlocks.{below-append}
use Rattle.sha_crypt.specs.HashField.{IsHashFieldOf, field_bytes, hash_field, in_order, of_length}
use Rattle.sha_crypt.proofs.HashFields as of_hash
use Rattle.sha1_crypt.specs.Field.{IsSha1FieldOf, digest_of, map_sha1, placed_digest, sha1_field, with_first}
use Rattle.sha1_crypt.specs.Laws.{FieldOnce}

-- ---- the first byte again

at_end : (ds : List ℕ) (d n : ℕ) → length ds ≡ n → slice_index (ds ++ d ∷ []) n ≡ d
at_end [] d zero h = refl
at_end [] d (suc n) h = absurd (omega (arith, h))
at_end (e ∷ ds) d zero h = absurd (omega (arith, h))
at_end (e ∷ ds) d (suc n) h = at_end ds d n (omega (arith, h))

-- the last element of a list
last_left : (n : ℕ) (xs : List ℕ) → length xs ≡ n + 1 → drop n xs ≡ slice_index xs n ∷ []
last_left zero [] h = absurd (omega (arith, h))
last_left zero (x ∷ []) h = refl
last_left zero (x ∷ (y ∷ xs)) h = absurd (omega (arith, h))
last_left (suc n) [] h = absurd (omega (arith, h))
last_left (suc n) (x ∷ xs) h = last_left n xs (omega (arith, h))

pub with_first_long : (digest : List ℕ) → length digest ≡ 20 → length (with_first digest) ≡ 21
with_first_long [] h = absurd (omega (arith, h))
with_first_long (d ∷ ds) h = length-append (d ∷ ds) (d ∷ []) ∙ omega (arith, h)

pub with_first_below : (digest : List ℕ) → EachBelow 256 digest → EachBelow 256 (with_first digest)
with_first_below digest below = below-append digest (take 1 digest) below (below-take 256 1 digest (omega arith) below)

-- a digest is found in its bytes
pub found : (digest : List ℕ) → length digest ≡ 20 → digest_of (with_first digest) ≡ Some digest
found [] h = absurd (omega (arith, h))
found (d ∷ ds) h =
    let last : slice_index ((d ∷ ds) ++ d ∷ []) 20 ≡ d = at_end (d ∷ ds) d 20 h in
    let test : (slice_index ((d ∷ ds) ++ d ∷ []) 20 == d) ≡ true = grind (arith, nat_tests, last) in
    let front : take 20 ((d ∷ ds) ++ d ∷ []) ≡ d ∷ ds = take_at (d ∷ ds) (d ∷ []) 20 h in
    rw (test, front) refl

kept : (t : Bool) (digest other : List ℕ) → (if t then Some digest else None) ≡ Some other → (t ≡ true) × (digest ≡ other)
kept true digest other h = (refl, same_Some digest other h)
kept false digest other h = absurd (none-some other h)

front_twice : (w : List ℕ) → length w ≡ 21 → take 1 (take 20 w) ≡ slice_index w 0 ∷ []
front_twice [] h = absurd (omega (arith, h))
front_twice (x ∷ w) h = refl

-- what is found has these bytes
pub record IsFound (written digest : List ℕ) : Type 0 where
  pub long : length digest ≡ 20
  pub bytes : with_first digest ≡ written

pub written_is : (written digest : List ℕ) → length written ≡ 21 → digest_of written ≡ Some digest → IsFound written digest
written_is written digest len h =
    let both = kept (slice_index written 20 == slice_index written 0) (take 20 written) digest h in
    let same : slice_index written 20 ≡ slice_index written 0 = grind (arith, nat_tests, both.0) in
    let parts : take 20 written ++ drop 20 written ≡ written = take-append-drop 20 written in
    let last : drop 20 written ≡ slice_index written 20 ∷ [] = last_left 20 written len in
    let sum : length (take 20 written) + length (drop 20 written) ≡ 21 =
    sym (length-append (take 20 written) (drop 20 written)) ∙ ap length parts ∙ len in
    let one : length (drop 20 written) ≡ 1 = ap length last in
    let size : length (take 20 written) ≡ 20 = omega (arith, sum, one) in
    let again : take 1 (take 20 written) ≡ drop 20 written =
    front_twice written len ∙ ap (λ (x : ℕ). x ∷ []) (sym same) ∙ sym last in
    record {
      long = ap length (sym both.1) ∙ size;
      bytes = ap with_first (sym both.1) ∙ ap (λ (x : List ℕ). take 20 written ++ x) again ∙ parts;
    }

-- ---- the field

as_hash_field : (text digest : List ℕ) → IsSha1FieldOf text digest → IsHashFieldOf 21 map_sha1 text (with_first digest)
as_hash_field text digest is = (with_first_long digest is.0, with_first_below digest is.1, is.2)

kept_length : (b bytes : List ℕ) (t : Bool) → (length b == 21) ≡ t → (if t then Some b else None) ≡ Some bytes
    → length bytes ≡ 21
kept_length b bytes true is h =
    let same : length b ≡ 21 = grind (arith, nat_tests, is) in
    ap length (sym (same_Some b bytes h)) ∙ same
kept_length b bytes false is h = absurd (none-some bytes h)

long : (r : Option (List ℕ)) (bytes : List ℕ) → of_length 21 r ≡ Some bytes → length bytes ≡ 21
long None bytes h = absurd (none-some bytes h)
long (Some b) bytes h = kept_length b bytes (length b == 21) refl h

-- the bytes of a field in the order of the digest
pub placed : (text bytes : List ℕ) → field_bytes 21 text ≡ Some bytes
    → IsHashFieldOf 21 map_sha1 text (in_order map_sha1 bytes)
placed text bytes h =
    of_hash.decoded 21 map_sha1 map_sha1 text bytes (in_order map_sha1 bytes) refl refl
    (long (decoding base64_sha_crypt text) bytes h) refl refl h refl

one_order : (text x y : List ℕ) → IsHashFieldOf 21 map_sha1 text x → IsHashFieldOf 21 map_sha1 text y → x ≡ y
one_order text x y of_x of_y =
    of_hash.field_once 21 map_sha1 map_sha1 x y refl refl refl refl of_x.0 of_y.0 of_x.1 of_y.1 (sym of_x.2 ∙ of_y.2)

-- the digest of a field is found in it
pub field_read : (text digest bytes : List ℕ) → IsSha1FieldOf text digest → field_bytes 21 text ≡ Some bytes
    → placed_digest bytes ≡ Some digest
field_read text digest bytes is h =
    ap digest_of (one_order text (in_order map_sha1 bytes) (with_first digest) (placed text bytes h) (as_hash_field text digest is))
    ∙ found digest is.0

no_bytes : (text digest : List ℕ) → field_bytes 21 text ≡ None → IsSha1FieldOf text digest → ⊥
no_bytes text digest none is = of_hash.not_decoded 21 map_sha1 text (with_first digest) refl none (as_hash_field text digest is)

-- and what is found is the digest of the field
pub digest_found : (text bytes digest : List ℕ) → field_bytes 21 text ≡ Some bytes → placed_digest bytes ≡ Some digest
    → IsSha1FieldOf text digest
digest_found text bytes digest h is =
    let field = placed text bytes h in
    let w : List ℕ = in_order map_sha1 bytes in
    let f = written_is w digest field.0 is in
    let front : take 20 w ≡ digest = (kept (slice_index w 20 == slice_index w 0) (take 20 w) digest is).1 in (
      f.long,
      subst (EachBelow 256) front (below-take 256 20 w (omega arith) field.1),
      field.2 ∙ ap (hash_field map_sha1) (sym f.bytes),
    )

-- ---- what the decoder gives

pub answer_found : (text bytes : List ℕ) (r : Option (List ℕ)) → field_bytes 21 text ≡ Some bytes → r ≡ placed_digest bytes
    → MatchOption r ((digest : List ℕ) → IsSha1FieldOf text digest → ⊥) (λ digest. IsSha1FieldOf text digest)
answer_found text bytes None h e = λ digest is. none-some digest (e ∙ field_read text digest bytes is h)
answer_found text bytes (Some digest) h e = digest_found text bytes digest h (sym e)

pub answer_none : (text : List ℕ) → field_bytes 21 text ≡ None → (digest : List ℕ) → IsSha1FieldOf text digest → ⊥
answer_none text none digest is = no_bytes text digest none is

-- a field has 28 characters
pub field_long : (digest : List ℕ) → length digest ≡ 20 → EachBelow 256 digest → length (sha1_field digest) ≡ 28
unfolding hash_field
field_long digest len below =
    let w : List ℕ = with_first digest in
    let small : EachBelow 256 (in_order map_sha1 w) = of_hash.below_map map_sha1 w (with_first_below digest below) in
    length-decodable base64_sha_crypt (encoding base64_sha_crypt (in_order map_sha1 w)) (in_order map_sha1 w) refl
    (decoding-encoding base64_sha_crypt (in_order map_sha1 w) refl small)

pub field_length : (text digest : List ℕ) → IsSha1FieldOf text digest → length text ≡ 28
field_length text digest is = ap length is.2 ∙ field_long digest is.0 is.1

-- ---- one digest for a field

pub field_once : FieldOnce
field_once x y lx ly below_x below_y same =
    let bytes : with_first x ≡ with_first y =
    of_hash.field_once 21 map_sha1 map_sha1 (with_first x) (with_first y) refl refl refl refl (with_first_long x lx)
    (with_first_long y ly) (with_first_below x below_x) (with_first_below y below_y) same in
    same_Some x y (sym (found x lx) ∙ ap digest_of bytes ∙ found y ly)
