-- A valid text is the text of its parts, and such a text is read back.
use Rattle.std.proofs.Common.{◌≡◌, ℕ, suc, ◌≤◌, true, List, [], ◌∷◌, length, map, refl, sym, ap, subst}
use Rattle.std.proofs.Common.{◌∙◌, arith, Result, Ok, Err}
use Rattle.std.specs.Prelude.{◌==◌, codes, nat_eq, nat_le, Option, Some, None, if◌then◌else◌}
use Rattle.std.specs.Cmp.Lexicographic.{pointwise}
use Rattle.std.specs.Fmt.{decimal}
use Rattle.std.specs.List.{join_with_byte, list_all}
use Rattle.std.proofs.lemmas.Bool.{and_parts}
use Rattle.std.proofs.lemmas.Bool.Decides.{nat_tests}
use Rattle.base64ct.specs.Alphabets.{base64_sha_crypt}
use Rattle.base64ct.specs.Encoding.{EachBelow, character, encoding, groups}
use Rattle.base64ct.proofs.DecodingLaws.{decoding_is, same_true}
use Rattle.base64ct.proofs.Encodings.{groups-below}
use Rattle.pieces.specs.Characters.{is_crypt_character}
use Rattle.pieces.specs.Lists.{is_empty}
use Rattle.pieces.specs.Pieces.{LacksByte, pieces_at}
use Rattle.pieces.proofs.ByteTests.{all_append, lacks, passes_at}
use Rattle.pieces.proofs.Cuts.{cut_joined, join_pieces, lacks_none}
use Rattle.pieces.proofs.FaultLaws.{err_ok, where_so}
use Rattle.pieces.proofs.ListLaws.{nil_of_empty}
use Rattle.plain_rounds.specs.Rounds.{rounds_of}
use Rattle.plain_rounds.proofs.Decimals.{IsRounds, rounds_are, rounds_lack_dollar, rounds_read}
use Rattle.sha_crypt.specs.HashField.{field_bytes, hash_field, in_order, of_length}
use Rattle.sha_crypt.proofs.HashFields.{below_map}
use Rattle.sha1_crypt.specs.Check.{AreValid, text_of}
use Rattle.sha1_crypt.specs.Field.{IsSha1FieldOf, map_sha1, placed_digest, sha1_field, with_first}
use Rattle.sha1_crypt.specs.Text.{Fields, Parts, by_bytes, by_digest, by_hash, by_rounds, by_salt, from_front, from_identifier}
use Rattle.sha1_crypt.specs.Text.{has_salt_length, parts_of, split_fields, text_fields, text_parts}
use Rattle.sha1_crypt.specs.declared.error.Sha1Fault.{Sha1Fault}
use Rattle.sha1_crypt.specs.declared.error.Sha1Fault.TheVariants.{NoDollar, WrongId, NoRounds, NoSalt, NoHash, Trailing}
use Rattle.sha1_crypt.specs.declared.error.Sha1Fault.TheVariants.{Rounds, SaltLength, SaltCharacter}
use Rattle.sha1_crypt.specs.declared.error.Sha1Fault.TheVariants.{HashLength, HashCharacter, FirstByte}
use Rattle.sha1_crypt.proofs.Fields.{digest_found, field_long, field_read, with_first_below}

-- ---- the pieces

abbrev pieces_of : Fields → List (List ℕ)
pieces_of f = f.rounds ∷ (f.salt ∷ (f.hash ∷ []))

of_fields : (pieces : List (List ℕ)) (f : Fields) → split_fields pieces ≡ Ok f → pieces ≡ pieces_of f
of_fields [] f e = absurd (err_ok NoRounds f e)
of_fields (rounds ∷ []) f e = absurd (err_ok NoSalt f e)
of_fields (rounds ∷ (salt ∷ [])) f e = absurd (err_ok NoHash f e)
of_fields (rounds ∷ (salt ∷ (hash ∷ more))) f e =
    let both = where_so (is_empty more) Trailing (Ok (record { rounds = rounds; salt = salt; hash = hash })) f e in
    let is : record { rounds = rounds; salt = salt; hash = hash } ≡ f = cc in
    rw (nil_of_empty more both.0) (ap pieces_of is)

of_identifier : (pieces : List (List ℕ)) (f : Fields) → from_identifier pieces ≡ Ok f
    → pieces ≡ codes "sha1" ∷ pieces_of f
of_identifier [] f e = absurd (err_ok WrongId f e)
of_identifier (id ∷ pieces) f e =
    let both = where_so (pointwise nat_eq id (codes "sha1")) WrongId (split_fields pieces) f e in
    ap (λ (x : List ℕ). x ∷ pieces) (same_true id (codes "sha1") both.0)
    ∙ ap (λ (ps : List (List ℕ)). codes "sha1" ∷ ps) (of_fields pieces f both.1)

of_front : (pieces : List (List ℕ)) (f : Fields) → from_front pieces ≡ Ok f → pieces ≡ [] ∷ (codes "sha1" ∷ pieces_of f)
of_front [] f e = absurd (err_ok NoDollar f e)
of_front (front ∷ others) f e =
    let both = where_so (is_empty front) NoDollar (from_identifier others) f e in
    ap (λ (x : List ℕ). x ∷ others) (nil_of_empty front both.0)
    ∙ ap (λ (ps : List (List ℕ)). [] ∷ ps) (of_identifier others f both.1)

text_joins : (text : List ℕ) (f : Fields) → text_fields text ≡ Ok f
    → join_with_byte 36 ([] ∷ (codes "sha1" ∷ pieces_of f)) ≡ text
unfolding text_fields
text_joins text f e = ap (join_with_byte 36) (sym (of_front (pieces_at 36 text) f e)) ∙ join_pieces 36 text

-- ---- the salt and the hash

abbrev pub read_parts : ℕ → List ℕ → List ℕ → Parts
read_parts rounds salt hash = record { rounds = rounds; salt = salt; hash = hash }

of_digest : (rounds : ℕ) (salt hash bytes : List ℕ) (p : Parts) (r : Option (List ℕ)) → field_bytes 21 hash ≡ Some bytes
    → placed_digest bytes ≡ r → by_digest rounds salt r ≡ Ok p
    → (digest : List ℕ) × (read_parts rounds salt digest ≡ p) × IsSha1FieldOf hash digest
of_digest rounds salt hash bytes p None read placed e = absurd (err_ok FirstByte p e)
of_digest rounds salt hash bytes p (Some digest) read placed e =
    let is : read_parts rounds salt digest ≡ p = cc in
    (digest, is, digest_found hash bytes digest read placed)

of_bytes : (rounds : ℕ) (salt hash : List ℕ) (p : Parts) (o : Option (List ℕ)) → field_bytes 21 hash ≡ o
    → by_bytes rounds salt o ≡ Ok p → (digest : List ℕ) × (read_parts rounds salt digest ≡ p) × IsSha1FieldOf hash digest
of_bytes rounds salt hash p None read e = absurd (err_ok HashCharacter p e)
of_bytes rounds salt hash p (Some bytes) read e =
    of_digest rounds salt hash bytes p (placed_digest bytes) read refl e

of_hash : (rounds : ℕ) (salt hash : List ℕ) (p : Parts) → by_hash rounds salt hash ≡ Ok p
    → (digest : List ℕ) × (read_parts rounds salt digest ≡ p) × IsSha1FieldOf hash digest
of_hash rounds salt hash p e =
    let both = where_so (length hash == 28) HashLength (by_bytes rounds salt (field_bytes 21 hash)) p e in
    of_bytes rounds salt hash p (field_bytes 21 hash) refl both.1

salt_length : (salt : List ℕ) → has_salt_length salt ≡ true → (1 ≤ length salt) × (length salt ≤ 64)
salt_length salt h =
    let tests = and_parts (nat_le 1 (length salt)) (nat_le (length salt) 64) h in
    (grind (arith, nat_tests, tests.0), grind (arith, nat_tests, tests.1))

-- ---- the parts

-- a text is that of rounds and a salt that a text may have, and of a digest
pub record IsTextOf (text : List ℕ) (p : Parts) : Type 0 where
  pub valid : AreValid p.rounds p.salt
  pub below : EachBelow 256 p.hash
  pub is : text_of p.rounds p.salt p.hash ≡ text

of_salt : (text : List ℕ) (f : Fields) (n : ℕ) (p : Parts) → text_fields text ≡ Ok f → IsRounds f.rounds n
    → by_salt n f.salt f.hash ≡ Ok p → IsTextOf text p
of_salt text f n p read rounds e =
    let outer = where_so (has_salt_length f.salt) SaltLength
    (if list_all is_crypt_character f.salt then by_hash n f.salt f.hash else Err SaltCharacter) p e in
    let inner = where_so (list_all is_crypt_character f.salt) SaltCharacter (by_hash n f.salt f.hash) p outer.1 in
    let size = salt_length f.salt outer.0 in
    let hash = of_hash n f.salt f.hash p inner.1 in
    subst (IsTextOf text) hash.1
    (record {
      valid = record { least = rounds.least; most = rounds.most; some = size.0; short = size.1; characters = inner.0 };
      below = hash.2.1;
      is = ap (λ (d : List ℕ). join_with_byte 36 ([] ∷ (codes "sha1" ∷ (d ∷ (f.salt ∷ (sha1_field hash.0 ∷ [])))))) rounds.is
          ∙ ap (λ (h : List ℕ). join_with_byte 36 ([] ∷ (codes "sha1" ∷ (f.rounds ∷ (f.salt ∷ (h ∷ [])))))) (sym hash.2.2)
          ∙ text_joins text f read;
    })

of_rounds : (text : List ℕ) (f : Fields) (o : Option ℕ) (p : Parts) → text_fields text ≡ Ok f → rounds_of f.rounds ≡ o
    → by_rounds o f.salt f.hash ≡ Ok p → IsTextOf text p
of_rounds text f None p read is e = absurd (err_ok Rounds p e)
of_rounds text f (Some n) p read is e =
    of_salt text f n p read (rounds_are f.rounds n is) e

by_text : (text : List ℕ) (r : Result Fields Sha1Fault) (p : Parts) → text_fields text ≡ r → parts_of r ≡ Ok p
    → IsTextOf text p
by_text text (Err e) p read h = absurd (err_ok e p h)
by_text text (Ok f) p read h = of_rounds text f (rounds_of f.rounds) p read refl h

pub is_text_of : (text : List ℕ) (p : Parts) → text_parts text ≡ Ok p → IsTextOf text p
unfolding text_parts
is_text_of text p h = by_text text (text_fields text) p refl h

-- ---- a text is read back

values_of : (values : List ℕ) → EachBelow 64 values
    → list_all is_crypt_character (map (character base64_sha_crypt) values) ≡ true
values_of [] below = refl
values_of (v ∷ values) below =
    rw (passes_at is_crypt_character base64_sha_crypt.characters v refl (below 0)) (values_of values (λ i. below (suc i)))

without_dollar : (text : List ℕ) → list_all is_crypt_character text ≡ true → LacksByte 36 text
without_dollar text h = lacks is_crypt_character 36 refl text h

pub written_below : (digest : List ℕ) → EachBelow 256 digest → EachBelow 256 (in_order map_sha1 (with_first digest))
written_below digest below = below_map map_sha1 (with_first digest) (with_first_below digest below)

sha1_field_lacks : (digest : List ℕ) → EachBelow 256 digest → LacksByte 36 (sha1_field digest)
unfolding hash_field encoding
sha1_field_lacks digest below =
    let bytes : List ℕ = in_order map_sha1 (with_first digest) in
    without_dollar (sha1_field digest)
    (all_append is_crypt_character (map (character base64_sha_crypt) (groups true bytes)) []
    (values_of (groups true bytes) (groups-below true bytes (written_below digest below))) refl)

bytes_read : (digest : List ℕ) → EachBelow 256 digest
    → field_bytes 21 (sha1_field digest) ≡ Some (in_order map_sha1 (with_first digest))
unfolding hash_field
bytes_read digest below =
    let bytes : List ℕ = in_order map_sha1 (with_first digest) in
    ap (of_length 21)
    (decoding_is base64_sha_crypt (encoding base64_sha_crypt bytes) bytes refl (written_below digest below) refl)

hash_read : (rounds : ℕ) (salt digest : List ℕ) → length digest ≡ 20 → EachBelow 256 digest
    → by_hash rounds salt (sha1_field digest) ≡ Ok (read_parts rounds salt digest)
hash_read rounds salt digest long below =
    let field : IsSha1FieldOf (sha1_field digest) digest = (long, below, refl) in
    let bytes = bytes_read digest below in
    let size : length (sha1_field digest) ≡ 28 = field_long digest long below in
    let test : (length (sha1_field digest) == 28) ≡ true = grind (arith, nat_tests, size) in
    let found = field_read (sha1_field digest) digest (in_order map_sha1 (with_first digest)) field bytes in
    rw (test, bytes, found) refl

salt_read : (rounds : ℕ) (salt digest : List ℕ) → AreValid rounds salt → length digest ≡ 20 → EachBelow 256 digest
    → by_salt rounds salt (sha1_field digest) ≡ Ok (read_parts rounds salt digest)
salt_read rounds salt digest valid long below =
    let some : nat_le 1 (length salt) ≡ true = grind (arith, nat_tests, valid.some) in
    let short : nat_le (length salt) 64 ≡ true = grind (arith, nat_tests, valid.short) in
    rw (some, short, valid.characters) (hash_read rounds salt digest long below)

abbrev fields : List ℕ → List ℕ → List ℕ → Fields
fields rounds salt hash = record { rounds = rounds; salt = salt; hash = hash }

fields_read : (rounds salt hash : List ℕ) → LacksByte 36 rounds → LacksByte 36 salt → LacksByte 36 hash
    → text_fields (join_with_byte 36 ([] ∷ (codes "sha1" ∷ (rounds ∷ (salt ∷ (hash ∷ [])))))) ≡ Ok (fields rounds salt hash)
unfolding text_fields
fields_read rounds salt hash of_rounds of_salt of_hash =
    let cut = cut_joined 36 [] (codes "sha1" ∷ (rounds ∷ (salt ∷ (hash ∷ [])))) (lacks_none 36)
    (without_dollar (codes "sha1") refl, (of_rounds, (of_salt, (of_hash, tt)))) in
    rw cut refl

pub text_read : (rounds : ℕ) (salt digest : List ℕ) → AreValid rounds salt → length digest ≡ 20 → EachBelow 256 digest
    → text_parts (text_of rounds salt digest) ≡ Ok (read_parts rounds salt digest)
unfolding text_parts
text_read rounds salt digest valid long below =
    let cut = fields_read (decimal rounds) salt (sha1_field digest) (rounds_lack_dollar rounds valid.most)
    (without_dollar salt valid.characters) (sha1_field_lacks digest below) in
    ap parts_of cut
    ∙ ap (λ (o : Option ℕ). by_rounds o salt (sha1_field digest)) (rounds_read rounds valid.least valid.most)
    ∙ salt_read rounds salt digest valid long below
