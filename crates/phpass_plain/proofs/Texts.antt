-- A valid text is the text of its parts, and such a text is read back.
use Rattle.std.proofs.Common.{◌≡◌, ℕ, ◌+◌, ◌≤◌, true, List, [], ◌∷◌, ◌++◌, length, take, drop, refl, sym, ap, subst}
use Rattle.std.proofs.Common.{◌∙◌, arith, length-append, inl, inr, Ok, Err}
use Rattle.std.specs.Prelude.{◌==◌, codes, nat_eq, slice_index, Option, Some, None, if◌then◌else◌}
use Rattle.std.specs.List.{list_all, starts_with}
use Rattle.std.proofs.lemmas.Bool.{or_cases}
use Rattle.std.proofs.lemmas.Bool.Decides.{nat_tests}
use Rattle.std.proofs.lemmas.List.{drop_at, length-take-le, take-append-drop, take_at}
use Rattle.std.proofs.lemmas.Option.{same_Some}
use Rattle.base64ct.specs.Alphabets.{base64_sha_crypt}
use Rattle.base64ct.specs.Encoding.{EachBelow, encoding}
use Rattle.base64ct.proofs.DecodingLaws.{decoding-encoding, decoding_is, length-decodable, same_true}
use Rattle.pieces.specs.Characters.{is_crypt_character}
use Rattle.pieces.proofs.FaultLaws.{err_ok, where_so}
use Rattle.sha_crypt.specs.HashField.{field_bytes, hash_field, in_order, of_length}
use Rattle.sha_crypt.proofs.HashFields as of_field
use Rattle.phpass_plain.specs.Check.{AreValid, IsFront, cost_character, text_of}
use Rattle.phpass_plain.specs.Field.{IsPhpassFieldOf, digest_of, map_phpass, phpass_field}
use Rattle.phpass_plain.specs.Text.{Parts, by_bytes, by_cost, by_hash, by_length, cost_of, field_fault, has_front}
use Rattle.phpass_plain.specs.Text.{text_parts}
use Rattle.phpass_plain.specs.declared.error.PhpassFault.{PhpassFault}
use Rattle.phpass_plain.specs.declared.error.PhpassFault.TheVariants.{NoDollar, WrongId, Length, Cost, SaltCharacter}
use Rattle.phpass_plain.proofs.Costs.{character_at, cost_is, cost_read}

-- ---- the places

front_is : (text : List ℕ) → has_front text ≡ true → IsFront (take 3 text)
front_is text h =
    elim (or_cases (starts_with nat_eq text (codes "$P$")) (starts_with nat_eq text (codes "$H$")) h) [
      | inl is ↦ inl (sym (same_true (codes "$P$") (take 3 text) is))
      | inr is ↦ inr (sym (same_true (codes "$H$") (take 3 text) is))
    ]

-- a text of 34 bytes is its identifier, one byte, the next 8, and what follows
at_places : (text : List ℕ) → length text ≡ 34
    → take 3 text ++ slice_index text 3 ∷ take 8 (drop 4 text) ++ drop 12 text ≡ text
at_places [] h = absurd (omega (arith, h))
at_places (a ∷ []) h = absurd (omega (arith, h))
at_places (a ∷ (b ∷ [])) h = absurd (omega (arith, h))
at_places (a ∷ (b ∷ (c ∷ []))) h = absurd (omega (arith, h))
at_places (a ∷ (b ∷ (c ∷ (d ∷ rest)))) h =
    ap (λ (others : List ℕ). a ∷ (b ∷ (c ∷ (d ∷ others)))) (take-append-drop 8 rest)

salt_long : (text : List ℕ) → length text ≡ 34 → length (take 8 (drop 4 text)) ≡ 8
salt_long [] h = absurd (omega (arith, h))
salt_long (a ∷ []) h = absurd (omega (arith, h))
salt_long (a ∷ (b ∷ [])) h = absurd (omega (arith, h))
salt_long (a ∷ (b ∷ (c ∷ []))) h = absurd (omega (arith, h))
salt_long (a ∷ (b ∷ (c ∷ (d ∷ rest)))) h = length-take-le 8 rest (omega (arith, h))

-- ---- the hash

pub field_long : (digest : List ℕ) → EachBelow 256 digest → length (phpass_field digest) ≡ 22
unfolding hash_field
field_long digest below =
    let bytes : List ℕ = in_order map_phpass digest in
    length-decodable base64_sha_crypt (encoding base64_sha_crypt bytes) bytes refl
    (decoding-encoding base64_sha_crypt bytes refl (of_field.below_map map_phpass digest below))

bytes_read : (digest : List ℕ) → EachBelow 256 digest → field_bytes 16 (phpass_field digest) ≡ Some (in_order map_phpass digest)
unfolding hash_field
bytes_read digest below =
    let bytes : List ℕ = in_order map_phpass digest in
    ap (of_length 16)
    (decoding_is base64_sha_crypt (encoding base64_sha_crypt bytes) bytes refl (of_field.below_map map_phpass digest below) refl)

placed_back : (digest : List ℕ) → length digest ≡ 16 → digest_of (in_order map_phpass digest) ≡ digest
placed_back digest long = sym (of_field.ordered_back 16 map_phpass map_phpass digest refl refl long refl refl)

placed_at : (text bytes : List ℕ) → field_bytes 16 text ≡ Some bytes → IsPhpassFieldOf text (digest_of bytes)
placed_at text bytes h =
    let found = of_field.field_found 16 map_phpass map_phpass text (Some bytes) h refl refl refl refl refl in
    let digest : List ℕ = found.0 in
    let field : IsPhpassFieldOf text digest = found.1 in
    let same : bytes ≡ in_order map_phpass digest =
    same_Some bytes (in_order map_phpass digest) (sym h ∙ ap (field_bytes 16) field.2 ∙ bytes_read digest field.1) in
    let is : digest_of bytes ≡ digest = ap digest_of same ∙ placed_back digest field.0 in
    subst (IsPhpassFieldOf text) (sym is) field

-- ---- the parts

abbrev pub read_parts : ℕ → List ℕ → List ℕ → Parts
read_parts cost salt digest = record { cost = cost; salt = salt; digest = digest }

-- the parts are those of a cost, a salt and the characters of a hash
pub record AreOf (o : Option ℕ) (eight field : List ℕ) (p : Parts) : Type 0 where
  pub cost : o ≡ Some p.cost
  pub salt : p.salt ≡ eight
  pub characters : list_all is_crypt_character eight ≡ true
  pub hash : IsPhpassFieldOf field p.digest

of_bytes : (cost : ℕ) (salt hash : List ℕ) (o : Option (List ℕ)) (fault : PhpassFault) (p : Parts)
    → list_all is_crypt_character salt ≡ true → field_bytes 16 hash ≡ o → by_bytes cost salt o fault ≡ Ok p
    → AreOf (Some cost) salt hash p
of_bytes cost salt hash None fault p crypt read h = absurd (err_ok fault p h)
of_bytes cost salt hash (Some bytes) fault p crypt read h =
    let is : read_parts cost salt (digest_of bytes) ≡ p = cc in
    subst (AreOf (Some cost) salt hash) is
    (record { cost = refl; salt = refl; characters = crypt; hash = placed_at hash bytes read })

of_cost : (o : Option ℕ) (salt hash : List ℕ) (p : Parts) → by_cost o salt hash ≡ Ok p → AreOf o salt hash p
of_cost None salt hash p h = absurd (err_ok Cost p h)
of_cost (Some cost) salt hash p h =
    let both = where_so (list_all is_crypt_character salt) SaltCharacter (by_hash cost salt hash) p h in
    of_bytes cost salt hash (field_bytes 16 hash) (field_fault hash) p both.0 refl both.1

-- a text is that of an identifier, a cost and a salt that a text may have, and of a digest
pub record IsTextOf (text : List ℕ) (p : Parts) : Type 0 where
  pub valid : AreValid (take 3 text) p.cost p.salt
  pub is : text_of (take 3 text) p.cost p.salt p.digest ≡ text

of_length_34 : (text : List ℕ) (p : Parts) → IsFront (take 3 text) → length text ≡ 34
    → by_cost (cost_of (slice_index text 3)) (take 8 (drop 4 text)) (drop 12 text) ≡ Ok p → IsTextOf text p
of_length_34 text p front size h =
    let salt : List ℕ = take 8 (drop 4 text) in
    let hash : List ℕ = drop 12 text in
    let are = of_cost (cost_of (slice_index text 3)) salt hash p h in
    let cost = cost_is (slice_index text 3) p.cost are.cost in
    let character : cost_character p.cost ≡ slice_index text 3 = character_at (slice_index text 3) p.cost cost.place in
    record {
      valid = record {
        front = front;
        least = cost.least;
        most = cost.most;
        long = ap length are.salt ∙ salt_long text size;
        characters = ap (list_all is_crypt_character) are.salt ∙ are.characters;
      };
      is = ap (λ (c : ℕ). take 3 text ++ c ∷ p.salt ++ phpass_field p.digest) character
          ∙ ap (λ (s : List ℕ). take 3 text ++ slice_index text 3 ∷ s ++ phpass_field p.digest) are.salt
          ∙ ap (λ (f : List ℕ). take 3 text ++ slice_index text 3 ∷ salt ++ f) (sym are.hash.2)
          ∙ at_places text size;
    }

pub is_text_of : (text : List ℕ) (p : Parts) → text_parts text ≡ Ok p → IsTextOf text p
unfolding text_parts
is_text_of text p h =
    let dollar = where_so (starts_with nat_eq text (codes "$")) NoDollar (if has_front text then by_length text else Err WrongId) p h in
    let front = where_so (has_front text) WrongId (by_length text) p dollar.1 in
    let size = where_so (length text == 34) Length
    (by_cost (cost_of (slice_index text 3)) (take 8 (drop 4 text)) (drop 12 text)) p front.1 in
    let long : length text ≡ 34 = grind (arith, nat_tests, size.0) in
    of_length_34 text p (front_is text front.0) long size.1

-- ---- a text is read back

hash_read : (cost : ℕ) (salt digest : List ℕ) → length digest ≡ 16 → EachBelow 256 digest
    → by_hash cost salt (phpass_field digest) ≡ Ok (read_parts cost salt digest)
hash_read cost salt digest long below =
    rw (bytes_read digest below) (ap (λ (d : List ℕ). Ok (read_parts cost salt d)) (placed_back digest long))

length_read : (a b c cost : ℕ) (salt digest : List ℕ) → 7 ≤ cost → cost ≤ 30 → length salt ≡ 8
    → list_all is_crypt_character salt ≡ true → length digest ≡ 16 → EachBelow 256 digest
    → by_length (a ∷ (b ∷ (c ∷ (cost_character cost ∷ (salt ++ phpass_field digest))))) ≡ Ok (read_parts cost salt digest)
length_read a b c cost salt digest least most eight crypt long below =
    let field : List ℕ = phpass_field digest in
    let sum : length (salt ++ field) ≡ length salt + length field = length-append salt field in
    let size : length (a ∷ (b ∷ (c ∷ (cost_character cost ∷ (salt ++ field))))) ≡ 34 =
    omega (arith, sum, eight, field_long digest below) in
    let test : (length (a ∷ (b ∷ (c ∷ (cost_character cost ∷ (salt ++ field))))) == 34) ≡ true = grind (arith, nat_tests, size) in
    let front : take 8 (salt ++ field) ≡ salt = take_at salt field 8 eight in
    let back : drop 8 (salt ++ field) ≡ field = drop_at salt field 8 eight in
    rw (test, front, back, cost_read cost least most, crypt) (hash_read cost salt digest long below)

pub text_read : (front : List ℕ) (cost : ℕ) (salt digest : List ℕ) → AreValid front cost salt → length digest ≡ 16
    → EachBelow 256 digest → text_parts (text_of front cost salt digest) ≡ Ok (read_parts cost salt digest)
unfolding text_parts
text_read front cost salt digest valid long below =
    let read = λ (b : ℕ). length_read 36 b 36 cost salt digest valid.least valid.most valid.long valid.characters long below in
    elim valid.front [ inl is ↦ rw is (read 80) | inr is ↦ rw is (read 72) ]
