-- The verdicts on texts that SHA-crypt makes, and on those of records that a derivation makes.
use Rattle.std.proofs.Common.{◌≡◌, ℕ, ◌≤◌, Bool, true, false, List, [], ◌∷◌, ◌++◌, length, refl, ap, ap₂, ◌∙◌, arith, Ok}
use Rattle.std.specs.Prelude.{not, nat_lt, Option, Some, None, Result, Err, if◌then◌else◌}
use Rattle.std.specs.List.{list_all}
use Rattle.std.proofs.lemmas.Bool.Decides.{nat_tests}
use Rattle.base64ct.proofs.DecodingLaws.{true_same}
use Rattle.mcf.specs.Grammar.{mcf, field_fault, first_field_fault, is_field_byte, is_identifier, Parts}
use Rattle.mcf.proofs.Built.{mcf-parts_text}
use Rattle.mcf.proofs.Pushed.{good_field}
use Rattle.phc.specs.Encoded.{encoding}
use Rattle.phc.specs.declared.password_hash.PasswordHash.{PasswordHash}
use Rattle.phc_kdf.proofs.MadeRecords.{IsMadeRecord}
use Rattle.sha_crypt.specs.Check.{hash_matches}
use Rattle.sha_crypt.specs.Families.{Scheme, scheme_fields}
use Rattle.sha_crypt.specs.Fields.{ShaFields}
use Rattle.sha_crypt.specs.Records.{family_id, family_scheme, field_pieces, rounds_pieces}
use Rattle.sha_crypt.specs.Simple.{made_fields, made_text}
use Rattle.sha_crypt.specs.declared.errors.Family.{Family}
use Rattle.sha_crypt.specs.declared.errors.Family.TheVariants.{Sha256, Sha512}
use Rattle.sha_crypt.proofs.Digests.{hash_passes, hash_some, is_scheme, made_hash}
use Rattle.sha_crypt.proofs.MadeTexts.{IsSalt, by_default, made_read}
use Rattle.stored_check.specs.Verdict.{key_answer, parts_answer, phc_answer, same_text, scheme_of, sha_answer, text_answer, verdict}
use Rattle.stored_check.specs.declared.error.StoredError.{StoredError}
use Rattle.stored_check.specs.declared.error.StoredError.TheVariants.{Kdf}
use Rattle.stored_check.proofs.Normals.{rounds_field}
use Rattle.stored_check.proofs.Records.{printed_is}

pub is_name : (family : Family) → is_identifier (family_id family) ≡ true
is_name Sha256 = refl
is_name Sha512 = refl

is_family : (family : Family) → scheme_of (family_id family) ≡ Some (family_scheme family)
is_family Sha256 = refl
is_family Sha512 = refl

module _ (accepted : PasswordHash → List ℕ → ℕ → Bool) (tag : List ℕ → PasswordHash → List ℕ → ℕ → List ℕ) where
  -- a text of a password: each password that is asked has a verdict on it, and this one matches
  abbrev pub IsMade : List ℕ → List ℕ → Type 0
  IsMade password text = (matches : List ℕ → Bool)
      × ((asked : List ℕ) → length asked ≤ 4096 → verdict accepted tag asked text ≡ Ok (matches asked))
      × (matches password ≡ true)

  -- the verdict by the parts
  pub of_parts : (asked text : List ℕ) (p : Parts) → length asked ≤ 4096 → mcf text ≡ Ok p
      → verdict accepted tag asked text ≡ parts_answer accepted tag asked (scheme_of p.id) p
  unfolding verdict
  of_parts asked text p fits is =
      let test : nat_lt 4096 (length asked) ≡ false = grind (arith, nat_tests, fits) in
      rw test (ap (text_answer accepted tag asked) is)

  abbrev if_taken : Bool → Bool → Result Bool StoredError
  if_taken taken matches = if taken then Ok matches else Err Kdf

  -- by a salt and a hash that the derivation takes
  of_key : (asked : List ℕ) (r : PasswordHash) (salt hash : List ℕ) (its_salt its_hash : Option (List ℕ))
      → its_salt ≡ Some salt → its_hash ≡ Some hash → accepted r salt (length hash) ≡ true
      → key_answer accepted tag asked r its_salt its_hash
      ≡ Ok (same_text (encoding hash) (encoding (tag asked r salt (length hash))))
  of_key asked r salt hash its_salt its_hash of_salt of_hash takes =
      ap₂ (λ (x y : Option (List ℕ)). key_answer accepted tag asked r x y) of_salt of_hash
      ∙ ap (λ (t : Bool). if_taken t (same_text (encoding hash) (encoding (tag asked r salt (length hash))))) takes

  -- the text of a record that the derivation makes, whose identifier is no family's
  pub record_made : (id password text : List ℕ) → scheme_of id ≡ None
      → IsMadeRecord accepted tag id password text → IsMade password text
  record_made id password text none m =
      let p : Parts = record { id = id; fields = m.fields } in (
        λ (asked : List ℕ). same_text (encoding m.hash) (encoding (tag asked m.made m.salt (length m.hash))),
        λ (asked : List ℕ) fits. of_parts asked text p fits m.read
            ∙ ap (λ o. parts_answer accepted tag asked o p) none ∙ ap (phc_answer accepted tag asked) m.is_record
            ∙ of_key asked m.made m.salt m.hash m.made.salt m.made.hash m.has_salt m.has_hash m.takes,
        ap (λ (k : List ℕ). same_text (encoding m.hash) (encoding k)) m.is_key ∙ true_same (encoding m.hash),
      )

  module _ (family : Family) (password salt : List ℕ) (n : ℕ) (least : 1000 ≤ n) (most : n ≤ 999999999)
      (good : IsSalt salt) (some : 1 ≤ length salt)
      (plain : list_all is_field_byte salt ≡ true) where
    fields_good : first_field_fault (field_pieces (made_fields (family_scheme family) password salt n)) ≡ None
    fields_good =
        let is = is_scheme family in
        let hash : List ℕ = made_hash (family_scheme family) password salt n in
        let of_salt : field_fault salt ≡ None = good_field salt some plain in
        let of_hash : field_fault hash ≡ None =
        good_field hash (hash_some (family_scheme family) is password salt n (omega (arith, least)))
        (hash_passes is_field_byte (family_scheme family) is password salt n (omega (arith, least)) refl) in
        by_default (λ (t : Bool). first_field_fault (rounds_pieces (not t) n ++ salt ∷ (hash ∷ [])) ≡ None) n
        (λ default. rw (of_salt, of_hash) refl)
        (λ other. rw (rounds_field n (omega (arith, most)), of_salt, of_hash) refl)

    read : mcf (made_text family password salt n)
        ≡ Ok (record {
          id = family_id family;
          fields = field_pieces (made_fields (family_scheme family) password salt n);
        })
    read =
        ap mcf (printed_is family (made_fields (family_scheme family) password salt n))
        ∙ mcf-parts_text (record {
          id = family_id family;
          fields = field_pieces (made_fields (family_scheme family) password salt n);
        }) (is_name family) fields_good

    -- the text that a family makes of a password and a salt of field characters
    pub sha_made : IsMade password (made_text family password salt n)
    sha_made =
        let s : Scheme = family_scheme family in
        let f : ShaFields = made_fields (family_scheme family) password salt n in
        let p : Parts = record { id = family_id family; fields = field_pieces f } in
        let fields : scheme_fields s (field_pieces f) ≡ Ok f =
        made_read s (is_scheme family) password salt n least most good in (
          λ (asked : List ℕ). hash_matches s.hash s.places asked f,
          λ (asked : List ℕ) fits. of_parts asked (made_text family password salt n) p fits read
              ∙ ap (λ o. parts_answer accepted tag asked o p) (is_family family) ∙ ap (sha_answer s asked) fields,
          true_same f.hash,
        )
