-- The text of the record that scrypt makes of a password and a salt.
use Rattle.std.proofs.Common.{◌≡◌, ℕ, ◌*◌, ◌^◌, ◌≤◌, true, List, [], ◌∷◌, ◌++◌, length, refl, sym, ap, ◌∙◌, append-nil}
use Rattle.std.proofs.Common.{append_assoc, arith, Ok}
use Rattle.std.specs.Prelude.{codes, Some, None}
use Rattle.std.specs.List.{list_all}
use Rattle.std.proofs.lemmas.Bool.Decides.{nat_tests}
use Rattle.base64ct.specs.Encoding.{EachBelow}
use Rattle.mcf.specs.Grammar.{Parts, fault, field_fault, first_field_fault, is_field_byte, mcf, parts}
use Rattle.mcf.specs.Grammar.{parts_text}
use Rattle.mcf.proofs.Built.{mcf-parts_text}
use Rattle.mcf.proofs.ValidTexts.{pieces_of_valid}
use Rattle.mcf.proofs.Pushed.{good_field}
use Rattle.pieces.proofs.FaultLaws.{value_found}
use Rattle.phc.specs.Encoded.{encoding}
use Rattle.phc.specs.Grammar.{is_value_byte}
use Rattle.phc.specs.Params.{Pairs, pairs_text}
use Rattle.phc.specs.Record.{IsRecord, is_pair, phc, phc_of_pieces, phc_text, record_text}
use Rattle.phc.specs.declared.password_hash.PasswordHash.{PasswordHash}
use Rattle.phc.proofs.Characters.{all_weaker, encoding_value}
use Rattle.phc.proofs.EncodedBytes.{encoded_length}
use Rattle.phc.proofs.ParsedBack.{parses_back}
use Rattle.phc_kdf.proofs.MadeRecords.{IsMadeRecord}
use Rattle.phc_kdf.proofs.RecordFields.{encoded_good, read_phc}
use Rattle.scrypt_plain.specs.Lengths.{length-pbkdf2_once}
use Rattle.scrypt_plain.specs.Pbkdf2.{pbkdf2_once}
use Rattle.scrypt_plain.specs.Profile.{accepted, cost_of, key, scrypt_accepts, scrypt_key}
use Rattle.scrypt_plain.specs.Bounds.{in_bounds}
use Rattle.scrypt_plain.specs.Scrypt.{mixed_parts, scrypt}
use Rattle.scrypt_plain.specs.declared.profile.Cost.{Cost}
use Rattle.scrypt_plain.proofs.KeyBytes.{scrypt_bytes}

-- the parameters, for the texts of three decimals
abbrev pub made_params : List ℕ → List ℕ → List ℕ → Pairs
made_params ln r p = (codes "ln", ln) ∷ (codes "r", r) ∷ (codes "p", p) ∷ []

abbrev pub made_record : List ℕ → List ℕ → List ℕ → List ℕ → List ℕ → PasswordHash
made_record ln r p salt hash = record {
  algorithm = codes "scrypt";
  version = None;
  params = made_params ln r p;
  salt = Some salt;
  hash = Some hash;
}

-- the key of 32 bytes, with N = 2 ^ n, blocks of 128 * b bytes and c parts
abbrev pub made_key : ℕ → ℕ → ℕ → List ℕ → List ℕ → List ℕ
made_key n b c password salt = scrypt password salt (2 ^ n) b c 32

-- the text of the record of a password's key
abbrev pub made_text : List ℕ → List ℕ → List ℕ → ℕ → ℕ → ℕ → List ℕ → List ℕ → List ℕ
made_text ln r p n b c password salt = record_text (made_record ln r p salt (made_key n b c password salt))

abbrev cost : ℕ → ℕ → ℕ → Cost
cost n b c = record { ln = n; r = b; p = c }

-- three texts are the decimals of parameters in bounds
pub record IsWritten (ln r p : List ℕ) (n b c : ℕ) : Type 0 where
  pub pairs : list_all is_pair (made_params ln r p) ≡ true
  pub short : length (pairs_text (made_params ln r p)) ≤ 127
  pub field : field_fault (pairs_text (made_params ln r p)) ≡ None
  pub numbers : cost_of (made_record ln r p [] []) ≡ Some (cost n b c)
  pub bounds : in_bounds n b c ≡ true

-- ---- fields

key_length : (password salt : List ℕ) (n r p : ℕ) → length (scrypt password salt n r p 32) ≡ 32
key_length password salt n r p =
    length-pbkdf2_once password (mixed_parts n r p (pbkdf2_once password salt (128 * r * p))) 32

module _ (ln r p : List ℕ) (n b c : ℕ) (written : IsWritten ln r p n b c) where
  record_valid : (salt hash : List ℕ) → EachBelow 256 salt → 8 ≤ length salt → length salt ≤ 48 → EachBelow 256 hash
      → length hash ≡ 32
      → IsRecord (made_record ln r p salt hash)
  record_valid salt hash salt_below least most hash_below size = record {
    algorithm = refl;
    version = tt;
    pairs = written.pairs;
    params = written.short;
    salt = (salt_below, least, most);
    hash = (hash_below, omega (arith, size), omega (arith, size));
  }

  abbrev pub made_parts : List ℕ → List ℕ → Parts
  made_parts salt hash = record {
    id = codes "scrypt";
    fields = pairs_text (made_params ln r p) ∷ encoding salt ∷ encoding hash ∷ [];
  }

  parts_printed : (salt hash : List ℕ) → parts_text (made_parts salt hash) ≡ record_text (made_record ln r p salt hash)
  unfolding record_text
  parts_printed salt hash =
      let params : List ℕ = 36 ∷ pairs_text (made_params ln r p) in
      ap (λ (t : List ℕ). codes "$scrypt" ++ (params ++ ((36 ∷ encoding salt) ++ t))) (append-nil (36 ∷ encoding hash))
      ∙ ap (λ (t : List ℕ). codes "$scrypt" ++ t) (sym (append_assoc params (36 ∷ encoding salt) (36 ∷ encoding hash)))

  accepts : (salt hash : List ℕ) → scrypt_accepts (made_record ln r p salt hash) 32 ≡ true
  unfolding scrypt_accepts
  accepts salt hash = rw (written.numbers, written.bounds) refl

  keys : (asked salt hash : List ℕ)
      → scrypt_key asked (made_record ln r p salt hash) salt 32 ≡ made_key n b c asked salt
  unfolding scrypt_key
  keys asked salt hash = rw written.numbers refl

  module _ (password salt : List ℕ) (below : EachBelow 256 salt) (least : 8 ≤ length salt) (most : length salt ≤ 48)
    where
      -- its parts
      pub made_read : mcf (made_text ln r p n b c password salt) ≡ Ok (made_parts salt (made_key n b c password salt))
      made_read =
          let k : List ℕ = made_key n b c password salt in
          let size : length k ≡ 32 = key_length password salt (2 ^ n) b c in
          let of_salt : field_fault (encoding salt) ≡ None = encoded_good salt below (omega (arith, least)) in
          let of_key : field_fault (encoding k) ≡ None =
          encoded_good k (scrypt_bytes password salt (2 ^ n) b c 32) (omega (arith, size)) in
          let good : first_field_fault (made_parts salt k).fields ≡ None = rw (written.field, of_salt, of_key) refl in
          ap mcf (sym (parts_printed salt k)) ∙ mcf-parts_text (made_parts salt k) refl good

      -- so each password has a verdict on it, and its own matches
      pub scrypt_made : IsMadeRecord accepted key (codes "scrypt") password (made_text ln r p n b c password salt)
      scrypt_made =
          let k : List ℕ = made_key n b c password salt in
          let size : length k ≡ 32 = key_length password salt (2 ^ n) b c in
          let made : PasswordHash = made_record ln r p salt k in
          let q : Parts = made_parts salt k in
          let valid : IsRecord made =
          record_valid salt k below least most (scrypt_bytes password salt (2 ^ n) b c 32) size in
          let is_record : phc q.id q.fields ≡ Ok made =
          sym (read_phc (record_text made) q made_read) ∙ parses_back made valid refl in
          record {
            fields = q.fields;
            made = made;
            salt = salt;
            hash = k;
            read = made_read;
            is_record = is_record;
            has_salt = refl;
            has_hash = refl;
            takes = rw size (accepts salt k);
            is_key = rw size (keys password salt k);
          }
