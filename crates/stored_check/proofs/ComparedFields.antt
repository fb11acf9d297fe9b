-- The hash field that a verdict compares.
use Rattle.std.proofs.Common.{◌≡◌, ℕ, Bool, true, false, List, length, refl, sym, ap, ◌∙◌, Result, Ok, Err}
use Rattle.std.specs.Prelude.{nat_lt, Option, Some, None, if◌then◌else◌}
use Rattle.std.specs.Option.{option_and_then}
use Rattle.base64ct.specs.Alphabets.{base64_unpadded}
use Rattle.base64ct.proofs.DecodingLaws.{decoding-Some}
use Rattle.mcf.specs.Grammar.{mcf, fault, parts}
use Rattle.mcf.specs.declared.error.Error as mcf_error
use Rattle.phc.specs.Encoded.{decoding, encoding}
use Rattle.phc.specs.Grammar.{fault_of_layout, layout}
use Rattle.pieces.specs.Faults.{value_or_fault}
use Rattle.phc.specs.Record.{phc, record_of_layout}
use Rattle.phc.specs.declared.error.Error as phc_error
use Rattle.phc.specs.declared.password_hash.PasswordHash.{PasswordHash}
use Rattle.sha_crypt.specs.Families.{Scheme}
use Rattle.stored_check.specs.HashFields.{ComparesField}
use Rattle.stored_check.specs.declared.error.StoredError.{StoredError}
use Rattle.stored_check.specs.Verdict.{key_answer, parts_answer, phc_answer, same_text, scheme_of, text_answer, verdict}

abbrev verdict_ok : Bool → Result Bool StoredError
verdict_ok b = Ok b

if_ok : (t : Bool) (e : StoredError) (x : Result Bool StoredError) (b : Bool) → (if t then Err e else x) ≡ Ok b
    → x ≡ Ok b
if_ok true e x b h = absurd cc
if_ok false e x b h = h

or_err : (t : Bool) (e : StoredError) (x : Result Bool StoredError) (b : Bool) → (if t then x else Err e) ≡ Ok b
    → x ≡ Ok b
or_err true e x b h = h
or_err false e x b h = absurd cc

same_ok : (a b : Bool) → verdict_ok a ≡ verdict_ok b → a ≡ b
same_ok a b h = cc

-- the record is that of the layout
of_layout : (q r : PasswordHash) (o : Option phc_error.Error) → value_or_fault q o ≡ Ok r → q ≡ r
of_layout q r None h = cc
of_layout q r (Some e) h = absurd cc

is_layout : (id : List ℕ) (pieces : List (List ℕ)) (r : PasswordHash) → phc id pieces ≡ Ok r
    → record_of_layout id (layout pieces) ≡ r
unfolding phc
is_layout id pieces r h = of_layout (record_of_layout id (layout pieces)) r (fault_of_layout id (layout pieces)) h

-- the field whose decoding is there
field_of : (o : Option (List ℕ)) (hash : List ℕ) → option_and_then decoding o ≡ Some hash
    → (field : List ℕ) × (o ≡ Some field) × (decoding field ≡ Some hash)
field_of None hash h = absurd cc
field_of (Some field) hash h = (field, refl, h)

module _ (accepted : PasswordHash → List ℕ → ℕ → Bool) (tag : List ℕ → PasswordHash → List ℕ → ℕ → List ℕ)
    (password stored : List ℕ) (b : Bool) where
  by_field : (r : PasswordHash) (salt hash : List ℕ) → phc (parts stored).id (parts stored).fields ≡ Ok r
      → r.salt ≡ Some salt → r.hash ≡ Some hash
      → same_text (encoding hash) (encoding (tag password r salt (length hash))) ≡ b
      → ComparesField tag password stored b
  by_field r salt hash read is_salt is_hash compared =
      let same = is_layout (parts stored).id (parts stored).fields r read in
      let found = field_of (layout (parts stored).fields).hash hash
      (ap (λ (q : PasswordHash). q.hash) same ∙ is_hash) in
      let encoded : found.0 ≡ encoding hash = (decoding-Some base64_unpadded found.0 hash found.2).1 in
      record {
        parsed = r;
        salt = salt;
        field = found.0;
        hash = hash;
        is_record = read;
        is_salt = is_salt;
        is_field = found.1;
        decoded = found.2;
        compared = sym compared
            ∙ ap (λ (t : List ℕ). same_text t (encoding (tag password r salt (length hash)))) (sym encoded);
      }

  by_parts : (r : PasswordHash) (salt hash : Option (List ℕ)) → phc (parts stored).id (parts stored).fields ≡ Ok r
      → r.salt ≡ salt → r.hash ≡ hash
      → key_answer accepted tag password r salt hash ≡ Ok b → ComparesField tag password stored b
  by_parts r None hash read is_salt is_hash h = absurd cc
  by_parts r (Some salt) None read is_salt is_hash h = absurd cc
  by_parts r (Some salt) (Some hash) read is_salt is_hash h =
      by_field r salt hash read is_salt is_hash (same_ok _ b (or_err (accepted r salt (length hash)) _ _ b h))

  by_record : (q : Result PasswordHash phc_error.Error) → phc (parts stored).id (parts stored).fields ≡ q
      → phc_answer accepted tag password q ≡ Ok b → ComparesField tag password stored b
  by_record (Err e) read h = absurd cc
  by_record (Ok r) read h = by_parts r r.salt r.hash read refl refl h

  by_scheme : (o : Option Scheme) → o ≡ None → parts_answer accepted tag password o (parts stored) ≡ Ok b
      → ComparesField tag password stored b
  by_scheme (Some s) none h = absurd cc
  by_scheme None none h = by_record (phc (parts stored).id (parts stored).fields) refl h

  by_fault : (o : Option mcf_error.Error) → text_answer accepted tag password (value_or_fault (parts stored) o) ≡ Ok b
      → scheme_of (parts stored).id ≡ None → ComparesField tag password stored b
  by_fault (Some e) h none = absurd cc
  by_fault None h none = by_scheme (scheme_of (parts stored).id) none h

  pub compares_field : scheme_of (parts stored).id ≡ None → verdict accepted tag password stored ≡ Ok b
      → ComparesField tag password stored b
  unfolding verdict mcf
  compares_field none h = by_fault (fault stored) (if_ok (nat_lt 4096 (length password)) _ _ b h) none
