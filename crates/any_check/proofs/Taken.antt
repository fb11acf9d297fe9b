-- Where `check_stored`'s definition has a verdict, the text is SHA-crypt's or a record.
use Rattle.std.proofs.Common.{◌≡◌, ℕ, Bool, true, false, List, length, refl, ap, ◌∙◌, Option, Some, None, Result, Ok}
use Rattle.std.proofs.Common.{Err}
use Rattle.std.specs.Prelude.{nat_lt, if◌then◌else◌}
use Rattle.std.specs.Option.{option_map}
use Rattle.mcf.specs.Grammar.{fault, mcf, parts, Parts}
use Rattle.mcf.specs.declared.error.Error as mcf_error
use Rattle.pieces.specs.Faults.{value_or_fault}
use Rattle.phc.specs.Grammar.{Layout, layout, fault_of_layout}
use Rattle.phc.specs.Record.{phc, record_of_layout}
use Rattle.phc.specs.declared.error.Error as phc_error
use Rattle.phc.specs.declared.password_hash.PasswordHash.{PasswordHash}
use Rattle.sha_crypt.specs.Records.{family_scheme}
use Rattle.sha_crypt.specs.declared.errors.Family.{Family}
use Rattle.stored_check.specs.Verdict.{key_answer, named_family, parts_answer, phc_answer, text_answer, verdict}
use Rattle.stored_check.specs.declared.error.StoredError.{StoredError}
use Rattle.any_check.specs.Laws.{OfCheckStored, TakesRecords}
use Rattle.phc_kdf.specs.Either.{Accepted, Tag}
use Rattle.any_check.specs.Table.{any_verdict, identifier, is_record, of_stored, scheme_answer, text_scheme}
use Rattle.any_check.proofs.Families.{record_stored, sha_if_family, sha_stored}
use Rattle.scheme_list.specs.Schemes.{scheme_named}

module _ (accepted : Accepted) (tag : Tag) (takes : TakesRecords accepted) (password : List ℕ) (b : Bool) where
  by_taken : (t : Bool) (x : Result Bool StoredError) (e : StoredError) → (if t then x else Err e) ≡ Ok b → t ≡ true
  by_taken true x e h = refl
  by_taken false x e h = absurd cc

  of_key : (r : PasswordHash) (salt hash : Option (List ℕ)) → key_answer accepted tag password r salt hash ≡ Ok b
      → is_record (scheme_named r.algorithm) ≡ true
  of_key r None hash h = absurd cc
  of_key r (Some salt) None h = absurd cc
  of_key r (Some salt) (Some hash) h = takes r salt (length hash) (by_taken (accepted r salt (length hash)) _ _ h)

  of_layout : (id : List ℕ) (l : Layout) (o : Option phc_error.Error)
      → phc_answer accepted tag password (value_or_fault (record_of_layout id l) o) ≡ Ok b → is_record (scheme_named id) ≡ true
  of_layout id l (Some e) h = absurd cc
  of_layout id l None h =
      of_key (record_of_layout id l) (record_of_layout id l).salt (record_of_layout id l).hash h

  of_phc : (id : List ℕ) (pieces : List (List ℕ)) → phc_answer accepted tag password (phc id pieces) ≡ Ok b
      → is_record (scheme_named id) ≡ true
  unfolding phc
  of_phc id pieces h = of_layout id (layout pieces) (fault_of_layout id (layout pieces)) h

  of_parts : (p : Parts) (o : Option Family) → o ≡ None
      → parts_answer accepted tag password (option_map family_scheme o) p ≡ Ok b → is_record (scheme_named p.id) ≡ true
  of_parts p None none h = of_phc p.id p.fields h
  of_parts p (Some family) none h = absurd cc

  of_fault : (p : Parts) (o : Option mcf_error.Error) → named_family p.id ≡ None
      → text_answer accepted tag password (value_or_fault p o) ≡ Ok b → is_record (scheme_named p.id) ≡ true
  of_fault p (Some e) none h = absurd cc
  of_fault p None none h = of_parts p (named_family p.id) none h

  if_ok : (t : Bool) (e : StoredError) (x : Result Bool StoredError) → (if t then Err e else x) ≡ Ok b → x ≡ Ok b
  if_ok true e x h = absurd cc
  if_ok false e x h = h

  is_short : (t : Bool) (e : StoredError) (x : Result Bool StoredError) → (if t then Err e else x) ≡ Ok b → t ≡ false
  is_short true e x h = absurd cc
  is_short false e x h = refl

  module _ (stored : List ℕ) (h : verdict accepted tag password stored ≡ Ok b) where
    short : nat_lt 4096 (length password) ≡ false
    unfolding verdict
    short = is_short (nat_lt 4096 (length password)) _ _ h

    record_if : named_family (identifier stored) ≡ None → is_record (scheme_named (identifier stored)) ≡ true
    unfolding verdict mcf
    record_if none = of_fault (parts stored) (fault stored) none (if_ok (nat_lt 4096 (length password)) _ _ h)

    by_name : (o : Option Family) → named_family (identifier stored) ≡ o
        → scheme_answer accepted tag (scheme_named (identifier stored)) password stored ≡ Ok b
    by_name (Some family) is =
        ap (λ s. scheme_answer accepted tag s password stored) (sha_if_family (identifier stored) family is)
        ∙ sha_stored accepted tag password stored family ∙ ap of_stored h
    by_name None is =
        record_stored accepted tag password stored (scheme_named (identifier stored)) (record_if is) ∙ ap of_stored h

    pub of_verdict : any_verdict accepted tag password stored ≡ Ok b
    unfolding any_verdict text_scheme
    of_verdict = rw short (by_name (named_family (identifier stored)) refl)

pub same_verdict : OfCheckStored
same_verdict accepted tag password stored b takes h = of_verdict accepted tag takes password b stored h
