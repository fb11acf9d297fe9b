-- The verdict by two derivations.
use Rattle.std.proofs.Common.{◌≡◌, ℕ, Bool, true, false, List, length, refl, sym, ap, ap₂, ◌∙◌, Option, Some, None}
use Rattle.std.proofs.Common.{Result, Ok, Err}
use Rattle.std.specs.Prelude.{◌&&◌, nat_lt, is_ok, if◌then◌else◌}
use Rattle.std.proofs.lemmas.Option.{none-some}
use Rattle.base64ct.proofs.DecodingLaws.{same_true}
use Rattle.mcf.specs.Grammar.{mcf, Parts}
use Rattle.mcf.specs.declared.error.Error as mcf_error
use Rattle.phc.specs.Grammar.{Layout, layout, fault_of_layout}
use Rattle.pieces.specs.Faults.{value_or_fault}
use Rattle.phc.specs.Record.{phc, record_of_layout}
use Rattle.phc.specs.declared.error.Error as phc_error
use Rattle.phc.specs.declared.password_hash.PasswordHash.{PasswordHash}
use Rattle.sha_crypt.specs.Families.{Scheme}
use Rattle.stored_check.specs.Verdict.{key_answer, may_lack_memory, parts_answer, parts_need, phc_answer, record_needs}
use Rattle.stored_check.specs.Verdict.{same_text, scheme_of, text_answer, text_needs, verdict}
use Rattle.stored_check.specs.declared.error.StoredError.{StoredError}
use Rattle.stored_check.specs.declared.error.StoredError.TheVariants.{PasswordTooLong}
use Rattle.phc_kdf.specs.Either.{Accepted, Needs, Tag, either_accepted, either_needs, either_tag}
use Rattle.pbkdf2_plain.specs.Laws.{has_identifier}

module _ (first : List ℕ) (accepted_a accepted_b : Accepted) (tag_a tag_b : Tag) (password : List ℕ) where
  abbrev A : Accepted
  A = either_accepted first accepted_a accepted_b

  abbrev T : Tag
  T = either_tag first tag_a tag_b

  -- by whether the record has the identifier
  of_key : (t : Bool) (r : PasswordHash) (salt hash : Option (List ℕ)) → same_text r.algorithm first ≡ t
      → key_answer A T password r salt hash
      ≡ (if t then key_answer accepted_a tag_a password r salt hash else key_answer accepted_b tag_b password r salt
      hash)
  of_key true r None hash is = refl
  of_key true r (Some salt) None is = refl
  of_key true r (Some salt) (Some hash) is = rw is refl
  of_key false r None hash is = refl
  of_key false r (Some salt) None is = refl
  of_key false r (Some salt) (Some hash) is = rw is refl

  -- a record has the identifier of its text
  of_record : (id : List ℕ) (l : Layout) (fault : Option phc_error.Error) (t : Bool) → same_text id first ≡ t
      → phc_answer A T password (value_or_fault (record_of_layout id l) fault)
      ≡ (if t then phc_answer accepted_a tag_a password (value_or_fault (record_of_layout id l) fault)
      else phc_answer accepted_b tag_b password (value_or_fault (record_of_layout id l) fault))
  of_record id l (Some e) true is = refl
  of_record id l (Some e) false is = refl
  of_record id l None t is =
      of_key t (record_of_layout id l) (record_of_layout id l).salt (record_of_layout id l).hash is

  of_phc : (id : List ℕ) (pieces : List (List ℕ)) (t : Bool) → same_text id first ≡ t
      → phc_answer A T password (phc id pieces)
      ≡ (if t then phc_answer accepted_a tag_a password (phc id pieces)
      else phc_answer accepted_b tag_b password (phc id pieces))
  unfolding phc
  of_phc id pieces t is = of_record id (layout pieces) (fault_of_layout id (layout pieces)) t is

  of_parts : (o : Option Scheme) (p : Parts) (t : Bool) → same_text p.id first ≡ t
      → parts_answer A T password o p
      ≡ (if t then parts_answer accepted_a tag_a password o p else parts_answer accepted_b tag_b password o p)
  of_parts (Some s) p true is = refl
  of_parts (Some s) p false is = refl
  of_parts None p t is = of_phc p.id p.fields t is

  of_text : (m : Result Parts mcf_error.Error) → text_answer A T password m
      ≡ (if has_identifier first m then text_answer accepted_a tag_a password m else text_answer accepted_b tag_b
      password m)
  of_text (Err e) = refl
  of_text (Ok p) = of_parts (scheme_of p.id) p (same_text p.id first) refl

  outside : (long t : Bool) (e : Result Bool StoredError) (x y : Result Bool StoredError)
      → (if long then e else if t then x else y) ≡ (if t then (if long then e else x) else (if long then e else y))
  outside true true e x y = refl
  outside true false e x y = refl
  outside false t e x y = refl

  of_verdict : (stored : List ℕ) → verdict A T password stored
      ≡ (if has_identifier first (mcf stored)
      then verdict accepted_a tag_a password stored else verdict accepted_b tag_b password stored)
  unfolding verdict
  of_verdict stored =
      ap (λ (x : Result Bool StoredError). if nat_lt 4096 (length password) then Err PasswordTooLong else x)
      (of_text (mcf stored))
      ∙ outside (nat_lt 4096 (length password)) (has_identifier first (mcf stored)) _ _ _

pub both_verdict : (first : List ℕ) (accepted_a accepted_b : Accepted) (tag_a tag_b : Tag) (password stored : List ℕ)
    → verdict (either_accepted first accepted_a accepted_b) (either_tag first tag_a tag_b) password stored
    ≡ (if has_identifier first (mcf stored)
    then verdict accepted_a tag_a password stored else verdict accepted_b tag_b password stored)
both_verdict first accepted_a accepted_b tag_a tag_b password stored =
    of_verdict first accepted_a accepted_b tag_a tag_b password stored

-- ---- want of memory

module _ (first : List ℕ) (needs_a needs_b : Needs) where
  abbrev N : Needs
  N = either_needs first needs_a needs_b

  need_of_record : (id : List ℕ) (l : Layout) (fault : Option phc_error.Error) (t : Bool) → same_text id first ≡ t
      → record_needs N (value_or_fault (record_of_layout id l) fault)
      ≡ (if t then record_needs needs_a (value_or_fault (record_of_layout id l) fault)
      else record_needs needs_b (value_or_fault (record_of_layout id l) fault))
  need_of_record id l (Some e) true is = refl
  need_of_record id l (Some e) false is = refl
  need_of_record id l None true is = rw is refl
  need_of_record id l None false is = rw is refl

  need_of_phc : (id : List ℕ) (pieces : List (List ℕ)) (t : Bool) → same_text id first ≡ t
      → record_needs N (phc id pieces)
      ≡ (if t then record_needs needs_a (phc id pieces) else record_needs needs_b (phc id pieces))
  unfolding phc
  need_of_phc id pieces t is = need_of_record id (layout pieces) (fault_of_layout id (layout pieces)) t is

  need_of_parts : (o : Option Scheme) (p : Parts) (t : Bool) → same_text p.id first ≡ t
      → parts_need N o p ≡ (if t then parts_need needs_a o p else parts_need needs_b o p)
  need_of_parts (Some s) p true is = refl
  need_of_parts (Some s) p false is = refl
  need_of_parts None p t is = need_of_phc p.id p.fields t is

  need_of_text : (m : Result Parts mcf_error.Error)
      → text_needs N m ≡ (if has_identifier first m then text_needs needs_a m else text_needs needs_b m)
  need_of_text (Err e) = refl
  need_of_text (Ok p) = need_of_parts (scheme_of p.id) p (same_text p.id first) refl

by_both : (t : Bool) (v va vb : Result Bool StoredError) (n na nb : Bool) → v ≡ (if t then va else vb)
    → n ≡ (if t then na else nb)
    → (is_ok v && n) ≡ (if t then is_ok va && na else is_ok vb && nb)
by_both true v va vb n na nb hv hn = ap₂ (λ (x : Result Bool StoredError) (y : Bool). is_ok x && y) hv hn
by_both false v va vb n na nb hv hn = ap₂ (λ (x : Result Bool StoredError) (y : Bool). is_ok x && y) hv hn

pub both_may_lack : (first : List ℕ) (accepted_a accepted_b : Accepted) (needs_a needs_b : Needs) (tag_a tag_b : Tag)
    (password stored : List ℕ)
    → may_lack_memory (either_accepted first accepted_a accepted_b) (either_needs first needs_a needs_b)
    (either_tag first tag_a tag_b) password stored
    ≡ (if has_identifier first (mcf stored) then may_lack_memory accepted_a needs_a tag_a password stored
    else may_lack_memory accepted_b needs_b tag_b password stored)
unfolding may_lack_memory
both_may_lack first accepted_a accepted_b needs_a needs_b tag_a tag_b password stored =
    by_both (has_identifier first (mcf stored)) _ _ _ _ _ _
    (both_verdict first accepted_a accepted_b tag_a tag_b password stored)
    (need_of_text first needs_a needs_b (mcf stored))

-- ---- costly texts

if_same : (t : Bool) → (if t then true else false) ≡ t
if_same true = refl
if_same false = refl

module _ (first : List ℕ) (accepted : Accepted) (tag : Tag) (password : List ℕ) (other : scheme_of first ≡ None) where
  abbrev C : Needs
  C = either_needs first (λ parsed. true) (λ parsed. false)

  cost_of_record : (id : List ℕ) (l : Layout) (fault : Option phc_error.Error)
      → (is_ok (phc_answer accepted tag password (value_or_fault (record_of_layout id l) fault))
      && record_needs C (value_or_fault (record_of_layout id l) fault))
      ≡ (is_ok (phc_answer accepted tag password (value_or_fault (record_of_layout id l) fault)) && same_text id first)
  cost_of_record id l (Some e) = refl
  cost_of_record id l None =
      ap (λ (b : Bool). is_ok (phc_answer accepted tag password (Ok (record_of_layout id l))) && b)
      (if_same (same_text id first))

  cost_of_phc : (id : List ℕ) (pieces : List (List ℕ))
      → (is_ok (phc_answer accepted tag password (phc id pieces)) && record_needs C (phc id pieces))
      ≡ (is_ok (phc_answer accepted tag password (phc id pieces)) && same_text id first)
  unfolding phc
  cost_of_phc id pieces = cost_of_record id (layout pieces) (fault_of_layout id (layout pieces))

  not_first : (id : List ℕ) (s : Scheme) (t : Bool) → scheme_of id ≡ Some s → same_text id first ≡ t → false ≡ t
  not_first id s false is same = refl
  not_first id s true is same = absurd (none-some s (sym other ∙ ap scheme_of (sym (same_true id first same)) ∙ is))

  cost_of_parts : (o : Option Scheme) (p : Parts) → scheme_of p.id ≡ o
      → (is_ok (parts_answer accepted tag password o p) && parts_need C o p)
      ≡ (is_ok (parts_answer accepted tag password o p) && same_text p.id first)
  cost_of_parts (Some s) p is =
      ap (λ (b : Bool). is_ok (parts_answer accepted tag password (Some s) p) && b)
      (not_first p.id s (same_text p.id first) is refl)
  cost_of_parts None p is = cost_of_phc p.id p.fields

  cost_of_text : (m : Result Parts mcf_error.Error)
      → (is_ok (text_answer accepted tag password m) && text_needs C m)
      ≡ (is_ok (text_answer accepted tag password m) && has_identifier first m)
  cost_of_text (Err e) = refl
  cost_of_text (Ok p) = cost_of_parts (scheme_of p.id) p refl

  by_length : (long : Bool) (x : Result Bool StoredError) (n h : Bool) → (is_ok x && n) ≡ (is_ok x && h)
      → (is_ok (if long then Err PasswordTooLong else x) && n) ≡ (is_ok (if long then Err PasswordTooLong else x) && h)
  by_length true x n h e = refl
  by_length false x n h e = e

  cost_of_verdict : (stored : List ℕ)
      → (is_ok (verdict accepted tag password stored) && text_needs C (mcf stored))
      ≡ (is_ok (verdict accepted tag password stored) && has_identifier first (mcf stored))
  unfolding verdict
  cost_of_verdict stored = by_length (nat_lt 4096 (length password)) (text_answer accepted tag password (mcf stored))
      _ _ (cost_of_text (mcf stored))

pub costly : (first : List ℕ) (accepted : Accepted) (tag : Tag) (password stored : List ℕ) → scheme_of first ≡ None
    → may_lack_memory accepted (either_needs first (λ parsed. true) (λ parsed. false)) tag password stored
    ≡ (is_ok (verdict accepted tag password stored) && has_identifier first (mcf stored))
unfolding may_lack_memory
costly first accepted tag password stored other = cost_of_verdict first accepted tag password other stored
