-- The parts of a record, joined in order.
use Rattle.std.proofs.Common.{◌≡◌, ℕ, true, false, List, refl, sym, ap, Ok, Err}
use Rattle.std.specs.Prelude.{Option, Some, None}
use Rattle.std.specs.Option.{option_and_then}
use Rattle.pieces.specs.Lists.{is_empty}
use Rattle.phc.specs.Encoded.{decoding}
use Rattle.phc.specs.Grammar.{Layout, name_fault, fault_of, version_fault, text_fault, salt_fault}
use Rattle.pieces.specs.Faults.{value_or_fault}
use Rattle.phc.specs.Grammar.{hash_fault, pairs_of, decimal_value, fault_of_layout}
use Rattle.phc.specs.Record.{record_of_layout}
use Rattle.phc.specs.declared.error.Error.{Error}
use Rattle.phc.specs.declared.error.Error.TheVariants.{TrailingData}

value_ok : {A : Type 0} (a v : A) (f : Option Error) → Ok v ≡ value_or_fault a f → (f ≡ None) × (v ≡ a)
value_ok a v None h = (refl, cc)
value_ok a v (Some e) h = cc

value_err : {A : Type 0} (a : A) (e : Error) (f : Option Error) → Err e ≡ value_or_fault a f → f ≡ Some e
value_err a e None h = cc
value_err a e (Some e') h = cc

-- a fault that was told, or none
pub told : {A : Type 0} (a : A) (e : Error) (f : Option Error) → f ≡ Some e → Err e ≡ value_or_fault a f
told a e f is = rw is refl

pub told_none : {A : Type 0} (a : A) (f : Option Error) → f ≡ None → Ok a ≡ value_or_fault a f
told_none a f is = rw is refl

pub version_refused : (id : List ℕ) (l : Layout) (e : Error) (name : List ℕ)
    → Ok name ≡ value_or_fault id (name_fault id)
    → Err e ≡ value_or_fault (option_and_then decimal_value l.version) (fault_of version_fault l.version)
    → Err e ≡ value_or_fault (record_of_layout id l) (fault_of_layout id l)
version_refused id l e name name_is h =
    rw (
      (value_ok id name (name_fault id) name_is).0,
      value_err (option_and_then decimal_value l.version) e (fault_of version_fault l.version) h,
    ) refl

pub params_refused : (id : List ℕ) (l : Layout) (e : Error) (name : List ℕ) (version : Option ℕ)
    → Ok name ≡ value_or_fault id (name_fault id)
    → Ok version ≡ value_or_fault (option_and_then decimal_value l.version) (fault_of version_fault l.version)
    → Err e ≡ value_or_fault (pairs_of l.params) (fault_of text_fault l.params)
    → Err e ≡ value_or_fault (record_of_layout id l) (fault_of_layout id l)
params_refused id l e name version name_is version_is h =
    rw (
      (value_ok id name (name_fault id) name_is).0,
      (value_ok (option_and_then decimal_value l.version) version (fault_of version_fault l.version) version_is).0,
      value_err (pairs_of l.params) e (fault_of text_fault l.params) h,
    ) refl

pub salt_refused : (id : List ℕ) (l : Layout) (e : Error) (name : List ℕ) (version : Option ℕ)
    (params : List (List ℕ × List ℕ))
    → Ok name ≡ value_or_fault id (name_fault id)
    → Ok version ≡ value_or_fault (option_and_then decimal_value l.version) (fault_of version_fault l.version)
    → Ok params ≡ value_or_fault (pairs_of l.params) (fault_of text_fault l.params)
    → Err e ≡ value_or_fault (option_and_then decoding l.salt) (fault_of salt_fault l.salt)
    → Err e ≡ value_or_fault (record_of_layout id l) (fault_of_layout id l)
salt_refused id l e name version params name_is version_is params_is h =
    rw (
      (value_ok id name (name_fault id) name_is).0,
      (value_ok (option_and_then decimal_value l.version) version (fault_of version_fault l.version) version_is).0,
      (value_ok (pairs_of l.params) params (fault_of text_fault l.params) params_is).0,
      value_err (option_and_then decoding l.salt) e (fault_of salt_fault l.salt) h,
    ) refl

pub hash_refused : (id : List ℕ) (l : Layout) (e : Error) (name : List ℕ) (version : Option ℕ)
    (params : List (List ℕ × List ℕ)) (salt : Option (List ℕ))
    → Ok name ≡ value_or_fault id (name_fault id)
    → Ok version ≡ value_or_fault (option_and_then decimal_value l.version) (fault_of version_fault l.version)
    → Ok params ≡ value_or_fault (pairs_of l.params) (fault_of text_fault l.params)
    → Ok salt ≡ value_or_fault (option_and_then decoding l.salt) (fault_of salt_fault l.salt)
    → Err e ≡ value_or_fault (option_and_then decoding l.hash) (fault_of hash_fault l.hash)
    → Err e ≡ value_or_fault (record_of_layout id l) (fault_of_layout id l)
hash_refused id l e name version params salt name_is version_is params_is salt_is h =
    rw (
      (value_ok id name (name_fault id) name_is).0,
      (value_ok (option_and_then decimal_value l.version) version (fault_of version_fault l.version) version_is).0,
      (value_ok (pairs_of l.params) params (fault_of text_fault l.params) params_is).0,
      (value_ok (option_and_then decoding l.salt) salt (fault_of salt_fault l.salt) salt_is).0,
      value_err (option_and_then decoding l.hash) e (fault_of hash_fault l.hash) h,
    ) refl

pub rest_refused : (id : List ℕ) (l : Layout) (name : List ℕ) (version : Option ℕ) (params : List (List ℕ × List ℕ))
    (salt : Option (List ℕ)) (hash : Option (List ℕ))
    → Ok name ≡ value_or_fault id (name_fault id)
    → Ok version ≡ value_or_fault (option_and_then decimal_value l.version) (fault_of version_fault l.version)
    → Ok params ≡ value_or_fault (pairs_of l.params) (fault_of text_fault l.params)
    → Ok salt ≡ value_or_fault (option_and_then decoding l.salt) (fault_of salt_fault l.salt)
    → Ok hash ≡ value_or_fault (option_and_then decoding l.hash) (fault_of hash_fault l.hash)
    → false ≡ is_empty l.rest
    → Err TrailingData ≡ value_or_fault (record_of_layout id l) (fault_of_layout id l)
rest_refused id l name version params salt hash name_is version_is params_is salt_is hash_is more =
    rw (
      (value_ok id name (name_fault id) name_is).0,
      (value_ok (option_and_then decimal_value l.version) version (fault_of version_fault l.version) version_is).0,
      (value_ok (pairs_of l.params) params (fault_of text_fault l.params) params_is).0,
      (value_ok (option_and_then decoding l.salt) salt (fault_of salt_fault l.salt) salt_is).0,
      (value_ok (option_and_then decoding l.hash) hash (fault_of hash_fault l.hash) hash_is).0,
      ← more,
    ) refl

pub joined : (id : List ℕ) (l : Layout) (name : List ℕ) (version : Option ℕ) (params : List (List ℕ × List ℕ))
    (salt : Option (List ℕ)) (hash : Option (List ℕ))
    → Ok name ≡ value_or_fault id (name_fault id)
    → Ok version ≡ value_or_fault (option_and_then decimal_value l.version) (fault_of version_fault l.version)
    → Ok params ≡ value_or_fault (pairs_of l.params) (fault_of text_fault l.params)
    → Ok salt ≡ value_or_fault (option_and_then decoding l.salt) (fault_of salt_fault l.salt)
    → Ok hash ≡ value_or_fault (option_and_then decoding l.hash) (fault_of hash_fault l.hash)
    → true ≡ is_empty l.rest
    → Ok (record { algorithm = name; version = version; params = params; salt = salt; hash = hash })
    ≡ value_or_fault (record_of_layout id l) (fault_of_layout id l)
joined id l name version params salt hash name_is version_is params_is salt_is hash_is end =
    let same : record_of_layout id l
    ≡ record { algorithm = name; version = version; params = params; salt = salt; hash = hash } =
    rw (
      (value_ok id name (name_fault id) name_is).1,
      (value_ok (option_and_then decimal_value l.version) version (fault_of version_fault l.version) version_is).1,
      (value_ok (pairs_of l.params) params (fault_of text_fault l.params) params_is).1,
      (value_ok (option_and_then decoding l.salt) salt (fault_of salt_fault l.salt) salt_is).1,
      (value_ok (option_and_then decoding l.hash) hash (fault_of hash_fault l.hash) hash_is).1,
    ) refl in
    rw (
      (value_ok id name (name_fault id) name_is).0,
      (value_ok (option_and_then decimal_value l.version) version (fault_of version_fault l.version) version_is).0,
      (value_ok (pairs_of l.params) params (fault_of text_fault l.params) params_is).0,
      (value_ok (option_and_then decoding l.salt) salt (fault_of salt_fault l.salt) salt_is).0,
      (value_ok (option_and_then decoding l.hash) hash (fault_of hash_fault l.hash) hash_is).0,
      ← end,
    )
    (ap Ok (sym same))
