-- Each fault that the grammars give is the one that its name stands for.
use Rattle.std.proofs.Common.{◌≡◌, ℕ, Bool, true, false, List, [], ◌∷◌, length, map, refl, Result, Ok, Err}
use Rattle.std.specs.Prelude.{⊤, IfSome, nat_le, nat_lt, ◌||◌, Option, Some, None, if◌then◌else◌, is_some, unwrap_or}
use Rattle.std.specs.Prelude.{codes}
use Rattle.std.specs.List.{list_all}
use Rattle.pieces.specs.Pieces.{behind}
use Rattle.pieces.specs.Lists.{is_empty}
use Rattle.mcf.specs.Grammar.{fault, field_fault, first_field_fault, is_delimited, is_field_byte, is_identifier, parts}
use Rattle.mcf.specs.declared.error.Error as mcf_error
use Rattle.mcf.specs.declared.error.Error.TheVariants as mcf_fault
use Rattle.std.specs.declared.cmp.Ordering.TheVariants.{Less}
use Rattle.base64ct.specs.declared.errors.Error.TheVariants.{InvalidEncoding, InvalidLength}
use Rattle.phc.specs.Encoded.{decoding}
use Rattle.phc.specs.Grammar.{behind_name_fault, decimal_value, has_value_bytes, is_name, fault_of, fault_of_layout}
use Rattle.pieces.specs.Faults.{first_fault, unless, value_or_fault}
use Rattle.pieces.proofs.FaultLaws.{each_or, each_unless, of_found}
use Rattle.phc.specs.Grammar.{hash_fault, cut_pairs, layout, name_fault, pair_fault, params_fault, salt_fault}
use Rattle.phc.specs.Grammar.{text_fault, value_fault, version_fault, Layout}
use Rattle.phc.proofs.LayoutFaults.{behind_hash, behind_id, behind_params, behind_salt, behind_version}
use Rattle.phc.specs.Record.{phc, record_of_layout}
use Rattle.phc.specs.declared.error.Error as phc_error
use Rattle.phc.specs.declared.error.Error.TheVariants as phc_fault
use Rattle.phc.specs.declared.password_hash.PasswordHash.{PasswordHash}
use Rattle.sha_crypt.specs.Families.{Scheme, scheme_fields}
use Rattle.sha_crypt.specs.Fields.{ShaFields, split_fields, by_rounds, formed, from_salt, plain_number, sha_fields}
use Rattle.sha_crypt.specs.Fields.{short_salt, checked_hash, with_rounds, fields_in_range}
use Rattle.sha_crypt.specs.HashField.{is_hash_field}
use Rattle.sha_crypt.specs.declared.errors.CheckError.{CheckError}
use Rattle.stored_check.specs.Names.{mcf_named, phc_named, sha_named}
use Rattle.stored_check.specs.Verdict.{mcf_name, phc_name, sha_name}

-- ---- the modular crypt format

abbrev McfNamed : mcf_error.Error → Type 0
McfNamed e = mcf_named (mcf_name e) ≡ e

mcf_bytes : (t : Bool) → IfSome (if t then None else Some mcf_fault.EncodingInvalid) McfNamed
mcf_bytes true = tt
mcf_bytes false = refl

mcf_field : (s : List ℕ) → IfSome (field_fault s) McfNamed
mcf_field [] = refl
mcf_field (b ∷ s) = mcf_bytes (list_all is_field_byte (b ∷ s))

mcf_fields : (fields : List (List ℕ)) → IfSome (first_field_fault fields) McfNamed
mcf_fields [] = tt
mcf_fields (field ∷ fields) =
    each_or McfNamed (field_fault field) (first_field_fault fields) (mcf_field field) (mcf_fields fields)

of_mcf : (stored : List ℕ) → IfSome (fault stored) McfNamed
of_mcf stored =
    each_or McfNamed (unless (is_delimited stored) mcf_fault.DelimiterInvalid) _
    (each_unless McfNamed (is_delimited stored) mcf_fault.DelimiterInvalid refl)
    (each_or McfNamed (unless (is_identifier (parts stored).id) mcf_fault.IdentifierInvalid) _
    (each_unless McfNamed (is_identifier (parts stored).id) mcf_fault.IdentifierInvalid refl)
    (mcf_fields (parts stored).fields))

pub mcf_has_name : (stored : List ℕ) (e : mcf_error.Error) → fault stored ≡ Some e → mcf_named (mcf_name e) ≡ e
mcf_has_name stored e is = of_found McfNamed (fault stored) e (of_mcf stored) is

-- ---- SHA-crypt

abbrev Sha : Result ShaFields CheckError → Type 0
Sha (Ok f) = ⊤
Sha (Err e) = sha_named (sha_name e) ≡ e

sha_if : (t : Bool) (x y : Result ShaFields CheckError) → Sha x → Sha y → Sha (if t then x else y)
sha_if true x y hx hy = hx
sha_if false x y hx hy = hy

sha_salt : (n : ℕ) (w : Bool) (pieces : List (List ℕ)) → Sha (from_salt n w pieces)
sha_salt n w [] = refl
sha_salt n w (s ∷ []) = refl
sha_salt n w (s ∷ (h ∷ more)) =
    sha_if (is_empty more) (fields_in_range n w s h) _ (sha_if (nat_lt n 1000 || nat_lt 999999999 n) _ _ refl tt) refl

sha_with : (o : Option ℕ) (pieces : List (List ℕ)) → Sha (with_rounds o pieces)
sha_with None pieces = refl
sha_with (Some n) pieces = sha_salt n true pieces

sha_rounds : (o : Option (List ℕ)) (first : List ℕ) (pieces : List (List ℕ))
    → Sha (by_rounds plain_number o first pieces)
sha_rounds None first pieces = sha_salt 5000 false (first ∷ pieces)
sha_rounds (Some digits) first pieces =
    sha_if (is_empty pieces) _ (with_rounds (plain_number digits) pieces) refl (sha_with (plain_number digits) pieces)

sha_form : (pieces : List (List ℕ)) → Sha (split_fields plain_number pieces)
sha_form [] = refl
sha_form (first ∷ pieces) = sha_rounds (behind first (codes "rounds=")) first pieces

sha_short : (r : Result ShaFields CheckError) → Sha r → Sha (short_salt r)
sha_short (Err e) h = h
sha_short (Ok f) h = sha_if (nat_lt 16 (length f.salt)) _ (Ok f) refl tt

sha_checked : (t : List ℕ → Bool) (r : Result ShaFields CheckError) → Sha r → Sha (checked_hash t r)
sha_checked t (Err e) h = h
sha_checked t (Ok f) h = sha_if (t f.hash) (Ok f) _ tt refl

of_sha : (s : Scheme) (pieces : List (List ℕ)) → Sha (scheme_fields s pieces)
unfolding sha_fields
of_sha s pieces = sha_checked (is_hash_field s.size) (formed pieces)
    (sha_short (split_fields plain_number pieces) (sha_form pieces))

sha_by : (r : Result ShaFields CheckError) (e : CheckError) → Sha r → r ≡ Err e → sha_named (sha_name e) ≡ e
sha_by (Ok f) e h is = absurd cc
sha_by (Err f) e h is = let same : f ≡ e = cc in rw same at h

pub sha_has_name : (s : Scheme) (pieces : List (List ℕ)) (e : CheckError) → scheme_fields s pieces ≡ Err e
    → sha_named (sha_name e) ≡ e
sha_has_name s pieces e is = sha_by (scheme_fields s pieces) e (of_sha s pieces) is

-- ---- PHC texts

abbrev PhcNamed : phc_error.Error → Type 0
PhcNamed e = phc_named (phc_name e) ≡ e

phc_part : (f : List ℕ → Option phc_error.Error) → ((s : List ℕ) → IfSome (f s) PhcNamed) → (o : Option (List ℕ))
    → IfSome (fault_of f o) PhcNamed
phc_part f h None = tt
phc_part f h (Some s) = h s

-- the first of two or three tests that fails
phc_two : (a b : Bool) (e f : phc_error.Error) → PhcNamed e → PhcNamed f
    → IfSome (first_fault (unless a e ∷ (unless b f ∷ []))) PhcNamed
phc_two false b e f he hf = he
phc_two true false e f he hf = hf
phc_two true true e f he hf = tt

phc_three : (a b c : Bool) (e f g : phc_error.Error) → PhcNamed e → PhcNamed f → PhcNamed g
    → IfSome (first_fault (unless a e ∷ (unless b f ∷ (unless c g ∷ [])))) PhcNamed
phc_three false b c e f g he hf hg = he
phc_three true b c e f g he hf hg = phc_two b c f g hf hg

phc_version : (s : List ℕ) → IfSome (version_fault s) PhcNamed
phc_version s = phc_two (nat_le (length s) 64) (is_some (decimal_value s)) phc_fault.ParamValueTooLong
    phc_fault.ParamValueInvalid refl refl

phc_id : (s : List ℕ) → IfSome (name_fault s) PhcNamed
phc_id s = each_unless PhcNamed (is_name s) phc_fault.ParamNameInvalid refl

phc_behind : (pieces : List (List ℕ)) → IfSome (behind_name_fault pieces) PhcNamed
phc_behind [] = refl
phc_behind (value ∷ more) =
    each_or PhcNamed (value_fault value) (unless (is_empty more) phc_fault.ParamValueInvalid)
    (phc_two (nat_le (length value) 64) (has_value_bytes value) phc_fault.ParamValueTooLong phc_fault.ParamValueInvalid
    refl refl)
    (each_unless PhcNamed (is_empty more) phc_fault.ParamValueInvalid refl)

phc_pair : (pieces : List (List ℕ)) → IfSome (pair_fault pieces) PhcNamed
phc_pair [] = refl
phc_pair (name ∷ pieces) =
    each_or PhcNamed (name_fault name) (behind_name_fault pieces) (phc_id name) (phc_behind pieces)

phc_pairs : (pairs : List (List (List ℕ))) → IfSome (first_fault (map pair_fault pairs)) PhcNamed
phc_pairs [] = tt
phc_pairs (pair ∷ pairs) =
    each_or PhcNamed (pair_fault pair) (first_fault (map pair_fault pairs)) (phc_pair pair) (phc_pairs pairs)

phc_if : (t : Bool) (x y : Option phc_error.Error) → IfSome x PhcNamed → IfSome y PhcNamed
    → IfSome (if t then x else y) PhcNamed
phc_if true x y hx hy = hx
phc_if false x y hx hy = hy

phc_params : (s : List ℕ) → IfSome (text_fault s) PhcNamed
phc_params s =
    phc_if (is_empty s) None (params_fault s) tt
    (each_or PhcNamed (unless (nat_le (length s) 127) phc_fault.ParamsMaxExceeded)
    (first_fault (map pair_fault (cut_pairs s)))
    (each_unless PhcNamed (nat_le (length s) 127) phc_fault.ParamsMaxExceeded refl)
    (phc_pairs (cut_pairs s)))

phc_salt : (s : List ℕ) → IfSome (salt_fault s) PhcNamed
phc_salt s =
    phc_three (nat_le 11 (length s)) (nat_le (length s) 64) (is_some (decoding s))
    phc_fault.SaltTooShort phc_fault.SaltTooLong (phc_fault.Base64 InvalidEncoding) refl refl refl

phc_hash : (s : List ℕ) → IfSome (hash_fault s) PhcNamed
phc_hash s =
    phc_three (nat_le (length s) 86) (is_some (decoding s)) (nat_le 10 (length (unwrap_or (decoding s) [])))
    (phc_fault.Base64 InvalidLength) (phc_fault.Base64 InvalidEncoding) (phc_fault.OutputSize Less 10) refl refl refl

of_layout : (id : List ℕ) (l : Layout) → IfSome (fault_of_layout id l) PhcNamed
of_layout id l =
    each_or PhcNamed (name_fault id) (first_fault (behind_id l)) (phc_id id)
    (each_or PhcNamed (fault_of version_fault l.version) (first_fault (behind_version l))
    (phc_part version_fault phc_version l.version)
    (each_or PhcNamed (fault_of text_fault l.params) (first_fault (behind_params l))
    (phc_part text_fault phc_params l.params)
    (each_or PhcNamed (fault_of salt_fault l.salt) (first_fault (behind_salt l)) (phc_part salt_fault phc_salt l.salt)
    (each_or PhcNamed (fault_of hash_fault l.hash) (first_fault (behind_hash l)) (phc_part hash_fault phc_hash l.hash)
    (each_or PhcNamed (unless (is_empty l.rest) phc_fault.TrailingData) None
    (each_unless PhcNamed (is_empty l.rest) phc_fault.TrailingData refl) tt)))))

phc_by : (r : PasswordHash) (o : Option phc_error.Error) (e : phc_error.Error) → IfSome o PhcNamed
    → value_or_fault r o ≡ Err e → PhcNamed e
phc_by r None e h is = absurd cc
phc_by r (Some f) e h is = let same : f ≡ e = cc in rw same at h

pub phc_has_name : (id : List ℕ) (pieces : List (List ℕ)) (e : phc_error.Error) → phc id pieces ≡ Err e
    → phc_named (phc_name e) ≡ e
unfolding phc
phc_has_name id pieces e is =
    phc_by (record_of_layout id (layout pieces)) (fault_of_layout id (layout pieces)) e (of_layout id (layout pieces))
    is
