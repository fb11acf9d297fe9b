-- The pieces that fields were read from.
use Rattle.std.proofs.Common.{◌≡◌, ℕ, ◌≤◌, Bool, true, false, List, [], ◌∷◌, length, refl, ap, subst, ◌∙◌, arith, Result, Ok, Err}
use Rattle.std.specs.Prelude.{nat_lt, if◌then◌else◌}
use Rattle.std.proofs.lemmas.Bool.Decides.{nat_tests}
use Rattle.pieces.specs.Lists.{is_empty}
use Rattle.pieces.proofs.FaultLaws.{err_ok, where_so}
use Rattle.pieces.proofs.ListLaws.{nil_of_empty}
use Rattle.sha_crypt.specs.HashField.{is_hash_field}
use Rattle.md5_plain.specs.Verdict.{Md5Fields, checked_fields, md5_fields, split_fields}
use Rattle.md5_plain.specs.declared.error.Md5Fault.{Md5Fault}
use Rattle.md5_plain.specs.declared.error.Md5Fault.TheVariants.{Base64, NoHash, NoSalt, SaltTooLong, Trailing}

abbrev found : Md5Fields → Result Md5Fields Md5Fault
found f = Ok f

ok_same : (f g : Md5Fields) → found f ≡ found g → f ≡ g
ok_same f g h = cc

split_is : (pieces : List (List ℕ)) (f : Md5Fields) → split_fields pieces ≡ Ok f → pieces ≡ f.salt ∷ (f.hash ∷ [])
split_is [] f h = absurd (err_ok NoSalt f h)
split_is (salt ∷ []) f h = absurd (err_ok NoHash f h)
split_is (salt ∷ (hash ∷ more)) f h =
    let both = where_so (is_empty more) Trailing (Ok (record { salt = salt; hash = hash })) f h in
    ap (λ (ps : List (List ℕ)). salt ∷ (hash ∷ ps)) (nil_of_empty more both.0)
    ∙ ap (λ (g : Md5Fields). g.salt ∷ (g.hash ∷ [])) (ok_same (record { salt = salt; hash = hash }) f both.1)

short_by : (g f : Md5Fields) (t : Bool) → nat_lt 8 (length g.salt) ≡ t
    → (if t then Err SaltTooLong else (if is_hash_field 16 g.hash then found g else Err Base64)) ≡ Ok f
    → (length g.salt ≤ 8) × (g ≡ f)
short_by g f true is h = absurd (err_ok SaltTooLong f h)
short_by g f false is h =
    (grind (arith, nat_tests, is), ok_same g f (where_so (is_hash_field 16 g.hash) Base64 (found g) f h).1)

-- the pieces are those of the fields, and the salt is short
pub record AreFieldsOf (pieces : List (List ℕ)) (f : Md5Fields) : Type 0 where
  pub short : length f.salt ≤ 8
  pub are : pieces ≡ f.salt ∷ (f.hash ∷ [])

checked_are : (pieces : List (List ℕ)) (r : Result Md5Fields Md5Fault) (f : Md5Fields) → split_fields pieces ≡ r
    → checked_fields r ≡ Ok f → AreFieldsOf pieces f
checked_are pieces (Err e) f is h = absurd (err_ok e f h)
checked_are pieces (Ok g) f is h =
    let both = short_by g f (nat_lt 8 (length g.salt)) refl h in
    subst (AreFieldsOf pieces) both.1 (record { short = both.0; are = split_is pieces g is })

pub fields_are : (pieces : List (List ℕ)) (f : Md5Fields) → md5_fields pieces ≡ Ok f → AreFieldsOf pieces f
unfolding md5_fields
fields_are pieces f h = checked_are pieces (split_fields pieces) f refl h
