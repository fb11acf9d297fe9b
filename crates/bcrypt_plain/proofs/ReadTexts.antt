-- The texts that a password passes.
use Rattle.std.proofs.Common.{◌≡◌, ℕ, ◌+◌, ◌*◌, ◌-◌, ◌/◌, ◌%◌, ◌≤◌, Bool, true, false, List, [], ◌∷◌, ◌++◌}
use Rattle.std.proofs.Common.{length, take, drop, refl, sym, ap, subst, ◌∙◌, arith, Result, Ok, Err, inl, inr}
use Rattle.std.specs.Prelude.{◌==◌, ◌||◌, ◌⊎◌, codes, nat_eq, Option, Some, None, if◌then◌else◌}
use Rattle.std.specs.Cmp.Lexicographic.{pointwise}
use Rattle.std.specs.List.{join_with_byte}
use Rattle.std.proofs.lemmas.Bool.{and_parts, false≢true}
use Rattle.std.proofs.lemmas.Bool.Decides.{nat_tests}
use Rattle.std.proofs.lemmas.List.{take-append-drop}
use Rattle.std.proofs.lemmas.Option.{none-some}
use Rattle.base64ct.specs.Encoding.{EachBelow}
use Rattle.base64ct.proofs.DecodingLaws.{same_true}
use Rattle.pieces.specs.Lists.{is_empty}
use Rattle.pieces.specs.Pieces.{LacksByte, pieces_at}
use Rattle.pieces.proofs.ByteTests.{is_not, lacks}
use Rattle.pieces.proofs.Cuts.{join_pieces}
use Rattle.pieces.proofs.FaultLaws.{err_ok, where_so}
use Rattle.pieces.proofs.ListLaws.{nil_of_empty}
use Rattle.bcrypt_plain.specs.Bcrypt.{bcrypt}
use Rattle.bcrypt_plain.specs.Check.{bcrypt_answer, has_zero, hash_matches, parts_answer}
use Rattle.bcrypt_plain.specs.Field.{IsBcryptFieldOf, bcrypt_field, field_bytes}
use Rattle.bcrypt_plain.specs.Laws.{MatchesExactly}
use Rattle.bcrypt_plain.specs.Made.{IsHashText, text_of, two_digits}
use Rattle.bcrypt_plain.specs.Text.{Fields, Parts, by_bytes, by_cost, by_rest, by_version, cost_of, encoding_fault}
use Rattle.bcrypt_plain.specs.Text.{from_front, from_identifier, is_cost, is_two_digits, parts_of, split_fields}
use Rattle.bcrypt_plain.specs.Text.{text_fields, text_parts, two_digit_number, version_of}
use Rattle.bcrypt_plain.specs.declared.error.BcryptError.{BcryptError}
use Rattle.bcrypt_plain.specs.declared.error.BcryptError.TheVariants.{InvalidFormat, ZeroByte, HashMismatch}
use Rattle.bcrypt_plain.specs.declared.error.BcryptFault.{BcryptFault}
use Rattle.bcrypt_plain.specs.declared.error.BcryptFault.TheVariants.{NoDollar, WrongId, NoCost, NoHash, Trailing}
use Rattle.bcrypt_plain.specs.declared.error.BcryptFault.TheVariants.{Cost, Length}
use Rattle.bcrypt_plain.specs.declared.error.BcryptFault.TheVariants as of_fault
use Rattle.bcrypt_plain.specs.declared.version.Version.{Version}
use Rattle.bcrypt_plain.specs.declared.version.Version.TheVariants.{Current, Obsolete}
use Rattle.bcrypt_plain.proofs.Fields.{decoded}
use Rattle.bcrypt_plain.proofs.MadeTexts.{text_matches}

-- ---- the pieces

of_fields : (pieces : List (List ℕ)) (f : Fields) → split_fields pieces ≡ Ok f → pieces ≡ f.cost ∷ (f.rest ∷ [])
of_fields [] f e = absurd (err_ok NoCost f e)
of_fields (cost ∷ []) f e = absurd (err_ok NoHash f e)
of_fields (cost ∷ (rest ∷ more)) f e =
    let both = where_so (is_empty more) Trailing (Ok (record { cost = cost; rest = rest })) f e in
    let is : record { cost = cost; rest = rest } ≡ f = cc in
    rw (nil_of_empty more both.0) (ap (λ (g : Fields). g.cost ∷ (g.rest ∷ [])) is)

of_version : (o : Option Version) (pieces : List (List ℕ)) (f : Fields) → by_version o pieces ≡ Ok f
    → (o ≡ Some Current) × (split_fields pieces ≡ Ok f)
of_version None pieces f e = absurd (err_ok WrongId f e)
of_version (Some Obsolete) pieces f e = absurd (err_ok of_fault.Obsolete f e)
of_version (Some Current) pieces f e = (refl, e)

of_identifier : (pieces : List (List ℕ)) (f : Fields) → from_identifier pieces ≡ Ok f
    → (id : List ℕ) × (version_of id ≡ Some Current) × (pieces ≡ id ∷ (f.cost ∷ (f.rest ∷ [])))
of_identifier [] f e = absurd (err_ok WrongId f e)
of_identifier (id ∷ pieces) f e =
    let found = of_version (version_of id) pieces f e in
    (id, found.0, ap (λ (ps : List (List ℕ)). id ∷ ps) (of_fields pieces f found.1))

of_front : (pieces : List (List ℕ)) (f : Fields) → from_front pieces ≡ Ok f
    → (id : List ℕ) × (version_of id ≡ Some Current) × (pieces ≡ [] ∷ (id ∷ (f.cost ∷ (f.rest ∷ []))))
of_front [] f e = absurd (err_ok NoDollar f e)
of_front (front ∷ others) f e =
    let both = where_so (is_empty front) NoDollar (from_identifier others) f e in
    let found = of_identifier others f both.1 in (
      found.0,
      found.1,
      ap (λ (x : List ℕ). x ∷ others) (nil_of_empty front both.0)
          ∙ ap (λ (ps : List (List ℕ)). [] ∷ ps) found.2,
    )

-- the fields of a text join to it
text_joins : (text : List ℕ) (f : Fields) → text_fields text ≡ Ok f
    → (id : List ℕ) × (version_of id ≡ Some Current) × (text ≡ 36 ∷ (id ++ 36 ∷ (f.cost ++ 36 ∷ f.rest)))
unfolding text_fields
text_joins text f e =
    let found = of_front (pieces_at 36 text) f e in
    (found.0, found.1, sym (join_pieces 36 text) ∙ ap (join_with_byte 36) found.2)

-- ---- the identifier

obsolete_other : (t : Bool) → (if t then Some Obsolete else None) ≡ Some Current → ⊥
obsolete_other true h = cc
obsolete_other false h = none-some Current h

is_current : (t u : Bool) → (if t then Some Current else (if u then Some Obsolete else None)) ≡ Some Current → t ≡ true
is_current true u h = refl
is_current false u h = absurd (obsolete_other u h)

one_of_three : (a b c : Bool) → (a || b || c) ≡ true → (a ≡ true) ⊎ ((b ≡ true) ⊎ (c ≡ true))
one_of_three true b c h = inl refl
one_of_three false true c h = inr (inl refl)
one_of_three false false true h = inr (inr refl)
one_of_three false false false h = absurd (false≢true h)

-- the identifiers that are checked
pub current_is : (id : List ℕ) → version_of id ≡ Some Current
    → (id ≡ codes "2a") ⊎ ((id ≡ codes "2b") ⊎ (id ≡ codes "2y"))
current_is id h =
    let a = pointwise nat_eq id (codes "2a") in
    let b = pointwise nat_eq id (codes "2b") in
    let c = pointwise nat_eq id (codes "2y") in
    elim (one_of_three a b c (is_current (a || b || c) _ h)) [
      | inl is ↦ inl (same_true id (codes "2a") is)
      | inr (inl is) ↦ inr (inl (same_true id (codes "2b") is))
      | inr (inr is) ↦ inr (inr (same_true id (codes "2y") is))
    ]

pub current_lacks : (id : List ℕ) → version_of id ≡ Some Current → LacksByte 36 id
current_lacks id h =
    elim (current_is id h) [
      | inl is ↦ subst (LacksByte 36) (sym is) (lacks (is_not 36) 36 refl (codes "2a") refl)
      | inr (inl is) ↦ subst (LacksByte 36) (sym is) (lacks (is_not 36) 36 refl (codes "2b") refl)
      | inr (inr is) ↦ subst (LacksByte 36) (sym is) (lacks (is_not 36) 36 refl (codes "2y") refl)
    ]

-- ---- the cost

two_of : (t : List ℕ) → is_two_digits t ≡ true → t ≡ two_digits (two_digit_number t)
two_of [] h = absurd (false≢true h)
two_of (a ∷ []) h = absurd (false≢true h)
two_of (a ∷ (b ∷ [])) h =
    let first : a ≡ 48 + (10 * (a - 48) + (b - 48)) / 10 = grind (arith, nat_tests, h) in
    let second : b ≡ 48 + (10 * (a - 48) + (b - 48)) % 10 = grind (arith, nat_tests, h) in
    ap (λ (x : ℕ). x ∷ (b ∷ [])) first ∙ ap (λ (y : ℕ). (48 + (10 * (a - 48) + (b - 48)) / 10) ∷ (y ∷ [])) second
two_of (a ∷ (b ∷ (c ∷ t))) h = absurd (grind (arith, nat_tests, h))

pub kept : (t : Bool) (m n : ℕ) → (if t then Some m else None) ≡ Some n → (t ≡ true) × (m ≡ n)
kept true m n h = (refl, cc)
kept false m n h = absurd (none-some n h)

in_range : (n : ℕ) → is_cost n ≡ true → (4 ≤ n) × (n ≤ 31)
in_range n h = (grind (arith, nat_tests, h), grind (arith, nat_tests, h))

cost_is : (t : List ℕ) (n : ℕ) → cost_of t ≡ Some n → (t ≡ two_digits n) × (4 ≤ n) × (n ≤ 31)
cost_is t n h =
    let found = kept _ (two_digit_number t) n h in
    let tests = and_parts (is_two_digits t) (is_cost (two_digit_number t)) found.0 in
    let range = in_range n (ap is_cost (sym found.1) ∙ tests.1) in
    (two_of t tests.0 ∙ ap two_digits found.1, range.0, range.1)

-- ---- the salt and the hash

of_bytes : (cost : ℕ) (s h : Option (List ℕ)) (fault : BcryptFault) (p : Parts) → by_bytes cost s h fault ≡ Ok p
    → (p.cost ≡ cost) × (s ≡ Some p.salt) × (h ≡ Some p.hash)
of_bytes cost (Some s) (Some h) fault p e =
    let is : record { cost = cost; salt = s; hash = h } ≡ p = cc in (
      ap (λ (q : Parts). q.cost) (sym is),
      ap (λ (q : Parts). Some q.salt) is,
      ap (λ (q : Parts). Some q.hash) is,
    )
of_bytes cost (Some s) None fault p e = absurd (err_ok fault p e)
of_bytes cost None h fault p e = absurd (err_ok fault p e)

rest_is : (cost : ℕ) (rest : List ℕ) (p : Parts) → by_rest cost rest ≡ Ok p
    → (p.cost ≡ cost) × (length p.salt ≡ 16) × EachBelow 256 p.salt × (rest ≡ bcrypt_field p.salt ++ bcrypt_field p.hash)
    × (length p.hash ≡ 23) × EachBelow 256 p.hash
rest_is cost rest p e =
    let both = where_so (length rest == 53) Length
    (by_bytes cost (field_bytes 22 (take 22 rest)) (field_bytes 31 (drop 22 rest)) (encoding_fault rest)) p e in
    let found = of_bytes cost (field_bytes 22 (take 22 rest)) (field_bytes 31 (drop 22 rest)) (encoding_fault rest) p
    both.1 in
    let salt : IsBcryptFieldOf 16 (take 22 rest) p.salt =
    decoded 22 16 (take 22 rest) p.salt (λ k e. omega (arith, e)) found.1 in
    let hash : IsBcryptFieldOf 23 (drop 22 rest) p.hash =
    decoded 31 23 (drop 22 rest) p.hash (λ k e. omega (arith, e)) found.2 in (
      found.0,
      salt.0,
      salt.1,
      sym (take-append-drop 22 rest) ∙ ap (λ (xs : List ℕ). xs ++ drop 22 rest) salt.2
          ∙ ap (λ (ys : List ℕ). bcrypt_field p.salt ++ ys) hash.2,
      hash.0,
      hash.1,
    )

-- ---- the parts

pub record IsTextOf (text : List ℕ) (p : Parts) : Type 0 where
  pub id : List ℕ
  pub current : version_of id ≡ Some Current
  pub least : 4 ≤ p.cost
  pub most : p.cost ≤ 31
  pub long : length p.salt ≡ 16
  pub below : EachBelow 256 p.salt
  pub hash_long : length p.hash ≡ 23
  pub hash_below : EachBelow 256 p.hash
  pub is : text ≡ text_of id p.cost p.salt p.hash

by_fields : (text : List ℕ) (f : Fields) (o : Option ℕ) (p : Parts) → text_fields text ≡ Ok f → cost_of f.cost ≡ o
    → by_cost o f.rest ≡ Ok p → IsTextOf text p
by_fields text f None p read none e = absurd (err_ok Cost p e)
by_fields text f (Some n) p read some e =
    let joined = text_joins text f read in
    let cost = cost_is f.cost n some in
    let rest = rest_is n f.rest p e in
    record {
      id = joined.0;
      current = joined.1;
      least = omega (arith, rest.0, cost.1);
      most = omega (arith, rest.0, cost.2);
      long = rest.1;
      below = rest.2;
      hash_long = rest.4;
      hash_below = rest.5;
      is = joined.2 ∙ ap (λ (c : List ℕ). 36 ∷ (joined.0 ++ 36 ∷ (c ++ 36 ∷ f.rest))) (cost.0 ∙ ap two_digits (sym rest.0))
          ∙ ap (λ (r : List ℕ). 36 ∷ (joined.0 ++ 36 ∷ (two_digits p.cost ++ 36 ∷ r))) rest.3;
    }

by_text : (text : List ℕ) (r : Result Fields BcryptFault) (p : Parts) → text_fields text ≡ r → parts_of r ≡ Ok p
    → IsTextOf text p
by_text text (Err e) p read h = absurd (err_ok e p h)
by_text text (Ok f) p read h = by_fields text f (cost_of f.cost) p read refl h

-- a text prints what is read from it
pub text_is : (text : List ℕ) (p : Parts) → text_parts text ≡ Ok p → IsTextOf text p
unfolding text_parts
text_is text p h = by_text text (text_fields text) p refl h

-- ---- the check

abbrev success : Result (Unit {0}) BcryptError
success = Ok tt

abbrev tested : Bool → Bool → Result (Unit {0}) BcryptError
tested zero same = if zero then Err ZeroByte else (if same then Ok tt else Err HashMismatch)

no_success : (e : BcryptError) → Err e ≡ success → ⊥
no_success e h = cc

by_tests : (zero same : Bool) → tested zero same ≡ success → (zero ≡ false) × (same ≡ true)
by_tests true same h = absurd (no_success ZeroByte h)
by_tests false true h = (refl, refl)
by_tests false false h = absurd (no_success HashMismatch h)

by_parts : (password text : List ℕ) (r : Result Parts BcryptFault) → text_parts text ≡ r → parts_answer password r ≡ Ok tt
    → (has_zero password ≡ false) × IsHashText password text
by_parts password text (Err e) read h = absurd (no_success (InvalidFormat e) h)
by_parts password text (Ok p) read h =
    let tests = by_tests (has_zero password) (hash_matches password p) h in
    let found = text_is text p read in
    let hash : bcrypt password p.salt p.cost ≡ p.hash = same_true (bcrypt password p.salt p.cost) p.hash tests.1 in (
      tests.0,
      (
        found.id,
        p.cost,
        p.salt,
        found.current,
        found.least,
        found.most,
        found.long,
        found.below,
        found.is ∙ ap (text_of found.id p.cost p.salt) (sym hash),
      ),
    )

passed : (password text : List ℕ) → bcrypt_answer password text ≡ Ok tt
    → (has_zero password ≡ false) × IsHashText password text
unfolding bcrypt_answer
passed password text h = by_parts password text (text_parts text) refl h

passes : (password text : List ℕ) → (has_zero password ≡ false) × IsHashText password text
    → bcrypt_answer password text ≡ Ok tt
passes password text h =
    let t = h.1 in
    ap (bcrypt_answer password) t.8
    ∙ text_matches t.0 password t.2 t.1 (current_lacks t.0 t.3) t.3 t.6 t.7 t.4 t.5 h.0

pub matches_exactly : MatchesExactly
matches_exactly password text = (passed password text, passes password text)
