-- The texts that are made are read back.
use Rattle.std.proofs.Common.{◌≡◌, ◌≢◌, ℕ, zero, suc, ◌^◌, ◌<◌, ◌≤◌, Bool, true, false, List, [], ◌∷◌, ◌++◌, length}
use Rattle.std.proofs.Common.{take, drop, refl, sym, ap, ◌∙◌, arith, Ok}
use Rattle.std.specs.Prelude.{not, ◌==◌, nat_eq, codes, Some, None, if◌then◌else◌}
use Rattle.std.specs.Fmt.{decimal}
use Rattle.std.specs.List.{list_all, starts_with}
use Rattle.std.proofs.lemmas.Bool.{and_parts, false≢true}
use Rattle.std.proofs.lemmas.Bool.Decides.{nat_tests}
use Rattle.base64ct.proofs.DecodingLaws.{same_true, true_same}
use Rattle.pieces.specs.Pieces.{EachLacks, LacksByte, behind, pieces_at}
use Rattle.pieces.proofs.Cuts.{cut_joined, lacks_none}
use Rattle.pieces.proofs.ByteTests.{is_not, lacks}
use Rattle.rand_core.specs.Stream.{Stream}
use Rattle.sha_crypt.specs.Check.{check_answer, fields_answer, text_fields}
use Rattle.sha_crypt.specs.Families.{Scheme, scheme_fields, sha256_answer, sha512_answer}
use Rattle.sha_crypt.specs.Fields.{plain_number, sha_fields, short_salt, checked_hash}
use Rattle.sha_crypt.specs.HashField.{is_hash_field}
use Rattle.sha_crypt.specs.Records.{family_id, family_scheme, field_pieces, record_of, rounds_pieces}
use Rattle.sha_crypt.specs.Simple.{characters, made_fields, made_text, sha256_text, sha512_text}
use Rattle.sha_crypt.specs.declared.errors.Family.{Family}
use Rattle.sha_crypt.specs.declared.errors.Family.TheVariants.{Sha256, Sha512}
use Rattle.sha_crypt.proofs.Decimals.{decimal_lacks, plain_number-decimal}
use Rattle.sha_crypt.proofs.Digests.{IsScheme, characters_pass, hash_is_field, hash_passes, is_scheme}
use Rattle.sha_crypt.proofs.Digests.{length-characters, made_hash}
use Rattle.sha_crypt.proofs.Shapes.{HasForm, Stands, of_form}
use Rattle.sha_crypt.proofs.Spellings.{id_lacks, join-pieces, lacks_front, of_cut, ok_short, ok_tested}
use Rattle.sha_crypt.proofs.Spellings.{rounds_lack}

all_take : (p : ℕ → Bool) (n : ℕ) (s : List ℕ) → list_all p s ≡ true → list_all p (take n s) ≡ true
all_take p zero s h = refl
all_take p (suc n) [] h = refl
all_take p (suc n) (b ∷ s) h = let parts = and_parts (p b) (list_all p s) h in rw (parts.0) (all_take p n s parts.1)

-- a text without `=` doesn't begin with `rounds=`
no_front : (s : List ℕ) → list_all (is_not 61) s ≡ true → behind s (codes "rounds=") ≡ None
no_front s h = by_test (starts_with nat_eq s (codes "rounds=")) refl
  where
    by_test : (t : Bool) → starts_with nat_eq s (codes "rounds=") ≡ t → (if t then Some (drop 7 s) else None) ≡ None
    by_test false is = refl
    by_test true is = absurd
        (false≢true (ap (list_all (is_not 61)) (same_true (codes "rounds=") (take 7 s) is)
        ∙ all_take (is_not 61) 7 s h))

-- by whether the rounds are the default
pub by_default : (P : Bool → Type 0) (n : ℕ) → (n ≡ 5000 → P true) → (n ≢ 5000 → P false) → P (n == 5000)
by_default P n default named = by_test (n == 5000) refl
  where
    by_test : (t : Bool) → (n == 5000) ≡ t → P t
    by_test true is = default (grind (arith, nat_tests, is))
    by_test false is = named (λ e. grind (arith, nat_tests, is, e))

-- a salt that texts are made with: short, and neither `$` nor `=` is in it
pub record IsSalt (salt : List ℕ) : Type 0 where
  pub short : length salt ≤ 16
  pub dollar : list_all (is_not 36) salt ≡ true
  pub equals : list_all (is_not 61) salt ≡ true

pub is_salt : (s : Stream) → IsSalt (characters 16 s).0
is_salt s = record {
  short = omega (arith, length-characters 16 s);
  dollar = characters_pass (is_not 36) 16 s refl;
  equals = characters_pass (is_not 61) 16 s refl;
}

-- ---- the fields

module _ (s : Scheme) (is : IsScheme s) (password salt : List ℕ) (n : ℕ) (least : 1000 ≤ n) (most : n ≤ 999999999)
    (good : IsSalt salt) where
  form : HasForm plain_number (field_pieces (made_fields s password salt n)) (made_fields s password salt n)
  form = record {
    least = least;
    most = most;
    stands = by_default (λ (t : Bool).
        Stands plain_number (rounds_pieces (not t) n ++ salt ∷ (made_hash s password salt n ∷ []))
        (made_fields s password salt n) (not t)) n
        (λ default. (refl, no_front salt good.equals, default))
        (λ other. (decimal n, refl, plain_number-decimal n (omega (arith, least)) (omega (arith, most))));
  }

  -- the fields of a made text are read back from its pieces
  pub made_read : scheme_fields s (field_pieces (made_fields s password salt n)) ≡ Ok (made_fields s password salt n)
  unfolding sha_fields
  made_read =
      ap (λ r. checked_hash (is_hash_field s.size) (short_salt r))
      (of_form plain_number (field_pieces (made_fields s password salt n)) (made_fields s password salt n) form)
      ∙ ap (checked_hash (is_hash_field s.size)) (ok_short (made_fields s password salt n) good.short)
      ∙ ok_tested s.size (made_fields s password salt n) (hash_is_field s is password salt n (omega (arith, least)))

-- ---- the pieces

each_lacks : (n : ℕ) (salt hash : List ℕ) → n < 2 ^ 64 → LacksByte 36 salt → LacksByte 36 hash
    → EachLacks 36 (rounds_pieces (not (n == 5000)) n ++ salt ∷ (hash ∷ []))
each_lacks n salt hash small of_salt of_hash =
    by_default (λ (t : Bool). EachLacks 36 (rounds_pieces (not t) n ++ salt ∷ (hash ∷ []))) n
    (λ default. (of_salt, (of_hash, tt)))
    (λ other. (
      lacks_front 36 (codes "rounds=") (decimal n) rounds_lack (decimal_lacks n small),
      (of_salt, (of_hash, tt)),
    ))

-- ---- the whole text

module _ (family : Family) (password salt : List ℕ) (n : ℕ) (least : 1000 ≤ n) (most : n ≤ 999999999)
    (good : IsSalt salt) where
  made_cut : pieces_at 36 (made_text family password salt n)
      ≡ [] ∷ (family_id family ∷ field_pieces (made_fields (family_scheme family) password salt n))
  made_cut =
      let is : IsScheme (family_scheme family) = is_scheme family in
      let field = hash_passes (is_not 36) (family_scheme family) is password salt n (omega (arith, least)) refl in
      let each = each_lacks n salt (made_hash (family_scheme family) password salt n) (omega (arith, most))
      (lacks (is_not 36) 36 refl salt good.dollar)
      (lacks (is_not 36) 36 refl (made_hash (family_scheme family) password salt n) field) in
      ap (pieces_at 36) (sym (join-pieces family (made_fields (family_scheme family) password salt n)))
      ∙ cut_joined 36 [] (family_id family ∷ field_pieces (made_fields (family_scheme family) password salt n))
      (lacks_none 36) (id_lacks family, each)

  -- the record of a made text
  pub made_record : record_of family (made_text family password salt n)
      ≡ Ok (made_fields (family_scheme family) password salt n)
  made_record =
      of_cut (scheme_fields (family_scheme family)) family (family_id family) (made_text family password salt n)
      (field_pieces (made_fields (family_scheme family) password salt n)) made_cut
      ∙ made_read (family_scheme family) (is_scheme family) password salt n least most good

  -- the text of a password matches it
  pub made_answer : check_answer (family_scheme family).hash (family_scheme family).places family (family_id family)
      password (made_text family password salt n) ≡ Ok tt
  unfolding check_answer
  made_answer =
      ap (λ (k : ℕ). fields_answer (family_scheme family).hash (family_scheme family).places password
      (text_fields (sha_fields (is_hash_field k)) family (family_id family) (made_text family password salt n)))
      (is_scheme family).places
      ∙ ap (fields_answer (family_scheme family).hash (family_scheme family).places password) made_record
      ∙ rw (true_same (made_hash (family_scheme family) password salt n)) refl

-- the text of a password matches it, whatever the generator of the salt
pub simple_256 : (password : List ℕ) (s : Stream) (n : ℕ) → 1000 ≤ n → n ≤ 999999999
    → sha256_answer password (sha256_text password (characters 16 s).0 n) ≡ Ok tt
simple_256 password s n least most = made_answer Sha256 password (characters 16 s).0 n least most (is_salt s)

pub simple_512 : (password : List ℕ) (s : Stream) (n : ℕ) → 1000 ≤ n → n ≤ 999999999
    → sha512_answer password (sha512_text password (characters 16 s).0 n) ≡ Ok tt
simple_512 password s n least most = made_answer Sha512 password (characters 16 s).0 n least most (is_salt s)
