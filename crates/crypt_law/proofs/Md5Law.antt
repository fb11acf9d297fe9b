-- The law for texts of md5-crypt.
use Rattle.std.proofs.Common.{◌≡◌, ℕ, ◌≤◌, Bool, true, List, [], ◌∷◌, ◌++◌, length, take, refl, sym, subst, ap, ◌∙◌}
use Rattle.std.proofs.Common.{append_assoc, Option, Some, None, Ok}
use Rattle.std.specs.Prelude.{◌↔◌, codes, nat_eq}
use Rattle.std.specs.Cmp.Lexicographic.{pointwise}
use Rattle.std.specs.List.{join_with_byte}
use Rattle.std.proofs.lemmas.List.{append_cancel_left, take_all}
use Rattle.mcf.specs.Grammar.{fault, mcf, parts}
use Rattle.mcf.specs.declared.error.Error as mcf_error
use Rattle.mcf.proofs.Ascii.{mcf_of_valid}
use Rattle.phc.specs.declared.password_hash.PasswordHash.{PasswordHash}
use Rattle.pieces.specs.Pieces.{EachLacks, pieces_at}
use Rattle.pieces.proofs.Cuts.{join_pieces, pieces_lack}
use Rattle.md5_plain.specs.Digest.{md5_crypt_digest}
use Rattle.md5_plain.specs.Field.{md5_field}
use Rattle.md5_plain.specs.Verdict.{Md5Fields, fields_verdict, md5_fields, md5_verdict}
use Rattle.md5_plain.specs.declared.magic.Magic.TheVariants.{Md5}
use Rattle.md5_plain.proofs.Fields.{fields_are}
use Rattle.any_check.specs.Table.{any_verdict, md5_answer, of_md5, text_scheme}
use Rattle.scheme_list.specs.declared.schemes.Scheme.TheVariants.{Md5Crypt}
use Rattle.crypt_text.specs.Settings.{md5_salt}
use Rattle.scheme_list.specs.Schemes.{method_of}
use Rattle.crypt_text.specs.Texts.{crypt_text, md5_text, method_text}
use Rattle.crypt_law.proofs.Answers.{IsTold, as_any, as_md5, md5_ok, told_of}
use Rattle.crypt_law.proofs.Clean.{mcf_of_fault, valid_clean}
use Rattle.crypt_law.proofs.Cuts.{before_cut}
use Rattle.crypt_law.proofs.Prefixes.{crypt_is, law_by, row_is}

-- `$1$`, and the rest
abbrev pub whole : List ℕ → List ℕ
whole rest = 36 ∷ (49 ∷ (36 ∷ rest))

scheme_is : (rest : List ℕ) → text_scheme (whole rest) ≡ Some Md5Crypt
unfolding text_scheme pieces_at
scheme_is rest = refl

method_is : (phrase rest : List ℕ) → method_text (method_of (whole rest)) phrase (whole rest) ≡ Ok (md5_text phrase rest)
method_is phrase rest = refl

-- ---- the fields

-- the rest is the fields, and begins with their salt
pub record HasSalt (rest : List ℕ) (f : Md5Fields) : Type 0 where
  pub salt : md5_salt rest ≡ f.salt
  pub is : rest ≡ f.salt ++ 36 ∷ f.hash

salt_of : (rest : List ℕ) (f : Md5Fields) → md5_fields (pieces_at 36 rest) ≡ Ok f → HasSalt rest f
salt_of rest f h =
    let found = fields_are (pieces_at 36 rest) f h in
    let lacks : EachLacks 36 (f.salt ∷ (f.hash ∷ [])) = subst (EachLacks 36) found.are (pieces_lack 36 rest) in
    let is : rest ≡ f.salt ++ 36 ∷ f.hash = sym (join_pieces 36 rest) ∙ ap (join_with_byte 36) found.are in
    record {
      salt = ap md5_salt is ∙ ap (take 8) (before_cut f.salt f.hash lacks.0) ∙ take_all 8 f.salt found.short;
      is = is;
    }

-- ---- the verdict

abbrev md5_matches : List ℕ → Md5Fields → Bool
md5_matches phrase f = pointwise nat_eq (md5_field (md5_crypt_digest phrase f.salt Md5)) f.hash

pub record HasFields (phrase rest : List ℕ) (b : Bool) : Type 0 where
  pub fields : IsTold (md5_fields (pieces_at 36 rest)) (md5_matches phrase) b
  pub valid : fault (whole rest) ≡ None

bool_same : (a b : Bool) → as_md5 a ≡ as_md5 b → a ≡ b
bool_same a b h = cc

fields_told : (phrase rest : List ℕ) (b : Bool) → md5_verdict Md5 phrase (pieces_at 36 rest) ≡ as_md5 b
    → IsTold (md5_fields (pieces_at 36 rest)) (md5_matches phrase) b
unfolding md5_verdict
fields_told phrase rest b h =
    told_of (fields_verdict Md5 phrase) as_md5 (md5_matches phrase) (λ e c none. cc)
    (λ f c told. bool_same (md5_matches phrase f) c told) (md5_fields (pieces_at 36 rest)) b h

parts_is : (phrase rest : List ℕ)
    → md5_answer phrase (Ok (parts (whole rest))) ≡ of_md5 (md5_verdict Md5 phrase (pieces_at 36 rest))
unfolding pieces_at
parts_is phrase rest = refl

by_fault : (phrase rest : List ℕ) (o : Option mcf_error.Error) (b : Bool) → fault (whole rest) ≡ o
    → md5_answer phrase (mcf (whole rest)) ≡ as_any b → HasFields phrase rest b
by_fault phrase rest (Some e) b is h =
    let none = sym (ap (md5_answer phrase) (mcf_of_fault (whole rest) e is)) ∙ h in cc
by_fault phrase rest None b is h =
    record {
      fields =
          fields_told phrase rest b
          (md5_ok (md5_verdict Md5 phrase (pieces_at 36 rest)) b
          (sym (ap (md5_answer phrase) (mcf_of_valid (whole rest) is) ∙ parts_is phrase rest) ∙ h));
      valid = is;
    }

module _ (accepted : PasswordHash → List ℕ → ℕ → Bool) (tag : List ℕ → PasswordHash → List ℕ → ℕ → List ℕ) where
  fields_of : (phrase rest : List ℕ) (b : Bool) → length phrase ≤ 511
      → any_verdict accepted tag phrase (whole rest) ≡ as_any b → HasFields phrase rest b
  fields_of phrase rest b short h =
      by_fault phrase rest (fault (whole rest)) b refl
      (sym (row_is accepted tag phrase (whole rest) Md5Crypt short (scheme_is rest)) ∙ h)

  abbrev key : List ℕ → List ℕ → List ℕ
  key phrase salt = md5_field (md5_crypt_digest phrase salt Md5)

  abbrev front : List ℕ → List ℕ
  front salt = codes "$1$" ++ salt ++ codes "$"

  pub md5_law : (phrase rest : List ℕ) (b : Bool) → length phrase ≤ 511
      → any_verdict accepted tag phrase (whole rest) ≡ as_any b
      → (crypt_text phrase (whole rest) ≡ Ok (whole rest)) ↔ (b ≡ true)
  md5_law phrase rest b short h =
      let told = fields_of phrase rest b short h in
      let f = told.fields.means in
      let salt = salt_of rest f told.fields.are in
      law_by phrase (whole rest) (λ (t : List ℕ). front f.salt ++ t) (key phrase f.salt) f.hash b
      (crypt_is phrase (whole rest) short (valid_clean (whole rest) told.valid) ∙ method_is phrase rest
      ∙ ap (λ (s : List ℕ). Ok (front s ++ key phrase s)) salt.salt)
      (ap whole salt.is ∙ sym (append_assoc (codes "$1$" ++ f.salt) (codes "$") f.hash))
      (append_cancel_left (front f.salt) (key phrase f.salt) f.hash)
      told.fields.told
