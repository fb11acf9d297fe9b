-- Normal texts, their verdicts and their length.
use Rattle.std.proofs.Common.{◌≡◌, ℕ, zero, suc, ◌<◌, ◌≤◌, ◌^◌, Bool, true, false, List, [], ◌∷◌, ◌++◌, length, take}
use Rattle.std.proofs.Common.{refl, sym, ap, ◌∙◌, arith, Result, Ok, Err}
use Rattle.std.specs.Prelude.{◌||◌, nat_lt, Option, Some, None, if◌then◌else◌, codes}
use Rattle.std.specs.Char.{is_ascii_digit}
use Rattle.std.specs.Fmt.{decimal}
use Rattle.std.specs.List.{list_all}
use Rattle.std.specs.Result.{result_ok}
use Rattle.std.specs.Str.{all_ascii_digits}
use Rattle.std.proofs.lemmas.Bool.{and_parts}
use Rattle.std.proofs.lemmas.Fmt.{digits_decimal}
use Rattle.std.proofs.lemmas.Str.Parse.{numerals_by_value, tells_all_ascii_digits}
use Rattle.mcf.specs.Grammar.{mcf, fault, field_fault, first_field_fault, is_field_byte, is_identifier, parts}
use Rattle.pieces.specs.Lists.{is_empty}
use Rattle.mcf.specs.Grammar.{Parts, parts_text}
use Rattle.mcf.specs.declared.error.Error as mcf_error
use Rattle.mcf.specs.declared.error.Error.TheVariants.{FieldInvalid}
use Rattle.mcf.proofs.Built.{field_bytes, mcf-parts_text}
use Rattle.mcf.proofs.ValidTexts.{valid_of}
use Rattle.pieces.proofs.FaultLaws.{or_none, some_none, err_ok, value_found}
use Rattle.phc.specs.declared.password_hash.PasswordHash.{PasswordHash}
use Rattle.sha_crypt.specs.Families.{Scheme, scheme_fields, old_scheme_fields}
use Rattle.sha_crypt.specs.Fields.{ShaFields, cut_salt, old_number}
use Rattle.sha_crypt.specs.Records.{field_pieces}
use Rattle.sha_crypt.specs.declared.errors.CheckError.{CheckError}
use Rattle.sha_crypt.proofs.Shapes.{Stands}
use Rattle.sha_crypt.proofs.Spellings.{cut_once, old_form, same_hash_field, today, written_anew}
use Rattle.stored_check.specs.declared.error.StoredError.{StoredError}
use Rattle.stored_check.specs.Normal as spec
use Rattle.stored_check.specs.Normal.{normal, normal_answer, normal_fields, normal_parts, old_verdict, old_text_answer}
use Rattle.stored_check.specs.Normal.{old_parts_answer}
use Rattle.stored_check.specs.Verdict.{same_text, scheme_of, sha_answer, text_answer, verdict}

-- ---- fields without a fault

pub record IsField (s : List ℕ) : Type 0 where
  pub some : is_empty s ≡ false
  pub bytes : list_all is_field_byte s ≡ true

pub field_of : (s : List ℕ) → field_fault s ≡ None → IsField s
field_of [] h = absurd (some_none FieldInvalid h)
field_of (b ∷ s) h = record { some = refl; bytes = field_bytes b s h }

of_field : (s : List ℕ) → IsField s → field_fault s ≡ None
of_field s h = rw (h.some, h.bytes) refl

bytes_take : (k : ℕ) (s : List ℕ) → list_all is_field_byte s ≡ true → list_all is_field_byte (take k s) ≡ true
bytes_take zero s h = refl
bytes_take (suc k) [] h = refl
bytes_take (suc k) (b ∷ s) h =
    let both = and_parts (is_field_byte b) (list_all is_field_byte s) h in
    rw (both.0) (bytes_take k s both.1)

cut_field : (s : List ℕ) → field_fault s ≡ None → field_fault (take 16 s) ≡ None
cut_field [] h = h
cut_field (b ∷ s) h = of_field (take 16 (b ∷ s))
    (record { some = refl; bytes = bytes_take 16 (b ∷ s) (field_of (b ∷ s) h).bytes })

digit_by : (t p q r : Bool) → t ≡ true → (((t || p) || q) || r) ≡ true
digit_by true p q r h = refl
digit_by false p q r h = absurd cc

digit_field : (b : ℕ) → is_ascii_digit b ≡ true → is_field_byte b ≡ true
digit_field b h = digit_by (is_ascii_digit b) _ _ _ h

digits_field : (s : List ℕ) → all_ascii_digits s ≡ true → list_all is_field_byte s ≡ true
digits_field [] h = refl
digits_field (b ∷ s) h =
    let both = and_parts (is_ascii_digit b) (all_ascii_digits s) h in
    let one : is_field_byte b ≡ true = digit_field b both.0 in
    rw (one) (digits_field s both.1)

pub rounds_field : (n : ℕ) → n < 2 ^ 64 → field_fault (codes "rounds=" ++ decimal n) ≡ None
rounds_field n small = rw
    (digits_field (decimal n)
    (digits_decimal (numerals_by_value (λ ds. all_ascii_digits ds ≡ true) tells_all_ascii_digits) n small)) refl

-- the fields of an earlier text, written anew, are fields
fields_by : (w : Bool) (pieces : List (List ℕ)) (f : ShaFields) → f.written ≡ w → f.rounds ≤ 999999999
    → Stands old_number pieces f w → first_field_fault pieces ≡ None
    → first_field_fault (field_pieces (cut_salt f)) ≡ None
fields_by true pieces f is most h good =
    let all = rw h.1 at good in
    let first = or_none (field_fault (codes "rounds=" ++ h.0)) (first_field_fault (f.salt ∷ (f.hash ∷ []))) all in
    let salt = or_none (field_fault f.salt) (first_field_fault (f.hash ∷ [])) first.1 in
    rw (is, rounds_field f.rounds (omega (arith, most)), cut_field f.salt salt.0) salt.1
fields_by false pieces f is most h good =
    let all = rw h.0 at good in
    let salt = or_none (field_fault f.salt) (first_field_fault (f.hash ∷ [])) all in
    rw (is, cut_field f.salt salt.0) salt.1

anew_good : (s : Scheme) (pieces : List (List ℕ)) (f : ShaFields) → old_scheme_fields s pieces ≡ Ok f
    → first_field_fault pieces ≡ None
    → first_field_fault (field_pieces (cut_salt f)) ≡ None
anew_good s pieces f h good = let form = old_form s pieces f h in
    fields_by f.written pieces f refl form.most form.stands good

-- ---- parts of a text

record IsValidParts (p : Parts) : Type 0 where
  identifier : is_identifier p.id ≡ true
  fields : first_field_fault p.fields ≡ None

valid_parts : (stored : List ℕ) (p : Parts) → mcf stored ≡ Ok p → IsValidParts p
unfolding mcf
valid_parts stored p h =
    let both = value_found (parts stored) p (fault stored) h in
    let valid = valid_of stored both.0 in
    record {
      identifier = ap (λ (q : Parts). is_identifier q.id) (sym both.1) ∙ valid.identifier;
      fields = ap (λ (q : Parts). first_field_fault q.fields) (sym both.1) ∙ valid.fields;
    }

abbrev anew_parts : Parts → ShaFields → Parts
anew_parts p f = record { id = p.id; fields = field_pieces (cut_salt f) }

mcf_anew : (stored : List ℕ) (p : Parts) (s : Scheme) (f : ShaFields) → mcf stored ≡ Ok p
    → old_scheme_fields s p.fields ≡ Ok f
    → mcf (spec.written_anew p.id f) ≡ Ok (anew_parts p f)
mcf_anew stored p s f h read =
    let valid = valid_parts stored p h in
    mcf-parts_text (anew_parts p f) valid.identifier (anew_good s p.fields f read valid.fields)

-- ---- the verdict on a normal text

module _ (accepted : PasswordHash → List ℕ → ℕ → Bool) (tag : List ℕ → PasswordHash → List ℕ → ℕ → List ℕ)
    (password : List ℕ) where
  no_fields : (s : Scheme) (pieces : List (List ℕ)) (e : CheckError) (r : Result ShaFields CheckError)
      → old_scheme_fields s pieces ≡ Err e → scheme_fields s pieces ≡ r
      → None ≡ result_ok (sha_answer s password r)
  no_fields s pieces e (Err e') old is = refl
  no_fields s pieces e (Ok f) old is = absurd (two (today s pieces f is).old)
    where
      two : old_scheme_fields s pieces ≡ Ok f → ⊥
      two new = err_ok e f (sym old ∙ new)

  module _ (stored : List ℕ) (p : Parts) (h : mcf stored ≡ Ok p) where
    by_fields : (s : Scheme) (r : Result ShaFields CheckError) → scheme_of p.id ≡ Some s
        → old_scheme_fields s p.fields ≡ r
        → result_ok (sha_answer s password r)
        ≡ result_ok (text_answer accepted tag password (mcf (normal_fields stored p.id r)))
    by_fields s (Err e) is read = rw (h, is) (no_fields s p.fields e (scheme_fields s p.fields) read refl)
    by_fields s (Ok f) is read =
        rw (mcf_anew stored p s f h read, is, written_anew s p.fields f read)
        (ap (λ (t : List ℕ). Some (same_text t f.hash)) (sym (same_hash_field s password f)))

    by_scheme : (o : Option Scheme) → scheme_of p.id ≡ o
        → result_ok (old_parts_answer accepted tag password o p)
        ≡ result_ok (text_answer accepted tag password (mcf (normal_parts stored o p)))
    by_scheme None is = rw (h, is) refl
    by_scheme (Some s) is = by_fields s (old_scheme_fields s p.fields) is refl

  by_text : (stored : List ℕ) (r : Result Parts mcf_error.Error) → mcf stored ≡ r
      → result_ok (old_text_answer accepted tag password r)
      ≡ result_ok (text_answer accepted tag password (mcf (normal_answer stored r)))
  by_text stored (Err e) h = rw h refl
  by_text stored (Ok p) h = by_scheme stored p h (scheme_of p.id) refl

  by_length : (t : Bool) (x y : Result Bool StoredError) (e : StoredError) → result_ok x ≡ result_ok y
      → result_ok (if t then Err e else x) ≡ result_ok (if t then Err e else y)
  by_length true x y e h = refl
  by_length false x y e h = h

  -- the verdicts, where there are any, are the same
  pub same_verdict : (stored : List ℕ)
      → result_ok (old_verdict accepted tag password stored) ≡ result_ok (verdict accepted tag password (normal stored))
  unfolding old_verdict verdict normal
  same_verdict stored = by_length (nat_lt 4096 (length password)) _ _ _ (by_text stored (mcf stored) refl)

-- ---- a normal text is its own normal text

abbrev IsNormal : List ℕ → Type 0
IsNormal t = normal t ≡ t

kept : (stored t : List ℕ) → normal stored ≡ t → t ≡ stored → IsNormal t
kept stored t is same = ap normal same ∙ is

cut_twice : (f : ShaFields) → cut_salt (cut_salt f) ≡ cut_salt f
cut_twice f = ap (λ (s : List ℕ). record f { salt = s }) (cut_once f.salt)

anew_normal : (stored : List ℕ) (p : Parts) (s : Scheme) (f : ShaFields) → mcf stored ≡ Ok p → scheme_of p.id ≡ Some s
    → old_scheme_fields s p.fields ≡ Ok f
    → IsNormal (spec.written_anew p.id f)
unfolding normal
anew_normal stored p s f h is read =
    let again : old_scheme_fields s (field_pieces (cut_salt f)) ≡ Ok (cut_salt f) =
    (today s (field_pieces (cut_salt f)) (cut_salt f) (written_anew s p.fields f read)).old in
    rw (mcf_anew stored p s f h read, is, again)
    (ap (λ (g : ShaFields). parts_text (record { id = p.id; fields = field_pieces g })) (cut_twice f))

twice_fields : (stored : List ℕ) (p : Parts) (s : Scheme) (r : Result ShaFields CheckError) → mcf stored ≡ Ok p
    → scheme_of p.id ≡ Some s → old_scheme_fields s p.fields ≡ r
    → normal stored ≡ normal_fields stored p.id r → IsNormal (normal_fields stored p.id r)
twice_fields stored p s (Err e) h is read all = kept stored stored all refl
twice_fields stored p s (Ok f) h is read all = anew_normal stored p s f h is read

twice_parts : (stored : List ℕ) (p : Parts) (o : Option Scheme) → mcf stored ≡ Ok p → scheme_of p.id ≡ o
    → normal stored ≡ normal_parts stored o p → IsNormal (normal_parts stored o p)
twice_parts stored p None h is all = kept stored stored all refl
twice_parts stored p (Some s) h is all = twice_fields stored p s (old_scheme_fields s p.fields) h is refl all

twice_answer : (stored : List ℕ) (r : Result Parts mcf_error.Error) → mcf stored ≡ r
    → normal stored ≡ normal_answer stored r → IsNormal (normal_answer stored r)
twice_answer stored (Err e) h all = kept stored stored all refl
twice_answer stored (Ok p) h all = twice_parts stored p (scheme_of p.id) h refl all

normal_is : (stored : List ℕ) → normal stored ≡ normal_answer stored (mcf stored)
unfolding normal
normal_is stored = refl

pub normal_twice : (stored : List ℕ) → normal (normal stored) ≡ normal stored
normal_twice stored = ap normal (normal_is stored) ∙ twice_answer stored (mcf stored) refl (normal_is stored)
    ∙ sym (normal_is stored)

-- ---- from one verdict to the other

abbrev some_verdict : Bool → Option Bool
some_verdict b = Some b

none_some : (b : Bool) → None ≡ some_verdict b → ⊥
none_some b h = cc

some_same : (b c : Bool) → some_verdict c ≡ some_verdict b → c ≡ b
some_same b c h = cc

abbrev pub as_verdict : Bool → Result Bool StoredError
as_verdict b = Ok b

pub ok_same : (x y : Result Bool StoredError) (b : Bool) → result_ok x ≡ result_ok y → x ≡ as_verdict b
    → y ≡ as_verdict b
ok_same x (Ok c) b same is = ap as_verdict (some_same b c (sym same ∙ ap result_ok is))
ok_same x (Err e) b same is = absurd (none_some b (sym same ∙ ap result_ok is))
