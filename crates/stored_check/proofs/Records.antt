-- The record of an earlier text, and the normal text.
use Rattle.std.proofs.Common.{◌≡◌, ℕ, suc, ◌+◌, ◌≤◌, Bool, true, false, List, [], ◌∷◌, ◌++◌, length, take, refl, sym}
use Rattle.std.proofs.Common.{ap, subst, ◌∙◌, arith, Result, Ok, Err}
use Rattle.std.specs.Prelude.{IfSome, Option, Some, None, codes}
use Rattle.std.specs.Fmt.{decimal}
use Rattle.std.specs.Option.{option_map}
use Rattle.std.specs.Result.{result_ok}
use Rattle.std.proofs.lemmas.List.{length-append, length-take}
use Rattle.std.specs.Str.{is_utf8}
use Rattle.std.proofs.lemmas.Str.{IsUtf8-from_ascii, is_utf8-from_IsUtf8}
use Rattle.std.proofs.lemmas.Bool.{true≢false}
use Rattle.base64ct.proofs.DecodingLaws.{same_true}
use Rattle.mcf.specs.Grammar.{mcf, fault, fields_text, parts, Parts, parts_text}
use Rattle.mcf.specs.declared.error.Error as mcf_error
use Rattle.mcf.proofs.Ascii.{mcf_of_valid, text_of_valid, valid_ascii}
use Rattle.mcf.proofs.ValidTexts.{join-fields, pieces_of_valid}
use Rattle.sha_crypt.specs.Check.{text_fields}
use Rattle.sha_crypt.specs.Families.{Scheme, old_scheme_fields}
use Rattle.sha_crypt.specs.Fields.{ShaFields, cut_salt, old_number}
use Rattle.sha_crypt.specs.Records.{family_id, family_scheme, field_pieces, old_record_of, record_text}
use Rattle.sha_crypt.specs.RecordViews.{family_of, fields_of_record, kept_fields, printed}
use Rattle.sha_crypt.specs.declared.errors.CheckError.{CheckError}
use Rattle.sha_crypt.specs.declared.errors.Family.{Family}
use Rattle.sha_crypt.specs.declared.record.ShaRecord.{ShaRecord}
use Rattle.sha_crypt.proofs.Decimals.{old_longer}
use Rattle.sha_crypt.proofs.Shapes.{Stands}
use Rattle.sha_crypt.proofs.Spellings.{join-pieces, old_form}
use Rattle.stored_check.specs.Normal.{normal, normal_fields, normal_parts, written_anew}
use Rattle.stored_check.specs.NormalViews.{text_or_record}
use Rattle.stored_check.specs.Verdict.{named_family, same_text, scheme_of}
use Rattle.stored_check.proofs.FamilyTexts.{id_of_family}

-- ---- the record's text is the normal text

pub printed_is : (family : Family) (f : ShaFields)
    → record_text family f ≡ parts_text (record { id = family_id family; fields = field_pieces f })
printed_is family f = sym (join-pieces family f) ∙ join-fields [] (family_id family ∷ field_pieces f)

-- ---- the normal text of a valid text

normal_valid : (stored : List ℕ) → fault stored ≡ None
    → normal stored ≡ normal_parts stored (scheme_of (parts stored).id) (parts stored)
unfolding normal
normal_valid stored valid = rw (mcf_of_valid stored valid) refl

old_record_is : (family : Family) (stored : List ℕ) → fault stored ≡ None
    → same_text (parts stored).id (family_id family) ≡ true
    → old_record_of family stored
    ≡ option_map cut_salt (result_ok (old_scheme_fields (family_scheme family) (parts stored).fields))
unfolding text_fields
old_record_is family stored valid same = rw (pieces_of_valid stored valid, same) refl

by_record : (family : Family) (stored id : List ℕ) (q : Result ShaFields CheckError) (r : Option ShaRecord)
    → id ≡ family_id family
    → kept_fields r ≡ option_map cut_salt (result_ok q) → IfSome r (λ (x : ShaRecord). family_of x ≡ family)
    → normal_fields stored id q ≡ text_or_record stored r
by_record family stored id (Err e) None is h same = refl
by_record family stored id (Err e) (Some x) is h same = absurd cc
by_record family stored id (Ok f) None is h same = absurd cc
by_record family stored id (Ok f) (Some x) is h same =
    let fields : fields_of_record x ≡ cut_salt f = cc in
    ap (λ (i : List ℕ). written_anew i f) is
    ∙ ap (λ (g : ShaFields). parts_text (record { id = family_id family; fields = field_pieces g })) (sym fields)
    ∙ sym (printed_is family (fields_of_record x)) ∙ ap (λ (k : Family). record_text k (fields_of_record x)) (sym same)

pub normal_of_record : (family : Family) (stored : List ℕ) (r : Option ShaRecord) → fault stored ≡ None
    → named_family (parts stored).id ≡ Some family → kept_fields r ≡ old_record_of family stored
    → IfSome r (λ (x : ShaRecord). family_of x ≡ family)
    → normal stored ≡ text_or_record stored r
normal_of_record family stored r valid named kept is =
    let same = id_of_family (parts stored).id family named in
    normal_valid stored valid
    ∙ ap (λ (o : Option Family). normal_parts stored (option_map family_scheme o) (parts stored)) named
    ∙ by_record family stored (parts stored).id (old_scheme_fields (family_scheme family) (parts stored).fields) r
    (same_true (parts stored).id (family_id family) same)
    (kept ∙ old_record_is family stored valid same) is

pub normal_of_other : (stored : List ℕ) → fault stored ≡ None → scheme_of (parts stored).id ≡ None
    → normal stored ≡ stored
normal_of_other stored valid none =
    normal_valid stored valid ∙ ap (λ (o : Option Scheme). normal_parts stored o (parts stored)) none

pub normal_of_fault : (stored : List ℕ) (e : mcf_error.Error) → fault stored ≡ Some e → normal stored ≡ stored
unfolding normal mcf
normal_of_fault stored e bad = rw bad refl

-- ---- it is no longer

length-fields_text : (field : List ℕ) (fields : List (List ℕ))
    → length (fields_text (field ∷ fields)) ≡ suc (length field + length (fields_text fields))
length-fields_text field fields = ap suc (length-append field (fields_text fields))

shorter_by : (w : Bool) (pieces : List (List ℕ)) (f : ShaFields) → f.written ≡ w → Stands old_number pieces f w
    → length (fields_text (field_pieces (cut_salt f))) ≤ length (fields_text pieces)
shorter_by true pieces f is h =
    let digits = old_longer h.0 f.rounds h.2 in
    rw (is, h.1) (omega (
      arith,
      digits,
      length-take 16 f.salt,
      length-fields_text (codes "rounds=" ++ decimal f.rounds) (take 16 f.salt ∷ (f.hash ∷ [])),
      length-fields_text (codes "rounds=" ++ h.0) (f.salt ∷ (f.hash ∷ [])),
      length-fields_text (take 16 f.salt) (f.hash ∷ []),
      length-fields_text f.salt (f.hash ∷ []),
    ))
shorter_by false pieces f is h =
    rw (is, h.0) (omega (
      arith,
      length-take 16 f.salt,
      length-fields_text (take 16 f.salt) (f.hash ∷ []),
      length-fields_text f.salt (f.hash ∷ []),
    ))

shorter_fields : (stored : List ℕ) (p : Parts) (s : Scheme) (r : Result ShaFields CheckError)
    → old_scheme_fields s p.fields ≡ r → parts_text p ≡ stored → length (normal_fields stored p.id r) ≤ length stored
shorter_fields stored p s (Err e) read is = omega arith
shorter_fields stored p s (Ok f) read is =
    let form = old_form s p.fields f read in
    let less = shorter_by f.written p.fields f refl form.stands in
    omega (
      arith,
      less,
      ap length is,
      length-append p.id (fields_text p.fields),
      length-append p.id (fields_text (field_pieces (cut_salt f))),
    )

shorter_parts : (stored : List ℕ) (p : Parts) (o : Option Scheme) → parts_text p ≡ stored
    → length (normal_parts stored o p) ≤ length stored
shorter_parts stored p None is = omega arith
shorter_parts stored p (Some s) is = shorter_fields stored p s (old_scheme_fields s p.fields) refl is

pub normal_shorter : (stored : List ℕ) → fault stored ≡ None → length (normal stored) ≤ length stored
normal_shorter stored valid =
    let less = shorter_parts stored (parts stored) (scheme_of (parts stored).id) (text_of_valid stored valid) in
    omega (arith, less, ap length (normal_valid stored valid))

pub record_fits : (stored : List ℕ) (r : Option ShaRecord) → fault stored ≡ None
    → normal stored ≡ text_or_record stored r → IfSome r (λ (x : ShaRecord). length (printed x) ≤ length stored)
record_fits stored None valid is = tt
record_fits stored (Some x) valid is = let less = normal_shorter stored valid in
    subst (λ (t : List ℕ). length t ≤ length stored) is less

-- ---- bytes that are no text

by_valid : (stored : List ℕ) (o : Option mcf_error.Error) → fault stored ≡ o → is_utf8 stored ≡ false
    → normal stored ≡ stored
by_valid stored None valid other =
    absurd (true≢false (sym (is_utf8-from_IsUtf8 stored (IsUtf8-from_ascii stored (valid_ascii stored valid))) ∙ other))
by_valid stored (Some e) bad other = normal_of_fault stored e bad

pub normal_of_other_bytes : (stored : List ℕ) → is_utf8 stored ≡ false → normal stored ≡ stored
normal_of_other_bytes stored other = by_valid stored (fault stored) refl other
