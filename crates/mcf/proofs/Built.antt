-- Texts that are built from an identifier and fields.
use Rattle.std.proofs.Common.{◌≡◌, ◌≢◌, ℕ, suc, ◌+◌, ◌-◌, Bool, true, false, List, [], ◌∷◌, ◌++◌, length, drop}
use Rattle.std.proofs.Common.{refl, sym, ap, ◌∙◌, arith}
use Rattle.std.specs.Prelude.{not, nat_eq, Some, None, Ok, if◌then◌else◌}
use Rattle.std.specs.List.{list_all, starts_with, ends_with}
use Rattle.std.specs.Cmp.Lexicographic.{pointwise}
use Rattle.std.proofs.lemmas.Bool.{and_parts}
use Rattle.std.proofs.lemmas.Bool.Decides.{nat_tests}
use Rattle.std.proofs.lemmas.List.{append-nil, append_assoc, length-append}
use Rattle.std.proofs.Math.Seq.{drop-append-add}
use Rattle.pieces.specs.Pieces.{LacksByte, pieces_at}
use Rattle.pieces.proofs.Cuts.{cut_append, cut_in_front, one_piece}
use Rattle.mcf.specs.declared.error.Error.TheVariants.{FieldInvalid, EncodingInvalid}
use Rattle.mcf.specs.Grammar.{field_fault, first_field_fault, fields_text, is_field_byte}
use Rattle.pieces.specs.Characters.{is_name_byte}
use Rattle.mcf.specs.Grammar.{is_delimited, is_identifier, fault, mcf, parts, Parts, parts_of_pieces, parts_text}
use Rattle.mcf.specs.Grammar.{with_dollar, with_field}
use Rattle.mcf.proofs.ValidTexts.{valid_of, pieces_of_valid}
use Rattle.pieces.proofs.FaultLaws.{or_none, some_none}
use Rattle.pieces.proofs.ByteTests.{lacks}

-- ---- bytes that are no `$`

other_byte : (b : ℕ) → b ≢ 36 → pointwise nat_eq (36 ∷ []) (b ∷ []) ≡ false
other_byte b other = grind (arith, nat_tests, other)

last_byte : (b : ℕ) (s : List ℕ) → LacksByte 36 (b ∷ s) → pointwise nat_eq (36 ∷ []) (drop (length s) (b ∷ s)) ≡ false
last_byte b [] none = other_byte b (none 0 (omega arith))
last_byte b (c ∷ s) none = last_byte c s (λ i below. none (suc i) (omega (arith, below)))

not_at_end : (s : List ℕ) (b : ℕ) (part : List ℕ) → LacksByte 36 (b ∷ part)
    → ends_with nat_eq (s ++ 36 ∷ (b ∷ part)) (36 ∷ []) ≡ false
not_at_end s b part none =
    let tail : List ℕ = 36 ∷ (b ∷ part) in
    let at : length (s ++ tail) - 1 ≡ length s + suc (length part) = omega (arith, length-append s tail) in
    let cut : drop (length s + suc (length part)) (s ++ tail) ≡ drop (suc (length part)) tail =
    drop-append-add s tail (suc (length part)) in
    rw (at, cut) (last_byte b part none)

-- ---- a text by its pieces

whole : (s id : List ℕ) (fields : List (List ℕ)) → is_delimited s ≡ true → pieces_at 36 s ≡ [] ∷ (id ∷ fields)
    → is_identifier id ≡ true → first_field_fault fields ≡ None
    → (fault s ≡ None) × (parts s ≡ record { id = id; fields = fields })
whole s id fields delimited cut name good = (rw (delimited, cut, name) good, ap parts_of_pieces cut)

-- ---- an identifier alone

pub identifier_bytes : (id : List ℕ) → is_identifier id ≡ true → list_all is_name_byte id ≡ true
identifier_bytes id h = grind (arith, nat_tests, h)

no_identifier : is_identifier [] ≡ true → ⊥
no_identifier h = cc

pub fault_identifier : (id : List ℕ) → is_identifier id ≡ true
    → (fault (with_dollar id) ≡ None) × (parts (with_dollar id) ≡ record { id = id; fields = [] })
fault_identifier [] h = absurd (no_identifier h)
fault_identifier (b ∷ id) h =
    let none = lacks is_name_byte 36 refl (b ∷ id) (identifier_bytes (b ∷ id) h) in
    let end = not_at_end [] b id none in
    let cut = cut_in_front 36 (b ∷ id) ∙ ap (λ (ps : List (List ℕ)). [] ∷ ps) (one_piece 36 (b ∷ id) none) in
    whole (36 ∷ (b ∷ id)) (b ∷ id) [] (rw end refl) cut h refl

-- ---- one more field

pub field_bytes : (b : ℕ) (field : List ℕ) → field_fault (b ∷ field) ≡ None → list_all is_field_byte (b ∷ field) ≡ true
field_bytes b field h = by_test (list_all is_field_byte (b ∷ field)) h
  where
    by_test : (t : Bool) → (if t then None else Some EncodingInvalid) ≡ None → t ≡ true
    by_test true e = refl
    by_test false e = absurd (some_none EncodingInvalid e)

more_fields : (fields : List (List ℕ)) (field : List ℕ) → first_field_fault fields ≡ None → field_fault field ≡ None
    → first_field_fault (fields ++ field ∷ []) ≡ None
more_fields [] field h good = rw good refl
more_fields (first ∷ fields) field h good =
    let both = or_none (field_fault first) (first_field_fault fields) h in
    rw (both.0) (more_fields fields field both.1 good)

starts : (s t : List ℕ) → is_delimited s ≡ true → starts_with nat_eq (s ++ t) (36 ∷ []) ≡ true
starts [] t h = absurd (grind (arith, nat_tests, h))
starts (b ∷ s) t h = (and_parts (starts_with nat_eq (b ∷ s) (36 ∷ [])) (not (ends_with nat_eq (b ∷ s) (36 ∷ []))) h).0

-- the grammar is kept, the identifier stays, and the field is one more
pub fault_pushed : (s field : List ℕ) → fault s ≡ None → field_fault field ≡ None
    → (fault (s ++ with_dollar field) ≡ None) × (parts (s ++ with_dollar field) ≡ with_field (parts s) field)
fault_pushed s [] h good = absurd (some_none FieldInvalid good)
fault_pushed s (b ∷ field) h good =
    let valid = valid_of s h in
    let none = lacks is_field_byte 36 refl (b ∷ field) (field_bytes b field good) in
    let cut : pieces_at 36 (s ++ 36 ∷ (b ∷ field)) ≡ [] ∷ ((parts s).id ∷ ((parts s).fields ++ (b ∷ field) ∷ [])) =
    cut_append 36 s (b ∷ field) ∙ ap (λ (ps : List (List ℕ)). ps ++ pieces_at 36 (b ∷ field)) (pieces_of_valid s h)
    ∙ ap (λ (ps : List (List ℕ)). [] ∷ ((parts s).id ∷ ((parts s).fields ++ ps))) (one_piece 36 (b ∷ field) none) in
    let front = starts s (36 ∷ (b ∷ field)) valid.delimited in
    let end = not_at_end s b field none in
    whole (s ++ 36 ∷ (b ∷ field)) (parts s).id ((parts s).fields ++ (b ∷ field) ∷ []) (rw (front, end) refl) cut
    valid.identifier
    (more_fields (parts s).fields (b ∷ field) valid.fields good)

-- ---- all fields

pushed_all : (s : List ℕ) (fields : List (List ℕ)) → fault s ≡ None → first_field_fault fields ≡ None
    → (fault (s ++ fields_text fields) ≡ None)
    × (parts (s ++ fields_text fields) ≡ record { id = (parts s).id; fields = (parts s).fields ++ fields })
pushed_all s [] h good = rw (append-nil s, append-nil (parts s).fields) (h, refl)
pushed_all s (field ∷ fields) h good =
    let both = or_none (field_fault field) (first_field_fault fields) good in
    let one = fault_pushed s field h both.0 in
    let rest = pushed_all (s ++ with_dollar field) fields one.0 both.1 in
    let same : (s ++ with_dollar field) ++ fields_text fields ≡ s ++ (with_dollar field ++ fields_text fields) =
    append_assoc s (with_dollar field) (fields_text fields) in (
      ap fault (sym same) ∙ rest.0,
      ap parts (sym same) ∙ rest.1 ∙ ap (λ (p : Parts). record { id = p.id; fields = p.fields ++ fields }) one.1
          ∙ ap (λ (fs : List (List ℕ)). record { id = (parts s).id; fields = fs })
          (append_assoc (parts s).fields (field ∷ []) fields),
    )

-- the text of an identifier and fields without a fault has them as its parts
pub mcf-parts_text : (p : Parts) → is_identifier p.id ≡ true → first_field_fault p.fields ≡ None
    → mcf (parts_text p) ≡ Ok p
unfolding mcf
mcf-parts_text p name good =
    let front = fault_identifier p.id name in
    let all = pushed_all (with_dollar p.id) p.fields front.0 good in
    let are : parts (parts_text p) ≡ p =
    all.1 ∙ ap (λ (q : Parts). record { id = q.id; fields = q.fields ++ p.fields }) front.1 in
    rw (all.0) (ap Ok are)
