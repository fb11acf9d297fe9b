-- The pieces of a text without a fault.
use Rattle.std.proofs.Common.{◌≡◌, ℕ, true, List, [], ◌∷◌, ◌++◌, ap, ◌∙◌, sym, refl, arith}
use Rattle.std.specs.Prelude.{None, Ok, ◌==◌}
use Rattle.std.specs.List.{join_with_byte}
use Rattle.std.proofs.lemmas.Bool.Decides.{nat_tests}
use Rattle.std.proofs.lemmas.List.{append-nil}
use Rattle.pieces.specs.Pieces.{pieces_at}
use Rattle.pieces.proofs.Cuts.{cut_of, cut_in_front, join_pieces}
use Rattle.mcf.specs.declared.error.Error.TheVariants.{DelimiterInvalid, IdentifierInvalid}
use Rattle.mcf.specs.Grammar.{first_field_fault, is_delimited, is_identifier, fault, mcf, parts, Parts}
use Rattle.pieces.specs.Faults.{or_else, unless}
use Rattle.pieces.proofs.FaultLaws.{or_none, some_none, unless_none, value_found}
use Rattle.mcf.specs.Grammar.{parts_of_pieces, parts_text, fields_text}

-- what holds of a text without a fault
pub record IsValid (s : List ℕ) : Type 0 where
  pub delimited : is_delimited s ≡ true
  pub identifier : is_identifier (parts s).id ≡ true
  pub fields : first_field_fault (parts s).fields ≡ None

pub valid_of : (s : List ℕ) → fault s ≡ None → IsValid s
valid_of s h =
    let both = or_none (unless (is_delimited s) DelimiterInvalid)
    (or_else (unless (is_identifier (parts s).id) IdentifierInvalid) (first_field_fault (parts s).fields)) h in
    let behind = or_none (unless (is_identifier (parts s).id) IdentifierInvalid) (first_field_fault (parts s).fields)
    both.1 in
    record {
      delimited = unless_none (is_delimited s) DelimiterInvalid both.0;
      identifier = unless_none (is_identifier (parts s).id) IdentifierInvalid behind.0;
      fields = behind.1;
    }

first_byte : (b : ℕ) (s : List ℕ) → is_delimited (b ∷ s) ≡ true → b ≡ 36
first_byte b s h =
    let front : (b == 36) ≡ true = grind (arith, nat_tests, h) in
    grind (arith, nat_tests, front)

of_pieces : (pieces rest : List (List ℕ)) (id : List ℕ) (others : List (List ℕ)) → pieces ≡ [] ∷ rest
    → rest ≡ id ∷ others
    → pieces ≡ [] ∷ ((parts_of_pieces pieces).id ∷ (parts_of_pieces pieces).fields)
of_pieces pieces rest id others is cut = rw (is, cut) refl

-- a text without a fault is cut into an empty piece, its identifier and its fields
pub pieces_of_valid : (s : List ℕ) → fault s ≡ None → pieces_at 36 s ≡ [] ∷ ((parts s).id ∷ (parts s).fields)
pieces_of_valid [] h = absurd (some_none DelimiterInvalid h)
pieces_of_valid (b ∷ s) h =
    let dollar : b ≡ 36 = first_byte b s (valid_of (b ∷ s) h).delimited in
    let cut = cut_of 36 s in
    of_pieces (pieces_at 36 (b ∷ s)) (pieces_at 36 s) cut.first cut.others
    (ap (λ (x : ℕ). pieces_at 36 (x ∷ s)) dollar ∙ cut_in_front 36 s) cut.are

-- ---- the text of the parts

-- pieces joined behind a first one
pub join-fields : (piece : List ℕ) (fields : List (List ℕ))
    → join_with_byte 36 (piece ∷ fields) ≡ piece ++ fields_text fields
join-fields piece [] = sym (append-nil piece)
join-fields piece (field ∷ fields) = ap (λ (t : List ℕ). piece ++ 36 ∷ t) (join-fields field fields)

-- a text is that of its identifier and its fields
pub parts_text-mcf : (s : List ℕ) (p : Parts) → mcf s ≡ Ok p → parts_text p ≡ s
unfolding mcf
parts_text-mcf s p h =
    let is = value_found (parts s) p (fault s) h in
    let cut = pieces_of_valid s is.0 in
    ap parts_text (sym is.1) ∙ sym (join-fields [] ((parts s).id ∷ (parts s).fields)) ∙ ap (join_with_byte 36) (sym cut)
    ∙ join_pieces 36 s
