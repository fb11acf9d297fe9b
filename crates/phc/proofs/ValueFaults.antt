-- The fault of what stands behind the name of a pair, by that text and its first piece.
use Rattle.std.proofs.Common.{◌≡◌, ℕ, ◌≤◌, Bool, true, false, List, [], ◌∷◌, length, refl, sym, ap, ◌∙◌, arith}
use Rattle.std.specs.Prelude.{◌&&◌, nat_le, Some, None}
use Rattle.std.specs.List.{join_with_byte}
use Rattle.std.proofs.lemmas.Bool.{and_parts}
use Rattle.std.proofs.lemmas.Bool.Decides.{nat_tests}
use Rattle.std.proofs.Math.Bool.{and-false}
use Rattle.pieces.specs.Faults.{first_fault, or_else, unless}
use Rattle.pieces.specs.Lists.{is_empty}
use Rattle.pieces.specs.Pieces.{pieces_at}
use Rattle.pieces.proofs.Cuts.{join_pieces, one_piece}
use Rattle.phc.specs.Grammar.{behind_name_fault, has_value_bytes, is_value_byte}
use Rattle.phc.specs.declared.error.Error.TheVariants.{ParamValueInvalid, ParamValueTooLong}
use Rattle.phc.proofs.Characters.{lacks}

-- a value has no `=`
pub no_fault : (text : List ℕ) → (nat_le (length text) 64 && has_value_bytes text) ≡ true
    → behind_name_fault (pieces_at 61 text) ≡ None
no_fault text h =
    let parts = and_parts (nat_le (length text) 64) (has_value_bytes text) h in
    rw (one_piece 61 text (lacks is_value_byte 61 refl text parts.1), parts.0, parts.1) refl

-- the tests of a piece that is short, and of those behind it
by_tests : (bytes end : Bool) → (bytes && end) ≡ false
    → or_else (first_fault (unless true ParamValueTooLong ∷ (unless bytes ParamValueInvalid ∷ [])))
    (unless end ParamValueInvalid) ≡ Some ParamValueInvalid
by_tests true true h = cc
by_tests true false h = refl
by_tests false end h = refl

-- a text that is no value has another character in its first piece, or more than that piece
not_both : (text value : List ℕ) (more : List (List ℕ)) → pieces_at 61 text ≡ value ∷ more
    → nat_le (length value) 64 ≡ true → (nat_le (length text) 64 && has_value_bytes text) ≡ false
    → (has_value_bytes value && is_empty more) ≡ false
not_both text value [] cut short none =
    let same : value ≡ text = sym (ap (join_with_byte 61) cut) ∙ join_pieces 61 text in
    and_true (has_value_bytes value) (rw (← same, short) at none)
  where
    and_true : (t : Bool) → t ≡ false → (t && true) ≡ false
    and_true false h = refl
    and_true true h = cc
not_both text value (piece ∷ more) cut short none = and-false (has_value_bytes value)

pub invalid : (text value : List ℕ) (more : List (List ℕ)) → pieces_at 61 text ≡ value ∷ more → length value ≤ 64
    → (nat_le (length text) 64 && has_value_bytes text) ≡ false
    → behind_name_fault (pieces_at 61 text) ≡ Some ParamValueInvalid
invalid text value more cut short none =
    let test : nat_le (length value) 64 ≡ true = grind (arith, nat_tests, short) in
    rw (cut, test) (by_tests (has_value_bytes value) (is_empty more) (not_both text value more cut test none))
