-- The parts of a text behind its first `$`.
use Rattle.std.proofs.Common.{◌≡◌, ℕ, List, [], ◌∷◌, Err, refl, sym, ap, ◌∙◌}
use Rattle.std.specs.Prelude.{None, Some, drop}
use Rattle.pieces.specs.Pieces.{behind, pieces_at}
use Rattle.pieces.proofs.Cuts.{cut_of}
use Rattle.pieces.proofs.Fronts.{behind_cut, no_cut_in_front}
use Rattle.pieces.specs.Faults.{value_or_fault}
use Rattle.phc.specs.Counts.{layout_of_text}
use Rattle.phc.specs.Grammar.{Layout, fault_of_layout, layout}
use Rattle.phc.specs.Record.{phc, phc_of_pieces, phc_text, record_of_layout}
use Rattle.phc.specs.declared.error.Error.TheVariants.{MissingField}

pub no_record : (s : List ℕ) → behind s (36 ∷ []) ≡ None → phc_text s ≡ Err MissingField
unfolding phc_text pieces_at
no_record [] is = refl
no_record (b ∷ s) is = rw (no_cut_in_front 36 b s is, (cut_of 36 s).are) refl

pub pieces_are : (s body id : List ℕ) (pieces : List (List ℕ)) → behind s (36 ∷ []) ≡ Some body
    → pieces_at 36 body ≡ id ∷ pieces → pieces_at 36 s ≡ [] ∷ (id ∷ pieces)
pieces_are s body id pieces is cut = behind_cut 36 s body is ∙ ap (λ ps. [] ∷ ps) cut

-- by the parts of the pieces behind the identifier
pub record_is : (s id : List ℕ) (pieces : List (List ℕ)) (l : Layout) → pieces_at 36 s ≡ [] ∷ (id ∷ pieces)
    → l ≡ layout pieces
    → value_or_fault (record_of_layout id l) (fault_of_layout id l) ≡ phc_text s
unfolding phc phc_text
record_is s id pieces l are is =
    ap (λ (x : Layout). value_or_fault (record_of_layout id x) (fault_of_layout id x)) is
    ∙ sym (ap phc_of_pieces are)

pub parts_are : (s id : List ℕ) (pieces : List (List ℕ)) (l : Layout) → pieces_at 36 s ≡ [] ∷ (id ∷ pieces)
    → l ≡ layout pieces → l ≡ layout_of_text s
parts_are s id pieces l are is = is ∙ sym (ap (λ (ps : List (List ℕ)). layout (drop 2 ps)) are)
