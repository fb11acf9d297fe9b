-- The parts of a text by what stands behind its first `$`.
use Rattle.std.proofs.Common.{◌≡◌, ℕ, List, [], ◌∷◌, sym, ap, ◌∙◌, drop}
use Rattle.pieces.specs.Pieces.{pieces_at}
use Rattle.pieces.proofs.Cuts.{cut_of}
use Rattle.mcf.specs.Grammar.{parts, parts_of_pieces}

of_drop : (pieces rest : List (List ℕ)) (first : List ℕ) (others : List (List ℕ)) → pieces ≡ first ∷ others
    → drop 1 pieces ≡ rest → pieces ≡ first ∷ rest
of_drop pieces rest first others are is = are ∙ ap (λ ps. first ∷ ps) (ap (drop 1) (sym are) ∙ is)

pub parts_behind : (s id : List ℕ) (fields : List (List ℕ)) → drop 1 (pieces_at 36 s) ≡ id ∷ fields
    → parts s ≡ record { id = id; fields = fields }
parts_behind s id fields is = let cut = cut_of 36 s in
    ap parts_of_pieces (of_drop (pieces_at 36 s) (id ∷ fields) cut.first cut.others cut.are is)

pub no_parts : (s : List ℕ) → drop 1 (pieces_at 36 s) ≡ [] → parts s ≡ record { id = []; fields = [] }
no_parts s is = let cut = cut_of 36 s in
    ap parts_of_pieces (of_drop (pieces_at 36 s) [] cut.first cut.others cut.are is)
