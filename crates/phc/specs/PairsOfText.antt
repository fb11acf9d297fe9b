-- Proofs that the model of `ParamsString` cites: a text without a fault is the text of its pairs. No public clause names
-- these words.
use Rattle.std.specs.Prelude.{◌≡◌, ℕ, List, [], ◌∷◌, nat_le, map, length, Some, None, refl}
use Rattle.std.proofs.Common.{◌∙◌, ap}
use Rattle.std.specs.List.{join_with_byte}
use Rattle.pieces.specs.Characters.{comma, equals}
use Rattle.pieces.specs.Pieces.{pieces_at}
use Rattle.pieces.proofs.Cuts.{join_pieces}
use Rattle.phc.specs.Grammar.{behind_name_fault, cut_pairs, name_fault, pair_fault, pair_of, value_fault}
use Rattle.pieces.specs.Faults.{first_fault, unless}
use Rattle.pieces.proofs.FaultLaws.{first_none, or_none, some_none}
use Rattle.phc.specs.Params.{pair_text, pairs_text}
use Rattle.phc.specs.Grammar.{text_pairs, text_fault}
use Rattle.phc.specs.declared.error.Error.TheVariants.{ParamNameInvalid, ParamValueInvalid, ParamsMaxExceeded}

-- the pieces of a pair without a fault are a name and a value
pair_joins : (pieces : List (List ℕ)) → pair_fault pieces ≡ None
    → pair_text (pair_of pieces) ≡ join_with_byte equals pieces
pair_joins [] h = absurd (some_none ParamNameInvalid h)
pair_joins (name ∷ []) h =
    absurd (some_none ParamValueInvalid (or_none (name_fault name) (Some ParamValueInvalid) h).1)
pair_joins (name ∷ (value ∷ [])) h = refl
pair_joins (name ∷ (value ∷ (more ∷ pieces))) h =
    let behind = (or_none (name_fault name) (behind_name_fault (value ∷ (more ∷ pieces))) h).1 in
    absurd (some_none ParamValueInvalid (or_none (value_fault value) (Some ParamValueInvalid) behind).1)

each_joins : (parts : List (List ℕ)) → first_fault (map pair_fault (map (pieces_at equals) parts)) ≡ None
    → map pair_text (map pair_of (map (pieces_at equals) parts)) ≡ parts
each_joins [] h = refl
each_joins (part ∷ parts) h =
    let cut = first_none (pair_fault (pieces_at equals part)) (map pair_fault (map (pieces_at equals) parts)) h in
    ap (λ t. t ∷ map pair_text (map pair_of (map (pieces_at equals) parts)))
    (pair_joins (pieces_at equals part) cut.0 ∙ join_pieces equals part)
    ∙ ap (λ ps. part ∷ ps) (each_joins parts cut.1)

pub pairs_text-text_pairs : (s : List ℕ) → text_fault s ≡ None → pairs_text (text_pairs s) ≡ s
pairs_text-text_pairs [] h = refl
pairs_text-text_pairs (b ∷ s) h =
    ap (join_with_byte comma) (each_joins (pieces_at comma (b ∷ s))
    (first_none (unless (nat_le (length (b ∷ s)) 127) ParamsMaxExceeded) (map pair_fault (cut_pairs (b ∷ s))) h).1)
    ∙ join_pieces comma (b ∷ s)
