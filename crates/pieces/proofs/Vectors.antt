-- Texts and their pieces, by computing.
use Rattle.std.specs.Prelude.{◌≡◌, [], ◌∷◌, Some, None, codes, refl}
use Rattle.pieces.specs.Pieces.{pieces_at, behind}

empty_text : pieces_at 36 [] ≡ [] ∷ []
unfolding pieces_at
empty_text = refl

cut_alone : pieces_at 36 (codes "$") ≡ [] ∷ [] ∷ []
unfolding pieces_at
cut_alone = refl

stored_text : pieces_at 36 (codes "$5$salt$x") ≡ [] ∷ codes "5" ∷ codes "salt" ∷ codes "x" ∷ []
unfolding pieces_at
stored_text = refl

pairs : pieces_at 44 (codes "ln=16,r=8,,p=1") ≡ codes "ln=16" ∷ codes "r=8" ∷ [] ∷ codes "p=1" ∷ []
unfolding pieces_at
pairs = refl

rounds : behind (codes "rounds=1000") (codes "rounds=") ≡ Some (codes "1000")
rounds = refl

no_rounds : behind (codes "round=1000") (codes "rounds=") ≡ None
no_rounds = refl
