-- The parts of a text between its line feeds.
use Rattle.std.proofs.Common.{◌≡◌, ℕ, true, false, cond, List, [], ◌∷◌, refl}
use Rattle.std.specs.List.{onto_first, slice_split}
use Rattle.line_io.specs.Lines.{is_feed}
use Rattle.line_filter.specs.Rests.{kept_rest}
use Rattle.line_filter.specs.declared.sieve.Place.TheVariants.{Start, Inside}

-- a text has a first part
onto_cons : (b : ℕ) (parts : List (List ℕ)) → (part : List ℕ) × (more : List (List ℕ)) × (onto_first b parts ≡ part ∷ more)
onto_cons b [] = (b ∷ [], [], refl)
onto_cons b (part ∷ more) = (b ∷ part, more, refl)

pub split_cons : (text : List ℕ) → (part : List ℕ) × (more : List (List ℕ)) × (slice_split is_feed text ≡ part ∷ more)
split_cons [] = ([], [], refl)
split_cons (b ∷ text) =
    elim (is_feed b)
    as (λ v. (part : List ℕ) × (more : List (List ℕ))
    × (cond v ([] ∷ slice_split is_feed text) (onto_first b (slice_split is_feed text)) ≡ part ∷ more))
    [ true ↦ ([], slice_split is_feed text, refl) | false ↦ onto_cons b (slice_split is_feed text) ]

-- the line feed of a line that is kept
pub line_ends : (text : List ℕ) → kept_rest true Inside (10 ∷ text) ≡ 10 ∷ kept_rest true Start text
line_ends text = let s = split_cons text in rw s.2 refl
