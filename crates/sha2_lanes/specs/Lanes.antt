-- Eight messages side by side: where one message has a word, a vector has the eight messages' words, one in each lane.
use Rattle.std.specs.Prelude.{ℕ, List, [], ◌∷◌, map, slice_index, slice_index_or}

-- the words of message j: lane j of each vector
abbrev pub words : ℕ → List (List ℕ) → List ℕ
words j x = map (λ v. slice_index v j) x

-- lane j of vector k
abbrev pub lane_at : List (List ℕ) → ℕ → ℕ → ℕ
lane_at x k j = slice_index (slice_index_or x k []) j

-- the state of message j, which has eight words (FIPS 180-4, section 5.3.3): a, b, .., h
abbrev pub state : ℕ → List (List ℕ) → List ℕ
state j x =
    lane_at x 0 j ∷ lane_at x 1 j ∷ lane_at x 2 j ∷ lane_at x 3 j
    ∷ lane_at x 4 j ∷ lane_at x 5 j ∷ lane_at x 6 j ∷ lane_at x 7 j ∷ []
