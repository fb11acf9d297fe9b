-- Lists of a few elements, and vectors lane by lane.
use Rattle.std.proofs.Common.{◌≡◌, ℕ, zero, suc, ◌<◌, ◌+◌, List, [], ◌∷◌, length, slice_index, arith, refl, sym, subst}
use Rattle.std.specs.Simd.Lanes.{zip2}
use Rattle.std.proofs.lemmas.List.{nil_from_length}

-- what holds of each of the four lanes
pub below_four : (P : ℕ → Type 0) → P 0 → P 1 → P 2 → P 3 → (j : ℕ) → j < 4 → P j
below_four P p0 p1 p2 p3 zero h = p0
below_four P p0 p1 p2 p3 (suc zero) h = p1
below_four P p0 p1 p2 p3 (suc (suc zero)) h = p2
below_four P p0 p1 p2 p3 (suc (suc (suc zero))) h = p3
below_four P p0 p1 p2 p3 (suc (suc (suc (suc n)))) h = absurd (omega arith)

-- a list that is not empty, by its first element and the rest
next : (P : List ℕ → Type 0) (n : ℕ) → ((x : ℕ) (xs : List ℕ) → length xs ≡ n → P (x ∷ xs)) → (s : List ℕ)
    → length s ≡ n + 1 → P s
next P n p [] h = absurd (omega arith)
next P n p (x ∷ xs) h = p x xs (omega arith)

-- what holds of each list of two elements
pub two_lanes : (P : List ℕ → Type 0) → ((a b : ℕ) → P (a ∷ b ∷ [])) → (s : List ℕ) → length s ≡ 2 → P s
two_lanes P p (a ∷ b ∷ []) h = p a b
two_lanes P p [] h = absurd (omega arith)
two_lanes P p (a ∷ []) h = absurd (omega arith)
two_lanes P p (a ∷ b ∷ c ∷ xs) h = absurd (omega arith)

-- what holds of each list of four elements
pub four_lanes : (P : List ℕ → Type 0) → ((a b c d : ℕ) → P (a ∷ b ∷ c ∷ d ∷ [])) → (s : List ℕ) → length s ≡ 4 → P s
four_lanes P p (a ∷ b ∷ c ∷ d ∷ []) h = p a b c d
four_lanes P p [] h = absurd (omega arith)
four_lanes P p (a ∷ []) h = absurd (omega arith)
four_lanes P p (a ∷ b ∷ []) h = absurd (omega arith)
four_lanes P p (a ∷ b ∷ c ∷ []) h = absurd (omega arith)
four_lanes P p (a ∷ b ∷ c ∷ d ∷ e ∷ xs) h = absurd (omega arith)

-- what holds of each list of eight
pub eight : (P : List ℕ → Type 0)
    → ((x0 x1 x2 x3 x4 x5 x6 x7 : ℕ) → P (x0 ∷ x1 ∷ x2 ∷ x3 ∷ x4 ∷ x5 ∷ x6 ∷ x7 ∷ [])) → (s : List ℕ)
    → length s ≡ 8 → P s
eight P p s0 h0 =
    next (λ (s : List ℕ). P (s)) 7 (λ x0 s1 h1.
    next (λ (s : List ℕ). P (x0 ∷ s)) 6 (λ x1 s2 h2.
    next (λ (s : List ℕ). P (x0 ∷ x1 ∷ s)) 5 (λ x2 s3 h3.
    next (λ (s : List ℕ). P (x0 ∷ x1 ∷ x2 ∷ s)) 4 (λ x3 s4 h4.
    next (λ (s : List ℕ). P (x0 ∷ x1 ∷ x2 ∷ x3 ∷ s)) 3 (λ x4 s5 h5.
    next (λ (s : List ℕ). P (x0 ∷ x1 ∷ x2 ∷ x3 ∷ x4 ∷ s)) 2 (λ x5 s6 h6.
    next (λ (s : List ℕ). P (x0 ∷ x1 ∷ x2 ∷ x3 ∷ x4 ∷ x5 ∷ s)) 1 (λ x6 s7 h7.
    next (λ (s : List ℕ). P (x0 ∷ x1 ∷ x2 ∷ x3 ∷ x4 ∷ x5 ∷ x6 ∷ s)) 0 (λ x7 s8 h8.
    subst (λ (s : List ℕ). P (x0 ∷ x1 ∷ x2 ∷ x3 ∷ x4 ∷ x5 ∷ x6 ∷ x7 ∷ s))
    (sym (nil_from_length s8 h8)) (p x0 x1 x2 x3 x4 x5 x6 x7)) s7 h7) s6 h6) s5 h5) s4 h4) s3 h3) s2 h2) s1 h1) s0 h0

-- what holds of each list of sixteen
pub sixteen : (P : List ℕ → Type 0)
    → ((x0 x1 x2 x3 x4 x5 x6 x7 x8 x9 x10 x11 x12 x13 x14 x15 : ℕ)
    → P (x0 ∷ x1 ∷ x2 ∷ x3 ∷ x4 ∷ x5 ∷ x6 ∷ x7 ∷ x8 ∷ x9 ∷ x10 ∷ x11 ∷ x12 ∷ x13 ∷ x14 ∷ x15 ∷ [])) → (s : List ℕ)
    → length s ≡ 16 → P s
sixteen P p s0 h0 =
    next (λ (s : List ℕ). P (s)) 15 (λ x0 s1 h1.
    next (λ (s : List ℕ). P (x0 ∷ s)) 14 (λ x1 s2 h2.
    next (λ (s : List ℕ). P (x0 ∷ x1 ∷ s)) 13 (λ x2 s3 h3.
    next (λ (s : List ℕ). P (x0 ∷ x1 ∷ x2 ∷ s)) 12 (λ x3 s4 h4.
    next (λ (s : List ℕ). P (x0 ∷ x1 ∷ x2 ∷ x3 ∷ s)) 11 (λ x4 s5 h5.
    next (λ (s : List ℕ). P (x0 ∷ x1 ∷ x2 ∷ x3 ∷ x4 ∷ s)) 10 (λ x5 s6 h6.
    next (λ (s : List ℕ). P (x0 ∷ x1 ∷ x2 ∷ x3 ∷ x4 ∷ x5 ∷ s)) 9 (λ x6 s7 h7.
    next (λ (s : List ℕ). P (x0 ∷ x1 ∷ x2 ∷ x3 ∷ x4 ∷ x5 ∷ x6 ∷ s)) 8 (λ x7 s8 h8.
    next (λ (s : List ℕ). P (x0 ∷ x1 ∷ x2 ∷ x3 ∷ x4 ∷ x5 ∷ x6 ∷ x7 ∷ s)) 7 (λ x8 s9 h9.
    next (λ (s : List ℕ). P (x0 ∷ x1 ∷ x2 ∷ x3 ∷ x4 ∷ x5 ∷ x6 ∷ x7 ∷ x8 ∷ s)) 6 (λ x9 s10 h10.
    next (λ (s : List ℕ). P (x0 ∷ x1 ∷ x2 ∷ x3 ∷ x4 ∷ x5 ∷ x6 ∷ x7 ∷ x8 ∷ x9 ∷ s)) 5 (λ x10 s11 h11.
    next (λ (s : List ℕ). P (x0 ∷ x1 ∷ x2 ∷ x3 ∷ x4 ∷ x5 ∷ x6 ∷ x7 ∷ x8 ∷ x9 ∷ x10 ∷ s)) 4 (λ x11 s12 h12.
    next (λ (s : List ℕ). P (x0 ∷ x1 ∷ x2 ∷ x3 ∷ x4 ∷ x5 ∷ x6 ∷ x7 ∷ x8 ∷ x9 ∷ x10 ∷ x11 ∷ s)) 3 (λ x12 s13 h13.
    next (λ (s : List ℕ). P (x0 ∷ x1 ∷ x2 ∷ x3 ∷ x4 ∷ x5 ∷ x6 ∷ x7 ∷ x8 ∷ x9 ∷ x10 ∷ x11 ∷ x12 ∷ s)) 2 (λ x13 s14 h14.
    next (λ (s : List ℕ). P (x0 ∷ x1 ∷ x2 ∷ x3 ∷ x4 ∷ x5 ∷ x6 ∷ x7 ∷ x8 ∷ x9 ∷ x10 ∷ x11 ∷ x12 ∷ x13 ∷ s)) 1
    (λ x14 s15 h15.
    next (λ (s : List ℕ). P (x0 ∷ x1 ∷ x2 ∷ x3 ∷ x4 ∷ x5 ∷ x6 ∷ x7 ∷ x8 ∷ x9 ∷ x10 ∷ x11 ∷ x12 ∷ x13 ∷ x14 ∷ s)) 0
    (λ x15 s16 h16.
    subst (λ (s : List ℕ). P (x0 ∷ x1 ∷ x2 ∷ x3 ∷ x4 ∷ x5 ∷ x6 ∷ x7 ∷ x8 ∷ x9 ∷ x10 ∷ x11 ∷ x12 ∷ x13 ∷ x14 ∷ x15 ∷ s))
    (sym (nil_from_length s16 h16)) (p x0 x1 x2 x3 x4 x5 x6 x7 x8 x9 x10 x11 x12 x13 x14 x15)) s15 h15) s14 h14) s13
    h13) s12 h12) s11 h11) s10 h10) s9 h9) s8 h8) s7 h7) s6 h6) s5 h5) s4 h4) s3 h3) s2 h2) s1 h1) s0 h0

-- an operation on the words of two vectors, lane by lane
abbrev pub LaneWise : (ℕ → ℕ → ℕ) → List ℕ → List ℕ → List ℕ → Type 0
LaneWise f r x y = (j : ℕ) → j < 4 → slice_index r j ≡ f (slice_index x j) (slice_index y j)

pub lane_wise : (f : ℕ → ℕ → ℕ) (x : List ℕ) → length x ≡ 4 → (y : List ℕ) → length y ≡ 4 → LaneWise f (zip2 f x y) x y
lane_wise f =
    four_lanes (λ x. (y : List ℕ) → length y ≡ 4 → LaneWise f (zip2 f x y) x y) (λ x0 x1 x2 x3.
    four_lanes (λ y. LaneWise f (zip2 f (x0 ∷ x1 ∷ x2 ∷ x3 ∷ []) y) (x0 ∷ x1 ∷ x2 ∷ x3 ∷ []) y) (λ y0 y1 y2 y3.
    below_four _ refl refl refl refl))
