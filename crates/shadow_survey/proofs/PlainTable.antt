-- The table of the bytes that each form shows as they are.
use Rattle.std.proofs.Common.{◌≡◌, ◌∙◌, ◌<◌, ◌+◌, ◌&&◌, ◌++◌, ℕ, zero, suc, Bool, true, false, not, List, [], ◌∷◌, length, replicate, slice_index_or, ap, arith, refl, sym}
use Rattle.std.proofs.lemmas.Bool.{and_parts}
use Rattle.shadow_survey.specs.Rows.{is_plain}

abbrev same : Bool → Bool → Bool
same true b = b
same false b = not b

same_eq : (a b : Bool) → same a b ≡ true → a ≡ b
same_eq true b is = sym is
same_eq false true is = is
same_eq false false is = refl

-- a table has what is_plain says from a byte on
abbrev pub agrees : List Bool → ℕ → Bool
agrees [] i = true
agrees (t ∷ ts) i = same t (is_plain i) && agrees ts (suc i)

at : (ts : List Bool) (i k : ℕ) → agrees ts i ≡ true → k < length ts → slice_index_or ts k false ≡ is_plain (i + k)
at [] i k all lt = absurd (omega (arith, lt))
at (t ∷ ts) i zero all lt =
    let e : i ≡ i + zero = omega arith in
    same_eq t (is_plain i) (and_parts (same t (is_plain i)) (agrees ts (suc i)) all).0 ∙ ap is_plain e
at (t ∷ ts) i (suc k) all lt =
    let e : suc i + k ≡ i + suc k = omega arith in
    at ts (suc i) k (and_parts (same t (is_plain i)) (agrees ts (suc i)) all).1 (omega (arith, lt)) ∙ ap is_plain e

-- from the space on but the quotation mark, the backslash and `DEL`
abbrev pub table : List Bool
table = replicate 32 false ++ true ∷ true ∷ false ∷ (replicate 57 true ++ false ∷ (replicate 34 true ++ replicate 129 false))

pub plain_at : (b : ℕ) → b < 256 → slice_index_or table b false ≡ is_plain b
plain_at b lt =
    let e : 0 + b ≡ b = omega arith in
    at table 0 b refl lt ∙ ap is_plain e
