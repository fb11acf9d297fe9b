-- Bit smearing: the steps that tell whether one number is greater than another, without a branch.
-- Source: the documentation and comments of `ConstantTimeGreater` in `subtle` 2.6.1.
use Rattle.std.specs.Prelude.{◌≡◌, ℕ, ◌-◌, ◌/◌, ◌%◌, ◌^◌, ◌⊎◌, List, [], ◌∷◌, filter, nat_lt, bit_and, bit_or}

-- the widths, in bits, of the unsigned integers that are compared
abbrev pub IsWidth : ℕ → Type 0
IsWidth w = (w ≡ 8) ⊎ (w ≡ 16) ⊎ (w ≡ 32) ⊎ (w ≡ 64) ⊎ (w ≡ 128)

-- the shifts 1, 2, 4 and so on below w
abbrev pub shifts_below : ℕ → List ℕ
shifts_below w = filter (λ shift. nat_lt shift w) (1 ∷ 2 ∷ 4 ∷ 8 ∷ 16 ∷ 32 ∷ 64 ∷ [])

-- x, or-ed with itself shifted right, by each of the shifts in turn
abbrev pub smeared : List ℕ → ℕ → ℕ
smeared [] x = x
smeared (shift ∷ shifts) x = smeared shifts (bit_or x (x / 2 ^ shift))

-- the complement of x within w bits
abbrev pub complement : ℕ → ℕ → ℕ
complement w x = 2 ^ w - 1 - x

-- the bits of b that a lacks, smeared: all places at or below the highest of them
abbrev pub under : ℕ → ℕ → ℕ → ℕ
under w a b = smeared (shifts_below w) (bit_and (complement w a) b)

-- the bits of a that b lacks and that stand above all those of b that a lacks, smeared
abbrev pub over : ℕ → ℕ → ℕ → ℕ
over w a b =
    smeared (shifts_below w) (bit_and (bit_and a (complement w b)) (complement w (under w a b)))

-- the answer of the steps: their lowest bit
abbrev pub greater_bit : ℕ → ℕ → ℕ → ℕ
greater_bit w a b = over w a b % 2
