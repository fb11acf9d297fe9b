-- Decimal numbers.
use Rattle.std.specs.Prelude.{ℕ, ◌+◌, ◌*◌, ◌-◌, Bool, not, ◌&&◌, List, [], ◌∷◌, length, nat_eq, nat_le, nat_lt, codes}
use Rattle.std.specs.Prelude.{Option, Some, None, if◌then◌else◌}
use Rattle.std.specs.Char.{is_ascii_digit}
use Rattle.std.specs.List.{list_all, starts_with}

-- the number that decimal digits write, behind those of n; 48 is `0`
abbrev pub number_after : ℕ → List ℕ → ℕ
number_after n [] = n
number_after n (d ∷ ds) = number_after (n * 10 + (d - 48)) ds

-- a zero stands before further digits
abbrev pub has_leading_zero : List ℕ → Bool
has_leading_zero s = nat_lt 1 (length s) && starts_with nat_eq s (codes "0")

-- one digit or more, without a leading zero
abbrev pub is_plain_number : List ℕ → Bool
is_plain_number s = list_all is_ascii_digit s && not (has_leading_zero s) && nat_le 1 (length s)

-- the number below the bound that a text writes plainly
abbrev pub plain_number : ℕ → List ℕ → Option ℕ
plain_number bound s =
    if is_plain_number s && nat_lt (number_after 0 s) bound then Some (number_after 0 s) else None
