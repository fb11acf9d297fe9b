-- Laws on the answers of comparisons.
use Rattle.std.specs.Prelude.{◌≡◌, Bool, [], ◌∷◌}
use Rattle.std.specs.List.{count_by}

-- exactly one of three answers is yes
abbrev pub IsExactlyOne : Bool → Bool → Bool → Type 0
IsExactlyOne a b c = count_by (λ answer. answer) (a ∷ b ∷ c ∷ []) ≡ 1
