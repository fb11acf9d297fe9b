-- The test of the bytes of fields, by computing over all bytes.
use Rattle.std.proofs.Common.{◌≡◌, ℕ, ◌+◌, ◌%◌, ◌<◌, Bool, refl, nat_eq, nat_lt, bit_or}
use Rattle.std.specs.Prelude.{◌||◌}
use Rattle.std.specs.Cmp.{booleans_Decides}
use Rattle.std.proofs.Math.Bool.{beq}
use Rattle.std.proofs.lemmas.Bool.Decides.{Decides-below_and}
use Rattle.base64ct.specs.Steps.{all_below}
use Rattle.mcf.specs.Grammar.{is_field_byte}

abbrev by_ranges : ℕ → Bool
by_ranges b = nat_lt ((b + 213) % 256) 15 || nat_lt ((bit_or b 32 + 159) % 256) 26 || nat_eq b 61

abbrev agrees : ℕ → Bool
agrees b = beq (by_ranges b) (is_field_byte b)

pub ranges_tell : (b : ℕ) → b < 256
    → (nat_lt ((b + 213) % 256) 15 || nat_lt ((bit_or b 32 + 159) % 256) 26 || nat_eq b 61) ≡ is_field_byte b
ranges_tell b lt =
    (Decides-below_and agrees (λ k. by_ranges k ≡ is_field_byte k) (λ n. all_below n agrees)
    (λ k. booleans_Decides (by_ranges k) (is_field_byte k)) refl (λ _. refl) 256).0 refl b lt
