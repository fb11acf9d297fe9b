-- The PHC records for which scrypt derives a key (a profile of this crate's own), and that key.
use Rattle.std.specs.Prelude.{ℕ, ◌^◌, Bool, true, false, ◌&&◌, List, nat_eq, nat_le, ◌==◌, length}
use Rattle.std.specs.Prelude.{replicate, Option, Some, None, is_none, codes}
use Rattle.std.specs.Cmp.Lexicographic.{pointwise}
use Rattle.phc.specs.Limits.{output_max, output_min}
use Rattle.phc.specs.declared.password_hash.PasswordHash.{PasswordHash}
use Rattle.phc_kdf.specs.Numbers.{number}
use Rattle.scrypt_plain.specs.Bounds.{in_bounds}
use Rattle.scrypt_plain.specs.Scrypt.{scrypt}
use Rattle.scrypt_plain.specs.declared.profile.Cost.{Cost}

-- the cost of these three numbers; none where one is missing
abbrev pub cost_of_numbers : Option ℕ → Option ℕ → Option ℕ → Option Cost
cost_of_numbers (Some ln) (Some r) (Some p) = Some (record { ln = ln; r = r; p = p })
cost_of_numbers ln r p = None

-- the cost that a record names, where `ln`, `r` and `p` are decimals
abbrev pub cost_of : PasswordHash → Option Cost
cost_of parsed = cost_of_numbers (number parsed (codes "ln")) (number parsed (codes "r")) (number parsed (codes "p"))

-- there is a cost, and this crate takes it
abbrev pub is_cost_in_bounds : Option Cost → Bool
is_cost_in_bounds None = false
is_cost_in_bounds (Some cost) = in_bounds cost.ln cost.r cost.p

-- The identifier is `scrypt`, there is no version, the parameters are three with the names `ln`, `r` and `p`, thus each
-- once and in any of their six orders, each a decimal and together in bounds, and the key has as many bytes as a hash
-- may have. So a cost, a salt and a key have six texts, which have the same verdicts.
unfoldable pub scrypt_accepts : PasswordHash → ℕ → Bool
scrypt_accepts parsed n =
    pointwise nat_eq parsed.algorithm (codes "scrypt") && is_none parsed.version && length parsed.params == 3
    && is_cost_in_bounds (cost_of parsed) && nat_le output_min n && nat_le n output_max

-- the key of n bytes at a cost; without a cost, which no accepted record has, n zeros
abbrev pub key_at : Option Cost → List ℕ → List ℕ → ℕ → List ℕ
key_at None password salt n = replicate n 0
key_at (Some cost) password salt n = scrypt password salt (2 ^ cost.ln) cost.r cost.p n

-- the key of n bytes for a record
unfoldable pub scrypt_key : List ℕ → PasswordHash → List ℕ → ℕ → List ℕ
scrypt_key password parsed salt n = key_at (cost_of parsed) password salt n

-- ---- what a verdict takes from scrypt, whichever of its two forms derives the key

-- the records that it takes, whatever their salt
abbrev pub accepted : PasswordHash → List ℕ → ℕ → Bool
accepted parsed salt n = scrypt_accepts parsed n

-- memory may be wanting for each of them
abbrev pub needs_memory : PasswordHash → Bool
needs_memory parsed = true

-- their keys
abbrev pub key : List ℕ → PasswordHash → List ℕ → ℕ → List ℕ
key password parsed salt n = scrypt_key password parsed salt n
