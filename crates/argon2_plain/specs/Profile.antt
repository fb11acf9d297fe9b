-- The PHC records for which Argon2 derives a key (a profile of this crate's own), and that key.
use Rattle.std.specs.Prelude.{ℕ, Bool, false, cond, ◌&&◌, List, [], nat_eq, nat_le, ◌==◌, length}
use Rattle.std.specs.Prelude.{replicate, Option, Some, None, codes}
use Rattle.std.specs.Cmp.Lexicographic.{pointwise}
use Rattle.phc.specs.Limits.{output_max, output_min}
use Rattle.phc.specs.declared.password_hash.PasswordHash.{PasswordHash}
use Rattle.phc_kdf.specs.Numbers.{number}
use Rattle.argon2_plain.specs.Bounds.{are_in_bounds}
use Rattle.argon2_plain.specs.Argon2.{argon2}
use Rattle.argon2_plain.specs.declared.variant.Variant.{Variant}
use Rattle.argon2_plain.specs.declared.variant.Variant.TheVariants.{D, I, Id}
use Rattle.argon2_plain.specs.declared.params.Params.{Params}

-- the type that an identifier names
abbrev pub variant_of : List ℕ → Option Variant
variant_of name =
    cond (pointwise nat_eq name (codes "argon2d")) (Some D)
    (cond (pointwise nat_eq name (codes "argon2i")) (Some I)
    (cond (pointwise nat_eq name (codes "argon2id")) (Some Id) None))

-- version 19, as 0x13 is written; a record without one means version 16
abbrev pub is_version : Option ℕ → Bool
is_version None = false
is_version (Some v) = v == 19

-- these params, where each part is there
abbrev pub params_from : Option Variant → Option ℕ → Option ℕ → Option ℕ → Option Params
params_from (Some variant) (Some m) (Some t) (Some p) =
    Some (record { variant = variant; passes = t; memory = m; lanes = p })
params_from variant m t p = None

-- what a record asks for, where its identifier names a type and `m`, `t` and `p` are decimals
abbrev pub params_of : PasswordHash → Option Params
params_of parsed =
    params_from (variant_of parsed.algorithm) (number parsed (codes "m")) (number parsed (codes "t"))
    (number parsed (codes "p"))

-- there are params, and they are in bounds
abbrev pub are_taken : Option Params → Bool
are_taken None = false
are_taken (Some params) = are_in_bounds params

-- The identifier is `argon2d`, `argon2i` or `argon2id`, the version is 19, the parameters are three with the names `m`,
-- `t` and `p`, thus each once and in any order (so a record has six texts), each a decimal and together in bounds, and the
-- key has 10 to 64 bytes.
unfoldable pub argon2_accepts : PasswordHash → ℕ → Bool
argon2_accepts parsed n =
    are_taken (params_of parsed) && is_version parsed.version && length parsed.params == 3
    && nat_le output_min n && nat_le n output_max

-- the key of n bytes for what is asked for; for nothing, which no accepted record asks for, n zeros
abbrev pub key_for : Option Params → List ℕ → List ℕ → ℕ → List ℕ
key_for None password salt n = replicate n 0
key_for (Some params) password salt n = argon2 params password salt [] [] n

-- the key of n bytes for a record
unfoldable pub argon2_key : List ℕ → PasswordHash → List ℕ → ℕ → List ℕ
argon2_key password parsed salt n = key_for (params_of parsed) password salt n
