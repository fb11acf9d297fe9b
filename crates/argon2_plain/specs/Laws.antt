-- Laws over the definitions.
use Rattle.std.specs.Prelude.{◌≡◌, ℕ, List, length}
use Rattle.argon2_plain.specs.Argon2.{argon2, variable_hash}
use Rattle.argon2_plain.specs.declared.params.Params.{Params}

-- a hash of variable length has as many bytes as were asked for
abbrev pub VariableLength : Type 0
VariableLength = (n : ℕ) (a : List ℕ) → length (variable_hash n a) ≡ n

-- a tag has as many bytes as were asked for
abbrev pub TagLength : Type 0
TagLength =
    (params : Params) (password salt secret associated : List ℕ) (n : ℕ)
    → length (argon2 params password salt secret associated n) ≡ n
