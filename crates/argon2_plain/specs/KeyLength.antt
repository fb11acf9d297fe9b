-- A key for a record has the length that is asked for. The law is a field of the implementations of `PhcKdf`, so its proof
-- stands here; no public clause names these words.
use Rattle.std.specs.Prelude.{◌≡◌, ℕ, List, length, Option, Some, None}
use Rattle.std.proofs.lemmas.List.{length-replicate}
use Rattle.phc.specs.declared.password_hash.PasswordHash.{PasswordHash}
use Rattle.argon2_plain.specs.Profile.{argon2_key, key_for, params_of}
use Rattle.argon2_plain.specs.declared.params.Params.{Params}
use Rattle.argon2_plain.specs.Lengths.{length-tag_from}

length-key_for : (params : Option Params) (password salt : List ℕ) (n : ℕ) → length (key_for params password salt n) ≡ n
length-key_for None password salt n = length-replicate n 0
length-key_for (Some params) password salt n = length-tag_from _ _ n

pub length-argon2_key : (password : List ℕ) (parsed : PasswordHash) (salt : List ℕ) (n : ℕ)
    → length (argon2_key password parsed salt n) ≡ n
unfolding argon2_key
length-argon2_key password parsed salt n = length-key_for (params_of parsed) password salt n
