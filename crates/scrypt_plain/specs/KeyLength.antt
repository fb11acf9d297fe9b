-- A key for a record has the length that is asked for: a proof, which an implementation of `PhcKdf` names in place of a
-- check. No public clause names these words.
use Rattle.std.specs.Prelude.{◌≡◌, ℕ, List, length, Option, Some, None}
use Rattle.std.proofs.lemmas.List.{length-replicate}
use Rattle.phc.specs.declared.password_hash.PasswordHash.{PasswordHash}
use Rattle.scrypt_plain.specs.Profile.{cost_of, key_at, scrypt_key}
use Rattle.scrypt_plain.specs.declared.profile.Cost.{Cost}
use Rattle.scrypt_plain.specs.Lengths.{length-pbkdf2_once}

length-key_at : (cost : Option Cost) (password salt : List ℕ) (n : ℕ) → length (key_at cost password salt n) ≡ n
length-key_at None password salt n = length-replicate n 0
length-key_at (Some cost) password salt n = length-pbkdf2_once password _ n

pub length-scrypt_key : (password : List ℕ) (parsed : PasswordHash) (salt : List ℕ) (n : ℕ)
    → length (scrypt_key password parsed salt n) ≡ n
unfolding scrypt_key
length-scrypt_key password parsed salt n = length-key_at (cost_of parsed) password salt n
