-- The PHC records for which PBKDF2 with a hash function derives a key (a profile of this crate's own), and that key.
use Rattle.std.specs.Prelude.{ℕ, Bool, false, ◌&&◌, ◌||◌, List, nat_eq, nat_le, ◌==◌, length, replicate, Option, Some}
use Rattle.std.specs.Prelude.{None, is_none, codes}
use Rattle.std.specs.Cmp.Lexicographic.{pointwise}
use Rattle.phc.specs.Limits.{output_max, output_min}
use Rattle.phc.specs.declared.password_hash.PasswordHash.{PasswordHash}
use Rattle.phc_kdf.specs.Numbers.{number}
use Rattle.pbkdf2_key.specs.Pbkdf2.{pbkdf2_sha1, pbkdf2_sha256, pbkdf2_sha512}
use Rattle.pbkdf2_key.specs.declared.profile.Pbkdf2Hash.{Pbkdf2Hash}
use Rattle.pbkdf2_key.specs.declared.profile.Pbkdf2Hash.TheVariants.{Sha1, Sha256, Sha512}

-- the identifier of a hash function's records
abbrev pub identifier : Pbkdf2Hash → List ℕ
identifier Sha1 = codes "pbkdf2-sha1"
identifier Sha256 = codes "pbkdf2-sha256"
identifier Sha512 = codes "pbkdf2-sha512"

-- the rounds that a record names, where that is a decimal
abbrev pub rounds_of : PasswordHash → Option ℕ
rounds_of parsed = number parsed (codes "i")

-- the rounds are 1 to 10,000,000
abbrev pub are_rounds : Option ℕ → Bool
are_rounds None = false
are_rounds (Some c) = nat_le 1 c && nat_le c 10000000

-- this number is named
abbrev pub is_number : Option ℕ → ℕ → Bool
is_number None n = false
is_number (Some k) n = k == n

-- `i` is the only parameter; or there are two, `i` and `l`, in any order, and `l` is the length of the key
abbrev pub are_params : PasswordHash → ℕ → Bool
are_params parsed n =
    are_rounds (rounds_of parsed)
    && (length parsed.params == 1 || (length parsed.params == 2 && is_number (number parsed (codes "l")) n))

-- The identifier is the hash function's, there is no version, the parameters are as said, and the key has as many bytes
-- as a hash may have.
unfoldable pub pbkdf2_accepts : Pbkdf2Hash → PasswordHash → ℕ → Bool
pbkdf2_accepts hash parsed n =
    pointwise nat_eq parsed.algorithm (identifier hash) && is_none parsed.version && are_params parsed n
    && nat_le output_min n && nat_le n output_max

-- PBKDF2 with a hash function
abbrev pub pbkdf2_with : Pbkdf2Hash → List ℕ → List ℕ → ℕ → ℕ → List ℕ
pbkdf2_with Sha1 = pbkdf2_sha1
pbkdf2_with Sha256 = pbkdf2_sha256
pbkdf2_with Sha512 = pbkdf2_sha512

-- the key of n bytes after these rounds; without a number of rounds, which no accepted record lacks, n zeros
abbrev pub key_after : Pbkdf2Hash → Option ℕ → List ℕ → List ℕ → ℕ → List ℕ
key_after hash None password salt n = replicate n 0
key_after hash (Some c) password salt n = pbkdf2_with hash password salt c n

-- the key of n bytes for a record
unfoldable pub pbkdf2_key : Pbkdf2Hash → List ℕ → PasswordHash → List ℕ → ℕ → List ℕ
pbkdf2_key hash password parsed salt n = key_after hash (rounds_of parsed) password salt n
