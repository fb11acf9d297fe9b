-- The records that have a verdict here, and the meanings of their derivations as one.
use Rattle.std.specs.Prelude.{◌≡◌, ℕ, true, false, List, codes, length}
use Rattle.phc.specs.declared.password_hash.PasswordHash.{PasswordHash}
use Rattle.phc_kdf.specs.Either.{Accepted, Needs, Tag, either_accepted, either_needs, either_tag, length-either_tag}
use Rattle.pbkdf2_key.specs.Lengths.{length-pbkdf2_key}
use Rattle.pbkdf2_key.specs.Profile.{pbkdf2_accepts, pbkdf2_key}
use Rattle.pbkdf2_key.specs.declared.profile.Pbkdf2Hash.TheVariants.{Sha1, Sha256, Sha512}
use Rattle.scrypt_plain.specs.KeyLength.{length-scrypt_key}
use Rattle.scrypt_plain.specs.Profile as scrypt
use Rattle.argon2_plain.specs.KeyLength.{length-argon2_key}
use Rattle.argon2_plain.specs.Profile.{argon2_accepts, argon2_key}

-- which records PBKDF2 with SHA-1 or Argon2 takes, by the identifier
abbrev pub sha1_or_argon2_accepted : Accepted
sha1_or_argon2_accepted =
    either_accepted (codes "pbkdf2-sha1") (λ parsed salt n. pbkdf2_accepts Sha1 parsed n)
    (λ parsed salt n. argon2_accepts parsed n)

-- which records PBKDF2 with SHA-512 or SHA-1, or Argon2 takes
abbrev pub sha512_or_argon2_accepted : Accepted
sha512_or_argon2_accepted =
    either_accepted (codes "pbkdf2-sha512") (λ parsed salt n. pbkdf2_accepts Sha512 parsed n) sha1_or_argon2_accepted

-- which records PBKDF2 with one of its hash functions or Argon2 takes
abbrev pub pbkdf2_or_argon2_accepted : Accepted
pbkdf2_or_argon2_accepted =
    either_accepted (codes "pbkdf2-sha256") (λ parsed salt n. pbkdf2_accepts Sha256 parsed n) sha512_or_argon2_accepted

-- which records scrypt, PBKDF2 or Argon2 takes
abbrev pub accepted : Accepted
accepted = either_accepted (codes "scrypt") scrypt.accepted pbkdf2_or_argon2_accepted

-- the key of PBKDF2 with SHA-1 or of Argon2
abbrev pub sha1_or_argon2_tag : Tag
sha1_or_argon2_tag =
    either_tag (codes "pbkdf2-sha1") (λ password parsed salt n. pbkdf2_key Sha1 password parsed salt n)
    (λ password parsed salt n. argon2_key password parsed salt n)

-- the key of PBKDF2 with SHA-512 or SHA-1, or of Argon2
abbrev pub sha512_or_argon2_tag : Tag
sha512_or_argon2_tag =
    either_tag (codes "pbkdf2-sha512") (λ password parsed salt n. pbkdf2_key Sha512 password parsed salt n)
    sha1_or_argon2_tag

-- the key of PBKDF2 with one of its hash functions or of Argon2
abbrev pub pbkdf2_or_argon2_tag : Tag
pbkdf2_or_argon2_tag =
    either_tag (codes "pbkdf2-sha256") (λ password parsed salt n. pbkdf2_key Sha256 password parsed salt n)
    sha512_or_argon2_tag

-- the key of a record
abbrev pub tag : Tag
tag = either_tag (codes "scrypt") scrypt.key pbkdf2_or_argon2_tag

-- the records for whose keys memory may be wanting: scrypt's and Argon2's
abbrev pub needs_memory : Needs
needs_memory =
    either_needs (codes "scrypt") (λ parsed. true)
    (either_needs (codes "pbkdf2-sha256") (λ parsed. false)
    (either_needs (codes "pbkdf2-sha512") (λ parsed. false)
    (either_needs (codes "pbkdf2-sha1") (λ parsed. false) (λ parsed. true))))

-- a key has the length that is asked for: a proof, which a derivation of these records names
pub length-tag : (password : List ℕ) (parsed : PasswordHash) (salt : List ℕ) (n : ℕ)
    → length (tag password parsed salt n) ≡ n
length-tag =
    length-either_tag (codes "scrypt") scrypt.key pbkdf2_or_argon2_tag length-scrypt_key
    (length-either_tag (codes "pbkdf2-sha256") (λ password parsed salt n. pbkdf2_key Sha256 password parsed salt n)
    sha512_or_argon2_tag (length-pbkdf2_key Sha256)
    (length-either_tag (codes "pbkdf2-sha512") (λ password parsed salt n. pbkdf2_key Sha512 password parsed salt n)
    sha1_or_argon2_tag (length-pbkdf2_key Sha512)
    (length-either_tag (codes "pbkdf2-sha1") (λ password parsed salt n. pbkdf2_key Sha1 password parsed salt n)
    (λ password parsed salt n. argon2_key password parsed salt n) (length-pbkdf2_key Sha1) length-argon2_key)))
