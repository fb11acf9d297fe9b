-- Laws over the definitions: what a converted text of PBKDF2 answers, and one of a digest.
use Rattle.std.specs.Prelude.{◌≡◌, ℕ, ◌≤◌, List, length, nat_eq, Ok}
use Rattle.std.specs.Cmp.Lexicographic.{pointwise}
use Rattle.base64ct.specs.Encoding.{EachBelow}
use Rattle.phc.specs.Encoded.{encoding}
use Rattle.pbkdf2_key.specs.Profile.{pbkdf2_with}
use Rattle.pbkdf2_key.specs.declared.profile.Pbkdf2Hash as derived
use Rattle.pbkdf2_key.specs.declared.profile.Pbkdf2Hash.TheVariants as with
use Rattle.phc_kdf.specs.Limits.{password_max}
use Rattle.salted_digest.specs.Check.{IsSalt}
use Rattle.salted_digest.specs.Digest.{digest_size, salted_digest}
use Rattle.salted_digest.specs.declared.hash.DigestHash.{DigestHash}
use Rattle.stored_check.specs.Verdict.{same_text}
use Rattle.any_check.specs.Records.{accepted, tag}
use Rattle.any_check.specs.Table.{any_verdict}
use Rattle.foreign_text.specs.Digests.{digest_text}
use Rattle.foreign_text.specs.Laws.{AreHeld}
use Rattle.foreign_text.specs.Records.{made_text}
use Rattle.foreign_text.specs.declared.kdf.Kdf.TheVariants.{Pbkdf2}
use Rattle.foreign_text.specs.declared.kdf.Pbkdf2Hash.{Pbkdf2Hash}
use Rattle.foreign_text.specs.declared.kdf.Pbkdf2Hash.TheVariants.{Sha1, Sha256, Sha512}

-- the hash function of the derivation that a text names
abbrev pub derivation : Pbkdf2Hash → derived.Pbkdf2Hash
derivation Sha1 = with.Sha1
derivation Sha256 = with.Sha256
derivation Sha512 = with.Sha512

-- The text of a hash, rounds, a salt and a key, as the converters give it for the makers of PBKDF2: a password
-- of at most 4,096 bytes matches exactly where PBKDF2 (RFC 8018, section 5.2) with that hash gives the key for it, the salt and
-- the rounds.
abbrev pub PasswordOfKey : Type 0
PasswordOfKey =
    (hash : Pbkdf2Hash) (password : List ℕ) (rounds : ℕ) (salt key : List ℕ) → AreHeld (Pbkdf2 hash rounds) salt key
    → 1 ≤ rounds → rounds ≤ 10000000 → length password ≤ password_max
    → any_verdict accepted tag password (made_text (Pbkdf2 hash rounds) salt key)
    ≡ Ok (same_text (encoding key) (encoding (pbkdf2_with (derivation hash) password salt rounds (length key))))

-- The text of a hash function, a salt and a digest, as the converters give it for LDAP's and Dovecot's digests: a password of at most 4,096
-- bytes matches exactly where its digest with the salt after it is that digest.
abbrev pub PasswordOfDigest : Type 0
PasswordOfDigest =
    (hash : DigestHash) (password salt digest : List ℕ) → IsSalt salt → EachBelow 256 digest → length digest ≡ digest_size hash
    → length password ≤ password_max
    → any_verdict accepted tag password (digest_text hash salt digest) ≡ Ok (pointwise nat_eq (salted_digest hash password salt) digest)
