-- Laws over the definitions.
use Rattle.std.specs.Prelude.{◌≡◌, ℕ, ◌^◌, ◌<◌, ◌≤◌, List, [], length, Ok, Some}
use Rattle.base64ct.specs.Encoding.{EachBelow}
use Rattle.pieces.specs.Characters.{dollar}
use Rattle.pieces.specs.Pieces.{LacksByte}
use Rattle.phc.specs.Limits.{output_max, output_min, salt_max, salt_min}
use Rattle.phc.specs.Record.{phc_text}
use Rattle.salted_digest.specs.Check.{IsSalt}
use Rattle.salted_digest.specs.Digest.{digest_size}
use Rattle.salted_digest.specs.Text.{text_parts}
use Rattle.salted_digest.specs.declared.hash.DigestHash.{DigestHash}
use Rattle.foreign_text.specs.Converted.{converted}
use Rattle.foreign_text.specs.Digests.{digest_text}
use Rattle.foreign_text.specs.Records.{made_text, record_of}
use Rattle.foreign_text.specs.Spellings.{bare_spelling, django_front, django_spelling, ldap_spelling, passlib_spelling, salted_spelling}
use Rattle.foreign_text.specs.Spellings.{werkzeug_spelling}
use Rattle.foreign_text.specs.declared.converted.Foreign.{Foreign}
use Rattle.foreign_text.specs.declared.converted.Foreign.TheVariants.{Django, Ldap, Passlib, Werkzeug}
use Rattle.foreign_text.specs.declared.kdf.Kdf.{Kdf}
use Rattle.foreign_text.specs.declared.kdf.Kdf.TheVariants.{Pbkdf2, Scrypt}
use Rattle.foreign_text.specs.declared.kdf.Pbkdf2Hash.{Pbkdf2Hash}

-- what a converter gives is in the one spelling: it converts to itself
abbrev pub ConvertsToItself : Type 0
ConvertsToItself = (foreign : Foreign) (text stored : List ℕ) → converted foreign text ≡ Ok stored → converted foreign stored ≡ Ok stored

-- the numbers of a cost have 32 bits
abbrev pub CostFits : Kdf → Type 0
CostFits (Pbkdf2 hash rounds) = rounds < 2 ^ 32
CostFits (Scrypt ln r p) = (ln < 2 ^ 32) × (r < 2 ^ 32) × (p < 2 ^ 32)

-- a cost, a salt and a key that a record holds
pub record AreHeld (kdf : Kdf) (salt key : List ℕ) : Type 0 where
  pub cost_fits : CostFits kdf
  pub salt_bytes : EachBelow 256 salt
  pub salt_least : salt_min ≤ length salt
  pub salt_most : length salt ≤ salt_max
  pub key_bytes : EachBelow 256 key
  pub key_least : output_min ≤ length key
  pub key_most : length key ≤ output_max

-- What Django writes for a hash, rounds, a salt without a `$` and a key is converted to the text of their record.
abbrev pub DjangoKept : Type 0
DjangoKept = (hash : Pbkdf2Hash) (front : List ℕ) (rounds : ℕ) (salt key : List ℕ) → django_front hash ≡ Some front
    → AreHeld (Pbkdf2 hash rounds) salt key → LacksByte dollar salt
    → converted Django (django_spelling front rounds salt key) ≡ Ok (made_text (Pbkdf2 hash rounds) salt key)

-- The same of what Werkzeug writes.
abbrev pub WerkzeugKept : Type 0
WerkzeugKept = (hash : Pbkdf2Hash) (rounds : ℕ) (salt key : List ℕ) → AreHeld (Pbkdf2 hash rounds) salt key → LacksByte dollar salt
    → converted Werkzeug (werkzeug_spelling hash rounds salt key) ≡ Ok (made_text (Pbkdf2 hash rounds) salt key)

-- The same of what OpenLDAP and passlib write, whatever bytes the salt has.
abbrev pub LdapKept : Type 0
LdapKept = (hash : Pbkdf2Hash) (rounds : ℕ) (salt key : List ℕ) → AreHeld (Pbkdf2 hash rounds) salt key
    → converted Ldap (ldap_spelling hash rounds salt key) ≡ Ok (made_text (Pbkdf2 hash rounds) salt key)

abbrev pub PasslibKept : Type 0
PasslibKept = (hash : Pbkdf2Hash) (rounds : ℕ) (salt key : List ℕ) → AreHeld (Pbkdf2 hash rounds) salt key
    → converted Passlib (passlib_spelling hash rounds salt key) ≡ Ok (made_text (Pbkdf2 hash rounds) salt key)

-- What LDAP's servers write for a digest and a salt, in one field, is converted to the text of the hash function, the salt and the digest.
abbrev pub SaltedKept : Type 0
SaltedKept = (hash : DigestHash) (salt digest : List ℕ) → EachBelow 256 salt → 1 ≤ length salt → length salt ≤ 48 → EachBelow 256 digest
    → length digest ≡ digest_size hash → converted Ldap (salted_spelling hash salt digest) ≡ Ok (digest_text hash salt digest)

-- The same of a digest without a salt, which is an empty one.
abbrev pub BareKept : Type 0
BareKept = (hash : DigestHash) (digest : List ℕ) → EachBelow 256 digest → length digest ≡ digest_size hash
    → converted Ldap (bare_spelling hash digest) ≡ Ok (digest_text hash [] digest)

-- The text of a record is read as the record again, with the same derivation, cost, salt and key.
abbrev pub ReadAgain : Type 0
ReadAgain = (kdf : Kdf) (salt key : List ℕ) → AreHeld kdf salt key
    → phc_text (made_text kdf salt key) ≡ Ok (record_of kdf salt key)

-- The text of a digest is read as the hash function, the salt and the digest again.
abbrev pub DigestReadAgain : Type 0
DigestReadAgain = (hash : DigestHash) (salt digest : List ℕ) → IsSalt salt → EachBelow 256 digest → length digest ≡ digest_size hash
    → text_parts (digest_text hash salt digest) ≡ Ok (record { hash = hash; salt = salt; digest = digest })
