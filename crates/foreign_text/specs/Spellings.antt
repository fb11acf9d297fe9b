-- What others write for a derivation, by their own code: its cost, a salt and a key.
use Rattle.std.specs.Prelude.{ℕ, List, ◌++◌, ◌∷◌, Option, Some, None, codes}
use Rattle.std.specs.Fmt.{decimal}
use Rattle.hex.specs.Hex.{encode_lower}
use Rattle.base64ct.specs.Alphabets.{base64, base64_pbkdf2}
use Rattle.base64ct.specs.Encoding.{encoding}
use Rattle.pieces.specs.Characters.{dollar}
use Rattle.salted_digest.specs.declared.hash.DigestHash.{DigestHash}
use Rattle.salted_digest.specs.declared.hash.DigestHash.TheVariants as of
use Rattle.foreign_text.specs.declared.kdf.Pbkdf2Hash.{Pbkdf2Hash}
use Rattle.foreign_text.specs.declared.kdf.Pbkdf2Hash.TheVariants.{Sha1, Sha256, Sha512}

-- three fields with `$` between them
abbrev pub three : List ℕ → List ℕ → List ℕ → List ℕ
three a b c = a ++ dollar ∷ (b ++ dollar ∷ c)

-- Django's name of a hasher, and a `$`; with SHA-512 it has none
abbrev pub django_front : Pbkdf2Hash → Option (List ℕ)
django_front Sha1 = Some (codes "pbkdf2_sha1$")
django_front Sha256 = Some (codes "pbkdf2_sha256$")
django_front Sha512 = None

-- Django: `"%s$%d$%s$%s" % (algorithm, iterations, salt, base64.b64encode(hash))`
abbrev pub django_spelling : List ℕ → ℕ → List ℕ → List ℕ → List ℕ
django_spelling front rounds salt key = front ++ three (decimal rounds) salt (encoding base64 key)

-- Werkzeug: `f"{method}${salt}${hash}"`, where the hash is `.hex()` of the key, and the method `f"pbkdf2:{hash_name}:{iterations}"`
abbrev pub werkzeug_hash : Pbkdf2Hash → List ℕ
werkzeug_hash Sha1 = codes "pbkdf2:sha1:"
werkzeug_hash Sha256 = codes "pbkdf2:sha256:"
werkzeug_hash Sha512 = codes "pbkdf2:sha512:"

abbrev pub werkzeug_spelling : Pbkdf2Hash → ℕ → List ℕ → List ℕ → List ℕ
werkzeug_spelling hash rounds salt key = three (werkzeug_hash hash ++ decimal rounds) salt (encode_lower key)

-- the tag of OpenLDAP's pw-pbkdf2
abbrev pub ldap_tag : Pbkdf2Hash → List ℕ
ldap_tag Sha1 = codes "{PBKDF2}"
ldap_tag Sha256 = codes "{PBKDF2-SHA256}"
ldap_tag Sha512 = codes "{PBKDF2-SHA512}"

-- OpenLDAP's pw-pbkdf2, and passlib's ldap_pbkdf2_sha1, ldap_pbkdf2_sha256 and ldap_pbkdf2_sha512
abbrev pub ldap_spelling : Pbkdf2Hash → ℕ → List ℕ → List ℕ → List ℕ
ldap_spelling hash rounds salt key =
    ldap_tag hash ++ three (decimal rounds) (encoding base64_pbkdf2 salt) (encoding base64_pbkdf2 key)

-- passlib's identifier
abbrev pub passlib_ident : Pbkdf2Hash → List ℕ
passlib_ident Sha1 = codes "$pbkdf2$"
passlib_ident Sha256 = codes "$pbkdf2-sha256$"
passlib_ident Sha512 = codes "$pbkdf2-sha512$"

-- passlib's pbkdf2_sha1, pbkdf2_sha256 and pbkdf2_sha512
abbrev pub passlib_spelling : Pbkdf2Hash → ℕ → List ℕ → List ℕ → List ℕ
passlib_spelling hash rounds salt key =
    passlib_ident hash ++ three (decimal rounds) (encoding base64_pbkdf2 salt) (encoding base64_pbkdf2 key)

-- the tag of a salted digest
abbrev pub salted_tag : DigestHash → List ℕ
salted_tag of.Md5 = codes "{SMD5}"
salted_tag of.Sha1 = codes "{SSHA}"
salted_tag of.Sha256 = codes "{SSHA256}"
salted_tag of.Sha512 = codes "{SSHA512}"

-- OpenLDAP's slappasswd and pw-sha2, 389 Directory Server, and passlib's ldap_salted_sha1 and the like: the digest and the salt in one field
abbrev pub salted_spelling : DigestHash → List ℕ → List ℕ → List ℕ
salted_spelling hash salt digest = salted_tag hash ++ encoding base64 (digest ++ salt)

-- the tag of a digest without a salt
abbrev pub bare_tag : DigestHash → List ℕ
bare_tag of.Md5 = codes "{MD5}"
bare_tag of.Sha1 = codes "{SHA}"
bare_tag of.Sha256 = codes "{SHA256}"
bare_tag of.Sha512 = codes "{SHA512}"

-- the same of a digest alone
abbrev pub bare_spelling : DigestHash → List ℕ → List ℕ
bare_spelling hash digest = bare_tag hash ++ encoding base64 digest
