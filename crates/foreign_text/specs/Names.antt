-- The schemes that foreign texts name, by how the texts begin.
use Rattle.std.specs.Prelude.{ℕ, Bool, ◌||◌, List, Option, Some, None, if◌then◌else◌, codes}
pub use Rattle.pieces.specs.Pieces.{begins}
use Rattle.pieces.specs.Pieces.{behind}
use Rattle.foreign_text.specs.declared.fault.Unread.{Unread}
use Rattle.foreign_text.specs.declared.fault.Unread.TheVariants.{Cleartext, DesCrypt, Md5, Other, Sha1, Sha2}

-- ---- Django's hashers (django.contrib.auth.hashers, `algorithm`) that aren't read

-- digests without a cost, salted and unsalted: Django hashes the salt before the password
abbrev pub django_unread : List ℕ → Unread
django_unread text =
    if begins text (codes "sha1$") || begins text (codes "unsalted_sha1$") then Sha1
    else (if begins text (codes "md5$") || begins text (codes "unsalted_md5$") then Md5
    else (if begins text (codes "crypt$") then DesCrypt else Other))

-- ---- schemes of LDAP (RFC 2307, section 5.3; OpenLDAP's slapd and contrib/slapd-modules/passwd)

-- A text begins with a scheme's tag, in capital or in small letters.
abbrev pub is_tagged : List ℕ → List ℕ → List ℕ → Bool
is_tagged text capital small = begins text capital || begins text small

-- one of two
abbrev pub either : Option (List ℕ) → Option (List ℕ) → Option (List ℕ)
either (Some rest) other = Some rest
either None other = other

-- what stands behind the tag
abbrev pub behind_tag : List ℕ → List ℕ → List ℕ → Option (List ℕ)
behind_tag text capital small = either (behind text capital) (behind text small)

-- SHA-1 and MD5, salted and unsalted; LDAP's and Dovecot's are read, and those of no other maker with these tags
abbrev pub ldap_digest : List ℕ → Unread
ldap_digest text =
    if is_tagged text (codes "{SSHA}") (codes "{ssha}") || is_tagged text (codes "{SHA}") (codes "{sha}") then Sha1
    else (if is_tagged text (codes "{SMD5}") (codes "{smd5}") || is_tagged text (codes "{MD5}") (codes "{md5}") then Md5
    else Other)

-- SHA-2, salted and unsalted: the same, but SHA-384 isn't read at all
abbrev pub ldap_sha2 : List ℕ → Unread
ldap_sha2 text =
    if is_tagged text (codes "{SSHA256}") (codes "{ssha256}") || is_tagged text (codes "{SSHA384}") (codes "{ssha384}")
    || is_tagged text (codes "{SSHA512}") (codes "{ssha512}") || is_tagged text (codes "{SHA256}") (codes "{sha256}")
    || is_tagged text (codes "{SHA384}") (codes "{sha384}") || is_tagged text (codes "{SHA512}") (codes "{sha512}")
    then Sha2 else ldap_digest text

-- All that aren't read. A text without a tag is the password itself (RFC 4519, section 2.41).
abbrev pub ldap_unread : List ℕ → Unread
ldap_unread text =
    if begins text (codes "{") then (if is_tagged text (codes "{CLEARTEXT}") (codes "{cleartext}") then Cleartext
    else ldap_sha2 text)
    else Cleartext
