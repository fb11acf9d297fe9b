-- Texts of LDAP's `userPassword`: a tag, and what the module of that name writes.
use Rattle.std.specs.Prelude.{ℕ, Bool, ◌||◌, ◌==◌, List, length, nat_lt, Option, Ok, Err, if◌then◌else◌, codes}
use Rattle.std.specs.List.{list_any}
use Rattle.pieces.specs.Pieces.{behind, or_behind}
use Rattle.foreign_text.specs.Aix.{aix, with_dollar}
use Rattle.foreign_text.specs.Answers.{Answer, as_it_is}
use Rattle.foreign_text.specs.Characters.{colon}
use Rattle.foreign_text.specs.Digests.{bare_field, digest_tags, or_field, or_unread}
use Rattle.foreign_text.specs.Encoded.{either_pbkdf2}
use Rattle.foreign_text.specs.Names.{begins, behind_tag, ldap_unread}
use Rattle.foreign_text.specs.declared.fault.ForeignFault.{ForeignFault}
use Rattle.foreign_text.specs.declared.fault.ForeignFault.TheVariants.{Form, Locked, Unread}
use Rattle.foreign_text.specs.declared.fault.Unread.TheVariants.{DesCrypt}
use Rattle.foreign_text.specs.declared.kdf.Pbkdf2Hash.TheVariants.{Sha1, Sha256, Sha512}
use Rattle.salted_digest.specs.declared.hash.DigestHash.TheVariants.{Md5}

-- What is in the place of crypt(3)'s text is of a locked account: it begins with `*` or `!`, as in shadow(5); or it has fewer than two
-- characters, as the `x` of passwd(5), and then slapd takes no password (OpenLDAP, libraries/liblutil/passwd.c, chk_crypt).
abbrev pub is_locked_crypt : List ℕ → Bool
is_locked_crypt rest = begins rest (codes "*") || begins rest (codes "!") || nat_lt (length rest) 2

-- another one without a `$` is of DES
abbrev pub crypt_fault : List ℕ → ForeignFault
crypt_fault rest = if is_locked_crypt rest then Locked else Unread DesCrypt

-- `{CRYPT}$6$..`: what crypt(3) takes
abbrev pub ldap_crypt : List ℕ → Answer
ldap_crypt rest = if begins rest (codes "$") then Ok rest else Err (crypt_fault rest)

-- `{ARGON2}$argon2i$..` (OpenLDAP, contrib/slapd-modules/passwd/argon2)
abbrev pub ldap_argon2 : List ℕ → Answer
ldap_argon2 rest = as_it_is (codes "$argon2") rest

-- `{BCRYPT}$2b$..` (Plone's AuthEncoding)
abbrev pub ldap_bcrypt : List ℕ → Answer
ldap_bcrypt rest = as_it_is (codes "$2") rest

-- the digests (RFC 2307, section 5.3; slapd.conf(5) and slapd-pw-sha2(5)), of which Dovecot has another tag for one of MD5 without a salt
abbrev pub ldap_digests : List ℕ → Option Answer
ldap_digests text = or_field (bare_field Md5) (behind_tag text (codes "{MD5}") (codes "{md5}")) (digest_tags text)

-- a digest, or why another text isn't read
abbrev pub ldap_made : List ℕ → Answer
ldap_made text = or_unread (ldap_digests text) (ldap_unread text)

-- AIX's texts, whose tags have small letters and after which a `$` comes, or those
abbrev pub ldap_aix : List ℕ → Answer
ldap_aix text =
    or_behind (aix Sha1) (with_dollar (behind text (codes "{ssha1}")))
    (or_behind (aix Sha256) (with_dollar (behind text (codes "{ssha256}")))
    (or_behind (aix Sha512) (with_dollar (behind text (codes "{ssha512}"))) (ldap_made text)))

-- `{PBKDF2-SHA256}ROUNDS$SALT$KEY` and `{PBKDF2-SHA512}..`, and with SHA-1 `{PBKDF2}..` and `{PBKDF2-SHA1}..`: 389 Directory Server
-- (2.3, pwdhash) pads its fields, OpenLDAP (pw-pbkdf2) and passlib don't
unfoldable pub ldap : List ℕ → Answer
ldap text =
    or_behind ldap_crypt (behind_tag text (codes "{CRYPT}") (codes "{crypt}"))
    (or_behind ldap_argon2 (behind_tag text (codes "{ARGON2}") (codes "{argon2}"))
    (or_behind ldap_bcrypt (behind_tag text (codes "{BCRYPT}") (codes "{bcrypt}"))
    (or_behind (either_pbkdf2 Sha256) (behind_tag text (codes "{PBKDF2-SHA256}") (codes "{pbkdf2-sha256}"))
    (or_behind (either_pbkdf2 Sha512) (behind_tag text (codes "{PBKDF2-SHA512}") (codes "{pbkdf2-sha512}"))
    (or_behind (either_pbkdf2 Sha1) (behind_tag text (codes "{PBKDF2-SHA1}") (codes "{pbkdf2-sha1}"))
    (or_behind (either_pbkdf2 Sha1) (behind_tag text (codes "{PBKDF2}") (codes "{pbkdf2}"))
    (ldap_aix text)))))))

-- a colon
abbrev pub is_colon : ℕ → Bool
is_colon b = b == colon

-- In a dump a text is a value of bytes. A stored text has no colon (crypt(5)): what has one isn't of its scheme.
abbrev pub whole_text : Answer → Answer
whole_text (Err fault) = Err fault
whole_text (Ok stored) = if list_any is_colon stored then Err Form else Ok stored

unfoldable pub ldif : List ℕ → Answer
ldif text = whole_text (if begins text (codes "$") then Ok text else ldap text)
