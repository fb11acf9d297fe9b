-- A digest of a password and a salt in one field, as LDAP's servers and Dovecot write it: Base64 with padding (RFC 4648, table 1) of the
-- digest and of the salt after it. The text that it is read as is that of `salted_digest`.
--
-- A salted digest has a salt of at least one byte, and after one that isn't salted comes no byte: slapd takes no password for another
-- text (OpenLDAP 2.5, libraries/liblutil/passwd.c, chk_ssha1 and chk_sha1, and the same of MD5; contrib/slapd-modules/passwd/sha2), nor does
-- Dovecot (2.3, auth/password-scheme.c). Dovecot reads hexadecimal digits too, where there are twice as many as the digest has bytes: it
-- writes such a field only with a suffix, and as Base64 it is too long here.
use Rattle.std.specs.Prelude.{ℕ, ◌&&◌, ◌==◌, List, [], length, take, drop, nat_le, nat_lt, Option, Some, None, Ok, Err}
use Rattle.std.specs.Prelude.{if◌then◌else◌, codes}
use Rattle.base64ct.specs.Alphabets.{base64}
use Rattle.base64ct.specs.Decoding.{decoding}
use Rattle.salted_digest.specs.Check.{text_of}
use Rattle.salted_digest.specs.Digest.{digest_size}
use Rattle.salted_digest.specs.declared.hash.DigestHash.{DigestHash}
use Rattle.salted_digest.specs.declared.hash.DigestHash.TheVariants.{Md5, Sha1, Sha256, Sha512}
use Rattle.foreign_text.specs.Answers.{Answer}
use Rattle.foreign_text.specs.Names.{behind_tag}
use Rattle.foreign_text.specs.declared.fault.ForeignFault.TheVariants.{Hash, HashLength, SaltLength, Unread}
use Rattle.foreign_text.specs.declared.fault.Unread as unread

-- ---- the field

-- the text of a hash function, a salt and a digest
unfoldable pub digest_text : DigestHash → List ℕ → List ℕ → List ℕ
digest_text hash salt digest = text_of hash salt digest

-- the most characters of a field: those of a digest of 64 bytes and a salt of 48
abbrev pub digest_max : ℕ
digest_max = 152

-- by the salt, of 1 to 48 bytes
abbrev pub with_digest : DigestHash → List ℕ → List ℕ → Answer
with_digest hash digest salt =
    if nat_le 1 (length salt) && nat_le (length salt) 48 then Ok (digest_text hash salt digest) else Err SaltLength

-- the first bytes are the digest, and the others the salt
abbrev pub salted_bytes : DigestHash → Option (List ℕ) → Answer
salted_bytes hash None = Err Hash
salted_bytes hash (Some bytes) =
    if nat_lt (length bytes) (digest_size hash) then Err HashLength
    else with_digest hash (take (digest_size hash) bytes) (drop (digest_size hash) bytes)

-- a field of a salted digest; in a longer one the salt is too long
unfoldable pub salted_field : DigestHash → List ℕ → Answer
salted_field hash field = if nat_le (length field) digest_max then salted_bytes hash (decoding base64 field) else Err SaltLength

-- all bytes are the digest
abbrev pub bare_bytes : DigestHash → Option (List ℕ) → Answer
bare_bytes hash None = Err Hash
bare_bytes hash (Some bytes) = if length bytes == digest_size hash then Ok (digest_text hash [] bytes) else Err HashLength

-- a field of a digest without a salt; a longer one is no digest
unfoldable pub bare_field : DigestHash → List ℕ → Answer
bare_field hash field = if nat_le (length field) digest_max then bare_bytes hash (decoding base64 field) else Err HashLength

-- ---- by the tag

-- what comes after a tag is read as a field, or else another answer holds
abbrev pub or_field : (List ℕ → Answer) → Option (List ℕ) → Option Answer → Option Answer
or_field read None other = other
or_field read (Some field) other = Some (read field)

-- the salted digests
abbrev pub salted_tags : List ℕ → Option Answer
salted_tags text =
    or_field (salted_field Md5) (behind_tag text (codes "{SMD5}") (codes "{smd5}"))
    (or_field (salted_field Sha1) (behind_tag text (codes "{SSHA}") (codes "{ssha}"))
    (or_field (salted_field Sha256) (behind_tag text (codes "{SSHA256}") (codes "{ssha256}"))
    (or_field (salted_field Sha512) (behind_tag text (codes "{SSHA512}") (codes "{ssha512}")) None)))

-- these, and the digests without a salt
abbrev pub digest_tags : List ℕ → Option Answer
digest_tags text =
    or_field (bare_field Sha1) (behind_tag text (codes "{SHA}") (codes "{sha}"))
    (or_field (bare_field Sha256) (behind_tag text (codes "{SHA256}") (codes "{sha256}"))
    (or_field (bare_field Sha512) (behind_tag text (codes "{SHA512}") (codes "{sha512}")) (salted_tags text)))

-- the answer for a digest, or the name of a scheme that isn't read
abbrev pub or_unread : Option Answer → unread.Unread → Answer
or_unread None name = Err (Unread name)
or_unread (Some answer) name = answer
