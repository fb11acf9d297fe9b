-- Dovecot's texts: a scheme in braces, and what it makes (Dovecot 2.3, `doveadm pw`).
use Rattle.std.specs.Prelude.{ℕ, ◌||◌, List, Option, Some, Err, if◌then◌else◌, codes}
use Rattle.pieces.specs.Characters.{dollar}
use Rattle.pieces.specs.Pieces.{behind, or_behind, pieces_at}
use Rattle.salted_digest.specs.declared.hash.DigestHash.TheVariants as digest
use Rattle.scram_plain.specs.declared.preparation.Preparation.TheVariants.{Raw}
use Rattle.foreign_text.specs.Answers.{Answer, as_it_is}
use Rattle.foreign_text.specs.Digests.{bare_field, digest_tags, or_field, or_unread}
use Rattle.foreign_text.specs.Fields.{four_of, in_four, in_three, pbkdf2_cost, small_hex, three_of}
use Rattle.foreign_text.specs.Ldap.{ldap_crypt}
use Rattle.foreign_text.specs.Names.{behind_tag, is_tagged, ldap_unread}
use Rattle.foreign_text.specs.Records.{if_sized, is_size, with_kdf}
use Rattle.foreign_text.specs.Scram.{scram_fields}
use Rattle.foreign_text.specs.declared.fault.ForeignFault.TheVariants.{Form}
use Rattle.foreign_text.specs.declared.fault.Unread as unread
use Rattle.foreign_text.specs.declared.fault.Unread.TheVariants.{Cleartext, DesCrypt, Md5, Scram}
use Rattle.foreign_text.specs.declared.kdf.Pbkdf2Hash.TheVariants.{Sha1}

-- the schemes that keep the password
abbrev pub dovecot_plain : List ℕ → unread.Unread
dovecot_plain text =
    if is_tagged text (codes "{PLAIN}") (codes "{plain}") || is_tagged text (codes "{CLEAR}") (codes "{clear}")
    || is_tagged text (codes "{PLAIN-TRUNC}") (codes "{plain-trunc}")
    then Cleartext else ldap_unread text

-- the other schemes of MD5
abbrev pub dovecot_digest : List ℕ → unread.Unread
dovecot_digest text =
    if is_tagged text (codes "{PLAIN-MD5}") (codes "{plain-md5}") || is_tagged text (codes "{CRAM-MD5}") (codes "{cram-md5}")
    || is_tagged text (codes "{HMAC-MD5}") (codes "{hmac-md5}")
    || is_tagged text (codes "{DIGEST-MD5}") (codes "{digest-md5}")
    then Md5 else dovecot_plain text

-- All that aren't read; those that LDAP has too have LDAP's tags. A scheme with `.b64` or `.hex` after it is another one.
abbrev pub dovecot_unread : List ℕ → unread.Unread
dovecot_unread text =
    if is_tagged text (codes "{SCRAM-SHA-1}") (codes "{scram-sha-1}") then Scram
    else (if is_tagged text (codes "{DES-CRYPT}") (codes "{des-crypt}") then DesCrypt else dovecot_digest text)

-- `ROUNDS,SALT,STORED,SERVER` of SCRAM, of passwords that aren't prepared
abbrev pub dovecot_scram : List ℕ → Answer
dovecot_scram rest = in_four (scram_fields Raw) (four_of (pieces_at 44 rest))

-- PBKDF2 with SHA-1: of the salt its characters count, and the key of 20 bytes is in hexadecimal digits; to another key Dovecot matches no
-- password
abbrev pub dovecot_key : List ℕ → List ℕ → List ℕ → Answer
dovecot_key salt rounds key =
    if_sized (is_size (Some 20) (small_hex key)) (with_kdf (pbkdf2_cost Sha1 rounds) (Some salt) (small_hex key))

abbrev pub dovecot_fields : List ℕ → Answer
dovecot_fields rest = in_three dovecot_key (three_of (pieces_at dollar rest))

-- `$1$SALT$ROUNDS$KEY`
abbrev pub dovecot_pbkdf2 : List ℕ → Answer
dovecot_pbkdf2 rest = or_behind dovecot_fields (behind rest (codes "$1$")) (Err Form)

-- the digests: `{SHA1}` is `{SHA}`, and `{LDAP-MD5}` LDAP's `{MD5}`, which is another scheme here
abbrev pub dovecot_digests : List ℕ → Option Answer
dovecot_digests text =
    or_field (bare_field digest.Md5) (behind_tag text (codes "{LDAP-MD5}") (codes "{ldap-md5}"))
    (or_field (bare_field digest.Sha1) (behind_tag text (codes "{SHA1}") (codes "{sha1}")) (digest_tags text))

-- a text of SCRAM or PBKDF2, or a digest, or why another one isn't read
abbrev pub dovecot_made : List ℕ → Answer
dovecot_made text =
    or_behind dovecot_scram (behind_tag text (codes "{SCRAM-SHA-256}") (codes "{scram-sha-256}"))
    (or_behind dovecot_pbkdf2 (behind_tag text (codes "{PBKDF2}") (codes "{pbkdf2}"))
    (or_unread (dovecot_digests text) (dovecot_unread text)))

-- the schemes of crypt(3) and of Argon2: the stored text is there as it is; and those that a text is made of
unfoldable pub dovecot : List ℕ → Answer
dovecot text =
    or_behind (as_it_is (codes "$6$")) (behind_tag text (codes "{SHA512-CRYPT}") (codes "{sha512-crypt}"))
    (or_behind (as_it_is (codes "$5$")) (behind_tag text (codes "{SHA256-CRYPT}") (codes "{sha256-crypt}"))
    (or_behind (as_it_is (codes "$1$")) (behind_tag text (codes "{MD5-CRYPT}") (codes "{md5-crypt}"))
    (or_behind (as_it_is (codes "$2")) (behind_tag text (codes "{BLF-CRYPT}") (codes "{blf-crypt}"))
    (or_behind (as_it_is (codes "$argon2i$")) (behind_tag text (codes "{ARGON2I}") (codes "{argon2i}"))
    (or_behind (as_it_is (codes "$argon2id$")) (behind_tag text (codes "{ARGON2ID}") (codes "{argon2id}"))
    (or_behind ldap_crypt (behind_tag text (codes "{CRYPT}") (codes "{crypt}"))
    (dovecot_made text)))))))
