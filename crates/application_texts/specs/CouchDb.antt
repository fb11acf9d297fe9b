-- CouchDB's texts, the values of `[admins]` in its local.ini (its documentation, "Configuring Server Administrators"; couch_passwords).
use Rattle.std.specs.Prelude.{ℕ, Bool, ◌||◌, List, Some, Err, if◌then◌else◌, codes}
use Rattle.pieces.specs.Pieces.{begins, behind, or_behind, pieces_at}
use Rattle.foreign_text.specs.Answers.{Answer}
use Rattle.pieces.specs.Characters.{comma}
use Rattle.foreign_text.specs.Fields.{in_three, pbkdf2_cost, small_hex, three_of}
use Rattle.foreign_text.specs.Records.{with_kdf}
use Rattle.foreign_text.specs.declared.fault.ForeignFault.TheVariants.{Unread}
use Rattle.foreign_text.specs.declared.fault.Unread as unread
use Rattle.foreign_text.specs.declared.fault.Unread.TheVariants.{Cleartext, Sha1 as sha1_digest, Sha2}
use Rattle.foreign_text.specs.declared.kdf.Pbkdf2Hash.{Pbkdf2Hash}
use Rattle.foreign_text.specs.declared.kdf.Pbkdf2Hash.TheVariants.{Sha1, Sha256, Sha512}

-- the key is in hexadecimal digits with small letters, and of the salt its characters count
abbrev pub couchdb_fields : Pbkdf2Hash → List ℕ → List ℕ → List ℕ → Answer
couchdb_fields hash key salt rounds = with_kdf (pbkdf2_cost hash rounds) (Some salt) (small_hex key)

-- `KEY,SALT,ROUNDS`
abbrev pub couchdb_pbkdf2 : Pbkdf2Hash → List ℕ → Answer
couchdb_pbkdf2 hash rest = in_three (couchdb_fields hash) (three_of (pieces_at comma rest))

-- a hash function of PBKDF2 that no record has
abbrev pub has_other_hash : List ℕ → Bool
has_other_hash text = begins text (codes "-pbkdf2-sha224,") || begins text (codes "-pbkdf2-sha384,")

-- a digest with a salt before it, or the password itself, which CouchDB hashes when it starts
abbrev pub couchdb_unread : List ℕ → unread.Unread
couchdb_unread text = if begins text (codes "-hashed-") then sha1_digest else Cleartext

-- `-pbkdf2-KEY,SALT,ROUNDS`, before there was a choice, is of SHA-1
abbrev pub couchdb_older : List ℕ → Answer
couchdb_older text =
    if has_other_hash text then Err (Unread Sha2)
    else or_behind (couchdb_pbkdf2 Sha1) (behind text (codes "-pbkdf2-")) (Err (Unread (couchdb_unread text)))

-- `-pbkdf2-sha256,KEY,SALT,ROUNDS`, and the same with `sha` and `sha512`
unfoldable pub couchdb : List ℕ → Answer
couchdb text =
    or_behind (couchdb_pbkdf2 Sha256) (behind text (codes "-pbkdf2-sha256,"))
    (or_behind (couchdb_pbkdf2 Sha512) (behind text (codes "-pbkdf2-sha512,"))
    (or_behind (couchdb_pbkdf2 Sha1) (behind text (codes "-pbkdf2-sha,")) (couchdb_older text)))
