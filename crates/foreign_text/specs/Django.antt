-- Django's texts: a name, `$`, and what the hasher of this name writes (django.contrib.auth.hashers).
use Rattle.std.specs.Prelude.{ℕ, ◌==◌, ◌&&◌, List, ◌++◌, length, Some, Ok, Err, if◌then◌else◌, codes}
use Rattle.base64ct.specs.Alphabets.{base64}
use Rattle.pieces.specs.Characters.{dollar}
use Rattle.pieces.specs.Pieces.{behind, or_behind, pieces_at}
use Rattle.foreign_text.specs.Answers.{Answer, as_it_is}
use Rattle.foreign_text.specs.Fields.{field_bytes, five_of, in_five, in_three, pbkdf2_cost, scrypt_cost, three_of}
use Rattle.foreign_text.specs.Names.{begins, django_unread}
use Rattle.foreign_text.specs.Records.{with_kdf}
use Rattle.foreign_text.specs.declared.fault.ForeignFault.TheVariants.{Form, Unread}
use Rattle.foreign_text.specs.declared.kdf.Pbkdf2Hash.{Pbkdf2Hash}
use Rattle.foreign_text.specs.declared.kdf.Pbkdf2Hash.TheVariants.{Sha1, Sha256}

-- PBKDF2: of the salt its characters count, and the key is in Base64 with padding (RFC 4648, table 1)
abbrev pub django_pbkdf2_fields : Pbkdf2Hash → List ℕ → List ℕ → List ℕ → Answer
django_pbkdf2_fields hash rounds salt key = with_kdf (pbkdf2_cost hash rounds) (Some salt) (field_bytes base64 key)

-- `pbkdf2_sha256$ROUNDS$SALT$KEY`, and the same with `pbkdf2_sha1`
abbrev pub django_pbkdf2 : Pbkdf2Hash → List ℕ → Answer
django_pbkdf2 hash rest = in_three (django_pbkdf2_fields hash) (three_of (pieces_at dollar rest))

-- scrypt: the same of salt and key
abbrev pub django_scrypt_fields : List ℕ → List ℕ → List ℕ → List ℕ → List ℕ → Answer
django_scrypt_fields n salt r p key = with_kdf (scrypt_cost n r p) (Some salt) (field_bytes base64 key)

-- `scrypt$N$SALT$R$P$KEY` (Django 4.0, ScryptPasswordHasher)
abbrev pub django_scrypt : List ℕ → Answer
django_scrypt rest = in_five django_scrypt_fields (five_of (pieces_at dollar rest))

-- `argon2$argon2id$..`: the stored text is `$argon2id$..`
abbrev pub django_argon2 : List ℕ → Answer
django_argon2 rest = as_it_is (codes "$argon2") rest

-- `bcrypt$$2b$..`: the stored text is `$2b$..`
abbrev pub django_bcrypt : List ℕ → Answer
django_bcrypt rest = as_it_is (codes "$2") rest

-- `bcrypt_sha256$$2b$..`, where bcrypt hashes the hexadecimal digits of SHA-256: the stored text is `$bcrypt-sha256-hex$2b$..`. A
-- text of bcrypt has 60 characters.
abbrev pub django_digest_text : List ℕ → Answer
django_digest_text rest =
    if begins rest (codes "$2") && length rest == 60 then Ok (codes "$bcrypt-sha256-hex" ++ rest) else Err Form

unfoldable pub django : List ℕ → Answer
django text =
    or_behind (django_pbkdf2 Sha256) (behind text (codes "pbkdf2_sha256$"))
    (or_behind (django_pbkdf2 Sha1) (behind text (codes "pbkdf2_sha1$"))
    (or_behind django_scrypt (behind text (codes "scrypt$"))
    (or_behind django_argon2 (behind text (codes "argon2"))
    (or_behind django_bcrypt (behind text (codes "bcrypt$"))
    (or_behind django_digest_text (behind text (codes "bcrypt_sha256$")) (Err (Unread (django_unread text))))))))
