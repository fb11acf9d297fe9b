-- Werkzeug's texts, which Flask's programs store: `METHOD$SALT$KEY` (werkzeug 3.1.8 and 2.2.2, werkzeug.security).
use Rattle.std.specs.Prelude.{ℕ, ◌||◌, List, [], ◌∷◌, Some, Result, Err, if◌then◌else◌, codes}
use Rattle.pieces.specs.Characters.{dollar}
use Rattle.pieces.specs.Pieces.{behind, or_behind, pieces_at}
use Rattle.foreign_text.specs.Answers.{Answer}
use Rattle.foreign_text.specs.Characters.{colon}
use Rattle.foreign_text.specs.Fields.{in_three, pbkdf2_cost, scrypt_cost, small_hex, three_of}
use Rattle.foreign_text.specs.Names.{begins}
use Rattle.foreign_text.specs.Records.{with_kdf}
use Rattle.foreign_text.specs.declared.fault.ForeignFault.{ForeignFault}
use Rattle.foreign_text.specs.declared.fault.ForeignFault.TheVariants.{Form, Unread}
use Rattle.foreign_text.specs.declared.fault.Unread.TheVariants.{Cleartext, Md5, Other, Sha1 as sha1_digest, Sha2}
use Rattle.foreign_text.specs.declared.kdf.Kdf.{Kdf}
use Rattle.foreign_text.specs.declared.kdf.Pbkdf2Hash.{Pbkdf2Hash}
use Rattle.foreign_text.specs.declared.kdf.Pbkdf2Hash.TheVariants.{Sha1, Sha256, Sha512}

-- a method's cost
abbrev pub Costed : Type 0
Costed = Result Kdf ForeignFault

-- `scrypt:N:R:P`
abbrev pub werkzeug_scrypt : List ℕ → Costed
werkzeug_scrypt rest = in_three scrypt_cost (three_of (pieces_at colon rest))

-- `pbkdf2:sha1:ROUNDS`, `pbkdf2:sha256:ROUNDS` or `pbkdf2:sha512:ROUNDS`, with no word after the rounds
abbrev pub werkzeug_rounds : Pbkdf2Hash → List (List ℕ) → Costed
werkzeug_rounds hash (rounds ∷ []) = pbkdf2_cost hash rounds
werkzeug_rounds hash [] = Err Form
werkzeug_rounds hash (rounds ∷ (more ∷ others)) = Err Form

abbrev pub werkzeug_pbkdf2 : Pbkdf2Hash → List ℕ → Costed
werkzeug_pbkdf2 hash rest = werkzeug_rounds hash (pieces_at colon rest)

-- another digest is named by itself
abbrev pub werkzeug_digest : List ℕ → ForeignFault
werkzeug_digest method =
    if begins method (codes "sha1") then Unread sha1_digest
    else (if begins method (codes "sha") then Unread Sha2
    else (if begins method (codes "md5") then Unread Md5
    else (if begins method (codes "plain") then Unread Cleartext else Unread Other)))

-- a method that isn't read
abbrev pub werkzeug_unread : List ℕ → ForeignFault
werkzeug_unread method =
    if begins method (codes "pbkdf2") || begins method (codes "scrypt") then Form else werkzeug_digest method

-- a method; its numbers aren't left out
unfoldable pub werkzeug_method : List ℕ → Costed
werkzeug_method method =
    or_behind werkzeug_scrypt (behind method (codes "scrypt:"))
    (or_behind (werkzeug_pbkdf2 Sha256) (behind method (codes "pbkdf2:sha256:"))
    (or_behind (werkzeug_pbkdf2 Sha512) (behind method (codes "pbkdf2:sha512:"))
    (or_behind (werkzeug_pbkdf2 Sha1) (behind method (codes "pbkdf2:sha1:")) (Err (werkzeug_unread method)))))

-- of the salt its characters count, and the key is in hexadecimal digits
abbrev pub werkzeug_fields : List ℕ → List ℕ → List ℕ → Answer
werkzeug_fields method salt key = with_kdf (werkzeug_method method) (Some salt) (small_hex key)

unfoldable pub werkzeug : List ℕ → Answer
werkzeug text = in_three werkzeug_fields (three_of (pieces_at dollar text))
