-- passlib's texts (passlib.hash).
use Rattle.std.specs.Prelude.{ℕ, Bool, false, List, [], ◌∷◌, Ok, if◌then◌else◌, codes}
use Rattle.std.specs.Char.{is_ascii_digit}
use Rattle.base64ct.specs.Alphabets.{base64_pbkdf2}
use Rattle.pieces.specs.Pieces.{behind, or_behind}
use Rattle.foreign_text.specs.Answers.{Answer, stored_or_unread}
use Rattle.foreign_text.specs.Encoded.{encoded_pbkdf2}
use Rattle.foreign_text.specs.Mattermost.{mattermost}
use Rattle.foreign_text.specs.declared.kdf.Pbkdf2Hash.{Pbkdf2Hash}
use Rattle.foreign_text.specs.declared.kdf.Pbkdf2Hash.TheVariants.{Sha1, Sha256, Sha512}

-- The rounds of the two whose identifier a record has too have no name in front of them, so that a digit comes first.
abbrev pub begins_with_digit : List ℕ → Bool
begins_with_digit [] = false
begins_with_digit (b ∷ rest) = is_ascii_digit b

-- what comes after the identifier
abbrev pub passlib_pbkdf2 : Pbkdf2Hash → List ℕ → List ℕ → Answer
passlib_pbkdf2 hash text rest = if begins_with_digit rest then encoded_pbkdf2 base64_pbkdf2 hash rest else Ok text

-- `$pbkdf2-sha256$29000$..`, `$pbkdf2-sha512$25000$..`, and with SHA-1 `$pbkdf2$131000$..`; Mattermost's `$pbkdf2$f=..`, where no digit
-- comes first; all other texts that begin with `$` are stored texts as they are
unfoldable pub passlib : List ℕ → Answer
passlib text =
    or_behind (passlib_pbkdf2 Sha256 text) (behind text (codes "$pbkdf2-sha256$"))
    (or_behind (passlib_pbkdf2 Sha512 text) (behind text (codes "$pbkdf2-sha512$"))
    (or_behind mattermost (behind text (codes "$pbkdf2$f="))
    (or_behind (encoded_pbkdf2 base64_pbkdf2 Sha1) (behind text (codes "$pbkdf2$")) (stored_or_unread text))))
