-- Mosquitto's texts (mosquitto_passwd 2.0).
use Rattle.std.specs.Prelude.{ℕ, List, Err, if◌then◌else◌, codes}
use Rattle.base64ct.specs.Alphabets.{base64}
use Rattle.pieces.specs.Pieces.{behind, or_behind}
use Rattle.foreign_text.specs.Answers.{Answer, stored_or_unread}
use Rattle.foreign_text.specs.Encoded.{encoded_pbkdf2}
use Rattle.foreign_text.specs.Names.{begins}
use Rattle.foreign_text.specs.declared.fault.ForeignFault.TheVariants.{Unread}
use Rattle.foreign_text.specs.declared.fault.Unread.TheVariants.{Sha2}
use Rattle.foreign_text.specs.declared.kdf.Pbkdf2Hash.TheVariants.{Sha512}

-- `$6$SALT$KEY` is a digest of SHA-512 before version 2; a text with another front stays as it is
abbrev pub mosquitto_other : List ℕ → Answer
mosquitto_other text =
    if begins text (codes "$6$") then Err (Unread Sha2) else stored_or_unread text

-- `$7$ROUNDS$SALT$KEY` is PBKDF2 with SHA-512, salt and key in Base64 with padding
unfoldable pub mosquitto : List ℕ → Answer
mosquitto text = or_behind (encoded_pbkdf2 base64 Sha512) (behind text (codes "$7$")) (mosquitto_other text)
