-- Elasticsearch's texts (`xpack.security.authc.password_hashing.algorithm`, by their published form).
use Rattle.std.specs.Prelude.{ℕ, List, Err, codes}
use Rattle.base64ct.specs.Alphabets.{base64}
use Rattle.pieces.specs.Pieces.{behind, or_behind}
use Rattle.foreign_text.specs.Answers.{Answer}
use Rattle.foreign_text.specs.Encoded.{encoded_pbkdf2}
use Rattle.foreign_text.specs.Names.{ldap_unread}
use Rattle.foreign_text.specs.declared.fault.ForeignFault.TheVariants.{Unread}
use Rattle.foreign_text.specs.declared.kdf.Pbkdf2Hash.TheVariants.{Sha512}

-- `{PBKDF2}ROUNDS$SALT$KEY`, salt and key in Base64 with padding, is of SHA-512, where LDAP's is of SHA-1. Other tags are LDAP's.
unfoldable pub elasticsearch : List ℕ → Answer
elasticsearch text =
    or_behind (encoded_pbkdf2 base64 Sha512) (behind text (codes "{PBKDF2}")) (Err (Unread (ldap_unread text)))
