-- The answer of a check of a password against a stored text.
use Rattle.std.specs.Prelude.{ℕ, Bool, List, nat_eq, Result, Ok, Err}
use Rattle.std.specs.Cmp.Lexicographic.{pointwise}
use Rattle.sha2.specs.Sha256.{sha256}
use Rattle.sha_crypt.specs.Digest.{whole_salt_digest}
use Rattle.sha_crypt.specs.HashField.{in_order, map_sha256}
use Rattle.mysql_sha2.specs.Text.{Parts, text_parts}
use Rattle.mysql_sha2.specs.declared.error.MysqlFault.{MysqlFault}

-- the digest of a password: that of SHA-256-crypt, where each byte of the salt counts
abbrev pub mysql_digest : List ℕ → List ℕ → ℕ → List ℕ
mysql_digest password salt rounds = whole_salt_digest sha256 password salt rounds

-- the fault of the text; or whether its digest is that of the password, by a test for equality
abbrev pub answer_by : (List ℕ → List ℕ → Bool) → List ℕ → Result Parts MysqlFault → Result Bool MysqlFault
answer_by same password (Err e) = Err e
answer_by same password (Ok p) = Ok (same (in_order map_sha256 (mysql_digest password p.salt p.rounds)) p.placed)

-- the answer for a password and a stored text: the first fault of the text, or whether the digests are equal
unfoldable pub mysql_answer : List ℕ → List ℕ → Result Bool MysqlFault
mysql_answer password text = answer_by (pointwise nat_eq) password (text_parts text)
