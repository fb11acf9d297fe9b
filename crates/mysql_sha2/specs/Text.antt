-- The texts of MySQL's caching_sha2_password (MySQL 8, sql/auth/sha2_password.cc) as hashcat writes them (mode 7401):
-- `$mysql$A$THOUSANDS*SALT*HASH`. MySQL keeps `$A$`, three hexadecimal digits and `$`, and then 20 bytes of salt and 43 characters of a hash as
-- they are. Here the salt and these characters are in hexadecimal digits with capital letters, two each. The order of the faults is ours.
use Rattle.std.specs.Prelude.{ℕ, ◌+◌, ◌-◌, ◌*◌, ◌==◌, ◌&&◌, ◌||◌, Bool, List, [], ◌∷◌, length, nat_le, codes}
use Rattle.std.specs.Prelude.{Option, Some, None, Result, Ok, Err, if◌then◌else◌}
use Rattle.std.specs.List.{list_all}
use Rattle.std.specs.Result.{result_ok}
use Rattle.hex.specs.Hex.{decode_sized}
use Rattle.pieces.specs.Lists.{is_empty}
use Rattle.pieces.specs.Pieces.{behind, pieces_at}
use Rattle.sha_crypt.specs.HashField.{field_bytes}
use Rattle.mysql_sha2.specs.declared.error.MysqlFault.{MysqlFault}
use Rattle.mysql_sha2.specs.declared.error.MysqlFault.TheVariants.{WrongId, NoSalt, NoHash, Trailing, Rounds}
use Rattle.mysql_sha2.specs.declared.error.MysqlFault.TheVariants.{SaltLength, SaltDigit, HashLength, HashDigit, HashField}

-- ---- the fields

-- the character between the fields, `*`
abbrev pub star : ℕ
star = 42

-- the texts of the thousands of rounds, of a salt and of a hash
pub record Fields : Type 0 where
  pub thousands : List ℕ
  pub salt : List ℕ
  pub hash : List ℕ

-- exactly these three
abbrev pub split_fields : List (List ℕ) → Result Fields MysqlFault
split_fields [] = Err NoSalt
split_fields (thousands ∷ []) = Err NoSalt
split_fields (thousands ∷ (salt ∷ [])) = Err NoHash
split_fields (thousands ∷ (salt ∷ (hash ∷ more))) =
    if is_empty more then Ok (record { thousands = thousands; salt = salt; hash = hash }) else Err Trailing

-- by what follows the front
abbrev pub from_front : Option (List ℕ) → Result Fields MysqlFault
from_front None = Err WrongId
from_front (Some rest) = split_fields (pieces_at star rest)

-- the fields of a text by their form
unfoldable pub text_fields : List ℕ → Result Fields MysqlFault
text_fields text = from_front (behind text (codes "$mysql$A$"))

-- ---- hexadecimal digits

-- one of `0-9A-F`
abbrev pub is_capital_digit : ℕ → Bool
is_capital_digit b = (nat_le 48 b && nat_le b 57) || (nat_le 65 b && nat_le b 70)

-- the value of such a digit
abbrev pub digit_value : ℕ → ℕ
digit_value b = if nat_le b 57 then b - 48 else b - 55

-- the n bytes that such digits write, two each
abbrev pub capital_bytes : ℕ → List ℕ → Option (List ℕ)
capital_bytes n text = if list_all is_capital_digit text then result_ok (decode_sized text n) else None

-- ---- what they mean

-- the rounds of so many thousands: MySQL takes 5,000 to 4,095,000 (caching_sha2_password_digest_rounds)
abbrev pub by_thousands : ℕ → Option ℕ
by_thousands n = if nat_le 5 n then Some (1000 * n) else None

-- three digits write the thousands of the rounds
abbrev pub rounds_of : List ℕ → Option ℕ
rounds_of (a ∷ (b ∷ (c ∷ []))) =
    if is_capital_digit a && is_capital_digit b && is_capital_digit c
    then by_thousands (256 * digit_value a + 16 * digit_value b + digit_value c) else None
rounds_of other = None

-- a value, or a fault
abbrev pub or_fault : MysqlFault → Option (List ℕ) → Result (List ℕ) MysqlFault
or_fault fault None = Err fault
or_fault fault (Some value) = Ok value

-- the 20 bytes of the salt
abbrev pub salt_of : List ℕ → Result (List ℕ) MysqlFault
salt_of text = if length text == 40 then or_fault SaltDigit (capital_bytes 20 text) else Err SaltLength

-- the 32 bytes whose hash field these characters are
abbrev pub by_characters : Option (List ℕ) → Result (List ℕ) MysqlFault
by_characters None = Err HashDigit
by_characters (Some characters) = or_fault HashField (field_bytes 32 characters)

-- the bytes of the digest, in the order in which they stand in the hash field of 43 characters
abbrev pub hash_of : List ℕ → Result (List ℕ) MysqlFault
hash_of text = if length text == 86 then by_characters (capital_bytes 43 text) else Err HashLength

-- the rounds, the salt and the digest in the order of a hash field
pub record Parts : Type 0 where
  pub rounds : ℕ
  pub salt : List ℕ
  pub placed : List ℕ

-- by the digest
abbrev pub by_hash : ℕ → List ℕ → Result (List ℕ) MysqlFault → Result Parts MysqlFault
by_hash rounds salt (Err e) = Err e
by_hash rounds salt (Ok placed) = Ok (record { rounds = rounds; salt = salt; placed = placed })

-- by the salt
abbrev pub by_salt : ℕ → Result (List ℕ) MysqlFault → List ℕ → Result Parts MysqlFault
by_salt rounds (Err e) hash = Err e
by_salt rounds (Ok salt) hash = by_hash rounds salt (hash_of hash)

-- by the rounds
abbrev pub by_rounds : Option ℕ → List ℕ → List ℕ → Result Parts MysqlFault
by_rounds None salt hash = Err Rounds
by_rounds (Some rounds) salt hash = by_salt rounds (salt_of salt) hash

-- by the fields
abbrev pub parts_of : Result Fields MysqlFault → Result Parts MysqlFault
parts_of (Err e) = Err e
parts_of (Ok f) = by_rounds (rounds_of f.thousands) f.salt f.hash

-- the parts of a text, or its first fault
unfoldable pub text_parts : List ℕ → Result Parts MysqlFault
text_parts text = parts_of (text_fields text)

-- ---- the rounds of a text

-- of its parts
abbrev pub parts_cost : Result Parts MysqlFault → Result ℕ MysqlFault
parts_cost (Err e) = Err e
parts_cost (Ok p) = Ok p.rounds

-- the rounds that a valid text names, or the first fault
abbrev pub text_cost : List ℕ → Result ℕ MysqlFault
text_cost text = parts_cost (text_parts text)
