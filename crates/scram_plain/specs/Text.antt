-- The texts `$scram-sha-256$rounds$salt$stored$server` and `$scram-sha-256-raw$rounds$salt$stored$server`, cut at each `$`: the
-- first fault, or the rounds, a salt and two keys. The order of the faults is ours.
--
-- They have the fields of PostgreSQL's `SCRAM-SHA-256$rounds:salt$stored:server` (pg_authid) and of Dovecot's
-- `{SCRAM-SHA-256}rounds,salt,stored,server`, without the colons and commas that a line of users can't have. The salt and the keys
-- are in Base64 with padding (RFC 4648, section 4), as RFC 5803 has them. PostgreSQL prepares a password by SASLprep, Dovecot doesn't.
use Rattle.std.specs.Prelude.{ℕ, ◌==◌, ◌&&◌, Bool, true, List, [], ◌∷◌, length, nat_eq, nat_le, codes}
use Rattle.std.specs.Prelude.{Option, Some, None, Result, Ok, Err, if◌then◌else◌}
use Rattle.std.specs.Char.{is_ascii}
use Rattle.std.specs.Cmp.Lexicographic.{pointwise}
use Rattle.std.specs.List.{list_all}
use Rattle.base64ct.specs.Alphabets.{base64}
use Rattle.base64ct.specs.Decoding.{decoding}
use Rattle.pieces.specs.Characters.{dollar}
use Rattle.pieces.specs.Lists.{is_empty}
use Rattle.pieces.specs.Pieces.{pieces_at}
use Rattle.plain_rounds.specs.Rounds.{rounds_of}
use Rattle.scram_plain.specs.declared.preparation.Preparation.{Preparation}
use Rattle.scram_plain.specs.declared.preparation.Preparation.TheVariants.{SaslPrep, Raw}
use Rattle.scram_plain.specs.declared.error.ScramFault.{ScramFault}
use Rattle.scram_plain.specs.declared.error.ScramFault.TheVariants.{NoDollar, WrongId, NoRounds, NoSalt, NoStoredKey, NoServerKey}
use Rattle.scram_plain.specs.declared.error.ScramFault.TheVariants.{Trailing, Rounds, SaltLength, SaltEncoding, StoredKeyLength}
use Rattle.scram_plain.specs.declared.error.ScramFault.TheVariants.{StoredKeyEncoding, ServerKeyLength, ServerKeyEncoding}

-- ---- the preparation of a password

-- the identifier of the texts
abbrev pub identifier : Preparation → List ℕ
identifier SaslPrep = codes "scram-sha-256"
identifier Raw = codes "scram-sha-256-raw"

-- the preparation that an identifier names
abbrev pub preparation_of : List ℕ → Option Preparation
preparation_of id =
    if pointwise nat_eq id (identifier SaslPrep) then Some SaslPrep
    else (if pointwise nat_eq id (identifier Raw) then Some Raw else None)

-- A password is hashed as it is: always; or, with SASLprep (RFC 4013), where all of its bytes are below 128. No mapping and no
-- normalization changes those. RFC 4013 prohibits control characters, and PostgreSQL takes a prohibited password as it is.
abbrev pub leaves : Preparation → List ℕ → Bool
leaves SaslPrep password = list_all is_ascii password
leaves Raw password = true

-- ---- the pieces

-- the preparation, and the texts of the rounds, of a salt and of two keys
pub record Fields : Type 0 where
  pub preparation : Preparation
  pub rounds : List ℕ
  pub salt : List ℕ
  pub stored : List ℕ
  pub server : List ℕ

-- after the identifier: exactly these four
abbrev pub split_fields : Preparation → List (List ℕ) → Result Fields ScramFault
split_fields preparation [] = Err NoRounds
split_fields preparation (rounds ∷ []) = Err NoSalt
split_fields preparation (rounds ∷ (salt ∷ [])) = Err NoStoredKey
split_fields preparation (rounds ∷ (salt ∷ (stored ∷ []))) = Err NoServerKey
split_fields preparation (rounds ∷ (salt ∷ (stored ∷ (server ∷ more)))) =
    if is_empty more then
    Ok (record { preparation = preparation; rounds = rounds; salt = salt; stored = stored; server = server })
    else Err Trailing

-- by the preparation that the identifier names
abbrev pub by_preparation : Option Preparation → List (List ℕ) → Result Fields ScramFault
by_preparation None pieces = Err WrongId
by_preparation (Some preparation) pieces = split_fields preparation pieces

-- by the pieces after the first `$`
abbrev pub from_identifier : List (List ℕ) → Result Fields ScramFault
from_identifier [] = Err WrongId
from_identifier (id ∷ pieces) = by_preparation (preparation_of id) pieces

-- by all pieces of a text
abbrev pub from_front : List (List ℕ) → Result Fields ScramFault
from_front [] = Err NoDollar
from_front (front ∷ others) = if is_empty front then from_identifier others else Err NoDollar

-- the fields of a text by their form
unfoldable pub text_fields : List ℕ → Result Fields ScramFault
text_fields text = from_front (pieces_at dollar text)

-- ---- what they mean

-- a value, or a fault
abbrev pub or_fault : {A : Type 0} → ScramFault → Option A → Result A ScramFault
or_fault fault None = Err fault
or_fault fault (Some value) = Ok value

-- The salt that a text writes. It has 1 to 64 characters, so the salt has 1 to 48 bytes. The bound is ours, and that of records in the
-- PHC string format; PostgreSQL and Dovecot draw 16 bytes.
abbrev pub salt_of : List ℕ → Result (List ℕ) ScramFault
salt_of text =
    if nat_le 1 (length text) && nat_le (length text) 64 then or_fault SaltEncoding (decoding base64 text) else Err SaltLength

-- these bytes, where there are as many as a digest of SHA-256 has
abbrev pub as_key : Option (List ℕ) → Option (List ℕ)
as_key None = None
as_key (Some bytes) = if length bytes == 32 then Some bytes else None

-- the key that a text writes
abbrev pub key_bytes : List ℕ → Option (List ℕ)
key_bytes text = as_key (decoding base64 text)

-- the same, or a fault for another length than that of 32 bytes in Base64, or for another text
abbrev pub key_of : ScramFault → ScramFault → List ℕ → Result (List ℕ) ScramFault
key_of wrong_length wrong_encoding text =
    if length text == 44 then or_fault wrong_encoding (key_bytes text) else Err wrong_length

abbrev pub stored_key_of : List ℕ → Result (List ℕ) ScramFault
stored_key_of = key_of StoredKeyLength StoredKeyEncoding

abbrev pub server_key_of : List ℕ → Result (List ℕ) ScramFault
server_key_of = key_of ServerKeyLength ServerKeyEncoding

-- the preparation, the rounds, a salt and two keys
pub record Parts : Type 0 where
  pub preparation : Preparation
  pub rounds : ℕ
  pub salt : List ℕ
  pub stored : List ℕ
  pub server : List ℕ

-- by the server key
abbrev pub with_server : Preparation → ℕ → List ℕ → List ℕ → Result (List ℕ) ScramFault → Result Parts ScramFault
with_server preparation rounds salt stored (Err e) = Err e
with_server preparation rounds salt stored (Ok server) =
    Ok (record { preparation = preparation; rounds = rounds; salt = salt; stored = stored; server = server })

-- by the stored key, and the text of the server key
abbrev pub with_stored : Preparation → ℕ → List ℕ → Result (List ℕ) ScramFault → List ℕ → Result Parts ScramFault
with_stored preparation rounds salt (Err e) server = Err e
with_stored preparation rounds salt (Ok stored) server = with_server preparation rounds salt stored (server_key_of server)

-- by the salt, and the texts of the keys
abbrev pub with_salt : Preparation → ℕ → Result (List ℕ) ScramFault → List ℕ → List ℕ → Result Parts ScramFault
with_salt preparation rounds (Err e) stored server = Err e
with_salt preparation rounds (Ok salt) stored server = with_stored preparation rounds salt (stored_key_of stored) server

-- by the rounds, and the other fields
abbrev pub with_rounds : Option ℕ → Fields → Result Parts ScramFault
with_rounds None f = Err Rounds
with_rounds (Some rounds) f = with_salt f.preparation rounds (salt_of f.salt) f.stored f.server

-- by the fields
abbrev pub parts_of : Result Fields ScramFault → Result Parts ScramFault
parts_of (Err e) = Err e
parts_of (Ok f) = with_rounds (rounds_of f.rounds) f

-- the parts of a text, or its first fault
unfoldable pub text_parts : List ℕ → Result Parts ScramFault
text_parts text = parts_of (text_fields text)

-- ---- the rounds of a text

-- of its parts
abbrev pub parts_cost : Result Parts ScramFault → Result ℕ ScramFault
parts_cost (Err e) = Err e
parts_cost (Ok p) = Ok p.rounds

-- the rounds that a valid text names, or the first fault
abbrev pub text_cost : List ℕ → Result ℕ ScramFault
text_cost text = parts_cost (text_parts text)
