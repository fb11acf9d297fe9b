-- The texts `$sha1$rounds$salt$hash` (crypt(5) of libxcrypt), cut at each `$`: the first fault, or the rounds, a salt and a
-- digest. The order of the faults is ours.
--
-- libxcrypt takes more as a setting: the number that C's strtoul reads, which is 0 where there are no digits, a salt of any length, and
-- anything after the salt. It writes the number plainly. So of its own texts those of 0 rounds, of 2 ^ 32 rounds and more, and of
-- a salt above 64 characters are none here. passlib takes three kinds of texts more: those with an empty salt, those whose rounds
-- have a sign, a blank or a `_` that Python's int takes, and those whose last group writes another byte than the first. The
-- last kind matches no password there.
use Rattle.std.specs.Prelude.{ℕ, ◌==◌, ◌&&◌, Bool, List, [], ◌∷◌, length, nat_eq, nat_le, codes}
use Rattle.std.specs.Prelude.{Option, Some, None, Result, Ok, Err, if◌then◌else◌}
use Rattle.std.specs.Cmp.Lexicographic.{pointwise}
use Rattle.std.specs.List.{list_all}
use Rattle.pieces.specs.Characters.{dollar, is_crypt_character}
use Rattle.pieces.specs.Lists.{is_empty}
use Rattle.pieces.specs.Pieces.{pieces_at}
use Rattle.plain_rounds.specs.Rounds.{rounds_of}
use Rattle.sha_crypt.specs.HashField.{field_bytes}
use Rattle.sha1_crypt.specs.Field.{placed_digest}
use Rattle.sha1_crypt.specs.declared.error.Sha1Fault.{Sha1Fault}
use Rattle.sha1_crypt.specs.declared.error.Sha1Fault.TheVariants.{NoDollar, WrongId, NoRounds, NoSalt, NoHash, Trailing}
use Rattle.sha1_crypt.specs.declared.error.Sha1Fault.TheVariants.{Rounds, SaltLength, SaltCharacter}
use Rattle.sha1_crypt.specs.declared.error.Sha1Fault.TheVariants.{HashLength, HashCharacter, FirstByte}

-- ---- the pieces

-- the texts of the rounds, of a salt and of a hash
pub record Fields : Type 0 where
  pub rounds : List ℕ
  pub salt : List ℕ
  pub hash : List ℕ

-- after the identifier: exactly these three
abbrev pub split_fields : List (List ℕ) → Result Fields Sha1Fault
split_fields [] = Err NoRounds
split_fields (rounds ∷ []) = Err NoSalt
split_fields (rounds ∷ (salt ∷ [])) = Err NoHash
split_fields (rounds ∷ (salt ∷ (hash ∷ more))) =
    if is_empty more then Ok (record { rounds = rounds; salt = salt; hash = hash }) else Err Trailing

-- by the pieces after the first `$`
abbrev pub from_identifier : List (List ℕ) → Result Fields Sha1Fault
from_identifier [] = Err WrongId
from_identifier (id ∷ pieces) = if pointwise nat_eq id (codes "sha1") then split_fields pieces else Err WrongId

-- by all pieces of a text
abbrev pub from_front : List (List ℕ) → Result Fields Sha1Fault
from_front [] = Err NoDollar
from_front (front ∷ others) = if is_empty front then from_identifier others else Err NoDollar

-- the fields of a text by their form
unfoldable pub text_fields : List ℕ → Result Fields Sha1Fault
text_fields text = from_front (pieces_at dollar text)

-- ---- what they mean

-- a salt has 1 to 64 characters
abbrev pub has_salt_length : List ℕ → Bool
has_salt_length salt = nat_le 1 (length salt) && nat_le (length salt) 64

-- the rounds, a salt and a digest
pub record Parts : Type 0 where
  pub rounds : ℕ
  pub salt : List ℕ
  pub hash : List ℕ

-- by the digest of the field, where its first byte stands there again
abbrev pub by_digest : ℕ → List ℕ → Option (List ℕ) → Result Parts Sha1Fault
by_digest rounds salt None = Err FirstByte
by_digest rounds salt (Some hash) = Ok (record { rounds = rounds; salt = salt; hash = hash })

-- by the 21 bytes that 28 characters write, where each of these is one of the alphabet
abbrev pub by_bytes : ℕ → List ℕ → Option (List ℕ) → Result Parts Sha1Fault
by_bytes rounds salt None = Err HashCharacter
by_bytes rounds salt (Some bytes) = by_digest rounds salt (placed_digest bytes)

-- by the text of the hash
abbrev pub by_hash : ℕ → List ℕ → List ℕ → Result Parts Sha1Fault
by_hash rounds salt hash = if length hash == 28 then by_bytes rounds salt (field_bytes 21 hash) else Err HashLength

-- by the salt
abbrev pub by_salt : ℕ → List ℕ → List ℕ → Result Parts Sha1Fault
by_salt rounds salt hash =
    if has_salt_length salt then (if list_all is_crypt_character salt then by_hash rounds salt hash else Err SaltCharacter)
    else Err SaltLength

-- by the rounds
abbrev pub by_rounds : Option ℕ → List ℕ → List ℕ → Result Parts Sha1Fault
by_rounds None salt hash = Err Rounds
by_rounds (Some rounds) salt hash = by_salt rounds salt hash

-- by the fields
abbrev pub parts_of : Result Fields Sha1Fault → Result Parts Sha1Fault
parts_of (Err e) = Err e
parts_of (Ok f) = by_rounds (rounds_of f.rounds) f.salt f.hash

-- the parts of a text, or its first fault
unfoldable pub text_parts : List ℕ → Result Parts Sha1Fault
text_parts text = parts_of (text_fields text)

-- ---- the rounds of a text

-- of its parts
abbrev pub parts_cost : Result Parts Sha1Fault → Result ℕ Sha1Fault
parts_cost (Err e) = Err e
parts_cost (Ok p) = Ok p.rounds

-- the rounds that a valid text names, or the first fault
abbrev pub text_cost : List ℕ → Result ℕ Sha1Fault
text_cost text = parts_cost (text_parts text)
