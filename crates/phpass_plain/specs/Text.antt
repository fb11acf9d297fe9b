-- The texts of phpass's portable hashes (phpass 0.5, PasswordHash.php, `crypt_private`): an identifier, a character for the cost,
-- a salt and a hash, each at its own places with no `$` between them; the first fault, or a cost, a salt and a digest. The order
-- of the faults is ours.
--
-- phpass takes any 8 bytes as a salt, and passlib only characters of the alphabet, as these definitions do. A text whose last
-- character has other bits than zero after the last byte matches no password in either, since both compare the characters.
use Rattle.std.specs.Prelude.{ℕ, ◌==◌, ◌&&◌, ◌||◌, Bool, List, length, take, drop, slice_index, nat_eq, nat_le, codes}
use Rattle.std.specs.Prelude.{Option, Some, None, Result, Ok, Err, if◌then◌else◌}
use Rattle.std.specs.List.{list_all, position, starts_with}
use Rattle.base64ct.specs.Alphabets.{base64_sha_crypt}
use Rattle.pieces.specs.Characters.{is_crypt_character}
use Rattle.sha_crypt.specs.HashField.{field_bytes}
use Rattle.phpass_plain.specs.Field.{digest_of}
use Rattle.phpass_plain.specs.declared.error.PhpassFault.{PhpassFault}
use Rattle.phpass_plain.specs.declared.error.PhpassFault.TheVariants.{NoDollar, WrongId, Length, Cost}
use Rattle.phpass_plain.specs.declared.error.PhpassFault.TheVariants.{SaltCharacter, HashCharacter, SpareBits}

-- ---- the identifier

-- a text begins with one of the two: phpass's own, and phpBB's
abbrev pub has_front : List ℕ → Bool
has_front text = starts_with nat_eq text (codes "$P$") || starts_with nat_eq text (codes "$H$")

-- ---- the cost

-- the place of a character in the alphabet of crypt(3), if it is one of that
unfoldable pub place_of : ℕ → Option ℕ
place_of character = position (λ c. c == character) base64_sha_crypt.characters

-- a cost is one of 7 to 30
abbrev pub if_cost : Option ℕ → Option ℕ
if_cost None = None
if_cost (Some n) = if nat_le 7 n && nat_le n 30 then Some n else None

-- the cost that a character writes
abbrev pub cost_of : ℕ → Option ℕ
cost_of character = if_cost (place_of character)

-- ---- the parts

-- a cost, a salt and a digest
pub record Parts : Type 0 where
  pub cost : ℕ
  pub salt : List ℕ
  pub digest : List ℕ

-- why 22 characters are those of no digest: one is outside of the alphabet, or the bits after the last byte are not zero
abbrev pub field_fault : List ℕ → PhpassFault
field_fault hash = if list_all is_crypt_character hash then SpareBits else HashCharacter

-- by the 16 bytes that the characters write, or the fault of these
abbrev pub by_bytes : ℕ → List ℕ → Option (List ℕ) → PhpassFault → Result Parts PhpassFault
by_bytes cost salt None fault = Err fault
by_bytes cost salt (Some bytes) fault = Ok (record { cost = cost; salt = salt; digest = digest_of bytes })

-- by the characters of the hash
abbrev pub by_hash : ℕ → List ℕ → List ℕ → Result Parts PhpassFault
by_hash cost salt hash = by_bytes cost salt (field_bytes 16 hash) (field_fault hash)

-- by the salt
abbrev pub by_salt : ℕ → List ℕ → List ℕ → Result Parts PhpassFault
by_salt cost salt hash = if list_all is_crypt_character salt then by_hash cost salt hash else Err SaltCharacter

-- by the cost
abbrev pub by_cost : Option ℕ → List ℕ → List ℕ → Result Parts PhpassFault
by_cost None salt hash = Err Cost
by_cost (Some cost) salt hash = by_salt cost salt hash

-- by the length: after the three bytes of the identifier one of the cost, 8 of the salt and 22 of the hash
abbrev pub by_length : List ℕ → Result Parts PhpassFault
by_length text =
    if length text == 34 then by_cost (cost_of (slice_index text 3)) (take 8 (drop 4 text)) (drop 12 text) else Err Length

-- the parts of a text, or its first fault
unfoldable pub text_parts : List ℕ → Result Parts PhpassFault
text_parts text =
    if starts_with nat_eq text (codes "$") then (if has_front text then by_length text else Err WrongId) else Err NoDollar

-- ---- the cost of a text

-- of its parts
abbrev pub parts_cost : Result Parts PhpassFault → Result ℕ PhpassFault
parts_cost (Err e) = Err e
parts_cost (Ok p) = Ok p.cost

-- the cost that a valid text names, or the first fault
abbrev pub text_cost : List ℕ → Result ℕ PhpassFault
text_cost text = parts_cost (text_parts text)
