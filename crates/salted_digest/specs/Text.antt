-- The texts `$smd5$salt$hash`, `$ssha$salt$hash`, `$ssha256$salt$hash` and `$ssha512$salt$hash`, cut at each `$`: the first fault, or
-- the hash function, a salt and a digest. The texts and the order of the faults are ours.
--
-- LDAP's `{SMD5}`, `{SSHA}`, `{SSHA256}` and `{SSHA512}` have in one field of Base64 the digest and the salt after it. `{MD5}`, `{SHA}`,
-- `{SHA256}` and `{SHA512}` have the digest alone, as a text with an empty salt has. The salt and the digest are in Base64 with padding (RFC
-- 4648, section 4).
use Rattle.std.specs.Prelude.{ℕ, ◌+◌, ◌*◌, ◌/◌, ◌==◌, List, [], ◌∷◌, length, nat_eq, nat_le, codes}
use Rattle.std.specs.Prelude.{Option, Some, None, Result, Ok, Err, if◌then◌else◌}
use Rattle.std.specs.Cmp.Lexicographic.{pointwise}
use Rattle.base64ct.specs.Alphabets.{base64}
use Rattle.base64ct.specs.Decoding.{decoding}
use Rattle.pieces.specs.Characters.{dollar}
use Rattle.pieces.specs.Lists.{is_empty}
use Rattle.pieces.specs.Pieces.{pieces_at}
use Rattle.salted_digest.specs.Digest.{digest_size}
use Rattle.salted_digest.specs.declared.hash.DigestHash.{DigestHash}
use Rattle.salted_digest.specs.declared.hash.DigestHash.TheVariants.{Md5, Sha1, Sha256, Sha512}
use Rattle.salted_digest.specs.declared.error.SaltedFault.{SaltedFault}
use Rattle.salted_digest.specs.declared.error.SaltedFault.TheVariants.{NoDollar, WrongId, NoSalt, NoHash, Trailing}
use Rattle.salted_digest.specs.declared.error.SaltedFault.TheVariants.{SaltLength, SaltEncoding, HashLength, HashEncoding}

-- ---- the hash function

-- the identifier of the texts
abbrev pub identifier : DigestHash → List ℕ
identifier Md5 = codes "smd5"
identifier Sha1 = codes "ssha"
identifier Sha256 = codes "ssha256"
identifier Sha512 = codes "ssha512"

-- the hash function that an identifier names
abbrev pub hash_of : List ℕ → Option DigestHash
hash_of id =
    if pointwise nat_eq id (identifier Md5) then Some Md5
    else (if pointwise nat_eq id (identifier Sha1) then Some Sha1
    else (if pointwise nat_eq id (identifier Sha256) then Some Sha256
    else (if pointwise nat_eq id (identifier Sha512) then Some Sha512 else None)))

-- ---- the pieces

-- the hash function, and the texts of a salt and of a digest
pub record Fields : Type 0 where
  pub hash : DigestHash
  pub salt : List ℕ
  pub digest : List ℕ

-- after the identifier: exactly these two
abbrev pub split_fields : DigestHash → List (List ℕ) → Result Fields SaltedFault
split_fields hash [] = Err NoSalt
split_fields hash (salt ∷ []) = Err NoHash
split_fields hash (salt ∷ (digest ∷ more)) =
    if is_empty more then Ok (record { hash = hash; salt = salt; digest = digest }) else Err Trailing

-- by the hash function that the identifier names
abbrev pub by_identifier : Option DigestHash → List (List ℕ) → Result Fields SaltedFault
by_identifier None pieces = Err WrongId
by_identifier (Some hash) pieces = split_fields hash pieces

-- by the pieces after the first `$`
abbrev pub from_identifier : List (List ℕ) → Result Fields SaltedFault
from_identifier [] = Err WrongId
from_identifier (id ∷ pieces) = by_identifier (hash_of id) pieces

-- by all pieces of a text
abbrev pub from_front : List (List ℕ) → Result Fields SaltedFault
from_front [] = Err NoDollar
from_front (front ∷ others) = if is_empty front then from_identifier others else Err NoDollar

-- the fields of a text by their form
unfoldable pub text_fields : List ℕ → Result Fields SaltedFault
text_fields text = from_front (pieces_at dollar text)

-- ---- what they mean

-- a value, or a fault
abbrev pub or_fault : {A : Type 0} → SaltedFault → Option A → Result A SaltedFault
or_fault fault None = Err fault
or_fault fault (Some value) = Ok value

-- The salt that a text writes. It has at most 64 characters, so the salt has at most 48 bytes. The bound is ours: Dovecot draws 4 bytes,
-- 389-ds 8, and passlib at most 16.
abbrev pub salt_of : List ℕ → Result (List ℕ) SaltedFault
salt_of text = if nat_le (length text) 64 then or_fault SaltEncoding (decoding base64 text) else Err SaltLength

-- how many characters so many bytes have in Base64 with padding: four for each group of three bytes that is begun
abbrev pub characters_of : ℕ → ℕ
characters_of size = (size + 2) / 3 * 4

-- these bytes, where there are so many
abbrev pub as_digest : ℕ → Option (List ℕ) → Option (List ℕ)
as_digest size None = None
as_digest size (Some bytes) = if length bytes == size then Some bytes else None

-- the bytes that a text writes, where there are so many
abbrev pub sized_bytes : ℕ → List ℕ → Option (List ℕ)
sized_bytes size text = as_digest size (decoding base64 text)

-- the same, or a fault for another length than that of so many bytes in Base64, or for another text
abbrev pub digest_of : ℕ → List ℕ → Result (List ℕ) SaltedFault
digest_of size text =
    if length text == characters_of size then or_fault HashEncoding (sized_bytes size text) else Err HashLength

-- the hash function, a salt and a digest
pub record Parts : Type 0 where
  pub hash : DigestHash
  pub salt : List ℕ
  pub digest : List ℕ

-- by the digest
abbrev pub with_salt : DigestHash → List ℕ → Result (List ℕ) SaltedFault → Result Parts SaltedFault
with_salt hash salt (Err e) = Err e
with_salt hash salt (Ok digest) = Ok (record { hash = hash; salt = salt; digest = digest })

-- by the salt, and the text of the digest
abbrev pub with_hash : DigestHash → Result (List ℕ) SaltedFault → List ℕ → Result Parts SaltedFault
with_hash hash (Err e) digest = Err e
with_hash hash (Ok salt) digest = with_salt hash salt (digest_of (digest_size hash) digest)

-- by the fields
abbrev pub parts_of : Result Fields SaltedFault → Result Parts SaltedFault
parts_of (Err e) = Err e
parts_of (Ok f) = with_hash f.hash (salt_of f.salt) f.digest

-- the parts of a text, or its first fault
unfoldable pub text_parts : List ℕ → Result Parts SaltedFault
text_parts text = parts_of (text_fields text)

-- ---- the hash function of a text

-- of its parts
abbrev pub parts_hash : Result Parts SaltedFault → Result DigestHash SaltedFault
parts_hash (Err e) = Err e
parts_hash (Ok p) = Ok p.hash

-- the hash function of a valid text, or the first fault
abbrev pub text_hash : List ℕ → Result DigestHash SaltedFault
text_hash text = parts_hash (text_parts text)
