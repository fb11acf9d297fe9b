-- The record that foreign fields are read as: a key derivation with its cost, a salt and a key.
use Rattle.std.specs.Prelude.{ℕ, Bool, true, false, ◌==◌, List, [], ◌∷◌, length, Option, Some, None, Result, Ok, Err, codes}
use Rattle.std.specs.Fmt.{decimal}
use Rattle.phc.specs.Params.{Pairs}
use Rattle.phc.specs.Parts.{output_of_bytes, salt_of_bytes}
use Rattle.phc.specs.Record.{record_text}
use Rattle.phc.specs.declared.error.Error as phc_error
use Rattle.phc.specs.declared.password_hash.PasswordHash.{PasswordHash}
use Rattle.scheme_list.specs.Schemes.{row_of}
use Rattle.scheme_list.specs.declared.schemes.Scheme as schemes
use Rattle.scheme_list.specs.declared.schemes.Scheme.TheVariants as scheme
use Rattle.foreign_text.specs.declared.fault.ForeignFault.{ForeignFault}
use Rattle.foreign_text.specs.declared.fault.ForeignFault.TheVariants.{Hash, HashLength, Salt, SaltLength}
use Rattle.foreign_text.specs.declared.kdf.Kdf.{Kdf}
use Rattle.foreign_text.specs.declared.kdf.Kdf.TheVariants.{Pbkdf2, Scrypt}
use Rattle.foreign_text.specs.declared.kdf.Pbkdf2Hash.{Pbkdf2Hash}
use Rattle.foreign_text.specs.declared.kdf.Pbkdf2Hash.TheVariants.{Sha1, Sha256, Sha512}

-- ---- the record

-- the scheme of PBKDF2, by the hash that HMAC takes
abbrev pub pbkdf2_scheme : Pbkdf2Hash → schemes.Scheme
pbkdf2_scheme Sha1 = scheme.Pbkdf2Sha1
pbkdf2_scheme Sha256 = scheme.Pbkdf2Sha256
pbkdf2_scheme Sha512 = scheme.Pbkdf2Sha512

-- the scheme of a key derivation
abbrev pub scheme_of : Kdf → schemes.Scheme
scheme_of (Pbkdf2 hash rounds) = pbkdf2_scheme hash
scheme_of (Scrypt ln r p) = scheme.Scrypt

-- the identifier of its records, which is the scheme's name
abbrev pub identifier : Kdf → List ℕ
identifier kdf = (row_of (scheme_of kdf)).name

-- the parameters as decimals: `i=ROUNDS`; `ln=LN,r=R,p=P`, where N is 2^LN
abbrev pub params_of : Kdf → Pairs
params_of (Pbkdf2 hash rounds) = (codes "i", decimal rounds) ∷ []
params_of (Scrypt ln r p) = (codes "ln", decimal ln) ∷ (codes "r", decimal r) ∷ (codes "p", decimal p) ∷ []

-- the record
abbrev pub record_of : Kdf → List ℕ → List ℕ → PasswordHash
record_of kdf salt key = record {
  algorithm = identifier kdf;
  version = None;
  params = params_of kdf;
  salt = Some salt;
  hash = Some key;
}

-- its text in the PHC string format
unfoldable pub made_text : Kdf → List ℕ → List ℕ → List ℕ
made_text kdf salt key = record_text (record_of kdf salt key)

-- ---- the text for a derivation, a salt and a key, or the first fault: of the cost, of the salt, of the key

-- a key of a record has 10 to 64 bytes
abbrev pub by_key : Kdf → List ℕ → Result (List ℕ) phc_error.Error → Result (List ℕ) ForeignFault
by_key kdf salt (Err e) = Err HashLength
by_key kdf salt (Ok key) = Ok (made_text kdf salt key)

abbrev pub with_key : Kdf → List ℕ → Option (List ℕ) → Result (List ℕ) ForeignFault
with_key kdf salt None = Err Hash
with_key kdf salt (Some key) = by_key kdf salt (output_of_bytes key)

-- a salt of a record has 8 to 48 bytes
abbrev pub by_salt : Kdf → Result (List ℕ) phc_error.Error → Option (List ℕ) → Result (List ℕ) ForeignFault
by_salt kdf (Err e) key = Err SaltLength
by_salt kdf (Ok salt) key = with_key kdf salt key

abbrev pub with_salt : Kdf → Option (List ℕ) → Option (List ℕ) → Result (List ℕ) ForeignFault
with_salt kdf None key = Err Salt
with_salt kdf (Some salt) key = by_salt kdf (salt_of_bytes salt) key

abbrev pub with_kdf : Result Kdf ForeignFault → Option (List ℕ) → Option (List ℕ) → Result (List ℕ) ForeignFault
with_kdf (Err e) salt key = Err e
with_kdf (Ok kdf) salt key = with_salt kdf salt key

-- ---- a key of a length that is known

-- the number is the length of the key
abbrev pub is_size : Option ℕ → Option (List ℕ) → Bool
is_size None key = false
is_size (Some n) None = false
is_size (Some n) (Some key) = n == length key

-- a text that is made of a key of another length is refused, after all other faults
abbrev pub if_sized : Bool → Result (List ℕ) ForeignFault → Result (List ℕ) ForeignFault
if_sized true answer = answer
if_sized false (Err e) = Err e
if_sized false (Ok text) = Err HashLength
