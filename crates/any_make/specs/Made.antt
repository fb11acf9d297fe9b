-- The text of a password, a cost and a salt; and the text that is made, or why none is.
use Rattle.std.specs.Prelude.{◌≡◌, ◌⊎◌, ◌<◌, ◌≤◌, ℕ, ◌==◌, ◌||◌, not, true, List, [], ◌∷◌, length, nat_le, take, drop}
use Rattle.std.specs.Prelude.{Option, Result, Ok, Err, is_ok}
use Rattle.std.specs.Str.{is_utf8}
use Rattle.base64ct.specs.Alphabets.{base64_sha_crypt}
use Rattle.base64ct.specs.Encoding.{encoding}
use Rattle.bcrypt_plain.specs.Check.{has_zero}
use Rattle.bcrypt_plain.specs.Made.{bcrypt_text}
use Rattle.phc.specs.Record.{record_text}
use Rattle.pieces.specs.Faults.{first_fault, unless, value_or_fault}
use Rattle.sha_crypt.specs.Simple.{made_text}
use Rattle.yescrypt_plain.specs.Made.{yescrypt_hash_text}
use Rattle.any_make.specs.Costs.{is_taken, needs_memory, password_length, salt_length, takes_zero}
use Rattle.any_make.specs.Records.{argon2_key, argon2_record, pbkdf2_key, pbkdf2_record, scrypt_key, scrypt_record}
use Rattle.any_make.specs.declared.error.MakeFault.{MakeFault}
use Rattle.any_make.specs.declared.error.MakeFault.TheVariants.{BufferShort, Cost, NotUtf8, OutOfMemory, PasswordTooLong, Salt, ZeroByte}
use Rattle.any_make.specs.declared.scheme.MakeCost.{MakeCost}
use Rattle.any_make.specs.declared.scheme.MakeCost.TheVariants as cost

-- the characters of a salt of SHA-crypt: its bytes in crypt's alphabet, the low bits first, as crypt_gensalt(3) writes them
abbrev pub salt_characters : List ℕ → List ℕ
salt_characters salt = encoding base64_sha_crypt salt

-- the text of a password, a cost and a salt, by the scheme's own definition
unfoldable pub hash_text : MakeCost → List ℕ → List ℕ → List ℕ
hash_text (cost.ShaCrypt family rounds) password salt = made_text family password (salt_characters salt) rounds
hash_text (cost.Scrypt c) password salt = record_text (scrypt_record c salt (scrypt_key c password salt))
hash_text (cost.Bcrypt n) password salt = bcrypt_text password salt n
hash_text (cost.Yescrypt c) password salt = yescrypt_hash_text password salt c
hash_text (cost.Argon2id c) password salt = record_text (argon2_record c salt (argon2_key c password salt))
hash_text (cost.Pbkdf2 hash rounds) password salt =
    record_text (pbkdf2_record hash rounds salt (pbkdf2_key hash rounds password salt))

-- the first cause that no text is made of a password, a cost and a salt
abbrev pub make_fault : MakeCost → List ℕ → List ℕ → Option MakeFault
make_fault c password salt =
    first_fault
    (unless (is_taken c) Cost ∷ unless (length salt == salt_length c) Salt
    ∷ unless (nat_le (length password) (password_length c)) PasswordTooLong
    ∷ unless (is_utf8 password) NotUtf8
    ∷ unless (takes_zero c || not (has_zero password)) ZeroByte ∷ [])

-- the text, or that cause
unfoldable pub made : MakeCost → List ℕ → List ℕ → Result (List ℕ) MakeFault
made c password salt = value_or_fault (hash_text c password salt) (make_fault c password salt)

-- ---- memory, and room

-- a cause is the one that is expected; or memory was refused, where a text would have been made and its key takes a table
abbrev pub IsMakeFault : MakeCost → Result (List ℕ) MakeFault → MakeFault → Type 0
IsMakeFault c expected e =
    (expected ≡ Err e) ⊎ ((e ≡ OutOfMemory) × (is_ok expected ≡ true) × (needs_memory c ≡ true))

-- the first n bytes of a buffer that was old and is new are the text, and the others are as they were
abbrev pub IsWritten : Result (List ℕ) MakeFault → List ℕ → List ℕ → ℕ → Type 0
IsWritten expected old new n = (expected ≡ Ok (take n new)) × (n ≤ length old) × (drop n new ≡ drop n old)

-- a cause as above; or the text is longer than the buffer
abbrev pub IsRefusal : MakeCost → Result (List ℕ) MakeFault → List ℕ → MakeFault → Type 0
IsRefusal c expected old e =
    IsMakeFault c expected e
    ⊎ ((text : List ℕ) × (expected ≡ Ok text) × (length old < length text) × (e ≡ BufferShort))
