-- How long texts are: the password decides none of it.
use Rattle.std.proofs.Common.{◌≡◌, ℕ, suc, ◌+◌, ◌*◌, ◌/◌, ◌≤◌, Bool, true, false, List, ◌∷◌, ◌++◌, length, refl, sym, ap, ◌∙◌, arith}
use Rattle.std.proofs.Common.{Option, Some, None}
use Rattle.std.specs.Prelude.{◌==◌, codes, is_some, not, if◌then◌else◌}
use Rattle.std.specs.Fmt.{decimal}
use Rattle.std.proofs.lemmas.Bool.Decides.{nat_tests}
use Rattle.std.proofs.lemmas.List.{length-append}
use Rattle.base64ct.specs.Alphabets.{base64_sha_crypt, base64_unpadded}
use Rattle.base64ct.specs.Decoding.{decoding}
use Rattle.base64ct.specs.Encoding.{EachBelow}
use Rattle.base64ct.proofs.DecodingLaws.{length-decodable}
use Rattle.base64ct.proofs.Padding.{length-encoding}
use Rattle.phc.specs.Encoded.{encoding}
use Rattle.phc.specs.Record.{record_text}
use Rattle.bcrypt_plain.specs.Bcrypt.{bcrypt}
use Rattle.bcrypt_plain.specs.Field.{bcrypt_field}
use Rattle.bcrypt_plain.specs.Made.{bcrypt_text}
use Rattle.bcrypt_plain.proofs.Fields.{encoding_len}
use Rattle.bcrypt_plain.proofs.MadeTexts.{hash_below, hash_long}
use Rattle.yescrypt_plain.specs.Field.{crypt_field}
use Rattle.yescrypt_plain.specs.Made.{yescrypt_hash_text}
use Rattle.yescrypt_plain.specs.Params.{yescrypt_params_text}
use Rattle.yescrypt_plain.specs.Yescrypt.{yescrypt}
use Rattle.yescrypt_plain.specs.declared.params.ScryptParams.{ScryptParams}
use Rattle.yescrypt_plain.specs.declared.params.YescryptParams.{YescryptParams}
use Rattle.yescrypt_plain.proofs.Fields.{field_len}
use Rattle.yescrypt_plain.proofs.KeyBytes as key_of_yescrypt
use Rattle.sha_crypt.specs.HashField.{of_length}
use Rattle.sha_crypt.specs.Records.{family_id, family_scheme, rounds_part}
use Rattle.sha_crypt.specs.Records as sha
use Rattle.sha_crypt.specs.Limits.{rounds_default}
use Rattle.sha_crypt.specs.Simple.{made_text}
use Rattle.sha_crypt.specs.declared.errors.Family.{Family}
use Rattle.sha_crypt.specs.declared.errors.Family.TheVariants.{Sha256, Sha512}
use Rattle.sha_crypt.proofs.Digests.{hash_is_field, is_scheme, made_hash}
use Rattle.any_make.specs.declared.scheme.Pbkdf2Hash.{Pbkdf2Hash}
use Rattle.any_make.specs.declared.scheme.Pbkdf2Hash.TheVariants as of_hash
use Rattle.any_make.specs.Costs.{salt_length}
use Rattle.any_make.specs.Made.{hash_text, salt_characters}
use Rattle.any_make.specs.Records.{argon2_key, argon2_record, pbkdf2_key, pbkdf2_record, pbkdf2_start, scrypt_key, scrypt_record}
use Rattle.any_make.specs.declared.scheme.Argon2Cost.{Argon2Cost}
use Rattle.any_make.specs.declared.scheme.MakeCost.{MakeCost}
use Rattle.any_make.specs.declared.scheme.MakeCost.TheVariants as cost
use Rattle.any_make.proofs.Joined.{argon2_is, pbkdf2_is, scrypt_is}
use Rattle.any_make.proofs.KeyBytes.{argon2_below, argon2_long, pbkdf2_below, pbkdf2_long, scrypt_below, scrypt_long}

-- ---- the records

encoded_size : (n : ℕ) (bytes : List ℕ) → length bytes ≡ n → EachBelow 256 bytes → length (encoding bytes) ≡ (4 * n + 2) / 3
encoded_size n bytes size below = omega (arith, length-encoding base64_unpadded bytes below, size)

-- a front with a salt and a key behind it
fields_size : (front salt key : List ℕ) → length salt ≡ 16 → EachBelow 256 salt → length key ≡ 32 → EachBelow 256 key
    → length (front ++ codes "$" ++ encoding salt ++ codes "$" ++ encoding key) ≡ length front + 67
fields_size front salt key salt_is salt_below key_is key_below =
    let of_salt : length (encoding salt) ≡ 22 = encoded_size 16 salt salt_is salt_below in
    let of_key : length (encoding key) ≡ 43 = encoded_size 32 key key_is key_below in
    omega (
      arith,
      of_salt,
      of_key,
      length-append front (codes "$"),
      length-append (front ++ codes "$") (encoding salt),
      length-append (front ++ codes "$" ++ encoding salt) (codes "$"),
      length-append (front ++ codes "$" ++ encoding salt ++ codes "$") (encoding key),
    )

-- three numbers, the first behind `f`, the others behind `x` and `y`
numbers_size : (f a x b y c : List ℕ) → length (f ++ a ++ x ++ b ++ y ++ c)
    ≡ length f + length x + length y + (length a + length b + length c)
numbers_size f a x b y c =
    omega (
      arith,
      length-append f a,
      length-append (f ++ a) x,
      length-append (f ++ a ++ x) b,
      length-append (f ++ a ++ x ++ b) y,
      length-append (f ++ a ++ x ++ b ++ y) c,
    )

pub scrypt_size : (c : ScryptParams) (password salt : List ℕ) → length salt ≡ 16 → EachBelow 256 salt
    → length (record_text (scrypt_record c salt (scrypt_key c password salt)))
    ≡ 84 + (length (decimal c.ln) + length (decimal c.r) + length (decimal c.p))
scrypt_size c password salt size below =
    let key : List ℕ = scrypt_key c password salt in
    let front : List ℕ = codes "$scrypt$ln=" ++ decimal c.ln ++ codes ",r=" ++ decimal c.r ++ codes ",p=" ++ decimal c.p in
    let text : List ℕ = front ++ codes "$" ++ encoding salt ++ codes "$" ++ encoding key in
    let numbers = numbers_size (codes "$scrypt$ln=") (decimal c.ln) (codes ",r=") (decimal c.r) (codes ",p=") (decimal c.p) in
    let whole = fields_size front salt key size below (scrypt_long c password salt) (scrypt_below c password salt) in
    sym (ap length (scrypt_is c password salt key front text refl refl refl)) ∙ omega (arith, numbers, whole)

pub argon2_size : (c : Argon2Cost) (password salt : List ℕ) → length salt ≡ 16 → EachBelow 256 salt
    → length (record_text (argon2_record c salt (argon2_key c password salt)))
    ≡ 90 + (length (decimal c.memory) + length (decimal c.passes) + length (decimal c.lanes))
argon2_size c password salt size below =
    let key : List ℕ = argon2_key c password salt in
    let front : List ℕ =
    codes "$argon2id$v=19$m=" ++ decimal c.memory ++ codes ",t=" ++ decimal c.passes ++ codes ",p=" ++ decimal c.lanes in
    let text : List ℕ = front ++ codes "$" ++ encoding salt ++ codes "$" ++ encoding key in
    let numbers = numbers_size (codes "$argon2id$v=19$m=") (decimal c.memory) (codes ",t=") (decimal c.passes) (codes ",p=")
    (decimal c.lanes) in
    let whole = fields_size front salt key size below (argon2_long c password salt) (argon2_below c password salt) in
    sym (ap length (argon2_is c password salt key front text refl refl refl)) ∙ omega (arith, numbers, whole)

start_size : (hash : Pbkdf2Hash) → length (pbkdf2_start hash) ≡ 17
start_size of_hash.Sha256 = refl
start_size of_hash.Sha512 = refl

pub pbkdf2_size : (hash : Pbkdf2Hash) (rounds : ℕ) (password salt : List ℕ) → length salt ≡ 16 → EachBelow 256 salt
    → length (record_text (pbkdf2_record hash rounds salt (pbkdf2_key hash rounds password salt)))
    ≡ 89 + length (decimal rounds)
pbkdf2_size hash rounds password salt size below =
    let key : List ℕ = pbkdf2_key hash rounds password salt in
    let front : List ℕ = pbkdf2_start hash ++ decimal rounds ++ codes ",l=32" in
    let text : List ℕ = front ++ codes "$" ++ encoding salt ++ codes "$" ++ encoding key in
    let whole = fields_size front salt key size below (pbkdf2_long hash rounds password salt)
    (pbkdf2_below hash rounds password salt) in
    let one = length-append (pbkdf2_start hash) (decimal rounds) in
    let two = length-append (pbkdf2_start hash ++ decimal rounds) (codes ",l=32") in
    sym (ap length (pbkdf2_is hash rounds password salt key front text refl refl refl))
    ∙ omega (arith, whole, one, two, start_size hash)

-- ---- bcrypt and yescrypt

pub bcrypt_size : (n : ℕ) (password salt : List ℕ) → length salt ≡ 16 → EachBelow 256 salt
    → length (bcrypt_text password salt n) ≡ 60
bcrypt_size n password salt size below =
    let hash : List ℕ = bcrypt password salt n in
    let of_salt = encoding_len salt below in
    let of_hash = encoding_len hash (hash_below password salt n) in
    let fields : length (bcrypt_field salt ++ bcrypt_field hash) ≡ 53 =
    omega (arith, of_salt, of_hash, size, hash_long password salt n, length-append (bcrypt_field salt) (bcrypt_field hash)) in
    ap (λ (k : ℕ). suc (suc (suc (suc (suc (suc (suc k))))))) fields

pub yescrypt_size : (c : YescryptParams) (password salt : List ℕ) → length salt ≡ 16 → EachBelow 256 salt
    → length (yescrypt_hash_text password salt c) ≡ 70 + length (yescrypt_params_text c)
yescrypt_size c password salt size below =
    let key : List ℕ = yescrypt password salt c.ln c.r c.t in
    let of_salt = field_len salt below in
    let of_key = field_len key (key_of_yescrypt.key_below password salt c.ln c.r c.t) in
    let key_is = key_of_yescrypt.key_long password salt c.ln c.r c.t in
    let tail : List ℕ = crypt_field salt ++ 36 ∷ crypt_field key in
    let last : length tail ≡ 66 =
    omega (arith, of_salt, of_key, size, key_is, length-append (crypt_field salt) (36 ∷ crypt_field key)) in
    let rest : length (yescrypt_params_text c ++ 36 ∷ tail) ≡ 67 + length (yescrypt_params_text c) =
    omega (arith, last, length-append (yescrypt_params_text c) (36 ∷ tail)) in
    let all : length (yescrypt_hash_text password salt c) ≡ suc (suc (suc (67 + length (yescrypt_params_text c)))) =
    ap (λ (k : ℕ). suc (suc (suc k))) rest in
    omega (arith, all)

-- ---- SHA-crypt

hash_by : (n : ℕ) (text bytes : List ℕ) (t : Bool) → decoding base64_sha_crypt text ≡ Some bytes → (length bytes == n) ≡ t
    → is_some (if t then Some bytes else None) ≡ true → length text ≡ (4 * n + 2) / 3
hash_by n text bytes true is test h =
    let size : length bytes ≡ n = grind (arith, nat_tests, test) in
    let long = length-decodable base64_sha_crypt text bytes refl is in
    omega (arith, size, long)
hash_by n text bytes false is test h = absurd cc

hash_size : (n : ℕ) (text : List ℕ) (o : Option (List ℕ)) → decoding base64_sha_crypt text ≡ o
    → is_some (of_length n o) ≡ true → length text ≡ (4 * n + 2) / 3
hash_size n text None is h = absurd cc
hash_size n text (Some bytes) is h = hash_by n text bytes (length bytes == n) is refl h

made_hash_size : (family : Family) (password salt : List ℕ) (rounds : ℕ) → 1 ≤ rounds
    → length (made_hash (family_scheme family) password salt rounds) ≡ (4 * (family_scheme family).size + 2) / 3
made_hash_size family password salt rounds some =
    hash_size (family_scheme family).size (made_hash (family_scheme family) password salt rounds)
    (decoding base64_sha_crypt (made_hash (family_scheme family) password salt rounds)) refl
    (hash_is_field (family_scheme family) (is_scheme family) password salt rounds some)

rounds_size : (rounds : ℕ) (t : Bool) → length (rounds_part (not t) rounds) ≡ (if t then 0 else 8 + length (decimal rounds))
rounds_size rounds true = refl
rounds_size rounds false =
    omega (
      arith,
      length-append (codes "rounds=") (decimal rounds),
      length-append (codes "rounds=" ++ decimal rounds) (codes "$"),
    )

id_size : (family : Family) → length (family_id family) ≡ 1
id_size Sha256 = refl
id_size Sha512 = refl

sha_size : (family : Family) (password salt : List ℕ) (rounds : ℕ) → 1 ≤ rounds
    → length (made_text family password salt rounds)
    ≡ 4 + length salt + (4 * (family_scheme family).size + 2) / 3
    + (if rounds == rounds_default then 0 else 8 + length (decimal rounds))
unfolding sha.record_text
sha_size family password salt rounds some =
    let id : List ℕ = family_id family in
    let part : List ℕ = rounds_part (not (rounds == rounds_default)) rounds in
    let hash : List ℕ = made_hash (family_scheme family) password salt rounds in
    let a : List ℕ = codes "$" ++ id in
    let b : List ℕ = a ++ codes "$" in
    let c : List ℕ = b ++ part in
    let d : List ℕ = c ++ salt in
    let e : List ℕ = d ++ codes "$" in
    omega (
      arith,
      id_size family,
      rounds_size rounds (rounds == rounds_default),
      made_hash_size family password salt rounds some,
      length-append (codes "$") id,
      length-append a (codes "$"),
      length-append b part,
      length-append c salt,
      length-append d (codes "$"),
      length-append e hash,
    )

-- where the rounds are the default, they aren't written
pub sha_default_size : (family : Family) (password salt : List ℕ) (rounds : ℕ) → 1 ≤ rounds → (rounds == rounds_default) ≡ true
    → length (made_text family password salt rounds) ≡ 4 + length salt + (4 * (family_scheme family).size + 2) / 3
sha_default_size family password salt rounds some is =
    sha_size family password salt rounds some
    ∙ ap (λ (t : Bool). 4 + length salt + (4 * (family_scheme family).size + 2) / 3 + (if t then 0 else 8 + length (decimal rounds))) is
    ∙ omega arith

pub sha_written_size : (family : Family) (password salt : List ℕ) (rounds : ℕ) → 1 ≤ rounds → (rounds == rounds_default) ≡ false
    → length (made_text family password salt rounds)
    ≡ 4 + length salt + (4 * (family_scheme family).size + 2) / 3 + (8 + length (decimal rounds))
sha_written_size family password salt rounds some is =
    sha_size family password salt rounds some
    ∙ ap (λ (t : Bool). 4 + length salt + (4 * (family_scheme family).size + 2) / 3 + (if t then 0 else 8 + length (decimal rounds))) is

-- the characters of a salt of 12 bytes
pub characters_size : (salt : List ℕ) → length salt ≡ 12 → EachBelow 256 salt → length (salt_characters salt) ≡ 16
characters_size salt size below =
    let long = field_len salt below in
    omega (arith, long, size)

-- ---- the text of a cost that is one of these

pub of_sha : (k : MakeCost) (family : Family) (rounds : ℕ) (password salt : List ℕ) → k ≡ cost.ShaCrypt family rounds
    → length (hash_text k password salt) ≡ length (made_text family password (salt_characters salt) rounds)
unfolding hash_text
of_sha k family rounds password salt is = ap (λ (c : MakeCost). length (hash_text c password salt)) is

pub of_scrypt : (k : MakeCost) (c : ScryptParams) (password salt : List ℕ) → k ≡ cost.Scrypt c
    → EachBelow 256 salt → length salt ≡ salt_length k
    → length (hash_text k password salt) ≡ 84 + (length (decimal c.ln) + length (decimal c.r) + length (decimal c.p))
unfolding hash_text
of_scrypt k c password salt is below size =
    ap (λ (c : MakeCost). length (hash_text c password salt)) is ∙ scrypt_size c password salt (size ∙ ap salt_length is) below

pub of_bcrypt : (k : MakeCost) (n : ℕ) (password salt : List ℕ) → k ≡ cost.Bcrypt n → EachBelow 256 salt
    → length salt ≡ salt_length k → length (hash_text k password salt) ≡ 60
unfolding hash_text
of_bcrypt k n password salt is below size =
    ap (λ (c : MakeCost). length (hash_text c password salt)) is ∙ bcrypt_size n password salt (size ∙ ap salt_length is) below

pub of_yescrypt : (k : MakeCost) (c : YescryptParams) (password salt : List ℕ) → k ≡ cost.Yescrypt c
    → EachBelow 256 salt → length salt ≡ salt_length k
    → length (hash_text k password salt) ≡ 70 + length (yescrypt_params_text c)
unfolding hash_text
of_yescrypt k c password salt is below size =
    ap (λ (c : MakeCost). length (hash_text c password salt)) is ∙ yescrypt_size c password salt (size ∙ ap salt_length is) below

pub of_argon2id : (k : MakeCost) (c : Argon2Cost) (password salt : List ℕ) → k ≡ cost.Argon2id c
    → EachBelow 256 salt → length salt ≡ salt_length k
    → length (hash_text k password salt)
    ≡ 90 + (length (decimal c.memory) + length (decimal c.passes) + length (decimal c.lanes))
unfolding hash_text
of_argon2id k c password salt is below size =
    ap (λ (c : MakeCost). length (hash_text c password salt)) is ∙ argon2_size c password salt (size ∙ ap salt_length is) below

pub of_pbkdf2 : (k : MakeCost) (hash : Pbkdf2Hash) (rounds : ℕ) (password salt : List ℕ) → k ≡ cost.Pbkdf2 hash rounds
    → EachBelow 256 salt → length salt ≡ salt_length k → length (hash_text k password salt) ≡ 89 + length (decimal rounds)
unfolding hash_text
of_pbkdf2 k hash rounds password salt is below size =
    ap (λ (c : MakeCost). length (hash_text c password salt)) is
    ∙ pbkdf2_size hash rounds password salt (size ∙ ap salt_length is) below
