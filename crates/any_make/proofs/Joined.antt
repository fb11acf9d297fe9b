-- What is pushed, one after another, is the text of a record.
use Rattle.std.proofs.Common.{◌≡◌, ℕ, List, ◌++◌, refl, ap, ◌∙◌, append_assoc}
use Rattle.std.specs.Prelude.{codes}
use Rattle.std.specs.Fmt.{decimal, digits}
use Rattle.phc.specs.Encoded.{encoding}
use Rattle.phc.specs.Record.{record_text}
use Rattle.any_make.specs.declared.scheme.Pbkdf2Hash.{Pbkdf2Hash}
use Rattle.any_make.specs.declared.scheme.Pbkdf2Hash.TheVariants.{Sha256, Sha512}
use Rattle.yescrypt_plain.specs.declared.params.ScryptParams.{ScryptParams}
use Rattle.any_make.specs.Records.{argon2_key, argon2_record, pbkdf2_key, pbkdf2_record, pbkdf2_start, scrypt_key, scrypt_record}
use Rattle.any_make.specs.declared.scheme.Argon2Cost.{Argon2Cost}

-- ---- the pieces in one group, and as a record groups them

-- three numbers, the first behind `f`, the others behind `x` and `y`
three_numbers : (f a x b y c d s k : List ℕ) → f ++ a ++ x ++ b ++ y ++ c ++ d ++ s ++ d ++ k
    ≡ f ++ (((a ++ (x ++ (b ++ (y ++ c)))) ++ (d ++ s)) ++ (d ++ k))
three_numbers f a x b y c d s k = simp append_assoc refl

-- one number behind `f`, and `x` behind it
one_number : (f a x d s k : List ℕ) → f ++ a ++ x ++ d ++ s ++ d ++ k
    ≡ f ++ (((a ++ x) ++ (d ++ s)) ++ (d ++ k))
one_number f a x d s k = simp append_assoc refl

-- a text with a salt and a key behind its front
abbrev with_fields : List ℕ → List ℕ → List ℕ → List ℕ
with_fields front salt key = front ++ codes "$" ++ encoding salt ++ codes "$" ++ encoding key

-- ---- scrypt

scrypt_joined : (c : ScryptParams) (salt key : List ℕ)
    → with_fields (codes "$scrypt$ln=" ++ decimal c.ln ++ codes ",r=" ++ decimal c.r ++ codes ",p=" ++ decimal c.p) salt key
    ≡ record_text (scrypt_record c salt key)
unfolding record_text
scrypt_joined c salt key =
    three_numbers (codes "$scrypt$ln=") (decimal c.ln) (codes ",r=") (decimal c.r) (codes ",p=") (decimal c.p) (codes "$")
    (encoding salt) (encoding key)

pub scrypt_is : (c : ScryptParams) (password salt key front text : List ℕ) → key ≡ scrypt_key c password salt
    → front ≡ codes "$scrypt$ln=" ++ decimal c.ln ++ codes ",r=" ++ decimal c.r ++ codes ",p=" ++ decimal c.p
    → text ≡ with_fields front salt key → text ≡ record_text (scrypt_record c salt (scrypt_key c password salt))
scrypt_is c password salt key front text key_is front_is is =
    is ∙ ap (λ (f : List ℕ). with_fields f salt key) front_is ∙ scrypt_joined c salt key
    ∙ ap (λ (k : List ℕ). record_text (scrypt_record c salt k)) key_is

-- ---- Argon2id

argon2_joined : (c : Argon2Cost) (salt key : List ℕ)
    → with_fields (codes "$argon2id$v=19$m=" ++ decimal c.memory ++ codes ",t=" ++ decimal c.passes ++ codes ",p="
    ++ decimal c.lanes) salt key
    ≡ record_text (argon2_record c salt key)
unfolding record_text digits
argon2_joined c salt key =
    three_numbers (codes "$argon2id$v=19$m=") (decimal c.memory) (codes ",t=") (decimal c.passes) (codes ",p=") (decimal c.lanes)
    (codes "$") (encoding salt) (encoding key)

pub argon2_is : (c : Argon2Cost) (password salt key front text : List ℕ) → key ≡ argon2_key c password salt
    → front ≡ codes "$argon2id$v=19$m=" ++ decimal c.memory ++ codes ",t=" ++ decimal c.passes ++ codes ",p=" ++ decimal c.lanes
    → text ≡ with_fields front salt key → text ≡ record_text (argon2_record c salt (argon2_key c password salt))
argon2_is c password salt key front text key_is front_is is =
    is ∙ ap (λ (f : List ℕ). with_fields f salt key) front_is ∙ argon2_joined c salt key
    ∙ ap (λ (k : List ℕ). record_text (argon2_record c salt k)) key_is

-- ---- PBKDF2

pbkdf2_joined : (hash : Pbkdf2Hash) (rounds : ℕ) (salt key : List ℕ)
    → with_fields (pbkdf2_start hash ++ decimal rounds ++ codes ",l=32") salt key
    ≡ record_text (pbkdf2_record hash rounds salt key)
unfolding record_text
pbkdf2_joined Sha256 rounds salt key =
    one_number (codes "$pbkdf2-sha256$i=") (decimal rounds) (codes ",l=32") (codes "$") (encoding salt) (encoding key)
pbkdf2_joined Sha512 rounds salt key =
    one_number (codes "$pbkdf2-sha512$i=") (decimal rounds) (codes ",l=32") (codes "$") (encoding salt) (encoding key)

pub pbkdf2_is : (hash : Pbkdf2Hash) (rounds : ℕ) (password salt key front text : List ℕ)
    → key ≡ pbkdf2_key hash rounds password salt → front ≡ pbkdf2_start hash ++ decimal rounds ++ codes ",l=32"
    → text ≡ with_fields front salt key
    → text ≡ record_text (pbkdf2_record hash rounds salt (pbkdf2_key hash rounds password salt))
pbkdf2_is hash rounds password salt key front text key_is front_is is =
    is ∙ ap (λ (f : List ℕ). with_fields f salt key) front_is ∙ pbkdf2_joined hash rounds salt key
    ∙ ap (λ (k : List ℕ). record_text (pbkdf2_record hash rounds salt k)) key_is
