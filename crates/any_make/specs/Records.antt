-- The PHC records that texts of scrypt, Argon2id and PBKDF2 are: a key of 32 bytes (256 bits: RFC 9106, section 4).
use Rattle.std.specs.Prelude.{ℕ, ◌^◌, List, [], ◌∷◌, ◌++◌, codes, Some, None}
use Rattle.std.specs.Fmt.{decimal}
use Rattle.argon2_plain.specs.Argon2.{argon2}
use Rattle.argon2_plain.specs.declared.params.Params.{Params}
use Rattle.argon2_plain.specs.declared.variant.Variant.TheVariants.{Id}
use Rattle.phc.specs.declared.password_hash.PasswordHash.{PasswordHash}
use Rattle.pbkdf2_key.specs.Profile.{identifier, pbkdf2_with}
use Rattle.pbkdf2_key.specs.declared.profile.Pbkdf2Hash as derived
use Rattle.pbkdf2_key.specs.declared.profile.Pbkdf2Hash.TheVariants as with
use Rattle.scrypt_plain.specs.Scrypt.{scrypt}
use Rattle.yescrypt_plain.specs.declared.params.ScryptParams.{ScryptParams}
use Rattle.any_make.specs.declared.scheme.Argon2Cost.{Argon2Cost}
use Rattle.any_make.specs.declared.scheme.Pbkdf2Hash.{Pbkdf2Hash}
use Rattle.any_make.specs.declared.scheme.Pbkdf2Hash.TheVariants.{Sha256, Sha512}

-- ---- scrypt: `$scrypt$ln=L,r=R,p=P$salt$key`, as passlib writes it

-- the key
abbrev pub scrypt_key : ScryptParams → List ℕ → List ℕ → List ℕ
scrypt_key c password salt = scrypt password salt (2 ^ c.ln) c.r c.p 32

-- the record of a salt and a key
abbrev pub scrypt_record : ScryptParams → List ℕ → List ℕ → PasswordHash
scrypt_record c salt key = record {
  algorithm = codes "scrypt";
  version = None;
  params = (codes "ln", decimal c.ln) ∷ (codes "r", decimal c.r) ∷ (codes "p", decimal c.p) ∷ [];
  salt = Some salt;
  hash = Some key;
}

-- ---- Argon2id: `$argon2id$v=19$m=M,t=T,p=P$salt$key`, as the reference implementation writes it

-- the numbers of RFC 9106, section 3.1
abbrev pub argon2_params : Argon2Cost → Params
argon2_params c = record { variant = Id; passes = c.passes; memory = c.memory; lanes = c.lanes }

-- the key, without a secret and associated data
abbrev pub argon2_key : Argon2Cost → List ℕ → List ℕ → List ℕ
argon2_key c password salt = argon2 (argon2_params c) password salt [] [] 32

-- the record of a salt and a key
abbrev pub argon2_record : Argon2Cost → List ℕ → List ℕ → PasswordHash
argon2_record c salt key = record {
  algorithm = codes "argon2id";
  version = Some 19;
  params = (codes "m", decimal c.memory) ∷ (codes "t", decimal c.passes) ∷ (codes "p", decimal c.lanes) ∷ [];
  salt = Some salt;
  hash = Some key;
}

-- ---- PBKDF2: `$pbkdf2-sha256$i=N,l=32$salt$key`, or with SHA-512, as RustCrypto's pbkdf2 writes it

-- the hash function of the key
abbrev pub key_hash : Pbkdf2Hash → derived.Pbkdf2Hash
key_hash Sha256 = with.Sha256
key_hash Sha512 = with.Sha512

-- the key
abbrev pub pbkdf2_key : Pbkdf2Hash → ℕ → List ℕ → List ℕ → List ℕ
pbkdf2_key hash rounds password salt = pbkdf2_with (key_hash hash) password salt rounds 32

-- the record of a salt and a key
abbrev pub pbkdf2_record : Pbkdf2Hash → ℕ → List ℕ → List ℕ → PasswordHash
pbkdf2_record hash rounds salt key = record {
  algorithm = identifier (key_hash hash);
  version = None;
  params = (codes "i", decimal rounds) ∷ (codes "l", codes "32") ∷ [];
  salt = Some salt;
  hash = Some key;
}

-- what is before the rounds
abbrev pub pbkdf2_start : Pbkdf2Hash → List ℕ
pbkdf2_start hash = codes "$" ++ identifier (key_hash hash) ++ codes "$i="
