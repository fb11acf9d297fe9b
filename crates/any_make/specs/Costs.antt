-- What a text may cost, what it costs where nothing else is said, and how long its salt is.
use Rattle.std.specs.Prelude.{ℕ, Bool, true, false, ◌&&◌, nat_le, Option, Some, None}
use Rattle.argon2_plain.specs.Bounds as argon2
use Rattle.bcrypt_plain.specs.Text.{is_cost}
use Rattle.scrypt_plain.specs.Bounds as scrypt
use Rattle.sha_crypt.specs.Limits.{rounds_max, rounds_min}
use Rattle.sha_crypt.specs.declared.errors.Family.TheVariants.{Sha256, Sha512}
use Rattle.any_make.specs.declared.scheme.Pbkdf2Hash.TheVariants as of
use Rattle.phc_kdf.specs.Limits.{password_max}
use Rattle.yescrypt_plain.specs.Params as yescrypt
use Rattle.any_make.specs.declared.scheme.MakeCost.{MakeCost}
use Rattle.any_make.specs.declared.scheme.MakeCost.TheVariants as cost
use Rattle.any_check.specs.Table.{sha_scheme}
use Rattle.scheme_list.specs.declared.schemes.Scheme.{Scheme}
use Rattle.scheme_list.specs.declared.schemes.Scheme.TheVariants.{Argon2id, Bcrypt, Pbkdf2Sha256, Pbkdf2Sha512, Scrypt, Sha256Crypt, Sha512Crypt, Yescrypt}

-- the scheme whose text a cost is for
abbrev pub scheme_of : MakeCost → Scheme
scheme_of (cost.ShaCrypt family rounds) = sha_scheme family
scheme_of (cost.Scrypt c) = Scrypt
scheme_of (cost.Bcrypt n) = Bcrypt
scheme_of (cost.Yescrypt c) = Yescrypt
scheme_of (cost.Argon2id c) = Argon2id
scheme_of (cost.Pbkdf2 of.Sha256 rounds) = Pbkdf2Sha256
scheme_of (cost.Pbkdf2 of.Sha512 rounds) = Pbkdf2Sha512

-- The costs of which texts are made: those of the texts that have a verdict.
abbrev pub is_taken : MakeCost → Bool
is_taken (cost.ShaCrypt family rounds) = nat_le rounds_min rounds && nat_le rounds rounds_max
is_taken (cost.Scrypt c) = scrypt.in_bounds c.ln c.r c.p
is_taken (cost.Bcrypt n) = is_cost n
is_taken (cost.Yescrypt c) = yescrypt.in_bounds c
is_taken (cost.Argon2id c) = argon2.in_bounds c.passes c.memory c.lanes
is_taken (cost.Pbkdf2 hash rounds) = nat_le 1 rounds && nat_le rounds 10000000

-- Today's recommendations.
-- SHA-crypt: the rounds of passlib 1.7.4 (sha256_crypt.default_rounds, sha512_crypt.default_rounds).
-- scrypt: N = 2^17, r = 8, p = 1 (OWASP, Password Storage Cheat Sheet, "scrypt").
-- bcrypt: a cost of 12, the default of PHP 8.4 and of passlib 1.7.4 (OWASP asks for 10 and more).
-- yescrypt: N = 2^12, r = 32, t = 0, which libxcrypt 4.4 sets by default (`$y$j9T$`).
-- Argon2id: 64 MiB, three passes, four lanes (RFC 9106, section 4, second recommended option).
-- PBKDF2: 600,000 rounds with HMAC-SHA-256, 210,000 with HMAC-SHA-512 (OWASP, the same sheet, "PBKDF2").
-- None for a scheme of which no texts are made.
abbrev pub recommended : Scheme → Option MakeCost
recommended Sha256Crypt = Some (cost.ShaCrypt Sha256 535000)
recommended Sha512Crypt = Some (cost.ShaCrypt Sha512 656000)
recommended Scrypt = Some (cost.Scrypt (record { ln = 17; r = 8; p = 1 }))
recommended Bcrypt = Some (cost.Bcrypt 12)
recommended Yescrypt = Some (cost.Yescrypt (record { ln = 12; r = 32; t = 0 }))
recommended Argon2id = Some (cost.Argon2id (record { memory = 65536; passes = 3; lanes = 4 }))
recommended Pbkdf2Sha256 = Some (cost.Pbkdf2 of.Sha256 600000)
recommended Pbkdf2Sha512 = Some (cost.Pbkdf2 of.Sha512 210000)
recommended scheme = None

-- The bytes of a salt: 128 bits (NIST SP 800-132, section 5.1; RFC 9106, section 4), but for SHA-crypt, whose 16 characters
-- of six bits stand for 96 (Drepper, "Unix crypt using SHA-256 and SHA-512").
abbrev pub salt_length : MakeCost → ℕ
salt_length (cost.ShaCrypt family rounds) = 12
salt_length c = 16

-- the most bytes of a password: of bcrypt those that count
abbrev pub password_length : MakeCost → ℕ
password_length (cost.Bcrypt n) = 72
password_length c = password_max

-- A password may have a zero byte, but for the schemes of crypt(3), which takes a password that ends at the first.
abbrev pub takes_zero : MakeCost → Bool
takes_zero (cost.ShaCrypt family rounds) = false
takes_zero (cost.Bcrypt n) = false
takes_zero (cost.Yescrypt c) = false
takes_zero c = true

-- the key takes a table
abbrev pub needs_memory : MakeCost → Bool
needs_memory (cost.Scrypt c) = true
needs_memory (cost.Yescrypt c) = true
needs_memory (cost.Argon2id c) = true
needs_memory c = false
