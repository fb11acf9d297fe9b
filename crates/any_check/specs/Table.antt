-- The verdict for every scheme: a table from the identifier of a stored text to the definition of its scheme; and its word.
use Rattle.std.specs.Prelude.{◌≡◌, ◌⊎◌, ℕ, Bool, true, false, List, length, nat_lt, Option, Some, None, Result, Ok, Err}
use Rattle.std.specs.Prelude.{codes, if◌then◌else◌}
use Rattle.mcf.specs.Grammar.{Parts, mcf, parts}
use Rattle.mcf.specs.declared.error.Error as mcf_error
use Rattle.phc.specs.declared.password_hash.PasswordHash.{PasswordHash}
use Rattle.scheme_list.specs.Schemes.{row_of, scheme_named}
use Rattle.scheme_list.specs.declared.schemes.Scheme.{Scheme}
use Rattle.scheme_list.specs.declared.schemes.Scheme.TheVariants.{Argon2d, Argon2i, Argon2id, Bcrypt, BcryptDigest, Md5Crypt}
use Rattle.scheme_list.specs.declared.schemes.Scheme.TheVariants.{Pbkdf2Sha256, Pbkdf2Sha512, Scrypt, ScryptCrypt, Sha256Crypt, Sha512Crypt}
use Rattle.scheme_list.specs.declared.schemes.Scheme.TheVariants.{MysqlSha2, Pbkdf2Sha1, Phpass, SaltedDigest, Scram, Sha1Crypt, Yescrypt}
use Rattle.sha_crypt.specs.declared.errors.Family.{Family}
use Rattle.sha_crypt.specs.declared.errors.Family.TheVariants.{Sha256, Sha512}
use Rattle.phc_kdf.specs.Limits.{password_max}
use Rattle.stored_check.specs.Verdict.{may_lack_memory, mcf_name, verdict}
use Rattle.stored_check.specs.Words.{word}
use Rattle.stored_check.specs.declared.error.StoredError.{StoredError}
use Rattle.stored_check.specs.declared.error.StoredError.TheVariants.{Mcf, OutOfMemory, PasswordTooLong}
use Rattle.md5_plain.specs.Verdict.{magic_of, md5_verdict}
use Rattle.md5_plain.specs.declared.error.Md5Fault.{Md5Fault}
use Rattle.md5_plain.specs.declared.magic.Magic.{Magic}
use Rattle.bcrypt_plain.specs.Check.{bcrypt_answer}
use Rattle.bcrypt_plain.specs.declared.error.BcryptError.{BcryptError}
use Rattle.bcrypt_plain.specs.declared.error.BcryptError.TheVariants as of_bcrypt
use Rattle.bcrypt_plain.specs.declared.error.BcryptFault.{BcryptFault}
use Rattle.bcrypt_plain.specs.declared.error.BcryptFault.TheVariants as of_fault
use Rattle.bcrypt_digest.specs.Check.{digest_answer}
use Rattle.sha1_crypt.specs.Check.{sha1_answer}
use Rattle.sha1_crypt.specs.declared.error.Sha1Fault.{Sha1Fault}
use Rattle.sha1_crypt.specs.declared.error.Sha1Fault.TheVariants as of_sha1_fault
use Rattle.scram_plain.specs.Check.{scram_answer}
use Rattle.scram_plain.specs.declared.error.ScramFault.{ScramFault}
use Rattle.scram_plain.specs.declared.error.ScramFault.TheVariants as of_scram_fault
use Rattle.phpass_plain.specs.Check.{phpass_answer}
use Rattle.phpass_plain.specs.declared.error.PhpassFault.{PhpassFault}
use Rattle.phpass_plain.specs.declared.error.PhpassFault.TheVariants as of_phpass_fault
use Rattle.salted_digest.specs.Check.{salted_answer}
use Rattle.salted_digest.specs.declared.error.SaltedFault.{SaltedFault}
use Rattle.salted_digest.specs.declared.error.SaltedFault.TheVariants as of_salted_fault
use Rattle.mysql_sha2.specs.Check.{mysql_answer}
use Rattle.mysql_sha2.specs.declared.error.MysqlFault.{MysqlFault}
use Rattle.mysql_sha2.specs.declared.error.MysqlFault.TheVariants as of_mysql_fault
use Rattle.yescrypt_plain.specs.Check.{is_verdict, scrypt_answer, yescrypt_answer}
use Rattle.yescrypt_plain.specs.declared.error.CheckError.{CheckError}
use Rattle.yescrypt_plain.specs.declared.error.CheckError.TheVariants as of_crypt
use Rattle.yescrypt_plain.specs.declared.error.TextFault.{TextFault}
use Rattle.yescrypt_plain.specs.declared.error.TextFault.TheVariants as of_text
use Rattle.any_check.specs.declared.error.AnyError.{AnyError}
use Rattle.any_check.specs.declared.error.AnyError.TheVariants as cause

-- ---- which scheme an identifier names

-- what stands between the first two `$` of a text; nothing where there is no `$`
abbrev pub identifier : List ℕ → List ℕ
identifier stored = (parts stored).id

-- the scheme of the identifier, if there is one, has texts that are records in the PHC string format
abbrev pub is_record : Option Scheme → Bool
is_record None = false
is_record (Some scheme) = (row_of scheme).is_record

-- the scheme of a family of SHA-crypt
abbrev pub sha_scheme : Family → Scheme
sha_scheme Sha256 = Sha256Crypt
sha_scheme Sha512 = Sha512Crypt

-- the scheme of a text, by its identifier alone
unfoldable pub text_scheme : List ℕ → Option Scheme
text_scheme stored = scheme_named (identifier stored)

-- ---- a scheme's answer, under the names of this crate

-- of `check_stored`
abbrev pub of_stored : Result Bool StoredError → Result Bool AnyError
of_stored (Ok b) = Ok b
of_stored (Err e) = Err (cause.Stored e)

-- of `md5_verdict`
abbrev pub of_md5 : Result Bool Md5Fault → Result Bool AnyError
of_md5 (Ok b) = Ok b
of_md5 (Err e) = Err (cause.Md5 e)

-- of `sha1_check`
abbrev pub of_sha1 : Result Bool Sha1Fault → Result Bool AnyError
of_sha1 (Ok b) = Ok b
of_sha1 (Err e) = Err (cause.Sha1 e)

-- of `scram_check`
abbrev pub of_scram : Result Bool ScramFault → Result Bool AnyError
of_scram (Ok b) = Ok b
of_scram (Err e) = Err (cause.Scram e)

-- of `phpass_check`
abbrev pub of_phpass : Result Bool PhpassFault → Result Bool AnyError
of_phpass (Ok b) = Ok b
of_phpass (Err e) = Err (cause.Phpass e)

-- of `salted_check`
abbrev pub of_salted : Result Bool SaltedFault → Result Bool AnyError
of_salted (Ok b) = Ok b
of_salted (Err e) = Err (cause.Salted e)

-- of `mysql_check`
abbrev pub of_mysql : Result Bool MysqlFault → Result Bool AnyError
of_mysql (Ok b) = Ok b
of_mysql (Err e) = Err (cause.Mysql e)

-- of `bcrypt_check` and `digest_check`, for which another password is a fault
abbrev pub of_bcrypt_check : Result (Unit {0}) BcryptError → Result Bool AnyError
of_bcrypt_check (Ok done) = Ok true
of_bcrypt_check (Err of_bcrypt.HashMismatch) = Ok false
of_bcrypt_check (Err of_bcrypt.ZeroByte) = Err cause.ZeroByte
of_bcrypt_check (Err (of_bcrypt.InvalidFormat e)) = Err (cause.Bcrypt e)

-- of `yescrypt_check`
abbrev pub of_yescrypt_check : Result (Unit {0}) CheckError → Result Bool AnyError
of_yescrypt_check (Ok done) = Ok true
of_yescrypt_check (Err of_crypt.HashMismatch) = Ok false
of_yescrypt_check (Err of_crypt.PasswordTooLong) = Err (cause.Stored PasswordTooLong)
of_yescrypt_check (Err of_crypt.OutOfMemory) = Err (cause.Stored OutOfMemory)
of_yescrypt_check (Err (of_crypt.InvalidFormat e)) = Err (cause.Yescrypt e)

-- of `scrypt_check`
abbrev pub of_scrypt_check : Result (Unit {0}) CheckError → Result Bool AnyError
of_scrypt_check (Ok done) = Ok true
of_scrypt_check (Err of_crypt.HashMismatch) = Ok false
of_scrypt_check (Err of_crypt.PasswordTooLong) = Err (cause.Stored PasswordTooLong)
of_scrypt_check (Err of_crypt.OutOfMemory) = Err (cause.Stored OutOfMemory)
of_scrypt_check (Err (of_crypt.InvalidFormat e)) = Err (cause.Scrypt e)

-- ---- md5-crypt: a text in the modular crypt format, whose identifier tells the magic

-- by the magic; the identifiers of this scheme have one
abbrev pub md5_by : Option Magic → List ℕ → Parts → Result Bool AnyError
md5_by None password p = Err cause.NoScheme
md5_by (Some magic) password p = of_md5 (md5_verdict magic password p.fields)

-- by what the modular crypt format says of the text
abbrev pub md5_answer : List ℕ → Result Parts mcf_error.Error → Result Bool AnyError
md5_answer password (Err e) = Err (cause.Stored (Mcf (mcf_name e)))
md5_answer password (Ok p) = md5_by (magic_of p.id) password p

-- ---- the table: the definition of each scheme

-- By the meanings of a key derivation, for records.
module _ (accepted : PasswordHash → List ℕ → ℕ → Bool) (tag : List ℕ → PasswordHash → List ℕ → ℕ → List ℕ) where
  -- of a text whose check is `check_stored`
  abbrev pub stored_row : List ℕ → List ℕ → Result Bool AnyError
  stored_row password stored = of_stored (verdict accepted tag password stored)

  -- the table
  abbrev pub row : Scheme → List ℕ → List ℕ → Result Bool AnyError
  row Md5Crypt password stored = md5_answer password (mcf stored)
  row Sha256Crypt password stored = stored_row password stored
  row Sha512Crypt password stored = stored_row password stored
  row Bcrypt password stored = of_bcrypt_check (bcrypt_answer password stored)
  row Yescrypt password stored = of_yescrypt_check (yescrypt_answer password stored)
  row ScryptCrypt password stored = of_scrypt_check (scrypt_answer password stored)
  row BcryptDigest password stored = of_bcrypt_check (digest_answer password stored)
  row Sha1Crypt password stored = of_sha1 (sha1_answer password stored)
  row Scram password stored = of_scram (scram_answer password stored)
  row Phpass password stored = of_phpass (phpass_answer password stored)
  row SaltedDigest password stored = of_salted (salted_answer password stored)
  row MysqlSha2 password stored = of_mysql (mysql_answer password stored)
  row Scrypt password stored = stored_row password stored
  row Pbkdf2Sha256 password stored = stored_row password stored
  row Pbkdf2Sha512 password stored = stored_row password stored
  row Pbkdf2Sha1 password stored = stored_row password stored
  row Argon2d password stored = stored_row password stored
  row Argon2i password stored = stored_row password stored
  row Argon2id password stored = stored_row password stored

  -- by the scheme, if the text has one
  abbrev pub scheme_answer : Option Scheme → List ℕ → List ℕ → Result Bool AnyError
  scheme_answer None password stored = Err cause.NoScheme
  scheme_answer (Some scheme) password stored = row scheme password stored

  -- the verdict on a password and a stored text, or the first cause that there is none
  unfoldable pub any_verdict : List ℕ → List ℕ → Result Bool AnyError
  any_verdict password stored =
      if nat_lt password_max (length password) then Err (cause.Stored PasswordTooLong)
      else scheme_answer (text_scheme stored) password stored

-- ---- want of memory: for records, yescrypt and scrypt

-- By the meanings of a key derivation, and the records for whose keys memory may be wanting.
module _ (accepted : PasswordHash → List ℕ → ℕ → Bool) (needs_memory : PasswordHash → Bool)
    (tag : List ℕ → PasswordHash → List ℕ → ℕ → List ℕ) where
  -- the table of it
  abbrev pub row_may_lack : Option Scheme → List ℕ → List ℕ → Bool
  row_may_lack None password stored = false
  row_may_lack (Some Md5Crypt) password stored = false
  row_may_lack (Some Sha256Crypt) password stored = false
  row_may_lack (Some Sha512Crypt) password stored = false
  row_may_lack (Some Bcrypt) password stored = false
  row_may_lack (Some Yescrypt) password stored = is_verdict (yescrypt_answer password stored)
  row_may_lack (Some ScryptCrypt) password stored = is_verdict (scrypt_answer password stored)
  row_may_lack (Some BcryptDigest) password stored = false
  row_may_lack (Some Sha1Crypt) password stored = false
  row_may_lack (Some Scram) password stored = false
  row_may_lack (Some Phpass) password stored = false
  row_may_lack (Some SaltedDigest) password stored = false
  row_may_lack (Some MysqlSha2) password stored = false
  row_may_lack (Some Scrypt) password stored = may_lack_memory accepted needs_memory tag password stored
  row_may_lack (Some Pbkdf2Sha256) password stored = may_lack_memory accepted needs_memory tag password stored
  row_may_lack (Some Pbkdf2Sha512) password stored = may_lack_memory accepted needs_memory tag password stored
  row_may_lack (Some Pbkdf2Sha1) password stored = may_lack_memory accepted needs_memory tag password stored
  row_may_lack (Some Argon2d) password stored = may_lack_memory accepted needs_memory tag password stored
  row_may_lack (Some Argon2i) password stored = may_lack_memory accepted needs_memory tag password stored
  row_may_lack (Some Argon2id) password stored = may_lack_memory accepted needs_memory tag password stored

-- the text is valid, and memory may be needed for it
unfoldable pub any_may_lack : (PasswordHash → List ℕ → ℕ → Bool) → (PasswordHash → Bool)
    → (List ℕ → PasswordHash → List ℕ → ℕ → List ℕ) → List ℕ → List ℕ → Bool
any_may_lack accepted needs_memory tag password stored =
    row_may_lack accepted needs_memory tag (text_scheme stored) password stored

-- the answer is the verdict; or want of memory, where that may be
abbrev pub IsAnyVerdict : Result Bool AnyError → Bool → Result Bool AnyError → Type 0
IsAnyVerdict verdict may_lack answer =
    (answer ≡ verdict) ⊎ ((answer ≡ Err (cause.Stored OutOfMemory)) × (may_lack ≡ true))

-- ---- words

-- the word of a fault of a text of bcrypt, be a digest in front or not; the last line is for the faults of its form
abbrev pub bcrypt_word : BcryptFault → List ℕ
bcrypt_word of_fault.Obsolete = codes "bcrypt-obsolete"
bcrypt_word of_fault.Cost = codes "bcrypt-cost"
bcrypt_word of_fault.Character = codes "bcrypt-b64"
bcrypt_word of_fault.SpareBits = codes "bcrypt-b64"
bcrypt_word fault = codes "bcrypt-format"

-- the word of a fault of a text `$y$`; the last line is for the faults of its form
abbrev pub yescrypt_word : TextFault → List ℕ
yescrypt_word of_text.Flavor = codes "yescrypt-flavor"
yescrypt_word of_text.Parallelism = codes "yescrypt-cost"
yescrypt_word of_text.Upgrades = codes "yescrypt-cost"
yescrypt_word of_text.Rom = codes "yescrypt-cost"
yescrypt_word of_text.Memory = codes "yescrypt-cost"
yescrypt_word of_text.Cost = codes "yescrypt-cost"
yescrypt_word fault = codes "yescrypt-format"

-- the word of a fault of a text `$7$`; the last line is for the faults of its form
abbrev pub scrypt_word : TextFault → List ℕ
scrypt_word of_text.Memory = codes "scrypt-cost"
scrypt_word of_text.Cost = codes "scrypt-cost"
scrypt_word fault = codes "scrypt-format"

-- the word of a fault of a text of sha1-crypt; the last line is for the faults of its form
abbrev pub sha1_word : Sha1Fault → List ℕ
sha1_word of_sha1_fault.Rounds = codes "sha1-cost"
sha1_word of_sha1_fault.HashCharacter = codes "sha1-b64"
sha1_word of_sha1_fault.FirstByte = codes "sha1-b64"
sha1_word fault = codes "sha1-format"

-- the word of a fault of a text of SCRAM, or of its password; the last line is for the faults of the text's form
abbrev pub scram_word : ScramFault → List ℕ
scram_word of_scram_fault.Rounds = codes "scram-cost"
scram_word of_scram_fault.SaltEncoding = codes "scram-b64"
scram_word of_scram_fault.StoredKeyEncoding = codes "scram-b64"
scram_word of_scram_fault.ServerKeyEncoding = codes "scram-b64"
scram_word of_scram_fault.NotAscii = codes "not-ascii"
scram_word fault = codes "scram-format"

-- the word of a fault of a text of phpass; the last line is for the faults of its form
abbrev pub phpass_word : PhpassFault → List ℕ
phpass_word of_phpass_fault.Cost = codes "phpass-cost"
phpass_word of_phpass_fault.HashCharacter = codes "phpass-b64"
phpass_word of_phpass_fault.SpareBits = codes "phpass-b64"
phpass_word fault = codes "phpass-format"

-- the word of a fault of a text of a salted digest; the last line is for the faults of its form
abbrev pub salted_word : SaltedFault → List ℕ
salted_word of_salted_fault.SaltEncoding = codes "digest-b64"
salted_word of_salted_fault.HashEncoding = codes "digest-b64"
salted_word fault = codes "digest-format"

-- the word of a fault of a text of MySQL; the last line is for the faults of its form
abbrev pub mysql_word : MysqlFault → List ℕ
mysql_word of_mysql_fault.Rounds = codes "mysql-cost"
mysql_word of_mysql_fault.HashField = codes "mysql-b64"
mysql_word fault = codes "mysql-format"

-- those of `check_stored`, and a few for each further scheme; nothing is out of memory there
abbrev pub any_word : Result Bool AnyError → List ℕ
any_word (Ok b) = word (Ok b)
any_word (Err (cause.Stored e)) = word (Err e)
any_word (Err cause.NoScheme) = codes "no-scheme"
any_word (Err (cause.Md5 fault)) = codes "md5-format"
any_word (Err (cause.Bcrypt fault)) = bcrypt_word fault
any_word (Err (cause.Yescrypt fault)) = yescrypt_word fault
any_word (Err (cause.Scrypt fault)) = scrypt_word fault
any_word (Err (cause.Sha1 fault)) = sha1_word fault
any_word (Err (cause.Scram fault)) = scram_word fault
any_word (Err (cause.Phpass fault)) = phpass_word fault
any_word (Err (cause.Salted fault)) = salted_word fault
any_word (Err (cause.Mysql fault)) = mysql_word fault
any_word (Err cause.ZeroByte) = codes "zero-byte"
any_word (Err cause.TooCostly) = codes "too-costly"
