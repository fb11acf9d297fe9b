-- What a stored text is, and what it asks for.
use Rattle.std.specs.Prelude.{ℕ, Bool, true, false, List, length, Option, Some, None, Result, Ok, Err, is_ok, unwrap_or, if◌then◌else◌, codes}
use Rattle.mcf.specs.Grammar.{Parts, mcf}
use Rattle.mcf.specs.declared.error.Error as mcf_error
use Rattle.md5_plain.specs.Verdict.{magic_of, md5_fields}
use Rattle.md5_plain.specs.declared.magic.Magic.{Magic}
use Rattle.phc.specs.Record.{phc_text}
use Rattle.phc.specs.declared.error.Error as phc_error
use Rattle.phc.specs.declared.password_hash.PasswordHash.{PasswordHash}
use Rattle.scheme_list.specs.Schemes.{row_of}
use Rattle.scheme_list.specs.declared.schemes.CostFamily.{CostFamily}
use Rattle.scheme_list.specs.declared.schemes.CostFamily.TheVariants as of
use Rattle.scheme_list.specs.declared.schemes.Scheme.{Scheme}
use Rattle.scheme_list.specs.declared.schemes.Scheme.TheVariants.{Argon2d, Argon2i, Argon2id, Bcrypt, BcryptDigest, Md5Crypt}
use Rattle.scheme_list.specs.declared.schemes.Scheme.TheVariants.{Pbkdf2Sha256, Pbkdf2Sha512, Scrypt, ScryptCrypt, Sha256Crypt, Sha512Crypt}
use Rattle.scheme_list.specs.declared.schemes.Scheme.TheVariants.{MysqlSha2, Pbkdf2Sha1, Phpass, SaltedDigest, Scram, Sha1Crypt, Yescrypt}
use Rattle.phc_kdf.specs.Numbers.{number}
use Rattle.sha_crypt.specs.Fields.{ShaFields}
use Rattle.sha_crypt.specs.Records.{record_of}
use Rattle.sha_crypt.specs.declared.errors.CheckError.{CheckError}
use Rattle.sha_crypt.specs.declared.errors.Family.{Family}
use Rattle.sha_crypt.specs.declared.errors.Family.TheVariants.{Sha256, Sha512}
use Rattle.bcrypt_plain.specs.Text.{text_cost}
use Rattle.bcrypt_plain.specs.declared.error.BcryptFault.{BcryptFault}
use Rattle.bcrypt_digest.specs.Check.{digest_cost}
use Rattle.sha1_crypt.specs.Text as of_sha1
use Rattle.sha1_crypt.specs.declared.error.Sha1Fault.{Sha1Fault}
use Rattle.scram_plain.specs.Text as of_scram
use Rattle.scram_plain.specs.declared.error.ScramFault.{ScramFault}
use Rattle.phpass_plain.specs.Text as of_phpass
use Rattle.phpass_plain.specs.declared.error.PhpassFault.{PhpassFault}
use Rattle.salted_digest.specs.Text.{text_hash}
use Rattle.salted_digest.specs.declared.hash.DigestHash.{DigestHash}
use Rattle.salted_digest.specs.declared.error.SaltedFault.{SaltedFault}
use Rattle.mysql_sha2.specs.Text as of_mysql
use Rattle.mysql_sha2.specs.declared.error.MysqlFault.{MysqlFault}
use Rattle.yescrypt_plain.specs.Text.{scrypt_costs, yescrypt_costs}
use Rattle.yescrypt_plain.specs.declared.error.TextFault.{TextFault}
use Rattle.yescrypt_plain.specs.declared.params.ScryptParams.{ScryptParams}
use Rattle.yescrypt_plain.specs.declared.params.YescryptParams.{YescryptParams}
use Rattle.any_check.specs.Numbers.{no_costs, of_cost, of_ln_r_p, of_ln_r_t, of_m_t_p, of_rounds}
use Rattle.any_check.specs.Table.{sha_scheme, text_scheme}
use Rattle.any_check.specs.declared.kinds.TextKind.{TextKind}
use Rattle.any_check.specs.declared.kinds.TextKind.TheVariants.{NoScheme, Invalid, Valid}
use Rattle.any_check.specs.declared.numbers.Costs.{Costs}

-- a text of a scheme that asks for these numbers
abbrev pub asks : Scheme → Costs → TextKind
asks scheme costs = Valid (record { scheme = scheme; costs = costs })

-- the text has no fault
abbrev pub is_valid : TextKind → Bool
is_valid NoScheme = false
is_valid Invalid = false
is_valid (Valid text) = true

-- ---- texts of crypt(3)

-- md5-crypt: no number; by the fields behind the identifier
abbrev pub md5_fields_kind : List (List ℕ) → TextKind
md5_fields_kind fields = if is_ok (md5_fields fields) then asks Md5Crypt no_costs else Invalid

-- by the magic, which the identifiers of this scheme have
abbrev pub md5_by_magic : Option Magic → List (List ℕ) → TextKind
md5_by_magic None fields = Invalid
md5_by_magic (Some magic) fields = md5_fields_kind fields

-- the same of a text, which is one in the modular crypt format
abbrev pub md5_kind : Result Parts mcf_error.Error → TextKind
md5_kind (Err e) = Invalid
md5_kind (Ok p) = md5_by_magic (magic_of p.id) p.fields

-- SHA-crypt: the rounds, 5,000 where none are named
abbrev pub sha_kind : Family → Result ShaFields CheckError → TextKind
sha_kind family (Err e) = Invalid
sha_kind family (Ok f) = asks (sha_scheme family) (of_rounds f.rounds)

-- the same of a text, which is one in the modular crypt format
abbrev pub sha_text_kind : Family → List ℕ → TextKind
sha_text_kind family stored = if is_ok (mcf stored) then sha_kind family (record_of family stored) else Invalid

-- bcrypt, also of a digest: the cost
abbrev pub bcrypt_kind : Scheme → Result ℕ BcryptFault → TextKind
bcrypt_kind scheme (Err e) = Invalid
bcrypt_kind scheme (Ok cost) = asks scheme (of_cost cost)

-- sha1-crypt: the rounds
abbrev pub sha1_kind : Result ℕ Sha1Fault → TextKind
sha1_kind (Err e) = Invalid
sha1_kind (Ok rounds) = asks Sha1Crypt (of_rounds rounds)

-- SCRAM: the rounds
abbrev pub scram_kind : Result ℕ ScramFault → TextKind
scram_kind (Err e) = Invalid
scram_kind (Ok rounds) = asks Scram (of_rounds rounds)

-- phpass: the cost
abbrev pub phpass_kind : Result ℕ PhpassFault → TextKind
phpass_kind (Err e) = Invalid
phpass_kind (Ok cost) = asks Phpass (of_cost cost)

-- a salted digest: no number
abbrev pub digest_text_kind : Result DigestHash SaltedFault → TextKind
digest_text_kind (Err e) = Invalid
digest_text_kind (Ok hash) = asks SaltedDigest no_costs

-- MySQL: the rounds
abbrev pub mysql_kind : Result ℕ MysqlFault → TextKind
mysql_kind (Err e) = Invalid
mysql_kind (Ok rounds) = asks MysqlSha2 (of_rounds rounds)

-- yescrypt: the binary logarithm of N, r and t
abbrev pub yescrypt_kind : Result YescryptParams TextFault → TextKind
yescrypt_kind (Err e) = Invalid
yescrypt_kind (Ok p) = asks Yescrypt (of_ln_r_t p.ln p.r p.t)

-- scrypt in crypt's own form: the binary logarithm of N, r and p
abbrev pub scrypt_kind : Result ScryptParams TextFault → TextKind
scrypt_kind (Err e) = Invalid
scrypt_kind (Ok p) = asks ScryptCrypt (of_ln_r_p p.ln p.r p.p)

-- ---- records in the PHC string format

-- a number that a record names
abbrev pub named : PasswordHash → List ℕ → ℕ
named parsed name = unwrap_or (number parsed name) 0

-- by the numbers of its scheme: scrypt's (RFC 7914), PBKDF2's (RFC 8018), Argon2's (RFC 9106)
abbrev pub record_costs : CostFamily → PasswordHash → Costs
record_costs of.Scrypt parsed =
    of_ln_r_p (named parsed (codes "ln")) (named parsed (codes "r")) (named parsed (codes "p"))
record_costs of.Pbkdf2Sha256 parsed = of_rounds (named parsed (codes "i"))
record_costs of.Pbkdf2Sha512 parsed = of_rounds (named parsed (codes "i"))
record_costs of.Argon2 parsed =
    of_m_t_p (named parsed (codes "m")) (named parsed (codes "t")) (named parsed (codes "p"))
record_costs family parsed = no_costs

-- By which records are taken.
module _ (accepted : PasswordHash → List ℕ → ℕ → Bool) where
  -- a record that is taken with its salt, for its hash
  abbrev pub salted_kind : Scheme → PasswordHash → Option (List ℕ) → Option (List ℕ) → TextKind
  salted_kind scheme parsed (Some salt) (Some hash) =
      if accepted parsed salt (length hash) then asks scheme (record_costs (row_of scheme).family parsed) else Invalid
  salted_kind scheme parsed salt hash = Invalid

  -- the record of a PHC text
  abbrev pub phc_kind : Scheme → Result PasswordHash phc_error.Error → TextKind
  phc_kind scheme (Err e) = Invalid
  phc_kind scheme (Ok parsed) = salted_kind scheme parsed parsed.salt parsed.hash

  -- of a text, which is one in the modular crypt format too
  abbrev pub record_kind : Scheme → List ℕ → TextKind
  record_kind scheme stored = if is_ok (mcf stored) then phc_kind scheme (phc_text stored) else Invalid

  -- ---- the table

  abbrev pub row_kind : Scheme → List ℕ → TextKind
  row_kind Md5Crypt stored = md5_kind (mcf stored)
  row_kind Sha256Crypt stored = sha_text_kind Sha256 stored
  row_kind Sha512Crypt stored = sha_text_kind Sha512 stored
  row_kind Bcrypt stored = bcrypt_kind Bcrypt (text_cost stored)
  row_kind Yescrypt stored = yescrypt_kind (yescrypt_costs stored)
  row_kind ScryptCrypt stored = scrypt_kind (scrypt_costs stored)
  row_kind BcryptDigest stored = bcrypt_kind BcryptDigest (digest_cost stored)
  row_kind Sha1Crypt stored = sha1_kind (of_sha1.text_cost stored)
  row_kind Scram stored = scram_kind (of_scram.text_cost stored)
  row_kind Phpass stored = phpass_kind (of_phpass.text_cost stored)
  row_kind SaltedDigest stored = digest_text_kind (text_hash stored)
  row_kind MysqlSha2 stored = mysql_kind (of_mysql.text_cost stored)
  row_kind Scrypt stored = record_kind Scrypt stored
  row_kind Pbkdf2Sha256 stored = record_kind Pbkdf2Sha256 stored
  row_kind Pbkdf2Sha512 stored = record_kind Pbkdf2Sha512 stored
  row_kind Pbkdf2Sha1 stored = record_kind Pbkdf2Sha1 stored
  row_kind Argon2d stored = record_kind Argon2d stored
  row_kind Argon2i stored = record_kind Argon2i stored
  row_kind Argon2id stored = record_kind Argon2id stored

  -- by the scheme, if the text has one
  abbrev pub kind_by : Option Scheme → List ℕ → TextKind
  kind_by None stored = NoScheme
  kind_by (Some scheme) stored = row_kind scheme stored

  -- what a stored text is
  unfoldable pub text_kind : List ℕ → TextKind
  text_kind stored = kind_by (text_scheme stored) stored
