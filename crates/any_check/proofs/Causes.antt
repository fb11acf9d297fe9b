-- The first causes, and that the definition never gives want of memory.
use Rattle.std.proofs.Common.{◌≡◌, ◌≢◌, ℕ, ◌<◌, ◌≤◌, Bool, true, false, List, length, refl, sym, arith, Option, Some, None}
use Rattle.std.proofs.Common.{Result, Ok, Err}
use Rattle.std.specs.Prelude.{nat_lt, if◌then◌else◌}
use Rattle.std.proofs.lemmas.Bool.Decides.{nat_tests}
use Rattle.phc.specs.declared.password_hash.PasswordHash.{PasswordHash}
use Rattle.stored_check.proofs.Causes.{fits, never_memory}
use Rattle.stored_check.specs.Verdict.{verdict}
use Rattle.stored_check.specs.declared.error.StoredError.{StoredError}
use Rattle.stored_check.specs.declared.error.StoredError.TheVariants.{OutOfMemory, PasswordTooLong}
use Rattle.md5_plain.specs.Verdict.{magic_of, md5_verdict}
use Rattle.md5_plain.specs.declared.error.Md5Fault.{Md5Fault}
use Rattle.md5_plain.specs.declared.magic.Magic.{Magic}
use Rattle.mcf.specs.Grammar.{Parts, mcf}
use Rattle.mcf.specs.declared.error.Error as mcf_error
use Rattle.bcrypt_plain.specs.Check.{bcrypt_answer}
use Rattle.bcrypt_digest.specs.Check.{digest_answer}
use Rattle.sha1_crypt.specs.Check.{sha1_answer}
use Rattle.sha1_crypt.specs.declared.error.Sha1Fault.{Sha1Fault}
use Rattle.scram_plain.specs.Check.{scram_answer}
use Rattle.scram_plain.specs.declared.error.ScramFault.{ScramFault}
use Rattle.phpass_plain.specs.Check.{phpass_answer}
use Rattle.phpass_plain.specs.declared.error.PhpassFault.{PhpassFault}
use Rattle.salted_digest.specs.Check.{salted_answer}
use Rattle.salted_digest.specs.declared.error.SaltedFault.{SaltedFault}
use Rattle.mysql_sha2.specs.Check.{mysql_answer}
use Rattle.mysql_sha2.specs.declared.error.MysqlFault.{MysqlFault}
use Rattle.bcrypt_plain.specs.declared.error.BcryptError.{BcryptError}
use Rattle.bcrypt_plain.specs.declared.error.BcryptError.TheVariants as of_bcrypt
use Rattle.yescrypt_plain.specs.Check.{scrypt_answer, scrypt_matches, scrypt_verdict, yescrypt_answer, yescrypt_matches}
use Rattle.yescrypt_plain.specs.Check.{yescrypt_verdict}
use Rattle.yescrypt_plain.specs.Text.{ScryptMeaning, YescryptMeaning, scrypt_text, yescrypt_text}
use Rattle.yescrypt_plain.specs.declared.error.CheckError.{CheckError}
use Rattle.yescrypt_plain.specs.declared.error.CheckError.TheVariants as of_crypt
use Rattle.yescrypt_plain.specs.declared.error.TextFault.{TextFault}
use Rattle.any_check.specs.Cost.{is_costly, verdict_within}
use Rattle.any_check.specs.Table.{any_verdict, md5_answer, md5_by, of_bcrypt_check, of_md5, of_mysql, of_phpass, of_salted, of_scram, of_sha1, of_scrypt_check, of_stored, of_yescrypt_check, row, scheme_answer, text_scheme}
use Rattle.any_check.specs.declared.numbers.SchemeCosts.{SchemeCosts}
use Rattle.any_check.specs.declared.error.AnyError.{AnyError}
use Rattle.any_check.specs.declared.error.AnyError.TheVariants.{NoScheme, Stored}
use Rattle.scheme_list.specs.declared.schemes.Scheme.{Scheme}
use Rattle.scheme_list.specs.declared.schemes.Scheme.TheVariants.{Argon2d, Argon2i, Argon2id, Bcrypt, BcryptDigest, Md5Crypt}
use Rattle.scheme_list.specs.declared.schemes.Scheme.TheVariants.{Pbkdf2Sha256, Pbkdf2Sha512, Scrypt, ScryptCrypt, Sha256Crypt, Sha512Crypt}
use Rattle.scheme_list.specs.declared.schemes.Scheme.TheVariants.{MysqlSha2, Pbkdf2Sha1, Phpass, SaltedDigest, Scram, Sha1Crypt, Yescrypt}

abbrev Other : Result Bool AnyError → Type 0
Other r = r ≢ Err (Stored OutOfMemory)

of_other : (r : Result Bool StoredError) → r ≢ Err OutOfMemory → Other (of_stored r)
of_other (Ok b) other = λ h. cc
of_other (Err e) other = λ h. other cc

of_fields : (r : Result Bool Md5Fault) → Other (of_md5 r)
of_fields (Ok b) = λ h. cc
of_fields (Err e) = λ h. cc

by_magic : (password : List ℕ) (o : Option Magic) (p : Parts) → Other (md5_by o password p)
by_magic password None p = λ h. cc
by_magic password (Some magic) p = of_fields (md5_verdict magic password p.fields)

of_md5_text : (password : List ℕ) (r : Result Parts mcf_error.Error) → Other (md5_answer password r)
of_md5_text password (Err e) = λ h. cc
of_md5_text password (Ok p) = by_magic password (magic_of p.id) p

of_sha1_text : (r : Result Bool Sha1Fault) → Other (of_sha1 r)
of_sha1_text (Ok b) = λ h. cc
of_sha1_text (Err e) = λ h. cc

of_scram_text : (r : Result Bool ScramFault) → Other (of_scram r)
of_scram_text (Ok b) = λ h. cc
of_scram_text (Err e) = λ h. cc

of_phpass_text : (r : Result Bool PhpassFault) → Other (of_phpass r)
of_phpass_text (Ok b) = λ h. cc
of_phpass_text (Err e) = λ h. cc

of_salted_text : (r : Result Bool SaltedFault) → Other (of_salted r)
of_salted_text (Ok b) = λ h. cc
of_salted_text (Err e) = λ h. cc

of_mysql_text : (r : Result Bool MysqlFault) → Other (of_mysql r)
of_mysql_text (Ok b) = λ h. cc
of_mysql_text (Err e) = λ h. cc

of_check : (r : Result (Unit {0}) BcryptError) → Other (of_bcrypt_check r)
of_check (Ok done) = λ h. cc
of_check (Err of_bcrypt.HashMismatch) = λ h. cc
of_check (Err of_bcrypt.ZeroByte) = λ h. cc
of_check (Err (of_bcrypt.InvalidFormat e)) = λ h. cc

of_yescrypt : (r : Result (Unit {0}) CheckError) → r ≢ Err of_crypt.OutOfMemory → Other (of_yescrypt_check r)
of_yescrypt (Ok done) other = λ h. cc
of_yescrypt (Err of_crypt.HashMismatch) other = λ h. cc
of_yescrypt (Err of_crypt.PasswordTooLong) other = λ h. cc
of_yescrypt (Err of_crypt.OutOfMemory) other = λ h. other refl
of_yescrypt (Err (of_crypt.InvalidFormat e)) other = λ h. cc

of_scrypt : (r : Result (Unit {0}) CheckError) → r ≢ Err of_crypt.OutOfMemory → Other (of_scrypt_check r)
of_scrypt (Ok done) other = λ h. cc
of_scrypt (Err of_crypt.HashMismatch) other = λ h. cc
of_scrypt (Err of_crypt.PasswordTooLong) other = λ h. cc
of_scrypt (Err of_crypt.OutOfMemory) other = λ h. other refl
of_scrypt (Err (of_crypt.InvalidFormat e)) other = λ h. cc

-- ---- the checks of `$y$` and `$7$`

abbrev Told : Result (Unit {0}) CheckError → Type 0
Told r = r ≢ Err of_crypt.OutOfMemory

told_by : (long matches : Bool) → Told
    (if long then Err of_crypt.PasswordTooLong else (if matches then Ok tt else Err of_crypt.HashMismatch))
told_by true matches = λ h. cc
told_by false true = λ h. cc
told_by false false = λ h. cc

module _ (password : List ℕ) where
  by_yescrypt : (r : Result YescryptMeaning TextFault) → Told (yescrypt_verdict password r)
  by_yescrypt (Err e) = λ h. cc
  by_yescrypt (Ok m) = told_by (nat_lt 4096 (length password)) (yescrypt_matches password m)

  by_scrypt : (r : Result ScryptMeaning TextFault) → Told (scrypt_verdict password r)
  by_scrypt (Err e) = λ h. cc
  by_scrypt (Ok m) = told_by (nat_lt 4096 (length password)) (scrypt_matches password m)

  yescrypt_told : (stored : List ℕ) → Told (yescrypt_answer password stored)
  unfolding yescrypt_answer
  yescrypt_told stored = by_yescrypt (yescrypt_text stored)

  scrypt_told : (stored : List ℕ) → Told (scrypt_answer password stored)
  unfolding scrypt_answer
  scrypt_told stored = by_scrypt (scrypt_text stored)

by_test : (t : Bool) (x y : Result Bool AnyError) → Other x → Other y → Other (if t then x else y)
by_test true x y hx hy = hx
by_test false x y hx hy = hy

module _ (accepted : PasswordHash → List ℕ → ℕ → Bool) (tag : List ℕ → PasswordHash → List ℕ → ℕ → List ℕ)
    (password stored : List ℕ) where
  by_stored : Other (of_stored (verdict accepted tag password stored))
  by_stored = of_other (verdict accepted tag password stored) (never_memory accepted tag password stored)

  by_row : (s : Scheme) → Other (row accepted tag s password stored)
  by_row Md5Crypt = of_md5_text password (mcf stored)
  by_row Sha256Crypt = by_stored
  by_row Sha512Crypt = by_stored
  by_row Bcrypt = of_check (bcrypt_answer password stored)
  by_row Yescrypt = of_yescrypt (yescrypt_answer password stored) (yescrypt_told password stored)
  by_row ScryptCrypt = of_scrypt (scrypt_answer password stored) (scrypt_told password stored)
  by_row BcryptDigest = of_check (digest_answer password stored)
  by_row Sha1Crypt = of_sha1_text (sha1_answer password stored)
  by_row Scram = of_scram_text (scram_answer password stored)
  by_row Phpass = of_phpass_text (phpass_answer password stored)
  by_row SaltedDigest = of_salted_text (salted_answer password stored)
  by_row MysqlSha2 = of_mysql_text (mysql_answer password stored)
  by_row Scrypt = by_stored
  by_row Pbkdf2Sha256 = by_stored
  by_row Pbkdf2Sha512 = by_stored
  by_row Pbkdf2Sha1 = by_stored
  by_row Argon2d = by_stored
  by_row Argon2i = by_stored
  by_row Argon2id = by_stored

  by_scheme : (o : Option Scheme) → Other (scheme_answer accepted tag o password stored)
  by_scheme None = λ h. cc
  by_scheme (Some s) = by_row s

  pub never_wanting : Other (any_verdict accepted tag password stored)
  unfolding any_verdict
  never_wanting = by_test (nat_lt 4096 (length password)) _ _ (λ h. cc) (by_scheme (text_scheme stored))

  -- ---- the first causes

  pub too_long : 4096 < length password → any_verdict accepted tag password stored ≡ Err (Stored PasswordTooLong)
  unfolding any_verdict
  too_long h = let test : nat_lt 4096 (length password) ≡ true = grind (arith, nat_tests) in rw test refl

  pub no_scheme : length password ≤ 4096 → text_scheme stored ≡ None
      → any_verdict accepted tag password stored ≡ Err NoScheme
  unfolding any_verdict
  no_scheme short none = rw (fits password short, none) refl

  -- ---- a bound on cost

  any_long : nat_lt 4096 (length password) ≡ true → any_verdict accepted tag password stored ≡ Err (Stored PasswordTooLong)
  unfolding any_verdict
  any_long long = rw long refl

  within_by : (long : Bool) → nat_lt 4096 (length password) ≡ long
      → (if long then Err (Stored PasswordTooLong) else any_verdict accepted tag password stored)
      ≡ any_verdict accepted tag password stored
  within_by true is = sym (any_long is)
  within_by false is = refl

  pub within : (limits : SchemeCosts) → is_costly accepted limits stored ≡ false
      → verdict_within accepted tag limits password stored ≡ any_verdict accepted tag password stored
  unfolding verdict_within
  within limits cheap = rw cheap (within_by (nat_lt 4096 (length password)) refl)
