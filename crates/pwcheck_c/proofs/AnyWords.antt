-- The words of the answers to texts of every scheme are those of `any_check`.
use Rattle.std.proofs.Common.{◌≡◌, ◌≢◌, Bool, refl, Err}
use Rattle.std.specs.Prelude.{Result}
use Rattle.stored_check.specs.declared.error.StoredError.TheVariants as of_stored
use Rattle.bcrypt_plain.specs.declared.error.BcryptFault.{BcryptFault}
use Rattle.bcrypt_plain.specs.declared.error.BcryptFault.TheVariants as of_bcrypt
use Rattle.sha1_crypt.specs.declared.error.Sha1Fault.{Sha1Fault}
use Rattle.sha1_crypt.specs.declared.error.Sha1Fault.TheVariants as of_sha1
use Rattle.scram_plain.specs.declared.error.ScramFault.{ScramFault}
use Rattle.scram_plain.specs.declared.error.ScramFault.TheVariants as of_scram
use Rattle.phpass_plain.specs.declared.error.PhpassFault.{PhpassFault}
use Rattle.phpass_plain.specs.declared.error.PhpassFault.TheVariants as of_phpass
use Rattle.mysql_sha2.specs.declared.error.MysqlFault.{MysqlFault}
use Rattle.mysql_sha2.specs.declared.error.MysqlFault.TheVariants as of_mysql
use Rattle.salted_digest.specs.declared.error.SaltedFault.{SaltedFault}
use Rattle.salted_digest.specs.declared.error.SaltedFault.TheVariants as of_salted
use Rattle.yescrypt_plain.specs.declared.error.TextFault.{TextFault}
use Rattle.yescrypt_plain.specs.declared.error.TextFault.TheVariants as of_text
use Rattle.any_check.specs.Table.{any_word, bcrypt_word, mysql_word, phpass_word, salted_word, scram_word, scrypt_word, sha1_word, yescrypt_word}
use Rattle.any_check.specs.declared.error.AnyError.{AnyError}
use Rattle.any_check.specs.declared.error.AnyError.TheVariants as of_any
use Rattle.pwcheck_c.specs.Answers.{answer_word, bcrypt_cause, cause_answer, mysql_cause, phpass_cause, salted_cause, scram_cause, scrypt_cause, sha1_cause, yescrypt_cause}

of_bcrypt_fault : (f : BcryptFault) → answer_word (bcrypt_cause f) ≡ bcrypt_word f
of_bcrypt_fault of_bcrypt.NoDollar = refl
of_bcrypt_fault other = refl

of_yescrypt_fault : (f : TextFault) → answer_word (yescrypt_cause f) ≡ yescrypt_word f
of_yescrypt_fault of_text.NoDollar = refl
of_yescrypt_fault other = refl

of_scrypt_fault : (f : TextFault) → answer_word (scrypt_cause f) ≡ scrypt_word f
of_scrypt_fault of_text.NoDollar = refl
of_scrypt_fault other = refl

of_sha1_fault : (f : Sha1Fault) → answer_word (sha1_cause f) ≡ sha1_word f
of_sha1_fault of_sha1.NoDollar = refl
of_sha1_fault other = refl

of_scram_fault : (f : ScramFault) → answer_word (scram_cause f) ≡ scram_word f
of_scram_fault of_scram.NoDollar = refl
of_scram_fault other = refl

of_phpass_fault : (f : PhpassFault) → answer_word (phpass_cause f) ≡ phpass_word f
of_phpass_fault of_phpass.NoDollar = refl
of_phpass_fault other = refl

of_salted_fault : (f : SaltedFault) → answer_word (salted_cause f) ≡ salted_word f
of_salted_fault of_salted.NoDollar = refl
of_salted_fault other = refl

of_mysql_fault : (f : MysqlFault) → answer_word (mysql_cause f) ≡ mysql_word f
of_mysql_fault of_mysql.WrongId = refl
of_mysql_fault other = refl

pub any_words : (r : Result Bool AnyError) → r ≢ Err (of_any.Stored of_stored.OutOfMemory) → r ≢ Err of_any.TooCostly
    → answer_word (cause_answer r) ≡ any_word r
any_words (Err (of_any.Stored of_stored.OutOfMemory)) known within = absurd (known refl)
any_words (Err (of_any.Bcrypt f)) known within = of_bcrypt_fault f
any_words (Err (of_any.Yescrypt f)) known within = of_yescrypt_fault f
any_words (Err (of_any.Scrypt f)) known within = of_scrypt_fault f
any_words (Err (of_any.Sha1 f)) known within = of_sha1_fault f
any_words (Err (of_any.Scram f)) known within = of_scram_fault f
any_words (Err (of_any.Phpass f)) known within = of_phpass_fault f
any_words (Err (of_any.Salted f)) known within = of_salted_fault f
any_words (Err (of_any.Mysql f)) known within = of_mysql_fault f
any_words (Err of_any.TooCostly) known within = absurd (within refl)
any_words other known within = refl
