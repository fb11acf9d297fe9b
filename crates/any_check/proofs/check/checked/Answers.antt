use Rattle.std.proofs.Common.{rules, ◌≡◌, ◌∙◌, ℕ, List, true, Some, ap, inl, inr}
use Rattle.sha_crypt.specs.declared.errors.Family.TheVariants.{Sha256, Sha512}
use Rattle.scram_plain.specs.Check.{scram_answer}
use Rattle.sha1_crypt.specs.Check.{sha1_answer}
use Rattle.phpass_plain.specs.Check.{phpass_answer}
use Rattle.salted_digest.specs.Check.{salted_answer}
use Rattle.mysql_sha2.specs.Check.{mysql_answer}
use Rattle.any_check.specs.Table.{is_record, of_bcrypt_check, of_mysql, of_phpass, of_salted, of_scram, of_scrypt_check, of_sha1, of_yescrypt_check}
use Rattle.any_check.proofs.Rows.{record_row, sha_row}
use Rattle.any_check.proofs.check.checked.Goals as goal

pub returns-in-Md5Crypt : goal.returns-in-Md5Crypt
returns-in-Md5Crypt g c = rw c.in-Md5Crypt.is (inl c.md5_checked.ensures.answer)

pub returns-in-Bcrypt : goal.returns-in-Bcrypt
returns-in-Bcrypt g c =
    rw (c.in-Bcrypt.is, c.of_bcrypt_check.ensures) (inl (ap of_bcrypt_check c.bcrypt_check.ensures.answer))

pub returns-in-Yescrypt : goal.returns-in-Yescrypt
returns-in-Yescrypt g c =
    rw (c.in-Yescrypt.is, c.of_yescrypt_check.ensures)
    (elim c.yescrypt_check_kept.ensures.answer [
      | inl same ↦ inl (ap of_yescrypt_check same)
      | inr lack ↦ inr (ap of_yescrypt_check lack.0, lack.1)
    ])

pub returns-in-ScryptCrypt : goal.returns-in-ScryptCrypt
returns-in-ScryptCrypt g c =
    rw (c.in-ScryptCrypt.is, c.of_scrypt_check.ensures)
    (elim c.scrypt_check_kept.ensures.answer [
      | inl same ↦ inl (ap of_scrypt_check same)
      | inr lack ↦ inr (ap of_scrypt_check lack.0, lack.1)
    ])

pub returns-in-BcryptDigest : goal.returns-in-BcryptDigest
returns-in-BcryptDigest g c =
    rw (c.in-BcryptDigest.is, c.of_bcrypt_check-in-BcryptDigest.ensures) (inl (ap of_bcrypt_check c.digest_check.ensures.answer))

pub returns-in-Sha1Crypt : goal.returns-in-Sha1Crypt
returns-in-Sha1Crypt g c =
    rw (c.in-Sha1Crypt.is, c.of_sha1.ensures)
    (inl (ap of_sha1
    (c.sha1_check.ensures.answer ∙ ap (λ (p : List ℕ). sha1_answer p c.args.stored.now) c.as_bytes.ensures.value)))

pub returns-in-Scram : goal.returns-in-Scram
returns-in-Scram g c =
    rw (c.in-Scram.is, c.of_scram.ensures)
    (inl (ap of_scram
    (c.scram_check.ensures.answer ∙ ap (λ (p : List ℕ). scram_answer p c.args.stored.now) c.as_bytes-in-Scram.ensures.value)))

pub returns-in-Phpass : goal.returns-in-Phpass
returns-in-Phpass g c =
    rw (c.in-Phpass.is, c.of_phpass.ensures)
    (inl (ap of_phpass
    (c.phpass_check.ensures.answer ∙ ap (λ (p : List ℕ). phpass_answer p c.args.stored.now) c.as_bytes-in-Phpass.ensures.value)))

pub returns-in-SaltedDigest : goal.returns-in-SaltedDigest
returns-in-SaltedDigest g c =
    rw (c.in-SaltedDigest.is, c.of_salted.ensures)
    (inl (ap of_salted
    (c.salted_check.ensures.answer ∙ ap (λ (p : List ℕ). salted_answer p c.args.stored.now) c.as_bytes-in-SaltedDigest.ensures.value)))

pub returns-in-MysqlSha2 : goal.returns-in-MysqlSha2
returns-in-MysqlSha2 g c =
    rw (c.in-MysqlSha2.is, c.of_mysql.ensures)
    (inl (ap of_mysql
    (c.mysql_check.ensures.answer ∙ ap (λ (p : List ℕ). mysql_answer p c.args.stored.now) c.as_bytes-in-MysqlSha2.ensures.value)))

pub returns-in-Sha256Crypt : goal.returns-in-Sha256Crypt
returns-in-Sha256Crypt g c = elim c.in-Sha256Crypt.is [
  | inl is ↦ rw (is, c.of_stored.ensures)
      (sha_row (g.K.PhcKdf.accepted c.args.kdf.now) (g.K.PhcKdf.tag c.args.kdf.now)
      (g.K.PhcKdf.needs_memory c.args.kdf.now) c.args.password.now c.args.stored.now Sha256 (rw is at c.requires.scheme) c.check_stored.result
      c.check_stored.ensures.verdict)
  | inr is ↦ rw (is, c.of_stored.ensures)
      (sha_row (g.K.PhcKdf.accepted c.args.kdf.now) (g.K.PhcKdf.tag c.args.kdf.now)
      (g.K.PhcKdf.needs_memory c.args.kdf.now) c.args.password.now c.args.stored.now Sha512 (rw is at c.requires.scheme) c.check_stored.result
      c.check_stored.ensures.verdict)
]

pub returns-in-Scrypt : goal.returns-in-Scrypt
returns-in-Scrypt g c =
    let of : is_record (Some c.args.scheme) ≡ true = search rules in
    rw c.of_stored-in-Scrypt.ensures
    (record_row (g.K.PhcKdf.accepted c.args.kdf.now) (g.K.PhcKdf.tag c.args.kdf.now)
    (g.K.PhcKdf.needs_memory c.args.kdf.now) c.args.password.now c.args.stored.now c.args.scheme of c.check_stored-in-Scrypt.result
    c.check_stored-in-Scrypt.ensures.verdict)
