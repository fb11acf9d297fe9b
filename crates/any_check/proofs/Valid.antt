-- A text has a verdict exactly where it has no fault.
use Rattle.std.proofs.Common.{◌≡◌, ℕ, ◌≤◌, Bool, true, false, List, [], length, refl, sym, ap, subst, ◌∙◌, arith, Option, Some, None}
use Rattle.std.proofs.Common.{Result, Ok, Err}
use Rattle.std.specs.Prelude.{is_ok, not, if◌then◌else◌}
use Rattle.std.specs.Char.{is_ascii}
use Rattle.std.specs.List.{list_all}
use Rattle.std.specs.Option.{option_map}
use Rattle.mcf.specs.Grammar as mcf_parts
use Rattle.mcf.specs.Grammar.{fault, mcf, parts}
use Rattle.mcf.specs.declared.error.Error as mcf_error
use Rattle.mcf.proofs.ValidTexts.{pieces_of_valid}
use Rattle.md5_plain.specs.Verdict.{Md5Fields, fields_verdict, magic_of, md5_fields, md5_verdict}
use Rattle.md5_plain.specs.declared.error.Md5Fault.{Md5Fault}
use Rattle.md5_plain.specs.declared.magic.Magic.{Magic}
use Rattle.phc.specs.Record.{phc, phc_text}
use Rattle.phc.specs.declared.error.Error as phc_error
use Rattle.phc.specs.declared.password_hash.PasswordHash.{PasswordHash}
use Rattle.sha_crypt.specs.Check.{text_fields}
use Rattle.sha_crypt.specs.Families.{Scheme, scheme_fields}
use Rattle.sha_crypt.specs.Fields.{ShaFields}
use Rattle.sha_crypt.specs.Records.{family_id, family_scheme, record_of}
use Rattle.sha_crypt.specs.declared.errors.CheckError.{CheckError}
use Rattle.sha_crypt.specs.declared.errors.Family.{Family}
use Rattle.stored_check.proofs.Causes.{fits}
use Rattle.stored_check.specs.Verdict as stored_verdict
use Rattle.stored_check.specs.Verdict.{key_answer, named_family, phc_answer, same_text, scheme_of, sha_answer, verdict}
use Rattle.stored_check.specs.declared.error.StoredError.{StoredError}
use Rattle.bcrypt_plain.specs.Check.{bcrypt_answer, has_zero, hash_matches, is_verdict, parts_answer}
use Rattle.bcrypt_plain.specs.Text.{Parts, parts_cost, text_parts}
use Rattle.bcrypt_digest.specs.Check.{digest_answer, digest_cost}
use Rattle.bcrypt_digest.proofs.Answers.{verdict_where_cost}
use Rattle.sha1_crypt.specs.Check.{sha1_answer}
use Rattle.sha1_crypt.specs.Text as sha1_text
use Rattle.sha1_crypt.specs.declared.error.Sha1Fault.{Sha1Fault}
use Rattle.sha1_crypt.proofs.Answers.{verdict_where_rounds}
use Rattle.scram_plain.specs.Check.{scram_answer}
use Rattle.scram_plain.specs.Text as scram_text
use Rattle.scram_plain.specs.declared.error.ScramFault.{ScramFault}
use Rattle.scram_plain.proofs.Answers as scram_laws
use Rattle.phpass_plain.specs.Check.{phpass_answer}
use Rattle.phpass_plain.specs.Text as phpass_text
use Rattle.phpass_plain.specs.declared.error.PhpassFault.{PhpassFault}
use Rattle.phpass_plain.proofs.Answers.{verdict_where_found}
use Rattle.salted_digest.specs.Check.{salted_answer}
use Rattle.salted_digest.specs.Text.{text_hash}
use Rattle.salted_digest.specs.declared.hash.DigestHash.{DigestHash}
use Rattle.salted_digest.specs.declared.error.SaltedFault.{SaltedFault}
use Rattle.salted_digest.proofs.Answers.{verdict_where_hash}
use Rattle.mysql_sha2.specs.Check.{mysql_answer}
use Rattle.mysql_sha2.specs.Text as mysql_text
use Rattle.mysql_sha2.specs.declared.error.MysqlFault.{MysqlFault}
use Rattle.mysql_sha2.proofs.Answers as mysql_laws
use Rattle.bcrypt_plain.specs.declared.error.BcryptError.{BcryptError}
use Rattle.bcrypt_plain.specs.declared.error.BcryptError.TheVariants.{HashMismatch, InvalidFormat, ZeroByte}
use Rattle.bcrypt_plain.specs.declared.error.BcryptFault.{BcryptFault}
use Rattle.yescrypt_plain.specs.Check.{scrypt_answer, scrypt_matches, scrypt_verdict, yescrypt_answer, yescrypt_matches}
use Rattle.yescrypt_plain.specs.Check.{yescrypt_verdict}
use Rattle.yescrypt_plain.specs.Text.{ScryptMeaning, YescryptMeaning, scrypt_meaning_costs, scrypt_text, yescrypt_meaning_costs}
use Rattle.yescrypt_plain.specs.Text.{yescrypt_text}
use Rattle.yescrypt_plain.specs.declared.error.CheckError.TheVariants as of_crypt
use Rattle.yescrypt_plain.specs.declared.error.TextFault.{TextFault}
use Rattle.any_check.specs.Cost.{is_costly, kind_costs}
use Rattle.any_check.specs.Kinds.{asks, bcrypt_kind, is_valid, kind_by, md5_by_magic, md5_kind, phc_kind, record_costs, salted_kind}
use Rattle.any_check.specs.Kinds.{digest_text_kind, mysql_kind, phpass_kind, scram_kind, scrypt_kind, sha1_kind, sha_kind, text_kind, yescrypt_kind}
use Rattle.any_check.specs.Numbers.{no_costs}
use Rattle.any_check.specs.Laws.{CostlyIsValid, ValidIsVerdict, ValidIsVerdictOnSome, hashes}
use Rattle.any_check.specs.Table.{any_verdict, identifier, is_record, md5_answer, md5_by, of_bcrypt_check, of_md5, of_scram, of_sha1, of_scrypt_check}
use Rattle.any_check.specs.Table.{of_mysql, of_phpass, of_salted, of_stored, of_yescrypt_check, scheme_answer, sha_scheme, text_scheme}
use Rattle.any_check.specs.declared.error.AnyError.{AnyError}
use Rattle.any_check.specs.declared.kinds.TextKind.{TextKind}
use Rattle.any_check.specs.declared.kinds.TextKind.TheVariants.{Invalid, NoScheme, Valid}
use Rattle.any_check.specs.declared.numbers.SchemeCosts.{SchemeCosts}
use Rattle.scheme_list.specs.Schemes.{row_of, scheme_named}
use Rattle.scheme_list.specs.declared.schemes.Scheme.{Scheme as StoredScheme}
use Rattle.scheme_list.specs.declared.schemes.Scheme.TheVariants.{Argon2d, Argon2i, Argon2id, Bcrypt, BcryptDigest, Md5Crypt}
use Rattle.scheme_list.specs.declared.schemes.Scheme.TheVariants.{Pbkdf2Sha256, Pbkdf2Sha512, Scrypt, ScryptCrypt, Sha256Crypt, Sha512Crypt}
use Rattle.scheme_list.specs.declared.schemes.Scheme.TheVariants.{MysqlSha2, Pbkdf2Sha1, Phpass, SaltedDigest, Scram, Sha1Crypt, Yescrypt}
use Rattle.sha_crypt.specs.declared.errors.Family.TheVariants.{Sha256, Sha512}
use Rattle.any_check.proofs.Bound.{mcf_of_fault, mcf_of_valid}
use Rattle.any_check.proofs.Families.{family_if_sha, no_family, sha_same}

-- an answer and a kind agree
abbrev Agree : {A E : Type 0} → Result A E → TextKind → Type 0
Agree r k = is_ok r ≡ is_valid k

stored_agree : (r : Result Bool StoredError) (k : TextKind) → Agree r k → Agree (of_stored r) k
stored_agree (Ok b) k h = h
stored_agree (Err e) k h = h

by_taken : (t x : Bool) (k : TextKind) (e : StoredError) → is_valid k ≡ true
    → Agree (if t then Ok x else Err e) (if t then k else Invalid)
by_taken true x k e h = sym h
by_taken false x k e h = refl

-- ---- md5-crypt

md5_fields_agree : (magic : Magic) (password : List ℕ) (r : Result Md5Fields Md5Fault)
    → Agree (of_md5 (fields_verdict magic password r)) (if is_ok r then asks Md5Crypt no_costs else Invalid)
md5_fields_agree magic password (Ok f) = refl
md5_fields_agree magic password (Err e) = refl

md5_magic_agree : (password : List ℕ) (o : Option Magic) (p : mcf_parts.Parts)
    → Agree (md5_by o password p) (md5_by_magic o p.fields)
unfolding md5_verdict
md5_magic_agree password None p = refl
md5_magic_agree password (Some magic) p = md5_fields_agree magic password (md5_fields p.fields)

md5_agree : (password : List ℕ) (r : Result mcf_parts.Parts mcf_error.Error) → Agree (md5_answer password r) (md5_kind r)
md5_agree password (Err e) = refl
md5_agree password (Ok p) = md5_magic_agree password (magic_of p.id) p

-- ---- SHA-crypt

sha_agree : (s : Scheme) (family : Family) (password : List ℕ) (r : Result ShaFields CheckError)
    → Agree (sha_answer s password r) (sha_kind family r)
sha_agree s family password (Ok f) = refl
sha_agree s family password (Err e) = refl

-- ---- bcrypt, whose verdict wants a password without a zero byte

by_match : (b : Bool) → is_ok (of_bcrypt_check (if b then Ok tt else Err HashMismatch)) ≡ true
by_match true = refl
by_match false = refl

bcrypt_agree : (password : List ℕ) → has_zero password ≡ false → (r : Result Parts BcryptFault)
    → Agree (of_bcrypt_check (parts_answer password r)) (bcrypt_kind Bcrypt (parts_cost r))
bcrypt_agree password zero (Err e) = refl
bcrypt_agree password zero (Ok p) = rw zero (by_match (hash_matches password p))

bcrypt_valid : (password : List ℕ) (r : Result Parts BcryptFault) → is_ok (of_bcrypt_check (parts_answer password r)) ≡ true
    → is_valid (bcrypt_kind Bcrypt (parts_cost r)) ≡ true
bcrypt_valid password (Err e) h = h
bcrypt_valid password (Ok p) h = refl

-- ---- bcrypt of a digest, which has a verdict on every password

compared : (r : Result (Unit {0}) BcryptError) → is_ok (of_bcrypt_check r) ≡ is_verdict r
compared (Ok done) = refl
compared (Err HashMismatch) = refl
compared (Err ZeroByte) = refl
compared (Err (InvalidFormat e)) = refl

costed : (r : Result ℕ BcryptFault) → is_ok r ≡ is_valid (bcrypt_kind BcryptDigest r)
costed (Err e) = refl
costed (Ok cost) = refl

digest_agree : (password stored : List ℕ)
    → Agree (of_bcrypt_check (digest_answer password stored)) (bcrypt_kind BcryptDigest (digest_cost stored))
digest_agree password stored =
    compared (digest_answer password stored) ∙ verdict_where_cost password stored ∙ costed (digest_cost stored)

-- ---- sha1-crypt

sha1_compared : (r : Result Bool Sha1Fault) → is_ok (of_sha1 r) ≡ is_ok r
sha1_compared (Err e) = refl
sha1_compared (Ok b) = refl

sha1_costed : (r : Result ℕ Sha1Fault) → is_ok r ≡ is_valid (sha1_kind r)
sha1_costed (Err e) = refl
sha1_costed (Ok rounds) = refl

sha1_agree : (password stored : List ℕ) → Agree (of_sha1 (sha1_answer password stored)) (sha1_kind (sha1_text.text_cost stored))
sha1_agree password stored =
    sha1_compared (sha1_answer password stored) ∙ verdict_where_rounds password stored ∙ sha1_costed (sha1_text.text_cost stored)

turned : (b : Bool) → not b ≡ true → b ≡ false
turned true h = absurd (cc)
turned false h = refl

-- ---- SCRAM, whose texts of prepared passwords have a verdict on ASCII alone

scram_compared : (r : Result Bool ScramFault) → is_ok (of_scram r) ≡ is_ok r
scram_compared (Err e) = refl
scram_compared (Ok b) = refl

scram_costed : (r : Result ℕ ScramFault) → is_ok r ≡ is_valid (scram_kind r)
scram_costed (Err e) = refl
scram_costed (Ok rounds) = refl

scram_valid : (password stored : List ℕ) → is_ok (of_scram (scram_answer password stored)) ≡ true
    → is_valid (scram_kind (scram_text.text_cost stored)) ≡ true
scram_valid password stored h =
    sym (scram_costed (scram_text.text_cost stored))
    ∙ scram_laws.rounds_where_verdict password stored (sym (scram_compared (scram_answer password stored)) ∙ h)

scram_agree : (password stored : List ℕ) → list_all is_ascii password ≡ true
    → Agree (of_scram (scram_answer password stored)) (scram_kind (scram_text.text_cost stored))
scram_agree password stored ascii =
    scram_compared (scram_answer password stored) ∙ scram_laws.verdict_on_ascii password stored ascii
    ∙ scram_costed (scram_text.text_cost stored)

-- ---- phpass

phpass_compared : (r : Result Bool PhpassFault) → is_ok (of_phpass r) ≡ is_ok r
phpass_compared (Err e) = refl
phpass_compared (Ok b) = refl

phpass_costed : (r : Result ℕ PhpassFault) → is_ok r ≡ is_valid (phpass_kind r)
phpass_costed (Err e) = refl
phpass_costed (Ok cost) = refl

phpass_agree : (password stored : List ℕ)
    → Agree (of_phpass (phpass_answer password stored)) (phpass_kind (phpass_text.text_cost stored))
phpass_agree password stored =
    phpass_compared (phpass_answer password stored) ∙ verdict_where_found password stored
    ∙ phpass_costed (phpass_text.text_cost stored)

-- ---- MySQL

mysql_compared : (r : Result Bool MysqlFault) → is_ok (of_mysql r) ≡ is_ok r
mysql_compared (Err e) = refl
mysql_compared (Ok b) = refl

mysql_costed : (r : Result ℕ MysqlFault) → is_ok r ≡ is_valid (mysql_kind r)
mysql_costed (Err e) = refl
mysql_costed (Ok rounds) = refl

mysql_agree : (password stored : List ℕ)
    → Agree (of_mysql (mysql_answer password stored)) (mysql_kind (mysql_text.text_cost stored))
mysql_agree password stored =
    mysql_compared (mysql_answer password stored) ∙ mysql_laws.verdict_where_thousands password stored
    ∙ mysql_costed (mysql_text.text_cost stored)

-- ---- salted digests

salted_compared : (r : Result Bool SaltedFault) → is_ok (of_salted r) ≡ is_ok r
salted_compared (Err e) = refl
salted_compared (Ok b) = refl

salted_costed : (r : Result DigestHash SaltedFault) → is_ok r ≡ is_valid (digest_text_kind r)
salted_costed (Err e) = refl
salted_costed (Ok hash) = refl

salted_agree : (password stored : List ℕ)
    → Agree (of_salted (salted_answer password stored)) (digest_text_kind (text_hash stored))
salted_agree password stored =
    salted_compared (salted_answer password stored) ∙ verdict_where_hash password stored ∙ salted_costed (text_hash stored)

-- ---- yescrypt and scrypt in crypt's own form

by_yescrypt_match : (b : Bool) → is_ok (of_yescrypt_check (if b then Ok tt else Err of_crypt.HashMismatch)) ≡ true
by_yescrypt_match true = refl
by_yescrypt_match false = refl

by_scrypt_match : (b : Bool) → is_ok (of_scrypt_check (if b then Ok tt else Err of_crypt.HashMismatch)) ≡ true
by_scrypt_match true = refl
by_scrypt_match false = refl

yescrypt_agree : (password : List ℕ) → length password ≤ 4096 → (r : Result YescryptMeaning TextFault)
    → Agree (of_yescrypt_check (yescrypt_verdict password r)) (yescrypt_kind (yescrypt_meaning_costs r))
yescrypt_agree password short (Err e) = refl
yescrypt_agree password short (Ok m) = rw (fits password short) (by_yescrypt_match (yescrypt_matches password m))

scrypt_agree : (password : List ℕ) → length password ≤ 4096 → (r : Result ScryptMeaning TextFault)
    → Agree (of_scrypt_check (scrypt_verdict password r)) (scrypt_kind (scrypt_meaning_costs r))
scrypt_agree password short (Err e) = refl
scrypt_agree password short (Ok m) = rw (fits password short) (by_scrypt_match (scrypt_matches password m))

-- ---- records, and the table

module _ (accepted : PasswordHash → List ℕ → ℕ → Bool) (tag : List ℕ → PasswordHash → List ℕ → ℕ → List ℕ)
    (password : List ℕ) where
  key_agree : (s : StoredScheme) (r : PasswordHash) (salt hash : Option (List ℕ))
      → Agree (key_answer accepted tag password r salt hash) (salted_kind accepted s r salt hash)
  key_agree s r None hash = refl
  key_agree s r (Some salt) None = refl
  key_agree s r (Some salt) (Some hash) =
      by_taken (accepted r salt (length hash)) _ (asks s (record_costs (row_of s).family r)) _ refl

  phc_agree : (s : StoredScheme) (r : Result PasswordHash phc_error.Error)
      → Agree (phc_answer accepted tag password r) (phc_kind accepted s r)
  phc_agree s (Err e) = refl
  phc_agree s (Ok r) = key_agree s r r.salt r.hash

  module _ (stored : List ℕ) (short : length password ≤ 4096) where
    -- a text that is none in the modular crypt format
    bad_verdict : (e : mcf_error.Error) → fault stored ≡ Some e → is_ok (verdict accepted tag password stored) ≡ false
    unfolding verdict mcf
    bad_verdict e bad = rw (fits password short, bad) refl

    bad_agree : (e : mcf_error.Error) → fault stored ≡ Some e → (k : TextKind)
        → Agree (verdict accepted tag password stored) (if is_ok (mcf stored) then k else Invalid)
    bad_agree e bad k = rw (mcf_of_fault stored e bad) (bad_verdict e bad)

    module _ (valid : fault stored ≡ None) where
      phc_is : phc_text stored ≡ phc (parts stored).id (parts stored).fields
      unfolding phc_text
      phc_is = rw (pieces_of_valid stored valid) refl

      verdict_by : (o : Option Scheme) → scheme_of (parts stored).id ≡ o
          → verdict accepted tag password stored ≡ stored_verdict.parts_answer accepted tag password o (parts stored)
      unfolding verdict mcf
      verdict_by o is = rw (fits password short, valid, is) refl

      sha_read : (family : Family) → same_text (parts stored).id (family_id family) ≡ true
          → record_of family stored ≡ scheme_fields (family_scheme family) (parts stored).fields
      unfolding text_fields
      sha_read family same = rw (pieces_of_valid stored valid, same) refl

      sha_valid : (family : Family) → text_scheme stored ≡ Some (sha_scheme family)
          → Agree (verdict accepted tag password stored) (if is_ok (mcf stored) then sha_kind family (record_of family stored) else Invalid)
      sha_valid family is =
          rw (
            mcf_of_valid stored valid,
            sha_read family (sha_same stored family is),
            verdict_by (Some (family_scheme family)) (ap (option_map family_scheme) (family_if_sha stored family is)),
          )
          (sha_agree (family_scheme family) family password (scheme_fields (family_scheme family) (parts stored).fields))

      record_valid : (s : StoredScheme) → named_family (identifier stored) ≡ None
          → Agree (verdict accepted tag password stored) (if is_ok (mcf stored) then phc_kind accepted s (phc_text stored) else Invalid)
      record_valid s none =
          rw (mcf_of_valid stored valid, phc_is, verdict_by None (ap (option_map family_scheme) none))
          (phc_agree s (phc (parts stored).id (parts stored).fields))

    sha_by_fault : (o : Option mcf_error.Error) → fault stored ≡ o → (family : Family)
        → text_scheme stored ≡ Some (sha_scheme family)
        → Agree (verdict accepted tag password stored) (if is_ok (mcf stored) then sha_kind family (record_of family stored) else Invalid)
    sha_by_fault None valid family is = sha_valid valid family is
    sha_by_fault (Some e) bad family is = bad_agree e bad (sha_kind family (record_of family stored))

    record_by_fault : (o : Option mcf_error.Error) → fault stored ≡ o → (s : StoredScheme)
        → named_family (identifier stored) ≡ None
        → Agree (verdict accepted tag password stored) (if is_ok (mcf stored) then phc_kind accepted s (phc_text stored) else Invalid)
    record_by_fault None valid s none = record_valid valid s none
    record_by_fault (Some e) bad s none = bad_agree e bad (phc_kind accepted s (phc_text stored))

    sha_row : (family : Family) → text_scheme stored ≡ Some (sha_scheme family)
        → Agree (of_stored (verdict accepted tag password stored))
        (if is_ok (mcf stored) then sha_kind family (record_of family stored) else Invalid)
    sha_row family is =
        stored_agree (verdict accepted tag password stored) _ (sha_by_fault (fault stored) refl family is)

    record_named : (s : StoredScheme) → is_record (Some s) ≡ true → text_scheme stored ≡ Some s
        → is_record (scheme_named (identifier stored)) ≡ true
    unfolding text_scheme
    record_named s of is = ap is_record is ∙ of

    record_row : (s : StoredScheme) → is_record (Some s) ≡ true → text_scheme stored ≡ Some s
        → Agree (of_stored (verdict accepted tag password stored))
        (if is_ok (mcf stored) then phc_kind accepted s (phc_text stored) else Invalid)
    record_row s of is =
        stored_agree (verdict accepted tag password stored) _
        (record_by_fault (fault stored) refl s (no_family (identifier stored) (record_named s of is)))

    -- ---- the rows: each kind of what has a verdict is valid, and the other way round on a password that the scheme hashes

    abbrev Told : Option StoredScheme → Bool → Bool → Type 0
    Told o verdict valid = (verdict ≡ true → valid ≡ true) × (hashes o password ≡ true → verdict ≡ valid)

    no_zero : not (has_zero password) ≡ true → has_zero password ≡ false
    no_zero = turned (has_zero password)

    both : (o : Option StoredScheme) (a b : Bool) → a ≡ b → Told o a b
    both o a b same = (λ h. sym same ∙ h, λ hashed. same)

    by_row : (o : Option StoredScheme) → text_scheme stored ≡ o
        → Told o (is_ok (scheme_answer accepted tag o password stored)) (is_valid (kind_by accepted o stored))
    unfolding bcrypt_answer yescrypt_answer scrypt_answer
    by_row None is = both None _ _ refl
    by_row (Some Md5Crypt) is = both (Some Md5Crypt) _ _ (md5_agree password (mcf stored))
    by_row (Some Sha256Crypt) is = both (Some Sha256Crypt) _ _ (sha_row Sha256 is)
    by_row (Some Sha512Crypt) is = both (Some Sha512Crypt) _ _ (sha_row Sha512 is)
    by_row (Some Bcrypt) is =
        (bcrypt_valid password (text_parts stored), λ hashed. bcrypt_agree password (no_zero hashed) (text_parts stored))
    by_row (Some Yescrypt) is = both (Some Yescrypt) _ _ (yescrypt_agree password short (yescrypt_text stored))
    by_row (Some ScryptCrypt) is = both (Some ScryptCrypt) _ _ (scrypt_agree password short (scrypt_text stored))
    by_row (Some BcryptDigest) is = both (Some BcryptDigest) _ _ (digest_agree password stored)
    by_row (Some Sha1Crypt) is = both (Some Sha1Crypt) _ _ (sha1_agree password stored)
    by_row (Some Scram) is = (scram_valid password stored, λ hashed. scram_agree password stored hashed)
    by_row (Some Phpass) is = both (Some Phpass) _ _ (phpass_agree password stored)
    by_row (Some SaltedDigest) is = both (Some SaltedDigest) _ _ (salted_agree password stored)
    by_row (Some MysqlSha2) is = both (Some MysqlSha2) _ _ (mysql_agree password stored)
    by_row (Some Scrypt) is = both (Some Scrypt) _ _ (record_row Scrypt refl is)
    by_row (Some Pbkdf2Sha256) is = both (Some Pbkdf2Sha256) _ _ (record_row Pbkdf2Sha256 refl is)
    by_row (Some Pbkdf2Sha512) is = both (Some Pbkdf2Sha512) _ _ (record_row Pbkdf2Sha512 refl is)
    by_row (Some Pbkdf2Sha1) is = both (Some Pbkdf2Sha1) _ _ (record_row Pbkdf2Sha1 refl is)
    by_row (Some Argon2d) is = both (Some Argon2d) _ _ (record_row Argon2d refl is)
    by_row (Some Argon2i) is = both (Some Argon2i) _ _ (record_row Argon2i refl is)
    by_row (Some Argon2id) is = both (Some Argon2id) _ _ (record_row Argon2id refl is)

    verdict_is : any_verdict accepted tag password stored ≡ scheme_answer accepted tag (text_scheme stored) password stored
    unfolding any_verdict
    verdict_is = rw (fits password short) refl

    kind_is : text_kind accepted stored ≡ kind_by accepted (text_scheme stored) stored
    unfolding text_kind
    kind_is = refl

    by_scheme : Told (text_scheme stored) (is_ok (any_verdict accepted tag password stored)) (is_valid (text_kind accepted stored))
    by_scheme =
        subst (λ (r : Result Bool AnyError). Told (text_scheme stored) (is_ok r) (is_valid (text_kind accepted stored))) (sym verdict_is)
        (subst (λ (k : TextKind). Told (text_scheme stored) (is_ok (scheme_answer accepted tag (text_scheme stored) password stored)) (is_valid k))
        (sym kind_is) (by_row (text_scheme stored) refl))

-- ---- the laws

pub valid_is_verdict : ValidIsVerdict
valid_is_verdict accepted tag password stored short hashed = (by_scheme accepted tag password stored short).1 hashed

-- no bytes, as a password
abbrev nothing : List ℕ
nothing = []

nothing_short : length nothing ≤ 4096
nothing_short = omega arith

hashes_nothing : (o : Option StoredScheme) → hashes o nothing ≡ true
hashes_nothing None = refl
hashes_nothing (Some Md5Crypt) = refl
hashes_nothing (Some Bcrypt) = refl
hashes_nothing (Some Scram) = refl
hashes_nothing other = refl

pub valid_on_some : ValidIsVerdictOnSome
valid_on_some accepted tag stored = (
  λ valid. (
    nothing,
    nothing_short,
    valid_is_verdict accepted tag nothing stored nothing_short (hashes_nothing (text_scheme stored)) ∙ valid,
  ),
  λ on. (by_scheme accepted tag on.0 stored on.1).0 on.2,
)

-- a text that costs too much has no fault
costly_kind : (limits : SchemeCosts) (k : TextKind) → kind_costs limits k ≡ true → is_valid k ≡ true
costly_kind limits NoScheme h = h
costly_kind limits Invalid h = h
costly_kind limits (Valid text) h = refl

costly_valid : (accepted : PasswordHash → List ℕ → ℕ → Bool) (limits : SchemeCosts) (stored : List ℕ)
    → is_costly accepted limits stored ≡ true → is_valid (text_kind accepted stored) ≡ true
unfolding is_costly
costly_valid accepted limits stored h = costly_kind limits (text_kind accepted stored) h

pub costly_is_valid : CostlyIsValid
costly_is_valid accepted tag limits password stored short hashed costly =
    valid_is_verdict accepted tag password stored short hashed ∙ costly_valid accepted limits stored costly
