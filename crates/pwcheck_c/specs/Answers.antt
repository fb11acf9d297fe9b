-- The answers: the number of each, its word, and what it is the answer to.
use Rattle.std.specs.Prelude.{ℤ, pos, negsuc, ℕ, Bool, true, false, List, [], ◌∷◌, Result, Ok, Err, Option, None, codes}
use Rattle.std.specs.List.{slice_get}
use Rattle.base64ct.specs.declared.errors.Error.TheVariants as of_base64
use Rattle.stored_check.specs.declared.error.McfFault.TheVariants as of_mcf
use Rattle.stored_check.specs.declared.error.PhcFault.TheVariants as of_phc
use Rattle.stored_check.specs.declared.error.ShaFault.TheVariants as of_sha
use Rattle.stored_check.specs.declared.error.ShaFormat.TheVariants as of_format
use Rattle.stored_check.specs.declared.error.StoredError.TheVariants as of_stored
use Rattle.stored_check.specs.Words.{word}
use Rattle.bcrypt_plain.specs.declared.error.BcryptFault.{BcryptFault}
use Rattle.bcrypt_plain.specs.declared.error.BcryptFault.TheVariants as of_bcrypt
use Rattle.yescrypt_plain.specs.declared.error.TextFault.{TextFault}
use Rattle.yescrypt_plain.specs.declared.error.TextFault.TheVariants as of_text
use Rattle.sha1_crypt.specs.declared.error.Sha1Fault.{Sha1Fault}
use Rattle.sha1_crypt.specs.declared.error.Sha1Fault.TheVariants as of_sha1
use Rattle.scram_plain.specs.declared.error.ScramFault.{ScramFault}
use Rattle.scram_plain.specs.declared.error.ScramFault.TheVariants as of_scram
use Rattle.phpass_plain.specs.declared.error.PhpassFault.{PhpassFault}
use Rattle.phpass_plain.specs.declared.error.PhpassFault.TheVariants as of_phpass
use Rattle.salted_digest.specs.declared.error.SaltedFault.{SaltedFault}
use Rattle.salted_digest.specs.declared.error.SaltedFault.TheVariants as of_salted
use Rattle.mysql_sha2.specs.declared.error.MysqlFault.{MysqlFault}
use Rattle.mysql_sha2.specs.declared.error.MysqlFault.TheVariants as of_mysql
use Rattle.any_check.specs.declared.error.AnyError.{AnyError}
use Rattle.any_check.specs.declared.error.AnyError.TheVariants as of_any
use Rattle.pwcheck_c.specs.declared.answer.Answer.{Answer}
use Rattle.pwcheck_c.specs.declared.answer.Answer.TheVariants.{NotText, OtherIdentifier, OverCost, Checked}
use Rattle.pwcheck_c.specs.declared.answer.Answer.TheVariants.{BcryptB64, BcryptCost, BcryptFormat, BcryptObsolete}
use Rattle.pwcheck_c.specs.declared.answer.Answer.TheVariants.{Md5Format, NoScheme, ScryptCost, ScryptFormat, YescryptCost}
use Rattle.pwcheck_c.specs.declared.answer.Answer.TheVariants.{YescryptFlavor, YescryptFormat, ZeroByte}
use Rattle.pwcheck_c.specs.declared.answer.Answer.TheVariants.{NotAscii, ScramB64, ScramCost, ScramFormat, Sha1B64, Sha1Cost, Sha1Format}
use Rattle.pwcheck_c.specs.declared.answer.Answer.TheVariants.{DigestB64, DigestFormat, MysqlB64, MysqlCost, MysqlFormat}
use Rattle.pwcheck_c.specs.declared.answer.Answer.TheVariants.{PhpassB64, PhpassCost, PhpassFormat}

-- ---- numbers

-- the verdicts, the causes of this library's own, and the others in the order in which they are found; what came later
-- goes last
abbrev pub answers : List Answer
answers =
    Checked (Ok true)
    ∷ Checked (Ok false)
    ∷ NotText
    ∷ Checked (Err of_stored.OutOfMemory)
    ∷ Checked (Err of_stored.PasswordTooLong)
    ∷ Checked (Err (of_stored.Mcf of_mcf.DelimiterInvalid))
    ∷ Checked (Err (of_stored.Mcf of_mcf.IdentifierInvalid))
    ∷ Checked (Err (of_stored.Mcf of_mcf.FieldInvalid))
    ∷ Checked (Err (of_stored.Mcf of_mcf.EncodingInvalid))
    ∷ OtherIdentifier
    ∷ Checked (Err (of_stored.Sha (of_sha.InvalidFormat of_format.NoFields)))
    ∷ Checked (Err (of_stored.Sha (of_sha.InvalidFormat of_format.NoSalt)))
    ∷ Checked (Err (of_stored.Sha (of_sha.InvalidFormat of_format.RoundsNotNumber)))
    ∷ Checked (Err (of_stored.Sha (of_sha.InvalidFormat of_format.NoHash)))
    ∷ Checked (Err (of_stored.Sha (of_sha.InvalidFormat of_format.Trailing)))
    ∷ Checked (Err (of_stored.Sha of_sha.RoundsError))
    ∷ Checked (Err (of_stored.Sha (of_sha.InvalidFormat of_format.SaltTooLong)))
    ∷ Checked (Err (of_stored.Sha (of_sha.InvalidFormat of_format.Base64)))
    ∷ Checked (Err (of_stored.Phc of_phc.ParamNameInvalid))
    ∷ Checked (Err (of_stored.Phc of_phc.ParamValueTooLong))
    ∷ Checked (Err (of_stored.Phc of_phc.ParamValueInvalid))
    ∷ Checked (Err (of_stored.Phc of_phc.ParamsMaxExceeded))
    ∷ Checked (Err (of_stored.Phc of_phc.SaltTooShort))
    ∷ Checked (Err (of_stored.Phc of_phc.SaltTooLong))
    ∷ Checked (Err (of_stored.Phc (of_phc.Base64 of_base64.InvalidEncoding)))
    ∷ Checked (Err (of_stored.Phc (of_phc.Base64 of_base64.InvalidLength)))
    ∷ Checked (Err (of_stored.Phc of_phc.OutputSize))
    ∷ Checked (Err (of_stored.Phc of_phc.TrailingData))
    ∷ Checked (Err of_stored.NoHash)
    ∷ Checked (Err of_stored.Kdf)
    ∷ OverCost
    ∷ NoScheme
    ∷ Md5Format
    ∷ BcryptObsolete
    ∷ BcryptCost
    ∷ BcryptB64
    ∷ BcryptFormat
    ∷ YescryptFlavor
    ∷ YescryptCost
    ∷ YescryptFormat
    ∷ ScryptCost
    ∷ ScryptFormat
    ∷ ZeroByte
    ∷ Sha1Cost
    ∷ Sha1B64
    ∷ Sha1Format
    ∷ ScramCost
    ∷ ScramB64
    ∷ ScramFormat
    ∷ NotAscii
    ∷ PhpassCost
    ∷ PhpassB64
    ∷ PhpassFormat
    ∷ DigestB64
    ∷ DigestFormat
    ∷ MysqlCost
    ∷ MysqlB64
    ∷ MysqlFormat
    ∷ []

-- the answer of a number, if it is one's
abbrev pub answer_of : ℤ → Option Answer
answer_of (pos n) = slice_get answers n
answer_of (negsuc n) = None

-- ---- words: those of verdicts, four of this library's own, and those of `any_check`'s further causes

-- the word of an answer; that of a verdict or a fault is the word of `pwcheck check`
abbrev pub answer_word : Answer → List ℕ
answer_word NotText = codes "not-utf8"
answer_word OtherIdentifier = codes "sha-identifier"
answer_word OverCost = codes "over-cost"
answer_word NoScheme = codes "no-scheme"
answer_word Md5Format = codes "md5-format"
answer_word BcryptObsolete = codes "bcrypt-obsolete"
answer_word BcryptCost = codes "bcrypt-cost"
answer_word BcryptB64 = codes "bcrypt-b64"
answer_word BcryptFormat = codes "bcrypt-format"
answer_word YescryptFlavor = codes "yescrypt-flavor"
answer_word YescryptCost = codes "yescrypt-cost"
answer_word YescryptFormat = codes "yescrypt-format"
answer_word ScryptCost = codes "scrypt-cost"
answer_word ScryptFormat = codes "scrypt-format"
answer_word ZeroByte = codes "zero-byte"
answer_word Sha1Cost = codes "sha1-cost"
answer_word Sha1B64 = codes "sha1-b64"
answer_word Sha1Format = codes "sha1-format"
answer_word ScramCost = codes "scram-cost"
answer_word ScramB64 = codes "scram-b64"
answer_word ScramFormat = codes "scram-format"
answer_word NotAscii = codes "not-ascii"
answer_word PhpassCost = codes "phpass-cost"
answer_word PhpassB64 = codes "phpass-b64"
answer_word PhpassFormat = codes "phpass-format"
answer_word DigestB64 = codes "digest-b64"
answer_word DigestFormat = codes "digest-format"
answer_word MysqlCost = codes "mysql-cost"
answer_word MysqlB64 = codes "mysql-b64"
answer_word MysqlFormat = codes "mysql-format"
answer_word (Checked (Err of_stored.OutOfMemory)) = codes "no-memory"
answer_word (Checked verdict) = word verdict

-- ---- causes: one answer for those that have one word

-- a fault of a text of bcrypt; the last line is for the faults of its form
abbrev pub bcrypt_cause : BcryptFault → Answer
bcrypt_cause of_bcrypt.Obsolete = BcryptObsolete
bcrypt_cause of_bcrypt.Cost = BcryptCost
bcrypt_cause of_bcrypt.Character = BcryptB64
bcrypt_cause of_bcrypt.SpareBits = BcryptB64
bcrypt_cause fault = BcryptFormat

-- a fault of a text `$y$`; the last line is for the faults of its form
abbrev pub yescrypt_cause : TextFault → Answer
yescrypt_cause of_text.Flavor = YescryptFlavor
yescrypt_cause of_text.Parallelism = YescryptCost
yescrypt_cause of_text.Upgrades = YescryptCost
yescrypt_cause of_text.Rom = YescryptCost
yescrypt_cause of_text.Memory = YescryptCost
yescrypt_cause of_text.Cost = YescryptCost
yescrypt_cause fault = YescryptFormat

-- a fault of a text `$7$`; the last line is for the faults of its form
abbrev pub scrypt_cause : TextFault → Answer
scrypt_cause of_text.Memory = ScryptCost
scrypt_cause of_text.Cost = ScryptCost
scrypt_cause fault = ScryptFormat

-- a fault of a text of sha1-crypt; the last line is for the faults of its form
abbrev pub sha1_cause : Sha1Fault → Answer
sha1_cause of_sha1.Rounds = Sha1Cost
sha1_cause of_sha1.HashCharacter = Sha1B64
sha1_cause of_sha1.FirstByte = Sha1B64
sha1_cause fault = Sha1Format

-- a fault of a text of SCRAM, or of its password; the last line is for the faults of the text's form
abbrev pub scram_cause : ScramFault → Answer
scram_cause of_scram.Rounds = ScramCost
scram_cause of_scram.SaltEncoding = ScramB64
scram_cause of_scram.StoredKeyEncoding = ScramB64
scram_cause of_scram.ServerKeyEncoding = ScramB64
scram_cause of_scram.NotAscii = NotAscii
scram_cause fault = ScramFormat

-- a fault of a text of phpass; the last line is for the faults of its form
abbrev pub phpass_cause : PhpassFault → Answer
phpass_cause of_phpass.Cost = PhpassCost
phpass_cause of_phpass.HashCharacter = PhpassB64
phpass_cause of_phpass.SpareBits = PhpassB64
phpass_cause fault = PhpassFormat

-- a fault of a text of a salted digest; the last line is for the faults of its form
abbrev pub salted_cause : SaltedFault → Answer
salted_cause of_salted.SaltEncoding = DigestB64
salted_cause of_salted.HashEncoding = DigestB64
salted_cause fault = DigestFormat

-- a fault of a text of MySQL; the last line is for the faults of its form
abbrev pub mysql_cause : MysqlFault → Answer
mysql_cause of_mysql.Rounds = MysqlCost
mysql_cause of_mysql.HashField = MysqlB64
mysql_cause fault = MysqlFormat

-- what `check_any` answers; the verdicts and the causes of `check_stored` keep their numbers
abbrev pub cause_answer : Result Bool AnyError → Answer
cause_answer (Ok b) = Checked (Ok b)
cause_answer (Err (of_any.Stored e)) = Checked (Err e)
cause_answer (Err of_any.NoScheme) = NoScheme
cause_answer (Err (of_any.Md5 fault)) = Md5Format
cause_answer (Err (of_any.Bcrypt fault)) = bcrypt_cause fault
cause_answer (Err (of_any.Yescrypt fault)) = yescrypt_cause fault
cause_answer (Err (of_any.Scrypt fault)) = scrypt_cause fault
cause_answer (Err (of_any.Sha1 fault)) = sha1_cause fault
cause_answer (Err (of_any.Scram fault)) = scram_cause fault
cause_answer (Err (of_any.Phpass fault)) = phpass_cause fault
cause_answer (Err (of_any.Salted fault)) = salted_cause fault
cause_answer (Err (of_any.Mysql fault)) = mysql_cause fault
cause_answer (Err of_any.ZeroByte) = ZeroByte
cause_answer (Err of_any.TooCostly) = OverCost
