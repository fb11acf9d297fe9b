-- The words of verdicts, and of the causes that there is none.
use Rattle.std.specs.Prelude.{ℕ, Bool, true, false, List, [], codes, Result, Ok, Err}
use Rattle.base64ct.specs.declared.errors.Error.TheVariants as of_base64
use Rattle.stored_check.specs.declared.error.StoredError.{StoredError}
use Rattle.stored_check.specs.declared.error.StoredError.TheVariants as of_stored
use Rattle.stored_check.specs.declared.error.McfFault.{McfFault}
use Rattle.stored_check.specs.declared.error.McfFault.TheVariants as of_mcf
use Rattle.stored_check.specs.declared.error.ShaFault.TheVariants as of_sha
use Rattle.stored_check.specs.declared.error.PhcFault.{PhcFault}
use Rattle.stored_check.specs.declared.error.PhcFault.TheVariants as of_phc

-- the word of a fault of the modular crypt format
abbrev pub mcf_word : McfFault → List ℕ
mcf_word of_mcf.DelimiterInvalid = codes "mcf-delimiter"
mcf_word of_mcf.IdentifierInvalid = codes "mcf-identifier"
mcf_word of_mcf.FieldInvalid = codes "mcf-field"
mcf_word of_mcf.EncodingInvalid = codes "mcf-encoding"

-- the word of a fault of a PHC text
abbrev pub phc_word : PhcFault → List ℕ
phc_word of_phc.ParamNameInvalid = codes "phc-name"
phc_word of_phc.ParamValueTooLong = codes "phc-value-long"
phc_word of_phc.ParamValueInvalid = codes "phc-value"
phc_word of_phc.ParamsMaxExceeded = codes "phc-params-long"
phc_word of_phc.SaltTooShort = codes "phc-salt-short"
phc_word of_phc.SaltTooLong = codes "phc-salt-long"
phc_word (of_phc.Base64 of_base64.InvalidEncoding) = codes "phc-b64"
phc_word (of_phc.Base64 of_base64.InvalidLength) = codes "phc-hash-long"
phc_word of_phc.OutputSize = codes "phc-hash-short"
phc_word of_phc.TrailingData = codes "phc-trailing"

-- the word of a verdict, or of the cause that there is none; want of memory has no word
abbrev pub word : Result Bool StoredError → List ℕ
word (Ok true) = codes "match"
word (Ok false) = codes "mismatch"
word (Err of_stored.PasswordTooLong) = codes "password-too-long"
word (Err (of_stored.Mcf fault)) = mcf_word fault
word (Err (of_stored.Sha (of_sha.InvalidFormat fault))) = codes "sha-format"
word (Err (of_stored.Sha of_sha.RoundsError)) = codes "sha-rounds"
word (Err (of_stored.Phc fault)) = phc_word fault
word (Err of_stored.NoHash) = codes "no-hash"
word (Err of_stored.Kdf) = codes "kdf"
word (Err of_stored.OutOfMemory) = []
