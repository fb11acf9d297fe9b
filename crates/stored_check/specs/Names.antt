-- The faults that the names of causes stand for.
use Rattle.std.specs.declared.cmp.Ordering.TheVariants.{Less}
use Rattle.mcf.specs.declared.error.Error as mcf_error
use Rattle.mcf.specs.declared.error.Error.TheVariants as mcf_fault
use Rattle.phc.specs.Limits.{output_min}
use Rattle.phc.specs.declared.error.Error as phc_error
use Rattle.phc.specs.declared.error.Error.TheVariants as phc_fault
use Rattle.sha_crypt.specs.declared.errors.CheckError.{CheckError}
use Rattle.sha_crypt.specs.declared.errors.CheckError.TheVariants.{InvalidFormat, Crypt}
use Rattle.sha_crypt.specs.declared.errors.CryptError.TheVariants.{RoundsError}
use Rattle.sha_crypt.specs.declared.errors.FormatFault.{FormatFault}
use Rattle.sha_crypt.specs.declared.errors.FormatFault.TheVariants as sha_format
use Rattle.stored_check.specs.declared.error.McfFault.{McfFault}
use Rattle.stored_check.specs.declared.error.McfFault.TheVariants as of_mcf
use Rattle.stored_check.specs.declared.error.ShaFault.{ShaFault}
use Rattle.stored_check.specs.declared.error.ShaFault.TheVariants as of_sha
use Rattle.stored_check.specs.declared.error.ShaFormat.{ShaFormat}
use Rattle.stored_check.specs.declared.error.ShaFormat.TheVariants as of_format
use Rattle.stored_check.specs.declared.error.PhcFault.{PhcFault}
use Rattle.stored_check.specs.declared.error.PhcFault.TheVariants as of_phc

-- the fault of the modular crypt format that a name stands for
abbrev pub mcf_named : McfFault → mcf_error.Error
mcf_named of_mcf.DelimiterInvalid = mcf_fault.DelimiterInvalid
mcf_named of_mcf.IdentifierInvalid = mcf_fault.IdentifierInvalid
mcf_named of_mcf.FieldInvalid = mcf_fault.FieldInvalid
mcf_named of_mcf.EncodingInvalid = mcf_fault.EncodingInvalid

-- that of SHA-crypt's format
abbrev pub sha_format_named : ShaFormat → FormatFault
sha_format_named of_format.NoFields = sha_format.NoFields
sha_format_named of_format.NoSalt = sha_format.NoSalt
sha_format_named of_format.RoundsNotNumber = sha_format.RoundsNotNumber
sha_format_named of_format.NoHash = sha_format.NoHash
sha_format_named of_format.Trailing = sha_format.Trailing
sha_format_named of_format.SaltTooLong = sha_format.SaltTooLong
sha_format_named of_format.Base64 = sha_format.Base64

-- that of SHA-crypt's fields
abbrev pub sha_named : ShaFault → CheckError
sha_named (of_sha.InvalidFormat f) = InvalidFormat (sha_format_named f)
sha_named of_sha.RoundsError = Crypt RoundsError

-- that of a PHC text
abbrev pub phc_named : PhcFault → phc_error.Error
phc_named of_phc.ParamNameInvalid = phc_fault.ParamNameInvalid
phc_named of_phc.ParamValueTooLong = phc_fault.ParamValueTooLong
phc_named of_phc.ParamValueInvalid = phc_fault.ParamValueInvalid
phc_named of_phc.ParamsMaxExceeded = phc_fault.ParamsMaxExceeded
phc_named of_phc.SaltTooShort = phc_fault.SaltTooShort
phc_named of_phc.SaltTooLong = phc_fault.SaltTooLong
phc_named (of_phc.Base64 e) = phc_fault.Base64 e
phc_named of_phc.OutputSize = phc_fault.OutputSize Less output_min
phc_named of_phc.TrailingData = phc_fault.TrailingData
