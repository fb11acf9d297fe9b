-- What the calls answer, by number.
use Rattle.std.specs.Prelude.{ℤ, pos, negsuc}
use Rattle.crypt_text.specs.declared.error.CryptError.{CryptError}
use Rattle.crypt_text.specs.declared.error.CryptError.TheVariants.{OutOfMemory, Setting, TooLong}
use Rattle.c_buffers.specs.Statuses.{status_no_memory}
use Rattle.crypt_text.specs.declared.status.SaltStatus.{SaltStatus}
use Rattle.crypt_text.specs.declared.status.SaltStatus.TheVariants.{Invalid, Legacy, Valid}

-- -1: the phrase or the setting is too long, ERANGE
abbrev pub status_too_long : ℤ
status_too_long = negsuc 0

-- -4: it is no setting, or the method does not take the count or so few bytes, EINVAL
abbrev pub status_no_setting : ℤ
status_no_setting = negsuc 3

-- of the causes that there is no text
abbrev pub error_status : CryptError → ℤ
error_status TooLong = status_too_long
error_status Setting = status_no_setting
error_status OutOfMemory = status_no_memory

-- the numbers of crypt_checksalt(3): CRYPT_SALT_OK, CRYPT_SALT_INVALID and CRYPT_SALT_METHOD_LEGACY
abbrev pub salt_number : SaltStatus → ℤ
salt_number Valid = pos 0
salt_number Invalid = pos 1
salt_number Legacy = pos 3
