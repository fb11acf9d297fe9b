-- What crypt_checksalt(3) says of a setting: its bytes and its method are looked at, and nothing else.
use Rattle.std.specs.Prelude.{ℕ, List, Option, Some, if◌then◌else◌}
use Rattle.scheme_list.specs.Schemes.{method_of}
use Rattle.scheme_list.specs.declared.schemes.Scheme.{Scheme}
use Rattle.scheme_list.specs.declared.schemes.Scheme.TheVariants.{Bcrypt, Md5Crypt, ScryptCrypt, Sha1Crypt, Sha256Crypt, Sha512Crypt, Yescrypt}
use Rattle.crypt_text.specs.Settings.{has_refused}
use Rattle.crypt_text.specs.declared.status.SaltStatus.{SaltStatus}
use Rattle.crypt_text.specs.declared.status.SaltStatus.TheVariants.{Invalid, Legacy, Valid}

-- by the method: md5-crypt, SHA-256-crypt and sha1-crypt are old ones for crypt(3)
abbrev pub method_status : Option Scheme → SaltStatus
method_status (Some Md5Crypt) = Legacy
method_status (Some Sha256Crypt) = Legacy
method_status (Some Sha1Crypt) = Legacy
method_status (Some Sha512Crypt) = Valid
method_status (Some Bcrypt) = Valid
method_status (Some Yescrypt) = Valid
method_status (Some ScryptCrypt) = Valid
method_status method = Invalid

-- of a setting
abbrev pub salt_status : List ℕ → SaltStatus
salt_status setting = if has_refused setting then Invalid else method_status (method_of setting)
