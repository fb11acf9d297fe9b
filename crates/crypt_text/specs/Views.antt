-- What the parts of a setting show.
use Rattle.std.specs.Prelude.{Option, Some, None}
use Rattle.crypt_text.specs.Settings.{BcryptSetting, ScryptSetting, Sha1Setting, ShaSetting, YescryptSetting}
use Rattle.crypt_text.specs.declared.bcrypt_texts.BcryptParts.{BcryptParts}
use Rattle.crypt_text.specs.declared.scrypt_texts.ScryptParts.{ScryptParts}
use Rattle.crypt_text.specs.declared.sha1_texts.Sha1Parts.{Sha1Parts}
use Rattle.crypt_text.specs.declared.sha_texts.ShaParts.{ShaParts}
use Rattle.crypt_text.specs.declared.yescrypt_texts.YescryptParts.{YescryptParts}

-- the parts as lists
abbrev pub sha_view : ShaParts → ShaSetting
sha_view p = record { rounds = p.rounds; written = p.written; salt = p.salt.now }

abbrev pub as_sha : Option ShaParts → Option ShaSetting
as_sha None = None
as_sha (Some p) = Some (sha_view p)

abbrev pub bcrypt_view : BcryptParts → BcryptSetting
bcrypt_view p = record { cost = p.cost; salt = p.salt }

abbrev pub as_bcrypt : Option BcryptParts → Option BcryptSetting
as_bcrypt None = None
as_bcrypt (Some p) = Some (bcrypt_view p)

abbrev pub scrypt_view : ScryptParts → ScryptSetting
scrypt_view p = record { params = p.params; salt = p.salt.now }

abbrev pub as_scrypt : Option ScryptParts → Option ScryptSetting
as_scrypt None = None
as_scrypt (Some p) = Some (scrypt_view p)

abbrev pub yescrypt_view : YescryptParts → YescryptSetting
yescrypt_view p =
    record { params = p.params; salt = p.salt; params_text = p.params_text.now; salt_text = p.salt_text.now }

abbrev pub as_yescrypt : Option YescryptParts → Option YescryptSetting
as_yescrypt None = None
as_yescrypt (Some p) = Some (yescrypt_view p)

abbrev pub sha1_view : Sha1Parts → Sha1Setting
sha1_view p = record { rounds = p.rounds; salt = p.salt.now }

abbrev pub as_sha1 : Option Sha1Parts → Option Sha1Setting
as_sha1 None = None
as_sha1 (Some p) = Some (sha1_view p)
