-- The text that crypt(3) gives for a phrase and a setting, as libxcrypt 4.4.33 does, or the cause that there is none. Each hash
-- is that of the scheme's own definition.
use Rattle.std.specs.Prelude.{◌≡◌, ◌⊎◌, ℕ, ◌^◌, ◌&&◌, Bool, true, false, List, ◌++◌, length, take, drop, nat_eq, nat_lt}
use Rattle.std.specs.Prelude.{Option, Some, None, Result, Ok, Err, is_ok, if◌then◌else◌, codes}
use Rattle.std.specs.Cmp.Lexicographic.{pointwise}
use Rattle.std.specs.Fmt.{decimal}
use Rattle.bcrypt_plain.specs.Bcrypt.{bcrypt}
use Rattle.bcrypt_plain.specs.Made.{text_of}
use Rattle.bcrypt_plain.specs.Measure.{measured_bcrypt}
use Rattle.md5_plain.specs.Digest.{md5_crypt_digest}
use Rattle.md5_plain.specs.Field.{md5_field}
use Rattle.md5_plain.specs.declared.magic.Magic.TheVariants.{Md5}
use Rattle.scrypt_plain.specs.Scrypt.{scrypt}
use Rattle.scheme_list.specs.Schemes.{method_of}
use Rattle.scheme_list.specs.declared.schemes.Scheme.{Scheme as StoredScheme}
use Rattle.scheme_list.specs.declared.schemes.Scheme.TheVariants.{Bcrypt, Md5Crypt, ScryptCrypt, Sha1Crypt, Sha256Crypt, Sha512Crypt, Yescrypt}
use Rattle.sha1_crypt.specs.Digest.{sha1_digest}
use Rattle.sha1_crypt.specs.Field.{sha1_field}
use Rattle.sha_crypt.specs.Digest.{sha_crypt_digest}
use Rattle.sha_crypt.specs.Families.{Scheme}
use Rattle.sha_crypt.specs.HashField.{hash_field}
use Rattle.sha_crypt.specs.Records.{family_scheme, record_text}
use Rattle.sha_crypt.specs.declared.errors.Family.{Family}
use Rattle.sha_crypt.specs.declared.errors.Family.TheVariants.{Sha256, Sha512}
use Rattle.yescrypt_plain.specs.Field.{crypt_field}
use Rattle.yescrypt_plain.specs.Yescrypt.{yescrypt}
use Rattle.crypt_text.specs.Limits.{phrase_max, setting_max}
use Rattle.crypt_text.specs.Settings.{BcryptSetting, ScryptSetting, Sha1Setting, ShaSetting, YescryptSetting, bcrypt_setting, has_refused}
use Rattle.crypt_text.specs.Settings.{md5_salt, scrypt_setting, sha1_setting, sha_setting, yescrypt_setting}
use Rattle.crypt_text.specs.declared.error.CryptError.{CryptError}
use Rattle.crypt_text.specs.declared.error.CryptError.TheVariants.{OutOfMemory, Setting, TooLong}

-- a text, or the cause that there is none
abbrev pub Answer : Type 0
Answer = Result (List ℕ) CryptError

-- ---- the text of each method, by what its setting says

-- `$1$salt$hash`, for the rest of the setting
abbrev pub md5_text : List ℕ → List ℕ → List ℕ
md5_text phrase rest =
    codes "$1$" ++ md5_salt rest ++ codes "$" ++ md5_field (md5_crypt_digest phrase (md5_salt rest) Md5)

-- the hash field of SHA-crypt
abbrev pub sha_field : Scheme → List ℕ → ShaSetting → List ℕ
sha_field scheme phrase s = hash_field scheme.places (sha_crypt_digest scheme.hash phrase s.salt s.rounds)

-- `$5$[rounds=N$]salt$hash`, and the same with `$6$`: rounds that the setting names stay written
abbrev pub sha_text : Family → List ℕ → ShaSetting → List ℕ
sha_text family phrase s =
    record_text family (record {
      rounds = s.rounds;
      written = s.written;
      salt = s.salt;
      hash = sha_field (family_scheme family) phrase s;
    })

-- the hash of an identifier of bcrypt: `2a` has crypt_blowfish's safety measure
abbrev pub bcrypt_of : List ℕ → List ℕ → List ℕ → ℕ → List ℕ
bcrypt_of id phrase salt cost =
    if pointwise nat_eq id (codes "2a") then measured_bcrypt phrase salt cost else bcrypt phrase salt cost

-- `$2b$cost$salt-and-hash`, with the setting's own identifier
abbrev pub bcrypt_text : List ℕ → List ℕ → BcryptSetting → List ℕ
bcrypt_text id phrase s = text_of id s.cost s.salt (bcrypt_of id phrase s.salt s.cost)

-- `$7$parameters-and-salt$hash`, with the setting's eleven characters of parameters
abbrev pub scrypt_text : List ℕ → List ℕ → ScryptSetting → List ℕ
scrypt_text rest phrase s =
    codes "$7$" ++ take 11 rest ++ s.salt ++ codes "$"
    ++ crypt_field (scrypt phrase s.salt (2 ^ s.params.ln) s.params.r s.params.p 32)

-- `$y$parameters$salt$hash`, with the setting's own characters
abbrev pub yescrypt_text : List ℕ → YescryptSetting → List ℕ
yescrypt_text phrase s =
    codes "$y$" ++ s.params_text ++ codes "$" ++ s.salt_text ++ codes "$"
    ++ crypt_field (yescrypt phrase s.salt s.params.ln s.params.r s.params.t)

-- `$sha1$rounds$salt$hash`, with the rounds in plain digits
abbrev pub sha1_text : List ℕ → Sha1Setting → List ℕ
sha1_text phrase s =
    codes "$sha1$" ++ decimal s.rounds ++ codes "$" ++ s.salt ++ codes "$"
    ++ sha1_field (sha1_digest phrase s.salt s.rounds)

-- ---- the answers

-- the text of what a setting says, where it says something
abbrev pub if_setting : {S : Type 0} → (S → List ℕ) → Option S → Answer
if_setting text None = Err Setting
if_setting text (Some s) = Ok (text s)

-- a setting of at most 339 bytes
abbrev pub if_short : List ℕ → Answer → Answer
if_short setting answer = if nat_lt setting_max (length setting) then Err TooLong else answer

-- by the method of the setting
abbrev pub method_text : Option StoredScheme → List ℕ → List ℕ → Answer
method_text (Some Md5Crypt) phrase setting = Ok (md5_text phrase (drop 3 setting))
method_text (Some Sha256Crypt) phrase setting = if_setting (sha_text Sha256 phrase) (sha_setting (drop 3 setting))
method_text (Some Sha512Crypt) phrase setting = if_setting (sha_text Sha512 phrase) (sha_setting (drop 3 setting))
method_text (Some Bcrypt) phrase setting =
    if_setting (bcrypt_text (take 2 (drop 1 setting)) phrase) (bcrypt_setting (drop 4 setting))
method_text (Some ScryptCrypt) phrase setting =
    if_short setting (if_setting (scrypt_text (drop 3 setting) phrase) (scrypt_setting (drop 3 setting)))
method_text (Some Yescrypt) phrase setting =
    if_short setting (if_setting (yescrypt_text phrase) (yescrypt_setting (drop 3 setting)))
method_text (Some Sha1Crypt) phrase setting = if_setting (sha1_text phrase) (sha1_setting setting)
method_text method phrase setting = Err Setting

-- The text for a phrase and a setting, or the first cause that there is none: a phrase of 512 bytes and more, whatever the
-- setting; a byte that no setting has; no method; a setting of `$7$` or `$y$` of 340 bytes and more; what the method refuses.
unfoldable pub crypt_text : List ℕ → List ℕ → Answer
crypt_text phrase setting =
    if nat_lt phrase_max (length phrase) then Err TooLong
    else (if has_refused setting then Err Setting else method_text (method_of setting) phrase setting)

-- ---- memory

-- scrypt and yescrypt take memory
abbrev pub takes_memory : Option StoredScheme → Bool
takes_memory (Some ScryptCrypt) = true
takes_memory (Some Yescrypt) = true
takes_memory method = false

-- there would be a text, and memory is needed for it
unfoldable pub may_lack : List ℕ → List ℕ → Bool
may_lack phrase setting = takes_memory (method_of setting) && is_ok (crypt_text phrase setting)

-- an answer is the one that is expected; or want of memory, where that may be
abbrev pub IsAnswer : Answer → Bool → Answer → Type 0
IsAnswer expected lacking answer = (answer ≡ expected) ⊎ ((answer ≡ Err OutOfMemory) × (lacking ≡ true))
