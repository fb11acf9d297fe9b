-- The settings of crypt(3) (crypt(5)), as libxcrypt 4.4.33 reads them: the bytes that none has, and for each
-- method what is read behind its prefix, which `scheme_list` tells. A whole stored text is a setting: what follows the salt is ignored.
use Rattle.std.specs.Prelude.{ℕ, ◌*◌, ◌/◌, ◌^◌, ◌==◌, ◌&&◌, ◌||◌, not, Bool, true, false, List, [], ◌∷◌, ◌++◌, length, take, drop, nat_le, nat_lt}
use Rattle.std.specs.Prelude.{Option, Some, None, Result, Ok, Err, if◌then◌else◌, codes, slice_index}
use Rattle.std.specs.List.{after_first, before_first, list_all, list_any, position_or_len}
use Rattle.base64ct.specs.Alphabets.{base64_bcrypt, base64_sha_crypt}
use Rattle.base64ct.specs.Decoding.{decoding}
use Rattle.base64ct.specs.Encoding.{character}
use Rattle.pieces.specs.Characters.{dollar}
pub use Rattle.pieces.specs.Pieces.{begins}
use Rattle.pieces.specs.Pieces.{behind}
use Rattle.bcrypt_plain.specs.Field.{field_bytes}
use Rattle.bcrypt_plain.specs.Text.{cost_of}
use Rattle.sha1_crypt.specs.Text.{has_salt_length}
use Rattle.sha_crypt.specs.Fields.{old_number, plain_number}
use Rattle.sha_crypt.specs.Limits.{rounds_default, rounds_max, rounds_min, salt_max_len}
use Rattle.yescrypt_plain.specs.Params.{scrypt_params, yescrypt_params}
use Rattle.pieces.specs.Characters.{is_crypt_character}
use Rattle.yescrypt_plain.specs.declared.error.TextFault.{TextFault}
use Rattle.yescrypt_plain.specs.declared.params.ScryptParams.{ScryptParams}
use Rattle.yescrypt_plain.specs.declared.params.YescryptParams.{YescryptParams}

-- ---- bytes

-- A byte that no setting has, wherever it stands: a blank or a control character, one above 126, and `!`, `*`, `:`, `;`
-- and `\`, which mean something in a file of passwords.
abbrev pub is_refused : ℕ → Bool
is_refused b = nat_le b 32 || nat_le 127 b || b == 33 || b == 42 || b == 58 || b == 59 || b == 92

-- such a byte stands in a setting
abbrev pub has_refused : List ℕ → Bool
has_refused setting = list_any is_refused setting

-- `$`
abbrev pub is_dollar : ℕ → Bool
is_dollar b = b == dollar

-- a `$` stands in a text
abbrev pub has_dollar : List ℕ → Bool
has_dollar text = list_any is_dollar text

-- what stands before the first `$`; all, where there is none
abbrev pub before_dollar : List ℕ → List ℕ
before_dollar text = before_first is_dollar text

-- what stands behind the first `$`
abbrev pub after_dollar : List ℕ → List ℕ
after_dollar text = after_first is_dollar text

-- what stands before the last `$`; all, where there is none
unfoldable pub before_last_dollar : List ℕ → List ℕ
before_last_dollar [] = []
before_last_dollar (b ∷ text) = if is_dollar b && not (has_dollar text) then [] else b ∷ before_last_dollar text

-- ---- `$1$`: the rest behind it begins with the salt

-- of the salt the first 8 bytes count
abbrev pub md5_salt : List ℕ → List ℕ
md5_salt rest = take 8 (before_dollar rest)

-- ---- `$5$` and `$6$`: `[rounds=N$]salt`

-- rounds, whether they are written, and a salt
pub record ShaSetting : Type 0 where
  pub rounds : ℕ
  pub written : Bool
  pub salt : List ℕ

-- of the salt the first 16 bytes count
abbrev pub sha_salt : List ℕ → List ℕ
sha_salt rest = take salt_max_len (before_dollar rest)

-- the rounds are not brought into range: others are refused
abbrev pub are_rounds : ℕ → Bool
are_rounds n = nat_le rounds_min n && nat_le n rounds_max

-- by the number that is written, with the rest behind it
abbrev pub sha_by_number : Option ℕ → List ℕ → Option ShaSetting
sha_by_number None rest = None
sha_by_number (Some n) rest =
    if are_rounds n then Some (record { rounds = n; written = true; salt = sha_salt rest }) else None

-- by what stands behind `rounds=`, where the rest begins with it: a plain number, and a `$` behind it
abbrev pub sha_by_rounds : Option (List ℕ) → List ℕ → Option ShaSetting
sha_by_rounds None rest = Some (record { rounds = rounds_default; written = false; salt = sha_salt rest })
sha_by_rounds (Some named) rest =
    if has_dollar named then sha_by_number (plain_number (before_dollar named)) (after_dollar named) else None

-- what the rest of a setting says
unfoldable pub sha_setting : List ℕ → Option ShaSetting
sha_setting rest = sha_by_rounds (behind rest (codes "rounds=")) rest

-- ---- `$2a$`, `$2b$` and `$2y$`: two digits, `$`, and 22 characters of a salt

-- the cost and the 16 bytes of the salt
pub record BcryptSetting : Type 0 where
  pub cost : ℕ
  pub salt : List ℕ

-- The character of the same value without its four low bits: 22 characters have four bits more than 16 bytes. What is
-- no character has no such one.
abbrev pub cleared : ℕ → ℕ
cleared c = character base64_bcrypt (16 * (position_or_len (λ x. x == c) base64_bcrypt.characters / 16))

-- 22 characters with the last one cleared
abbrev pub cleared_salt : List ℕ → List ℕ
cleared_salt characters = take 21 characters ++ cleared (slice_index characters 21) ∷ []

-- by the cost and the salt
abbrev pub bcrypt_by_parts : Option ℕ → Option (List ℕ) → Option BcryptSetting
bcrypt_by_parts (Some cost) (Some salt) = Some (record { cost = cost; salt = salt })
bcrypt_by_parts cost salt = None

-- what the rest of a setting says
unfoldable pub bcrypt_setting : List ℕ → Option BcryptSetting
bcrypt_setting rest =
    if nat_le 25 (length rest) && is_dollar (slice_index rest 2)
    then bcrypt_by_parts (cost_of (take 2 rest)) (field_bytes 22 (cleared_salt (take 22 (drop 3 rest))))
    else None

-- ---- `$7$`: eleven characters of parameters, and the salt, whose characters stand for themselves

-- parameters, and what is hashed as the salt
pub record ScryptSetting : Type 0 where
  pub params : ScryptParams
  pub salt : List ℕ

-- The first byte that is neither a character nor `$` stands right behind a `$`, if there is one; `behind_dollar` tells
-- whether one stands before the text. So libxcrypt looks at the bytes behind the parameters.
unfoldable pub are_salt_bytes : Bool → List ℕ → Bool
are_salt_bytes behind_dollar [] = true
are_salt_bytes behind_dollar (b ∷ text) =
    if is_crypt_character b || is_dollar b then are_salt_bytes (is_dollar b) text else behind_dollar

-- by the parameters, and what stands behind them: the salt ends at the last `$`
abbrev pub scrypt_by_params : Result ScryptParams TextFault → List ℕ → Option ScryptSetting
scrypt_by_params (Err e) salt = None
scrypt_by_params (Ok params) salt =
    if are_salt_bytes false salt then Some (record { params = params; salt = before_last_dollar salt }) else None

-- what the rest of a setting says
unfoldable pub scrypt_setting : List ℕ → Option ScryptSetting
scrypt_setting rest = scrypt_by_params (scrypt_params rest) (drop 11 rest)

-- ---- `$y$`: parameters, `$`, and the characters of the salt

-- parameters and the bytes of the salt, and the characters that they were read from
pub record YescryptSetting : Type 0 where
  pub params : YescryptParams
  pub salt : List ℕ
  pub params_text : List ℕ
  pub salt_text : List ℕ

-- the bytes, at most 64, whose characters a text is: 64 bytes have 86 characters. None of them is a salt too.
abbrev pub salt_bytes : List ℕ → Option (List ℕ)
salt_bytes text = if nat_le (length text) 86 then decoding base64_sha_crypt text else None

-- by the parameters and the salt
abbrev pub yescrypt_by_parts : Result YescryptParams TextFault → Option (List ℕ) → List ℕ → List ℕ → Option YescryptSetting
yescrypt_by_parts (Ok params) (Some salt) params_text salt_text =
    Some (record { params = params; salt = salt; params_text = params_text; salt_text = salt_text })
yescrypt_by_parts params salt params_text salt_text = None

-- by the two texts: the salt ends at the last `$`, and no `$` is a character
abbrev pub yescrypt_by_texts : List ℕ → List ℕ → Option YescryptSetting
yescrypt_by_texts params_text salt_text =
    yescrypt_by_parts (yescrypt_params params_text) (salt_bytes salt_text) params_text salt_text

-- what the rest of a setting says
unfoldable pub yescrypt_setting : List ℕ → Option YescryptSetting
yescrypt_setting rest =
    if has_dollar rest then yescrypt_by_texts (before_dollar rest) (before_last_dollar (after_dollar rest)) else None

-- ---- `$sha1`: `$sha1$`, a number of rounds, `$`, and the salt

-- rounds and a salt
pub record Sha1Setting : Type 0 where
  pub rounds : ℕ
  pub salt : List ℕ

-- The number may have zeros or a `+` in front, as for C's strtoul. libxcrypt takes 0 too, and 2 ^ 32 and more, by which sha1-crypt has no
-- text (crypt(5)).
abbrev pub are_sha1_rounds : ℕ → Bool
are_sha1_rounds n = nat_le 1 n && nat_lt n (2 ^ 32)

-- 1 to 64 characters; libxcrypt takes more
abbrev pub is_sha1_salt : List ℕ → Bool
is_sha1_salt salt = has_salt_length salt && list_all is_crypt_character salt

-- by the number, with what stands after its `$`: the salt ends at the next one, or with the setting
abbrev pub sha1_by_number : Option ℕ → List ℕ → Option Sha1Setting
sha1_by_number None rest = None
sha1_by_number (Some n) rest =
    if are_sha1_rounds n && is_sha1_salt (before_dollar rest) then Some (record { rounds = n; salt = before_dollar rest })
    else None

-- by what stands after `$sha1$`
abbrev pub sha1_by_rest : Option (List ℕ) → Option Sha1Setting
sha1_by_rest None = None
sha1_by_rest (Some rest) =
    if has_dollar rest then sha1_by_number (old_number (before_dollar rest)) (after_dollar rest) else None

-- what a setting says
unfoldable pub sha1_setting : List ℕ → Option Sha1Setting
sha1_setting setting = sha1_by_rest (behind setting (codes "$sha1$"))
