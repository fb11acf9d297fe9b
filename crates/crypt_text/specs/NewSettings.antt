-- The settings that crypt_gensalt(3) makes, as libxcrypt 4.4.33 does.
use Rattle.std.specs.Prelude.{ℕ, zero, suc, ◌+◌, ◌-◌, ◌*◌, ◌/◌, ◌%◌, ◌^◌, ◌==◌, ◌&&◌, not, Bool, true, false, List, [], ◌∷◌, ◌++◌, length}
use Rattle.std.specs.Prelude.{max, min, drop, slice_index, take, nat_le, nat_lt, Option, Some, None, if◌then◌else◌, codes}
use Rattle.std.specs.Fmt.{decimal}
use Rattle.std.specs.Int.{from_le_bytes, w32}
use Rattle.bcrypt_plain.specs.Field.{bcrypt_field}
use Rattle.bcrypt_plain.specs.Made.{two_digits}
use Rattle.bcrypt_plain.specs.Text.{is_cost}
use Rattle.scheme_list.specs.Schemes.{method_of}
use Rattle.scheme_list.specs.declared.schemes.Scheme.{Scheme}
use Rattle.scheme_list.specs.declared.schemes.Scheme.TheVariants.{Bcrypt, Md5Crypt, ScryptCrypt, Sha1Crypt, Sha256Crypt, Sha512Crypt, Yescrypt}
use Rattle.sha_crypt.specs.Limits.{rounds_default, rounds_max, rounds_min}
use Rattle.sha_crypt.specs.Records.{family_id, rounds_part}
use Rattle.sha_crypt.specs.declared.errors.Family.{Family}
use Rattle.sha_crypt.specs.declared.errors.Family.TheVariants.{Sha256, Sha512}
use Rattle.yescrypt_plain.specs.Field.{crypt_field}
use Rattle.yescrypt_plain.specs.Params.{scrypt_params_text, yescrypt_params_text}
use Rattle.yescrypt_plain.specs.declared.params.ScryptParams.{ScryptParams}
use Rattle.yescrypt_plain.specs.declared.params.YescryptParams.{YescryptParams}

-- so many random bytes are drawn for a method where the caller gives none; 0 for no method
abbrev pub random_len : Option Scheme → ℕ
random_len (Some Md5Crypt) = 9
random_len (Some Sha256Crypt) = 15
random_len (Some Sha512Crypt) = 15
random_len (Some Bcrypt) = 16
random_len (Some Yescrypt) = 16
random_len (Some ScryptCrypt) = 16
random_len (Some Sha1Crypt) = 20
random_len method = 0

-- a setting, where the count and the bytes are taken
abbrev pub where_taken : Bool → List ℕ → Option (List ℕ)
where_taken true setting = Some setting
where_taken false setting = None

-- the number, or the one that stands for none
abbrev pub or_default : ℕ → ℕ → ℕ
or_default count default = if count == 0 then default else count

-- ---- `$1$`, `$5$` and `$6$`: each three bytes make four characters; a last byte, or two or three, is left out

-- the characters of a salt of at most so many bytes, a multiple of three
abbrev pub group_salt : ℕ → List ℕ → List ℕ
group_salt most bytes = crypt_field (take (min most (3 * ((length bytes - 1) / 3))) bytes)

-- no count is taken; at most 8 characters
abbrev pub md5_new : ℕ → List ℕ → Option (List ℕ)
md5_new count bytes = where_taken (count == 0 && nat_le 3 (length bytes)) (codes "$1$" ++ group_salt 6 bytes)

-- the rounds: the default one for 0, and others brought into range
abbrev pub new_rounds : ℕ → ℕ
new_rounds count = min rounds_max (max rounds_min (or_default count rounds_default))

-- the default number of rounds is not written; at most 16 characters
abbrev pub sha_new : Family → ℕ → List ℕ → Option (List ℕ)
sha_new family count bytes =
    where_taken (nat_le 3 (length bytes))
    (codes "$" ++ family_id family ++ codes "$" ++ rounds_part (not (new_rounds count == rounds_default)) (new_rounds count)
    ++ group_salt 12 bytes)

-- ---- `$2a$`, `$2b$` and `$2y$`: the cost is 5 for 0; the first 16 bytes are the salt

abbrev pub bcrypt_new : List ℕ → ℕ → List ℕ → Option (List ℕ)
bcrypt_new prefix count bytes =
    where_taken (is_cost (or_default count 5) && nat_le 16 (length bytes))
    (take 4 prefix ++ two_digits (or_default count 5) ++ codes "$" ++ bcrypt_field (take 16 bytes))

-- ---- `$7$` and `$y$`: at least 16 bytes, of which the first 64 are the salt

-- the characters of a salt
abbrev pub long_salt : List ℕ → List ℕ
long_salt bytes = crypt_field (take 64 bytes)

-- a count of 6 to 11, 7 for 0: N = 2 ^ (count + 7), r = 32, p = 1
abbrev pub scrypt_count_params : ℕ → ScryptParams
scrypt_count_params count = record { ln = count + 7; r = 32; p = 1 }

abbrev pub scrypt_new : ℕ → List ℕ → Option (List ℕ)
scrypt_new count bytes =
    let n = or_default count 7 in
    where_taken (nat_le 6 n && nat_le n 11 && nat_le 16 (length bytes))
    (codes "$7$" ++ scrypt_params_text (scrypt_count_params n) ++ long_salt bytes)

-- a count of 1 to 11, 5 for 0: N = 2 ^ (count + 9) and r = 8 below 3; N = 2 ^ (count + 7) and r = 32 from there on
abbrev pub yescrypt_count_params : ℕ → YescryptParams
yescrypt_count_params count =
    if nat_lt count 3 then record { ln = count + 9; r = 8; t = 0 } else record { ln = count + 7; r = 32; t = 0 }

abbrev pub yescrypt_new : ℕ → List ℕ → Option (List ℕ)
yescrypt_new count bytes =
    let n = or_default count 5 in
    where_taken (nat_le 1 n && nat_le n 11 && nat_le 16 (length bytes))
    (codes "$y$" ++ yescrypt_params_text (yescrypt_count_params n) ++ codes "$" ++ long_salt bytes)

-- ---- `$sha1`: at least 16 bytes, of which the first four make the rounds differ, and the others are the salt

-- the most rounds: 262,144 for 0, and others brought into range
abbrev pub sha1_most : ℕ → ℕ
sha1_most count = min (2 ^ 32 - 1) (max 4 (or_default count 262144))

-- the rounds: up to a quarter fewer than the most, by the number that four bytes write, the lowest first
abbrev pub sha1_rounds : ℕ → List ℕ → ℕ
sha1_rounds most four = most - from_le_bytes w32 four % (most / 4)

-- the first n groups of three bytes as four characters each, the last byte of a group first
unfoldable pub turned_groups : ℕ → List ℕ → List ℕ
turned_groups zero bytes = []
turned_groups (suc n) bytes =
    turned_groups n bytes
    ++ crypt_field (slice_index bytes (3 * n + 2) ∷ slice_index bytes (3 * n + 1) ∷ slice_index bytes (3 * n) ∷ [])

-- at most 60 characters; a last byte, or two or three, is left out
abbrev pub sha1_salt : List ℕ → List ℕ
sha1_salt bytes = turned_groups (min 15 ((length bytes - 1) / 3)) bytes

abbrev pub sha1_new : ℕ → List ℕ → Option (List ℕ)
sha1_new count bytes =
    where_taken (nat_le 16 (length bytes))
    (codes "$sha1$" ++ decimal (sha1_rounds (sha1_most count) (take 4 bytes)) ++ codes "$" ++ sha1_salt (drop 4 bytes)
    ++ codes "$")

-- ---- by the method

abbrev pub method_new : Option Scheme → List ℕ → ℕ → List ℕ → Option (List ℕ)
method_new (Some Md5Crypt) prefix count bytes = md5_new count bytes
method_new (Some Sha256Crypt) prefix count bytes = sha_new Sha256 count bytes
method_new (Some Sha512Crypt) prefix count bytes = sha_new Sha512 count bytes
method_new (Some Bcrypt) prefix count bytes = bcrypt_new prefix count bytes
method_new (Some Yescrypt) prefix count bytes = yescrypt_new count bytes
method_new (Some ScryptCrypt) prefix count bytes = scrypt_new count bytes
method_new (Some Sha1Crypt) prefix count bytes = sha1_new count bytes
method_new method prefix count bytes = None

-- The setting of a prefix, which need only begin with a method's, a count and random bytes; none where the method does not
-- take them.
unfoldable pub new_setting : List ℕ → ℕ → List ℕ → Option (List ℕ)
new_setting prefix count bytes = method_new (method_of prefix) prefix count bytes
