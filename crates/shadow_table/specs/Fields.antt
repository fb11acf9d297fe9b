-- The names and the texts of users, as the files of real systems have them.
use Rattle.std.specs.Prelude.{ℕ, ◌==◌, ◌&&◌, ◌||◌, Bool, false, List, [], ◌∷◌, length, nat_le, nat_lt, not}
use Rattle.std.specs.List.{list_all, list_any}
use Rattle.std.specs.Str.{is_utf8}
use Rattle.pw_file.specs.Limits.{name_max}

-- a control character of one byte (U+0000 to U+001F and U+007F; a tab and a line feed are two of them), or the colon, which
-- ends a field in the files of passwd(5) and shadow(5)
abbrev pub is_cut_byte : ℕ → Bool
is_cut_byte b = nat_lt b 32 || b == 127 || b == 58

-- the second byte of a control character of two bytes
abbrev pub begins_low : List ℕ → Bool
begins_low [] = false
begins_low (b ∷ s) = nat_lt b 160

-- the bytes begin with a control character of two bytes in UTF-8 (U+0080 to U+009F): 0xC2, and a byte below 0xA0
abbrev pub is_wide : ℕ → List ℕ → Bool
is_wide b s = b == 194 && begins_low s

-- there is one
abbrev pub has_wide_control : List ℕ → Bool
has_wide_control [] = false
has_wide_control (b ∷ s) = is_wide b s || has_wide_control s

-- 1 to 64 bytes, without control characters and colons
abbrev pub has_name_bytes : List ℕ → Bool
has_name_bytes s =
    nat_le 1 (length s) && nat_le (length s) name_max && not (list_any is_cut_byte s) && not (has_wide_control s)

-- the name of a user: such bytes, in UTF-8
abbrev pub is_user_name : List ℕ → Bool
is_user_name s = is_utf8 s && has_name_bytes s

-- a byte of a field: printable ASCII but the colon
abbrev pub is_field_byte : ℕ → Bool
is_field_byte b = nat_le 32 b && nat_le b 126 && not (b == 58)

-- a text: any number of such bytes
abbrev pub is_field : List ℕ → Bool
is_field text = list_all is_field_byte text

-- a text that begins with `*` or `!` is locked (shadow(5))
abbrev pub is_locked_text : List ℕ → Bool
is_locked_text [] = false
is_locked_text (b ∷ text) = b == 42 || b == 33
