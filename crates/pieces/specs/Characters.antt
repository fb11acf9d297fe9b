-- Names of characters (ASCII), and of the sets of them that several formats share.
use Rattle.std.specs.Prelude.{ℕ, Bool, ◌&&◌, ◌||◌, ◌==◌, nat_le}
use Rattle.std.specs.Char.{is_ascii_lowercase, is_ascii_digit}

-- `$`
abbrev pub dollar : ℕ
dollar = 36

-- `,`
abbrev pub comma : ℕ
comma = 44

-- `-`
abbrev pub hyphen : ℕ
hyphen = 45

-- `=`
abbrev pub equals : ℕ
equals = 61

-- a tab
abbrev pub is_tab : ℕ → Bool
is_tab b = b == 9

-- a-z, 0-9 or `-`: a byte of an identifier of crypt(5)'s formats, and of a name of the PHC string format
abbrev pub is_name_byte : ℕ → Bool
is_name_byte b = is_ascii_lowercase b || is_ascii_digit b || b == hyphen

-- `.`, `/`, `0` to `9`, `A` to `Z` and `a` to `z`: the alphabet of the texts of crypt(5)
abbrev pub is_crypt_character : ℕ → Bool
is_crypt_character c = (nat_le 46 c && nat_le c 57) || (nat_le 65 c && nat_le c 90) || (nat_le 97 c && nat_le c 122)
