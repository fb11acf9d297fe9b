-- MySQL's texts of its plugin caching_sha2_password (MySQL 8, sql/auth/sha2_password.cc), the bytes of `authentication_string` in the table
-- mysql.user as HEX() writes them: `$A$`, three digits of the thousands of rounds, `$`, 20 bytes of salt and 43 characters of a hash.
use Rattle.std.specs.Prelude.{ℕ, Bool, ◌||◌, ◌&&◌, ◌==◌, ◌++◌, List, length, map, take, drop, nat_le, Option, Some, None, Ok, Err}
use Rattle.std.specs.Prelude.{if◌then◌else◌, codes}
use Rattle.std.specs.Char.{is_ascii_hexdigit, to_ascii_uppercase}
use Rattle.std.specs.List.{list_all}
use Rattle.pieces.specs.Pieces.{begins, behind, or_behind}
use Rattle.foreign_text.specs.Answers.{Answer}
use Rattle.foreign_text.specs.Fields.{is_capital_digit, small_hex}
use Rattle.foreign_text.specs.declared.fault.ForeignFault.TheVariants.{Form, Hash, HashLength, Rounds, Salt, Unread}
use Rattle.foreign_text.specs.declared.fault.Unread as unread
use Rattle.foreign_text.specs.declared.fault.Unread.TheVariants.{Other, Sha1}

-- the digits of bytes, with capital letters
abbrev pub capitals : List ℕ → List ℕ
capitals digits = map to_ascii_uppercase digits

-- the text that is read (mysql_sha2): of salt and hash the digits are carried over with capital letters
unfoldable pub mysql_text : List ℕ → List ℕ → List ℕ → List ℕ
mysql_text thousands salt hash =
    codes "$mysql$A$" ++ thousands ++ codes "*" ++ capitals salt ++ codes "*" ++ capitals hash

-- 43 bytes of the hash
abbrev pub mysql_hash : List ℕ → List ℕ → List ℕ → Answer
mysql_hash thousands salt hash =
    if list_all is_ascii_hexdigit hash
    then (if length hash == 86 then Ok (mysql_text thousands salt hash) else Err HashLength) else Err Hash

-- 20 bytes of salt
abbrev pub mysql_salt : List ℕ → List ℕ → List ℕ → Answer
mysql_salt thousands salt hash = if list_all is_ascii_hexdigit salt then mysql_hash thousands salt hash else Err Salt

-- three characters, digits of base sixteen with capital letters (`%03X`), which are the thousands of the rounds
abbrev pub is_thousands : List ℕ → Bool
is_thousands thousands = length thousands == 3 && list_all is_capital_digit thousands

abbrev pub mysql_rounds : Option (List ℕ) → List ℕ → List ℕ → Answer
mysql_rounds None salt hash = Err Rounds
mysql_rounds (Some thousands) salt hash = if is_thousands thousands then mysql_salt thousands salt hash else Err Rounds

-- `$`, and at least the bytes of the salt
abbrev pub has_salt : List ℕ → Bool
has_salt others = nat_le 42 (length others) && begins others (codes "24")

-- no letter is in the digits of the thousands, as they write the characters `0` to `9` and `A` to `F`
abbrev pub mysql_parts : List ℕ → List ℕ → Answer
mysql_parts thousands others =
    if has_salt others
    then mysql_rounds (small_hex thousands) (take 40 (drop 2 others)) (drop 40 (drop 2 others)) else Err Form

-- the bytes after `$A$`
abbrev pub mysql_digits : List ℕ → Answer
mysql_digits rest = if nat_le 6 (length rest) then mysql_parts (take 6 rest) (drop 6 rest) else Err Form

-- mysql_native_password writes `*` and digits of SHA-1 twice, without a salt
abbrev pub mysql_unread : List ℕ → unread.Unread
mysql_unread text =
    if begins text (codes "*") || begins text (codes "2A") || begins text (codes "2a") then Sha1 else Other

abbrev pub mysql_bytes : List ℕ → Answer
mysql_bytes text = or_behind mysql_digits (behind text (codes "244124")) (Err (Unread (mysql_unread text)))

-- the digits, with or without `0x` before them, as SHOW CREATE USER writes them (print_identified_with_as_hex)
unfoldable pub mysql : List ℕ → Answer
mysql text = or_behind mysql_bytes (behind text (codes "0x")) (mysql_bytes text)
