-- Lines of fields with colons between them, of which the first is a user (passwd(5), shadow(5), htpasswd(1)).
use Rattle.std.specs.Prelude.{ℕ, Bool, false, ◌&&◌, ◌||◌, ◌==◌, List, [], ◌∷◌, length, nat_le, not}
use Rattle.std.specs.Char.{is_ascii_digit}
use Rattle.std.specs.List.{list_all, list_any, before_first, after_first}
use Rattle.pieces.specs.Characters.{is_tab}

-- `:`
abbrev pub is_colon : ℕ → Bool
is_colon b = b == 58

-- what stands before the first colon; all, where there is none
abbrev pub first_field : List ℕ → List ℕ
first_field text = before_first is_colon text

-- what stands before the first colon of a line
abbrev pub user_of : List ℕ → List ℕ
user_of line = before_first is_colon line

-- what stands behind it
abbrev pub rest_of : List ℕ → List ℕ
rest_of line = after_first is_colon line

-- A user stands before the first colon. What has a tab is no user: else a line whose user was left out would have its
-- password written.
abbrev pub has_user : List ℕ → Bool
has_user line = list_any is_colon line && not (list_any is_tab (user_of line))

-- ---- the outer form of a line of a shadow file (shadow(5)): the user, the stored text, and further fields

-- the stored text: the second field
abbrev pub text_of_line : List ℕ → List ℕ
text_of_line line = first_field (rest_of line)

-- 40 hexadecimal digits: after a `*` the text of MySQL's mysql_native_password (MySQL 4.1 to 8, `PASSWORD()`)
abbrev pub is_hex_digit : ℕ → Bool
is_hex_digit b = is_ascii_digit b || (nat_le 65 b && nat_le b 70) || (nat_le 97 b && nat_le b 102)

abbrev pub is_mysql_digest : List ℕ → Bool
is_mysql_digest text = length text == 40 && list_all is_hex_digit text

-- What begins with `*` or `!` is no password's text: the account is locked (shadow(5)). A text of MySQL is a password's.
abbrev pub is_locked : List ℕ → Bool
is_locked [] = false
is_locked (b ∷ text) = b == 33 || (b == 42 && not (is_mysql_digest text))
