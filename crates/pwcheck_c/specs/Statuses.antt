-- What the calls answer that give no verdict, by number.
use Rattle.std.specs.Prelude.{ℤ, negsuc}

-- -1: a number or a length is outside what is taken
abbrev pub status_out_of_range : ℤ
status_out_of_range = negsuc 0

-- -4: the text is the encoding of no bytes
abbrev pub status_not_base64 : ℤ
status_not_base64 = negsuc 3

-- -5: the password has more bytes than the scheme takes
abbrev pub status_refused_length : ℤ
status_refused_length = negsuc 4

-- -6: the password is not UTF-8
abbrev pub status_refused_utf8 : ℤ
status_refused_utf8 = negsuc 5

-- -7: the password has a zero byte, which the scheme doesn't take
abbrev pub status_refused_zero : ℤ
status_refused_zero = negsuc 6
