-- The numbers of the parameter fields of crypt(5)'s yescrypt and scrypt, as libxcrypt reads and writes them: characters of six
-- bits each.
use Rattle.std.specs.Prelude.{ℕ, zero, suc, ◌+◌, ◌-◌, ◌*◌, ◌/◌, ◌%◌, ◌^◌, ◌&&◌, Bool, List, [], ◌∷◌, drop, length, nat_le, nat_lt, slice_index, Option}
use Rattle.std.specs.Prelude.{Some, None, if◌then◌else◌}
use Rattle.std.specs.Option.{option_and_then}
use Rattle.yescrypt_plain.specs.declared.number.Class.{Class}
use Rattle.yescrypt_plain.specs.declared.number.Read.{Read}

-- ---- numbers read

-- the value of a character of `./0-9A-Za-z`, in this order
abbrev pub value_of : ℕ → Option ℕ
value_of c =
    if nat_le 46 c && nat_le c 57 then Some (c - 46)
    else (if nat_le 65 c && nat_le c 90 then Some (c - 53)
    else (if nat_le 97 c && nat_le c 122 then Some (c - 59) else None))

-- the number that so many characters give, the highest first, behind those that gave v
unfoldable pub digits : ℕ → ℕ → List ℕ → Option ℕ
digits zero v text = Some v
digits (suc n) v [] = None
digits (suc n) v (c ∷ text) = option_and_then (λ d. digits n (v * 64 + d) text) (value_of c)

-- The classes of numbers, by the value of the first character: the values from `start` on are its own, `more` characters
-- follow, and its numbers begin at `base`. Each has half of the values that are left, and the first 48.
abbrev pub class_of : ℕ → Class
class_of first =
    if nat_lt first 48 then record { start = 0; more = 0; base = 0 }
    else (if nat_lt first 56 then record { start = 48; more = 1; base = 48 }
    else (if nat_lt first 60 then record { start = 56; more = 2; base = 560 }
    else (if nat_lt first 62 then record { start = 60; more = 3; base = 16944 }
    else (if nat_lt first 63 then record { start = 62; more = 4; base = 541232 }
    else record { start = 63; more = 5; base = 17318448 }))))

-- a number of a class, and where the text goes on behind it
abbrev pub class_number : ℕ → ℕ → Class → Option ℕ → Option Read
class_number least at k None = None
class_number least at k (Some v) = Some (record { value = least + k.base + v; next = at + 1 + k.more })

-- the number whose first character has this value
abbrev pub first_number : ℕ → ℕ → List ℕ → Option ℕ → Option Read
first_number least at text None = None
first_number least at text (Some first) =
    class_number least at (class_of first) (digits (class_of first).more (first - (class_of first).start) text)

-- the number at a place of a text, of which the least possible is `least`
unfoldable pub number : List ℕ → ℕ → ℕ → Option Read
number text at least =
    if nat_lt at (length text) then first_number least at (drop (at + 1) text) (value_of (slice_index text at)) else None

-- the number at a place, where it is named; else the one that stands for its absence
abbrev pub named : List ℕ → ℕ → Bool → ℕ → ℕ → Option Read
named text at is_named least absent =
    if is_named then number text at least else Some (record { value = absent; next = at })

-- the number of five characters from a place on, the lowest first
unfoldable pub five : List ℕ → ℕ → Option ℕ
five text at =
    option_and_then (λ a.
    option_and_then (λ b.
    option_and_then (λ c.
    option_and_then (λ d.
    option_and_then (λ e. Some (a + 64 * (b + 64 * (c + 64 * (d + 64 * e)))))
    (value_of (slice_index text (at + 4))))
    (value_of (slice_index text (at + 3))))
    (value_of (slice_index text (at + 2))))
    (value_of (slice_index text (at + 1))))
    (value_of (slice_index text at))

-- ---- numbers written

-- the character of a value below 64
abbrev pub character : ℕ → ℕ
character v = if nat_lt v 12 then 46 + v else (if nat_lt v 38 then 53 + v else 59 + v)

-- the characters of the n lowest digits of a number to the base 64, the highest first
unfoldable pub digits_text : ℕ → ℕ → List ℕ
digits_text zero v = []
digits_text (suc n) v = character (v / 64 ^ n % 64) ∷ digits_text n v

-- the class that a number is in
abbrev pub class_for : ℕ → Class
class_for v =
    if nat_lt v 48 then record { start = 0; more = 0; base = 0 }
    else (if nat_lt v 560 then record { start = 48; more = 1; base = 48 }
    else (if nat_lt v 16944 then record { start = 56; more = 2; base = 560 }
    else (if nat_lt v 541232 then record { start = 60; more = 3; base = 16944 }
    else (if nat_lt v 17318448 then record { start = 62; more = 4; base = 541232 }
    else record { start = 63; more = 5; base = 17318448 }))))

-- what is above the base of a class: the first character, and those that follow
abbrev pub class_text : Class → ℕ → List ℕ
class_text k v = character (k.start + v / 64 ^ k.more) ∷ digits_text k.more v

-- the characters of a number above the least possible
unfoldable pub number_text : ℕ → List ℕ
number_text v = class_text (class_for v) (v - (class_for v).base)

-- the five characters of a number below 2 ^ 30, the lowest first
unfoldable pub five_text : ℕ → List ℕ
five_text v =
    character (v % 64) ∷ character (v / 64 % 64) ∷ character (v / 64 ^ 2 % 64) ∷ character (v / 64 ^ 3 % 64)
    ∷ character (v / 64 ^ 4 % 64) ∷ []
