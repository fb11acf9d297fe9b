-- AIX's texts of loadable password algorithms (/etc/security/pwdalg.cfg: ssha1, ssha256, ssha512): PBKDF2 of a power of two of rounds. The
-- form is by hashcat's published texts (modes 6400, 6500 and 6700) and by John the Ripper's formats.
use Rattle.std.specs.Prelude.{ℕ, ◌^◌, ◌||◌, ◌&&◌, ◌==◌, Bool, false, List, [], ◌∷◌, length, take, drop, slice_index, nat_eq, nat_lt}
use Rattle.std.specs.Prelude.{Option, Some, None, Result, Ok, Err, if◌then◌else◌, codes}
use Rattle.std.specs.Cmp.Lexicographic.{pointwise}
use Rattle.std.specs.Char.{is_ascii_alphanumeric}
use Rattle.std.specs.List.{list_any}
use Rattle.base64ct.specs.Alphabets.{base64_crypt}
use Rattle.base64ct.specs.Decoding.{decoding}
use Rattle.pieces.specs.Characters.{dollar}
use Rattle.pieces.specs.Pieces.{behind, or_behind, pieces_at}
use Rattle.foreign_text.specs.Answers.{Answer}
use Rattle.foreign_text.specs.Fields.{in_three, number_of, three_of}
use Rattle.foreign_text.specs.Records.{with_kdf}
use Rattle.foreign_text.specs.declared.fault.ForeignFault.{ForeignFault}
use Rattle.foreign_text.specs.declared.fault.ForeignFault.TheVariants.{Rounds}
use Rattle.foreign_text.specs.declared.kdf.Kdf.{Kdf}
use Rattle.foreign_text.specs.declared.kdf.Kdf.TheVariants.{Pbkdf2}
use Rattle.foreign_text.specs.declared.kdf.Pbkdf2Hash.{Pbkdf2Hash}
use Rattle.foreign_text.specs.declared.kdf.Pbkdf2Hash.TheVariants.{Sha1, Sha256, Sha512}

-- what comes after a tag, where a `$` is in it: in the digests of LDAP with the same tag there is none
abbrev pub with_dollar : Option (List ℕ) → Option (List ℕ)
with_dollar None = None
with_dollar (Some rest) = if list_any (λ b. b == dollar) rest then Some rest else None

-- ---- the cost: two digits, the binary logarithm of the rounds

abbrev pub two_digits : List ℕ → Option ℕ
two_digits cost = if length cost == 2 then or_behind number_of (behind cost (codes "0")) (number_of cost) else None

abbrev pub by_power : Pbkdf2Hash → Option ℕ → Result Kdf ForeignFault
by_power hash None = Err Rounds
by_power hash (Some n) = if nat_lt n 32 then Ok (Pbkdf2 hash (2 ^ n)) else Err Rounds

-- ---- the key: three bytes are a number of 24 bits, the first byte highest, whose lowest six bits are the first of four characters

-- the first four characters in the other order
abbrev pub four : List ℕ → List ℕ
four text = slice_index text 3 ∷ (slice_index text 2 ∷ (slice_index text 1 ∷ (slice_index text 0 ∷ [])))

-- four characters at a time in the other order, in which the highest bits are first
unfoldable pub fours_turned : List ℕ → List ℕ
fours_turned (a ∷ (b ∷ (c ∷ (d ∷ rest)))) = d ∷ (c ∷ (b ∷ (a ∷ fours_turned rest)))
fours_turned [] = []
fours_turned (a ∷ []) = []
fours_turned (a ∷ (b ∷ [])) = []
fours_turned (a ∷ (b ∷ (c ∷ []))) = []

-- the characters of the bytes that are whole: 18 of 20 bytes, 30 of 32, and 63 of 64
abbrev pub whole_size : Pbkdf2Hash → ℕ
whole_size Sha1 = 24
whole_size Sha256 = 40
whole_size Sha512 = 84

-- a character of crypt(3)'s alphabet
abbrev pub is_crypt_byte : ℕ → Bool
is_crypt_byte b = is_ascii_alphanumeric b || b == 46 || b == 47

-- one of these whose lowest two bits are 0
abbrev pub is_fourth_byte : ℕ → Bool
is_fourth_byte b = list_any (λ c. c == b) (codes ".26AEIMQUYcgkosw")

-- The rest of the bytes fills the number's highest bits, so that the characters after the whole bytes begin with bits that are 0: of one byte
-- both characters are `.`, and of two the first one is.
abbrev pub is_last_two : List ℕ → Bool
is_last_two [] = false
is_last_two (a ∷ []) = false
is_last_two (a ∷ (b ∷ [])) = false
is_last_two (a ∷ (b ∷ (c ∷ []))) = (a == 46) && is_fourth_byte b && is_crypt_byte c
is_last_two (a ∷ (b ∷ (c ∷ (d ∷ more)))) = false

abbrev pub is_last_part : Pbkdf2Hash → List ℕ → Bool
is_last_part Sha1 last = is_last_two last
is_last_part Sha256 last = is_last_two last
is_last_part Sha512 last = pointwise nat_eq last (codes "..")

-- The key is the bytes that are whole: PBKDF2 gives them for a key of their number too (RFC 8018, section 5.2). Of one byte more no bit is
-- written, and of two bytes more only ten.
abbrev pub aix_key : Pbkdf2Hash → List ℕ → Option (List ℕ)
aix_key hash key =
    if is_last_part hash (drop (whole_size hash) key) then decoding base64_crypt (fours_turned (take (whole_size hash) key)) else None

-- ---- all

-- of the salt its characters count
abbrev pub aix_fields : Pbkdf2Hash → List ℕ → List ℕ → List ℕ → Answer
aix_fields hash cost salt key = with_kdf (by_power hash (two_digits cost)) (Some salt) (aix_key hash key)

-- `COST$SALT$KEY`, what comes after `{ssha1}`, `{ssha256}` or `{ssha512}`
abbrev pub aix : Pbkdf2Hash → List ℕ → Answer
aix hash rest = in_three (aix_fields hash) (three_of (pieces_at dollar rest))
