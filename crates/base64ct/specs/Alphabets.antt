-- The eight alphabets, and the steps that give their characters and values.
use Rattle.std.specs.Prelude.{codes, true, false, [], ◌∷◌}
use Rattle.base64ct.specs.Encoding.{Alphabet}
use Rattle.base64ct.specs.Steps.{Steps, in_range, at_one, past_value, past_sum, minus}

-- RFC 4648, table 1, padded
abbrev pub base64 : Alphabet
base64 = record {
  characters = codes "ABCDEFGHIJKLMNOPQRSTUVWXYZabcdefghijklmnopqrstuvwxyz0123456789+/";
  padded = true;
  low_first = false;
}

-- RFC 4648, table 1, without padding (section 3.2)
abbrev pub base64_unpadded : Alphabet
base64_unpadded = record base64 { padded = false }

-- RFC 4648, table 2, padded
abbrev pub base64_url : Alphabet
base64_url = record {
  characters = codes "ABCDEFGHIJKLMNOPQRSTUVWXYZabcdefghijklmnopqrstuvwxyz0123456789-_";
  padded = true;
  low_first = false;
}

-- RFC 4648, table 2, without padding
abbrev pub base64_url_unpadded : Alphabet
base64_url_unpadded = record base64_url { padded = false }

-- the alphabet of bcrypt (Provos and Mazieres, "A Future-Adaptable Password Scheme"; OpenBSD)
abbrev pub base64_bcrypt : Alphabet
base64_bcrypt = record {
  characters = codes "./ABCDEFGHIJKLMNOPQRSTUVWXYZabcdefghijklmnopqrstuvwxyz0123456789";
  padded = false;
  low_first = false;
}

-- the alphabet of crypt(3), the high bits first
abbrev pub base64_crypt : Alphabet
base64_crypt = record {
  characters = codes "./0123456789ABCDEFGHIJKLMNOPQRSTUVWXYZabcdefghijklmnopqrstuvwxyz";
  padded = false;
  low_first = false;
}

-- the alphabet of PBKDF2 texts (passlib's "adapted base64")
abbrev pub base64_pbkdf2 : Alphabet
base64_pbkdf2 = record {
  characters = codes "ABCDEFGHIJKLMNOPQRSTUVWXYZabcdefghijklmnopqrstuvwxyz0123456789./";
  padded = false;
  low_first = false;
}

-- the alphabet of crypt(3), the low bits first (Drepper, "Unix crypt using SHA-256 and SHA-512", step 22)
abbrev pub base64_sha_crypt : Alphabet
base64_sha_crypt = record base64_crypt { low_first = true }

-- the steps of the two of RFC 4648, table 1
abbrev pub base64_steps : Steps
base64_steps = record {
  decoding = in_range 65 90 (minus 64) ∷ in_range 97 122 (minus 70) ∷ in_range 48 57 5 ∷ at_one 43 63 ∷ at_one 47 64
      ∷ [];
  base = 65;
  encoding = past_value 25 6 ∷ past_value 51 (minus 75) ∷ past_value 61 (minus 15) ∷ past_value 62 3 ∷ [];
}

-- the steps of the two of RFC 4648, table 2
abbrev pub base64_url_steps : Steps
base64_url_steps = record {
  decoding = in_range 65 90 (minus 64) ∷ in_range 97 122 (minus 70) ∷ in_range 48 57 5 ∷ at_one 45 63 ∷ at_one 95 64
      ∷ [];
  base = 65;
  encoding = past_value 25 6 ∷ past_value 51 (minus 75) ∷ past_value 61 (minus 13) ∷ past_value 62 49 ∷ [];
}

-- the steps of that of PBKDF2 texts
abbrev pub base64_pbkdf2_steps : Steps
base64_pbkdf2_steps = record {
  decoding = in_range 65 90 (minus 64) ∷ in_range 97 122 (minus 70) ∷ in_range 48 57 5 ∷ at_one 46 63 ∷ at_one 47 64
      ∷ [];
  base = 65;
  encoding = past_value 25 6 ∷ past_value 51 (minus 75) ∷ past_value 61 (minus 12) ∷ past_value 62 0 ∷ [];
}

-- the steps of that of bcrypt
abbrev pub base64_bcrypt_steps : Steps
base64_bcrypt_steps = record {
  decoding = in_range 46 47 (minus 45) ∷ in_range 65 90 (minus 62) ∷ in_range 97 122 (minus 68) ∷ in_range 48 57 7 ∷ [];
  base = 46;
  encoding = past_sum 47 17 ∷ past_sum 90 6 ∷ past_sum 122 (minus 75) ∷ [];
}

-- the steps of those of crypt(3), both orders
abbrev pub base64_crypt_steps : Steps
base64_crypt_steps = record {
  decoding = in_range 46 57 (minus 45) ∷ in_range 65 90 (minus 52) ∷ in_range 97 122 (minus 58) ∷ [];
  base = 46;
  encoding = past_sum 57 7 ∷ past_sum 90 6 ∷ [];
}
