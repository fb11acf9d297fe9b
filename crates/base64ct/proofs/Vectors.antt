-- The definitions, computed on vectors from outside: the tests of the Rust crate `base64ct`, and RFC 4648.
use Rattle.std.proofs.Common.{◌≡◌, true, [], ◌∷◌, refl}
use Rattle.std.specs.Prelude.{codes, Some, None}
use Rattle.base64ct.specs.Encoding.{low_bits, number, bits, sixes, eights, groups, whole_bytes, encoding, is_alphabet}
use Rattle.base64ct.specs.Decoding.{decoding}
use Rattle.base64ct.specs.Blocks.{blocks}
use Rattle.base64ct.specs.Tables.{compared, reencoded}
use Rattle.base64ct.specs.Counts.{look_count, comparison_count}
use Rattle.base64ct.specs.Alphabets.{base64, base64_unpadded, base64_url, base64_bcrypt, base64_crypt, base64_pbkdf2}
use Rattle.base64ct.specs.Alphabets.{base64_sha_crypt}

alphabet : is_alphabet base64_sha_crypt ≡ true
alphabet = refl

none : encoding base64 [] ≡ []
unfolding encoding groups sixes bits low_bits number
none = refl

one_zero : encoding base64 (0 ∷ []) ≡ codes "AA=="
unfolding encoding groups sixes bits low_bits number
one_zero = refl

three_sha : encoding base64_sha_crypt (0x2a ∷ 0x2a ∷ 0x2a ∷ []) ≡ codes "ecW8"
unfolding encoding groups sixes bits low_bits number
three_sha = refl

four : encoding base64 (1 ∷ 2 ∷ 3 ∷ 4 ∷ []) ≡ codes "AQIDBA=="
unfolding encoding groups sixes bits low_bits number
four = refl

four_sha : encoding base64_sha_crypt (1 ∷ 2 ∷ 3 ∷ 4 ∷ []) ≡ codes "/6k.2."
unfolding encoding groups sixes bits low_bits number
four_sha = refl

five_bcrypt : encoding base64_bcrypt (0xad ∷ 0xad ∷ 0xad ∷ 0xad ∷ 0xad ∷ []) ≡ codes "pY0rpYy"
unfolding encoding groups sixes bits low_bits number
five_bcrypt = refl

five : encoding base64 (0xad ∷ 0xad ∷ 0xad ∷ 0xad ∷ 0xad ∷ []) ≡ codes "ra2tra0="
unfolding encoding groups sixes bits low_bits number
five = refl

five_sha : encoding base64_sha_crypt (0xad ∷ 0xad ∷ 0xad ∷ 0xad ∷ 0xad ∷ []) ≡ codes "hqOfhq8"
unfolding encoding groups sixes bits low_bits number
five_sha = refl

six_url : encoding base64_url (0xff ∷ 0xef ∷ 0xfe ∷ 0xff ∷ 0xef ∷ 0xfe ∷ []) ≡ codes "_-_-_-_-"
unfolding encoding groups sixes bits low_bits number
six_url = refl

six_sha : encoding base64_sha_crypt (0xff ∷ 0xef ∷ 0xfe ∷ 0xff ∷ 0xef ∷ 0xfe ∷ []) ≡ codes "zzizzziz"
unfolding encoding groups sixes bits low_bits number
six_sha = refl

five_crypt : encoding base64_crypt (0xad ∷ 0xad ∷ 0xad ∷ 0xad ∷ 0xad ∷ []) ≡ codes "fOqhfOo"
unfolding encoding groups sixes bits low_bits number
five_crypt = refl

six_pbkdf2 : encoding base64_pbkdf2 (0xff ∷ 0xef ∷ 0xfe ∷ 0xff ∷ 0xef ∷ 0xfe ∷ []) ≡ codes "/./././."
unfolding encoding groups sixes bits low_bits number
six_pbkdf2 = refl

-- ---- decoding

read_four : decoding base64 (codes "AQIDBA==") ≡ Some (1 ∷ 2 ∷ 3 ∷ 4 ∷ [])
unfolding decoding whole_bytes eights encoding groups sixes bits low_bits number
read_four = refl

read_three_sha : decoding base64_sha_crypt (codes "ecW8") ≡ Some (0x2a ∷ 0x2a ∷ 0x2a ∷ [])
unfolding decoding whole_bytes eights encoding groups sixes bits low_bits number
read_three_sha = refl

spare_bits : decoding base64 (codes "AA/=") ≡ None
unfolding decoding whole_bytes eights encoding groups sixes bits low_bits number
spare_bits = refl

spare_bits_unpadded : decoding base64_pbkdf2 (codes "Mi") ≡ None
unfolding decoding whole_bytes eights encoding groups sixes bits low_bits number
spare_bits_unpadded = refl

padding_unpadded : decoding base64_unpadded (codes "AA==") ≡ None
unfolding decoding whole_bytes eights encoding groups sixes bits low_bits number
padding_unpadded = refl

padding_within : decoding base64 (codes "AA=A") ≡ None
unfolding decoding whole_bytes eights encoding groups sixes bits low_bits number
padding_within = refl

-- ---- blocks and counts

two_blocks : blocks (codes "AQIDBA") ≡ codes "AQID" ∷ codes "BA" ∷ []
unfolding blocks
two_blocks = refl

compared_short : compared base64_unpadded (codes "Mi") ≡ codes "MiAA"
compared_short = refl

compared_full : compared base64_unpadded (codes "AAAAKioq") ≡ codes "Kioq"
compared_full = refl

reencoded_short : reencoded base64_unpadded (codes "Mi") (0x32 ∷ []) ≡ codes "MgAA"
unfolding groups sixes bits low_bits number
reencoded_short = refl

looks_eight : look_count base64_unpadded (codes "AAAAAAAA") 8 ≡ 12
looks_eight = refl

looks_none : look_count base64_unpadded [] 8 ≡ 4
looks_none = refl

looks_no_room : look_count base64_unpadded (codes "AAAA") 0 ≡ 0
looks_no_room = refl

comparisons_eight : comparison_count base64_unpadded (codes "AAAAAAAA") 8 ≡ 4
comparisons_eight = refl

comparisons_none : comparison_count base64_unpadded [] 8 ≡ 0
comparisons_none = refl

comparisons_no_room : comparison_count base64_unpadded (codes "AAAA") 0 ≡ 0
comparisons_no_room = refl
