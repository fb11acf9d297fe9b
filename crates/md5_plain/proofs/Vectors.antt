-- The definitions by computing.
use Rattle.std.specs.Prelude.{◌≡◌, [], ◌∷◌, codes, refl}
use Rattle.base64ct.specs.Encoding.{encoding, whole_bytes, groups, bits, sixes, eights, low_bits, number}
use Rattle.md5.specs.Md5.{md5, digest_bytes, hash_after, compress, rounds, block_words}
use Rattle.sha_crypt.specs.Digest.{after_rounds}
use Rattle.md5_plain.specs.Digest.{digest_after, magic_text, start_digest}
use Rattle.sha_crypt.specs.HashField.{hash_field}
use Rattle.md5_plain.specs.Field.{md5_field}
use Rattle.md5_plain.specs.declared.magic.Magic.TheVariants.{Md5, Apr1}

-- The bytes are those of a program over Python's hashlib that follows the algorithm's steps and gives openssl's and
-- libxcrypt's texts at 1,000 rounds.
eight_rounds : digest_after (magic_text Md5) (codes "pw") (codes "s") 8
    ≡ 0x07 ∷ 0x91 ∷ 0x08 ∷ 0xf1 ∷ 0x26 ∷ 0x35 ∷ 0xad ∷ 0x84 ∷ 0x7b ∷ 0x37 ∷ 0x6c ∷ 0xfc ∷ 0xe7 ∷ 0x26 ∷ 0x86 ∷ 0xa7 ∷ []
unfolding start_digest after_rounds md5 digest_bytes hash_after compress rounds block_words
eight_rounds = refl

eight_rounds_of_apr1 : digest_after (magic_text Apr1) (codes "myPassword") (codes "r31.....") 8
    ≡ 0x55 ∷ 0xc1 ∷ 0x43 ∷ 0x92 ∷ 0xec ∷ 0x1a ∷ 0x81 ∷ 0x4a ∷ 0x2f ∷ 0x4c ∷ 0x71 ∷ 0x6d ∷ 0x70 ∷ 0x82 ∷ 0x93 ∷ 0x6c ∷ []
unfolding start_digest after_rounds md5 digest_bytes hash_after compress rounds block_words
eight_rounds_of_apr1 = refl

-- the field that openssl passwd -1 and libxcrypt write for `a` and `saltsalt`, of the digest that the same program
-- gives
field : md5_field (0xbc ∷ 0xfb ∷ 0x13 ∷ 0x7d ∷ 0x67 ∷ 0xee ∷ 0xff ∷ 0x25 ∷ 0xf4 ∷ 0x90 ∷ 0xf6 ∷ 0x62 ∷ 0xd8 ∷ 0x27 ∷
    0x3f ∷ 0xb2 ∷ [])
    ≡ codes "MzDjbImyzEz2m0NTiPzNW/"
unfolding hash_field encoding whole_bytes groups bits sixes eights low_bits number
field = refl
