-- The definitions by computing.
use Rattle.std.proofs.Common.{◌≡◌, [], ◌∷◌, codes, refl}
use Rattle.std.specs.Fmt.{digits}
use Rattle.base64ct.specs.Encoding.{encoding, whole_bytes, groups, bits, sixes, eights, low_bits, number}
use Rattle.hmac_plain.specs.Hmac.{hmac}
use Rattle.sha1.specs.Sha1.{sha1, digest_bytes, hash_after, compress, rounds, schedule, first_words}
use Rattle.sha_crypt.specs.HashField.{hash_field}
use Rattle.sha1_crypt.specs.Digest.{after_rounds, sha1_digest}
use Rattle.sha1_crypt.specs.Field.{sha1_field}

-- two rounds: the bytes are those of Python's hmac, and libxcrypt's crypt writes them in the text `$sha1$2$s$` of `pw` as below
two_rounds : sha1_digest (codes "pw") (codes "s") 2
    ≡ 0x62 ∷ 0x59 ∷ 0xaf ∷ 0xd4 ∷ 0x28 ∷ 0x9c ∷ 0xf8 ∷ 0xaa ∷ 0x7f ∷ 0xe5 ∷ 0xa5 ∷ 0x42 ∷ 0xa0 ∷ 0xe7 ∷ 0x7f ∷ 0xab
    ∷ 0x3d ∷ 0x5a ∷ 0x21 ∷ 0x9b ∷ []
unfolding sha1_digest after_rounds digits hmac sha1 digest_bytes hash_after compress rounds schedule first_words
two_rounds = refl

field : sha1_field (0x62 ∷ 0x59 ∷ 0xaf ∷ 0xd4 ∷ 0x28 ∷ 0x9c ∷ 0xf8 ∷ 0xaa ∷ 0x7f ∷ 0xe5 ∷ 0xa5 ∷ 0x42 ∷ 0xa0 ∷ 0xe7
    ∷ 0x7f ∷ 0xab ∷ 0x3d ∷ 0x5a ∷ 0x21 ∷ 0x9b ∷ []) ≡ codes "jaZMQW0pzd8y0JOtzRCcOpneWhN6"
unfolding hash_field encoding whole_bytes groups bits sixes eights low_bits number
field = refl
