-- Outside vectors, computed by the definitions: a wrong constant, order or step in one doesn't check.
use Rattle.std.proofs.Common.{◌≡◌, [], ◌∷◌, codes, replicate, refl}
use Rattle.sha1.specs.Sha1.{sha1, digest_bytes, hash_after, compress, rounds, schedule, first_words}
use Rattle.hmac_plain.specs.Hmac.{hmac}
use Rattle.hmac_sha1.specs.Hmac.{hmac_sha1}

-- RFC 2202, test case 2 of HMAC-SHA-1
short_key : hmac_sha1 (codes "Jefe") (codes "what do ya want for nothing?")
    ≡ 0xef ∷ 0xfc ∷ 0xdf ∷ 0x6a ∷ 0xe5 ∷ 0xeb ∷ 0x2f ∷ 0xa2 ∷ 0xd2 ∷ 0x74 ∷ 0x16 ∷ 0xd5 ∷ 0xf1 ∷ 0x84 ∷ 0xdf ∷ 0x9c
    ∷ 0x25 ∷ 0x9a ∷ 0x7c ∷ 0x79 ∷ []
unfolding hmac sha1 digest_bytes hash_after compress rounds schedule first_words
short_key = refl

-- RFC 2202, test case 6 of HMAC-SHA-1: the key has more than 64 bytes
long_key : hmac_sha1 (replicate 80 0xaa) (codes "Test Using Larger Than Block-Size Key - Hash Key First")
    ≡ 0xaa ∷ 0x4a ∷ 0xe5 ∷ 0xe1 ∷ 0x52 ∷ 0x72 ∷ 0xd0 ∷ 0x0e ∷ 0x95 ∷ 0x70 ∷ 0x56 ∷ 0x37 ∷ 0xce ∷ 0x8a ∷ 0x3b ∷ 0x55
    ∷ 0xed ∷ 0x40 ∷ 0x21 ∷ 0x12 ∷ []
unfolding hmac sha1 digest_bytes hash_after compress rounds schedule first_words
long_key = refl
