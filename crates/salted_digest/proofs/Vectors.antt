-- The definitions by computing.
use Rattle.std.proofs.Common.{◌≡◌, [], ◌∷◌, codes, refl}
use Rattle.base64ct.specs.Encoding.{encoding, groups, bits, sixes, low_bits, number}
use Rattle.sha1.specs.Sha1.{sha1, digest_bytes, hash_after, compress, rounds, schedule, first_words}
use Rattle.salted_digest.specs.Check.{text_of}
use Rattle.salted_digest.specs.Digest.{salted_digest}
use Rattle.salted_digest.specs.declared.hash.DigestHash.TheVariants.{Sha1, Sha512}

-- what passlib's ldap_salted_sha1 gives for the password `password` and a salt of four bytes
digest : salted_digest Sha1 (codes "password") (0xd5 ∷ 0x3a ∷ 0xb5 ∷ 0xb6 ∷ [])
    ≡ 0xf5 ∷ 0xa0 ∷ 0x07 ∷ 0x00 ∷ 0x49 ∷ 0x62 ∷ 0x60 ∷ 0xda ∷ 0xac ∷ 0x2d ∷ 0xfb ∷ 0x57 ∷ 0x63 ∷ 0x88 ∷ 0x65 ∷
    0x5d ∷ 0xb8 ∷ 0x42 ∷ 0xf6 ∷ 0x76 ∷ []
unfolding salted_digest sha1 digest_bytes hash_after compress rounds schedule first_words
digest = refl

-- a text, with a short list in the place of the digest
text : text_of Sha512 (codes "salt") (codes "digest") ≡ codes "$ssha512$c2FsdA==$ZGlnZXN0"
unfolding encoding groups bits sixes low_bits number
text = refl

-- a text without a salt
plain_text : text_of Sha1 [] (codes "digest") ≡ codes "$ssha$$ZGlnZXN0"
unfolding encoding groups bits sixes low_bits number
plain_text = refl
