-- The definitions by computing.
use Rattle.std.proofs.Common.{◌≡◌, ℕ, List, [], ◌∷◌, codes, refl}
use Rattle.std.specs.Fmt.{digits}
use Rattle.base64ct.specs.Encoding.{encoding, groups, bits, sixes, low_bits, number}
use Rattle.hmac_plain.specs.Hmac.{hmac, hmac_sha256}
use Rattle.sha2.specs.Sha256.{sha256, digest_bytes, hash_after, compress, rounds, schedule, first_words}
use Rattle.word_lists.specs.Lists.{xor_bytes}
use Rattle.scram_plain.specs.Check.{text_of}
use Rattle.scram_plain.specs.Keys.{client_key, server_key, stored_key}
use Rattle.scram_plain.specs.declared.preparation.Preparation.TheVariants.{SaslPrep}

-- ---- the exchange of RFC 7677, section 3: password `pencil`, 4,096 rounds

-- the salted password, as Python's hashlib.pbkdf2_hmac gives it
abbrev salted : List ℕ
salted =
    0xc4 ∷ 0xa4 ∷ 0x95 ∷ 0x10 ∷ 0x32 ∷ 0x3a ∷ 0xb4 ∷ 0xf9 ∷ 0x52 ∷ 0xca ∷ 0xc1 ∷ 0xfa ∷ 0x99 ∷ 0x44 ∷ 0x19 ∷
    0x39 ∷ 0xe7 ∷ 0x8e ∷ 0xa7 ∷ 0x4d ∷ 0x6b ∷ 0xe8 ∷ 0x1d ∷ 0xdf ∷ 0x70 ∷ 0x96 ∷ 0xe8 ∷ 0x75 ∷ 0x13 ∷ 0xdc ∷
    0x61 ∷ 0x5d ∷ []

-- what both sides sign: both first messages, and the client's last one without the proof
abbrev signed : List ℕ
signed =
    codes "n=user,r=rOprNGfwEbeRWgbNEkqO,r=rOprNGfwEbeRWgbNEkqO%hvYDpWUa2RaTCAfuxFIlj)hNlF$k0,s=W22ZaJ0SNY7soEsUEjb6gQ==,i=4096,c=biws,r=rOprNGfwEbeRWgbNEkqO%hvYDpWUa2RaTCAfuxFIlj)hNlF$k0"

-- the server's signature: `v=6rriTRBi23WpRR/wtup+mMhUZUn/dB5nLTJRsjl95G4=`
signature : hmac_sha256 (server_key salted) signed
    ≡ 0xea ∷ 0xba ∷ 0xe2 ∷ 0x4d ∷ 0x10 ∷ 0x62 ∷ 0xdb ∷ 0x75 ∷ 0xa9 ∷ 0x45 ∷ 0x1f ∷ 0xf0 ∷ 0xb6 ∷ 0xea ∷ 0x7e ∷
    0x98 ∷ 0xc8 ∷ 0x54 ∷ 0x65 ∷ 0x49 ∷ 0xff ∷ 0x74 ∷ 0x1e ∷ 0x67 ∷ 0x2d ∷ 0x32 ∷ 0x51 ∷ 0xb2 ∷ 0x39 ∷ 0x7d ∷
    0xe4 ∷ 0x6e ∷ []
unfolding server_key hmac sha256 digest_bytes hash_after compress rounds schedule first_words
signature = refl

-- the client's proof: `p=dHzbZapWIk4jUhN+Ute9ytag9zjfMHgsqmmiz7AndVQ=`
proof : xor_bytes (client_key salted) (hmac_sha256 (stored_key salted) signed)
    ≡ 0x74 ∷ 0x7c ∷ 0xdb ∷ 0x65 ∷ 0xaa ∷ 0x56 ∷ 0x22 ∷ 0x4e ∷ 0x23 ∷ 0x52 ∷ 0x13 ∷ 0x7e ∷ 0x52 ∷ 0xd7 ∷ 0xbd ∷
    0xca ∷ 0xd6 ∷ 0xa0 ∷ 0xf7 ∷ 0x38 ∷ 0xdf ∷ 0x30 ∷ 0x78 ∷ 0x2c ∷ 0xaa ∷ 0x69 ∷ 0xa2 ∷ 0xcf ∷ 0xb0 ∷ 0x27 ∷
    0x75 ∷ 0x54 ∷ []
unfolding stored_key hmac sha256 digest_bytes hash_after compress rounds schedule first_words
proof = refl

-- ---- a text, with short lists in the place of the keys

text : text_of SaslPrep 4096 (codes "salt") (codes "stored") (codes "server")
    ≡ codes "$scram-sha-256$4096$c2FsdA==$c3RvcmVk$c2VydmVy"
unfolding digits encoding groups bits sixes low_bits number
text = refl
