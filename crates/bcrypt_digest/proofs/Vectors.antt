-- The definitions by computing. The values are those of Python's hashlib, hmac and base64, and of the published vectors named.
use Rattle.std.proofs.Common.{◌≡◌, [], ◌∷◌, codes, refl}
use Rattle.std.specs.Prelude.{Some, None}
use Rattle.sha2.specs.Sha256.{sha256, digest_bytes, hash_after, compress, rounds, schedule, first_words}
use Rattle.sha2.specs.Sha512 as S512
use Rattle.sha2.specs.Sha512.{sha384}
use Rattle.base64ct.specs.Encoding.{encoding, groups, bits, low_bits, number, sixes}
use Rattle.hex.specs.Hex.{encode_with}
use Rattle.hmac_plain.specs.Hmac.{hmac}
use Rattle.bcrypt_digest.specs.Front.{front_text, trimmed}
use Rattle.bcrypt_digest.specs.Text.{passlib_cost}
use Rattle.bcrypt_digest.specs.declared.front.Front.TheVariants.{Hex, Plain, Salted, WordPress}

-- FIPS 180-4's message
hex_of_abc : front_text Hex [] (codes "abc") ≡ codes "ba7816bf8f01cfea414140de5dae2223b00361a396177a9cb410ff61f20015ad"
unfolding front_text encode_with sha256 digest_bytes hash_after compress rounds schedule first_words
hex_of_abc = refl

plain_of_nothing : front_text Plain [] [] ≡ codes "47DEQpj8HBSa+/TImW+5JCeuQeRkm5NMpJWZG3hSuFU="
unfolding front_text encoding groups bits low_bits number sixes sha256 digest_bytes hash_after compress rounds schedule first_words
plain_of_nothing = refl

-- the password `secret` and a salt of passlib's
salted_secret : front_text Salted (codes "abcdefghijklmnopqrstuu") (codes " secret ") ≡ codes "BkWvS+eKKr9pB9x65mGAP/3KcHLirl9dJ6ER4S0Gz70="
unfolding front_text hmac encoding groups bits low_bits number sixes sha256 digest_bytes hash_after compress rounds schedule first_words
salted_secret = refl

wordpress_secret : front_text WordPress [] (codes " secret ") ≡ codes "qbkKVZK1/fCOPlGm5IxC1KnGqNkFSywLf79RNfTtmzevzNwKU1eXGFovQ4UXkLyH"
unfolding front_text hmac encoding groups bits low_bits number sixes sha384 S512.digest_bytes S512.hash_after S512.compress S512.rounds S512.schedule S512.first_words
wordpress_secret = refl

blanks : trimmed (32 ∷ 9 ∷ 10 ∷ 13 ∷ 0 ∷ 11 ∷ 97 ∷ 32 ∷ 12 ∷ 11 ∷ 0 ∷ 13 ∷ 10 ∷ 9 ∷ 32 ∷ []) ≡ 97 ∷ 32 ∷ 12 ∷ []
blanks = refl

least_cost : passlib_cost (codes "4") ≡ Some 4
least_cost = refl

most_cost : passlib_cost (codes "31") ≡ Some 31
most_cost = refl

zero_in_front : passlib_cost (codes "05") ≡ None
zero_in_front = refl
