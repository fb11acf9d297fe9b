-- What bcrypt gets: how long it is, and that no byte of it is zero.
use Rattle.std.proofs.Common.{◌≡◌, ℕ, zero, suc, ◌+◌, ◌-◌, ◌*◌, ◌/◌, ◌%◌, ◌≤◌, ◌<◌, Bool, true, false, List, [], ◌∷◌, length, map, replicate}
use Rattle.std.proofs.Common.{slice_index, refl, sym, ap, ◌∙◌, arith, inl, inr}
use Rattle.std.specs.Prelude.{◌==◌, ◌||◌, ◌⊎◌, codes}
use Rattle.std.specs.Int.{w32, w64, to_be_bytes}
use Rattle.std.proofs.lemmas.Bool.{false≢true}
use Rattle.std.proofs.lemmas.List.Folds.{list_any-append}
use Rattle.base64ct.specs.Alphabets.{base64}
use Rattle.base64ct.specs.Encoding.{EachBelow, encoding, groups, longest_input, padding, unpadded_encoding}
use Rattle.base64ct.proofs.Encodings.{below-take, groups-below}
use Rattle.base64ct.proofs.GoodBlocks.{below-append}
use Rattle.base64ct.proofs.Padding.{encoding-is, length-encoding}
use Rattle.hex.specs.Hex.{encode_with, lower_digits}
use Rattle.hex.proofs.HexLemmas.{length-encode_with}
use Rattle.hmac_plain.specs.Hmac.{hmac, hmac_sha256, hmac_sha384}
use Rattle.hmac_plain.specs.Lengths.{length-hmac_sha256, length-hmac_sha384}
use Rattle.pieces.proofs.NumberBytes.{high_first}
use Rattle.sha2.specs.Sha256 as of_256
use Rattle.sha2.specs.Sha256.{sha256}
use Rattle.sha2.specs.Sha512 as of_512
use Rattle.sha2.specs.Sha512.{sha384}
use Rattle.sha2.proofs.Facts256.{length-sha256}
use Rattle.bcrypt_plain.specs.Check.{has_zero}
use Rattle.bcrypt_digest.specs.Front.{front_text, trimmed}
use Rattle.bcrypt_digest.specs.Laws.{AllBytesCount}
use Rattle.bcrypt_digest.specs.declared.front.Front.TheVariants.{Hex, Plain, Salted, WordPress}

-- ---- digests are bytes

none_below : EachBelow 256 []
none_below i = omega arith

words_below_32 : (h : List ℕ) (n : ℕ) → EachBelow 256 (of_256.digest_bytes h n)
unfolding of_256.digest_bytes
words_below_32 h zero = none_below
words_below_32 h (suc n) =
    below-append (of_256.digest_bytes h n) (to_be_bytes w32 (slice_index h n)) (words_below_32 h n)
    (high_first 4 (slice_index h n))

words_below_64 : (h : List ℕ) (n : ℕ) → EachBelow 256 (of_512.digest_bytes h n)
unfolding of_512.digest_bytes
words_below_64 h zero = none_below
words_below_64 h (suc n) =
    below-append (of_512.digest_bytes h n) (to_be_bytes w64 (slice_index h n)) (words_below_64 h n)
    (high_first 8 (slice_index h n))

sha256_below : (m : List ℕ) → EachBelow 256 (sha256 m)
unfolding sha256
sha256_below m = words_below_32 _ 8

sha384_below : (m : List ℕ) → EachBelow 256 (sha384 m)
unfolding sha384
sha384_below m = below-take 256 48 _ (omega arith) (words_below_64 _ 8)

hmac_256_below : (key m : List ℕ) → EachBelow 256 (hmac_sha256 key m)
unfolding hmac
hmac_256_below key m = sha256_below _

hmac_384_below : (key m : List ℕ) → EachBelow 256 (hmac_sha384 key m)
unfolding hmac
hmac_384_below key m = sha384_below _

-- ---- no zero byte

neither : (a b : Bool) → (a || b) ≡ false → (a ≡ false) × (b ≡ false)
neither false b h = (refl, h)
neither true b h = absurd (false≢true (sym h))

not_zero_at : (cs : List ℕ) (v : ℕ) → has_zero cs ≡ false → v < length cs → (slice_index cs v == 0) ≡ false
not_zero_at [] v none lt = absurd (omega (arith, lt))
not_zero_at (c ∷ cs) zero none lt = (neither (c == 0) (has_zero cs) none).0
not_zero_at (c ∷ cs) (suc v) none lt = not_zero_at cs v (neither (c == 0) (has_zero cs) none).1 (omega (arith, lt))

mapped : (cs vs : List ℕ) → has_zero cs ≡ false → EachBelow (length cs) vs
    → has_zero (map (λ v. slice_index cs v) vs) ≡ false
mapped cs [] none below = refl
mapped cs (v ∷ vs) none below =
    rw (not_zero_at cs v none (below 0)) (mapped cs vs none (λ i. below (suc i)))

repeated : (n c : ℕ) → (c == 0) ≡ false → has_zero (replicate n c) ≡ false
repeated zero c h = refl
repeated (suc n) c h = rw h (repeated n c h)

base64_whole : (b : List ℕ) → EachBelow 256 b → has_zero (encoding base64 b) ≡ false
base64_whole b below =
    let n = length (groups false b) in
    rw (
      encoding-is base64 b,
      list_any-append (λ (c : ℕ). c == 0) (unpadded_encoding base64 b) (padding true n),
      mapped base64.characters (groups false b) refl (groups-below false b below),
      repeated ((4 - n % 4) % 4) 61 refl,
    )
    refl

hex_whole : (b : List ℕ) → EachBelow 256 b → has_zero (encode_with lower_digits b) ≡ false
unfolding encode_with
hex_whole [] below = refl
hex_whole (b ∷ rest) below =
    let small : b < 256 = below 0 in
    rw (
      not_zero_at lower_digits (b / 16) refl (omega (arith, small)),
      not_zero_at lower_digits (b % 16) refl (omega arith),
    )
    (hex_whole rest (λ i. below (suc i)))

-- ---- lengths

base64_len : (b : List ℕ) → EachBelow 256 b
    → length (encoding base64 b) ≡ (4 * length b + 2) / 3 + (4 - ((4 * length b + 2) / 3) % 4) % 4
base64_len b below = length-encoding base64 b below

-- 48 bytes are 64 characters
base64_short : (b : List ℕ) → EachBelow 256 b → length b ≤ 48 → length (encoding base64 b) ≤ 64
base64_short b below short = omega (arith, base64_len b below, short)

pub never_refused : (b : List ℕ) (n : ℕ) → EachBelow 256 b → length b ≤ 48 → n ≡ 64
    → ((longest_input < length b) ⊎ (n < length (encoding base64 b))) → ⊥
never_refused b n below short room (inl long) = omega (arith, long, short)
never_refused b n below short room (inr less) = omega (arith, base64_short b below short, less, room)

base64_all : (b : List ℕ) → EachBelow 256 b → length b ≤ 48
    → (length (encoding base64 b) ≤ 72) × (has_zero (encoding base64 b) ≡ false)
base64_all b below short = (omega (arith, base64_short b below short), base64_whole b below)

pub all_bytes_count : AllBytesCount
unfolding front_text
all_bytes_count Hex salt password =
    (omega (arith, length-encode_with lower_digits (sha256 password), length-sha256 password), hex_whole _ (sha256_below password))
all_bytes_count Plain salt password =
    base64_all (sha256 password) (sha256_below password) (omega (arith, length-sha256 password))
all_bytes_count Salted salt password =
    base64_all (hmac_sha256 salt password) (hmac_256_below salt password) (omega (arith, length-hmac_sha256 salt password))
all_bytes_count WordPress salt password =
    base64_all (hmac_sha384 (codes "wp-sha384") (trimmed password)) (hmac_384_below _ (trimmed password))
    (omega (arith, length-hmac_sha384 (codes "wp-sha384") (trimmed password)))
