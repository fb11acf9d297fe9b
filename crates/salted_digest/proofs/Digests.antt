-- Each digest is a list of as many bytes as its hash function gives.
use Rattle.std.proofs.Common.{◌≡◌, ℕ, zero, suc, ◌*◌, ◌++◌, List, length, length-append, refl, arith}
use Rattle.std.specs.Prelude.{slice_index}
use Rattle.std.specs.Int.{w32, to_be_bytes, to_le_bytes}
use Rattle.base64ct.specs.Encoding.{EachBelow}
use Rattle.base64ct.proofs.GoodBlocks.{below-append}
use Rattle.md5.specs.Md5.{md5}
use Rattle.md5.specs.Md5 as of_md5
use Rattle.pieces.proofs.NumberBytes.{high_first, low_first}
use Rattle.sha1.specs.Sha1.{sha1}
use Rattle.sha1.specs.Sha1 as of_sha1
use Rattle.sha2.proofs.Facts256.{length-sha256}
use Rattle.sha2.proofs.Facts512.{length-sha512}
use Rattle.sha_crypt.proofs.Digests.{sha256-below, sha512-below}
use Rattle.salted_digest.specs.Digest.{digest_size, message_digest, salted_digest}
use Rattle.salted_digest.specs.declared.hash.DigestHash.{DigestHash}
use Rattle.salted_digest.specs.declared.hash.DigestHash.TheVariants.{Md5, Sha1, Sha256, Sha512}

-- a list has so many bytes
pub record AreBytes (size : ℕ) (bytes : List ℕ) : Type 0 where
  pub long : length bytes ≡ size
  pub below : EachBelow 256 bytes

one_word_more : (n : ℕ) (before word : List ℕ) → AreBytes (n * 4) before → AreBytes 4 word
    → AreBytes (suc n * 4) (before ++ word)
one_word_more n before word first second = record {
  long = omega (arith, first.long, second.long, length-append before word);
  below = below-append before word first.below second.below;
}

md5_words : (h : List ℕ) (n : ℕ) → AreBytes (n * 4) (of_md5.digest_bytes h n)
unfolding of_md5.digest_bytes
md5_words h zero = record { long = refl; below = λ i. omega arith }
md5_words h (suc n) =
    one_word_more n (of_md5.digest_bytes h n) (to_le_bytes w32 (slice_index h n)) (md5_words h n)
    (record { long = refl; below = low_first 0 4 (slice_index h n) })

sha1_words : (h : List ℕ) (n : ℕ) → AreBytes (n * 4) (of_sha1.digest_bytes h n)
unfolding of_sha1.digest_bytes
sha1_words h zero = record { long = refl; below = λ i. omega arith }
sha1_words h (suc n) =
    one_word_more n (of_sha1.digest_bytes h n) (to_be_bytes w32 (slice_index h n)) (sha1_words h n)
    (record { long = refl; below = high_first 4 (slice_index h n) })

md5_bytes : (m : List ℕ) → AreBytes 16 (md5 m)
unfolding md5
md5_bytes m = md5_words _ 4

sha1_bytes : (m : List ℕ) → AreBytes 20 (sha1 m)
unfolding sha1
sha1_bytes m = sha1_words _ 5

message_bytes : (hash : DigestHash) (m : List ℕ) → AreBytes (digest_size hash) (message_digest hash m)
message_bytes Md5 m = md5_bytes m
message_bytes Sha1 m = sha1_bytes m
message_bytes Sha256 m = record { long = length-sha256 m; below = sha256-below m }
message_bytes Sha512 m = record { long = length-sha512 m; below = sha512-below m }

pub digest_bytes : (hash : DigestHash) (password salt : List ℕ)
    → AreBytes (digest_size hash) (salted_digest hash password salt)
unfolding salted_digest
digest_bytes hash password salt = message_bytes hash (password ++ salt)
