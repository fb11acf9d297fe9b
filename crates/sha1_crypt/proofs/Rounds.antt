-- The digest round by round: one round more, and how long it is.
use Rattle.std.proofs.Common.{◌≡◌, ℕ, zero, suc, ◌+◌, ◌≤◌, List, length, refl, ap, ◌∙◌, arith, add-one}
use Rattle.std.specs.Prelude.{slice_index}
use Rattle.std.specs.Int.{w32, to_be_bytes}
use Rattle.base64ct.specs.Encoding.{EachBelow}
use Rattle.base64ct.proofs.GoodBlocks.{below-append}
use Rattle.hmac_plain.specs.Hmac.{hmac}
use Rattle.hmac_sha1.specs.Hmac.{hmac_sha1}
use Rattle.hmac_sha1.specs.Lengths.{length-hmac_sha1}
use Rattle.pieces.proofs.NumberBytes.{high_first}
use Rattle.sha1.specs.Sha1.{digest_bytes, sha1}
use Rattle.sha1_crypt.specs.Digest.{after_rounds, first_message, sha1_digest}

pub one_round : (password message : List ℕ) → hmac_sha1 password message ≡ after_rounds password message 1
unfolding after_rounds
one_round password message = refl

pub one_more : (password message code next : List ℕ) (n : ℕ) → code ≡ after_rounds password message n
    → next ≡ hmac_sha1 password code → next ≡ after_rounds password message (n + 1)
unfolding after_rounds
one_more password message code next n so_far step = rw add-one (step ∙ ap (hmac_sha1 password) so_far)

-- ---- a digest has 20 bytes

words_below : (h : List ℕ) (n : ℕ) → EachBelow 256 (digest_bytes h n)
unfolding digest_bytes
words_below h zero = λ i. omega arith
words_below h (suc n) =
    below-append (digest_bytes h n) (to_be_bytes w32 (slice_index h n)) (words_below h n) (high_first 4 (slice_index h n))

sha1_below : (m : List ℕ) → EachBelow 256 (sha1 m)
unfolding sha1
sha1_below m = words_below _ 5

hmac_below : (key text : List ℕ) → EachBelow 256 (hmac_sha1 key text)
unfolding hmac
hmac_below key text = sha1_below _

pub record IsDigest (digest : List ℕ) : Type 0 where
  pub long : length digest ≡ 20
  pub below : EachBelow 256 digest

after_some : (password message : List ℕ) (n : ℕ) → 1 ≤ n → IsDigest (after_rounds password message n)
unfolding after_rounds
after_some password message zero some = absurd (omega (arith, some))
after_some password message (suc n) some =
    let before : List ℕ = after_rounds password message n in
    record { long = length-hmac_sha1 password before; below = hmac_below password before }

pub is_digest : (password salt : List ℕ) (rounds : ℕ) → 1 ≤ rounds → IsDigest (sha1_digest password salt rounds)
unfolding sha1_digest
is_digest password salt rounds some = after_some password (first_message salt rounds) rounds some
