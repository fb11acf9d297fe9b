-- The digest turn by turn: one turn more, and how long it is.
use Rattle.std.proofs.Common.{◌≡◌, ℕ, zero, suc, ◌+◌, ◌^◌, List, ◌++◌, length, ap, ◌∙◌, arith, add-one}
use Rattle.std.specs.Prelude.{slice_index}
use Rattle.base64ct.specs.Encoding.{EachBelow}
use Rattle.base64ct.proofs.GoodBlocks.{below-append}
use Rattle.md5.specs.Md5.{digest_bytes, md5}
use Rattle.md5.proofs.StandardFacts.{length-md5}
use Rattle.std.specs.Int.{to_le_bytes, w32}
use Rattle.pieces.proofs.NumberBytes.{low_first}
use Rattle.phpass_plain.specs.Digest.{after_turns, phpass_digest}

pub first_digest : (password salt digest : List ℕ) → digest ≡ md5 (salt ++ password) → digest ≡ after_turns password salt 0
unfolding after_turns
first_digest password salt digest is = is

pub one_turn : (password salt digest next : List ℕ) (n : ℕ) → digest ≡ after_turns password salt n
    → next ≡ md5 (digest ++ password) → next ≡ after_turns password salt (n + 1)
unfolding after_turns
one_turn password salt digest next n so_far step =
    rw add-one (step ∙ ap (λ (d : List ℕ). md5 (d ++ password)) so_far)

-- ---- a digest has 16 bytes

low_bytes : (h : List ℕ) (n : ℕ) → EachBelow 256 (digest_bytes h n)
unfolding digest_bytes
low_bytes h zero = λ i. omega arith
low_bytes h (suc n) =
    below-append (digest_bytes h n) (to_le_bytes w32 (slice_index h n)) (low_bytes h n) (low_first 0 4 (slice_index h n))

md5_below : (m : List ℕ) → EachBelow 256 (md5 m)
unfolding md5
md5_below m = low_bytes _ 4

pub record IsMd5 (digest : List ℕ) : Type 0 where
  pub long : length digest ≡ 16
  pub below : EachBelow 256 digest

of_turns : (password salt : List ℕ) (n : ℕ) → IsMd5 (after_turns password salt n)
unfolding after_turns
of_turns password salt zero = record { long = length-md5 (salt ++ password); below = md5_below (salt ++ password) }
of_turns password salt (suc n) =
    let message : List ℕ = after_turns password salt n ++ password in
    record { long = length-md5 message; below = md5_below message }

pub is_md5 : (password salt : List ℕ) (cost : ℕ) → IsMd5 (phpass_digest password salt cost)
unfolding phpass_digest
is_md5 password salt cost = of_turns password salt (2 ^ cost)
