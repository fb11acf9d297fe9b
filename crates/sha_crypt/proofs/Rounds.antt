-- The digest from what the body computes.
use Rattle.std.proofs.Common.{◌≡◌, ℕ, ◌+◌, ◌≤◌, List, length, take, slice_index, ap, ◌∙◌, add-one}
use Rattle.sha_crypt.specs.Digest.{copies, repeated_to, round_message, after_rounds, start_digest, whole_salt_digest}
use Rattle.sha_crypt.proofs.Repeats.{repeated_to_short}

pub whole_salt_digest_is : (H : List ℕ → List ℕ) (password s a dp ds c : List ℕ) (i n : ℕ)
    → a ≡ start_digest H password s → dp ≡ H (copies (length password) password)
    → ds ≡ H (copies (16 + slice_index a 0) s) → length s ≤ length ds → i ≡ n
    → c ≡ after_rounds H a (repeated_to (length password) dp) (take (length s) ds) i
    → c ≡ whole_salt_digest H password s n
unfolding whole_salt_digest
whole_salt_digest_is H password s a dp ds c i n a_is dp_is ds_is fits all c_is =
    let short : repeated_to (length s) ds ≡ take (length s) ds = repeated_to_short (length s) ds fits in
    cc

-- one round more
pub after_rounds_more : (H : List ℕ → List ℕ) (a p s c next : List ℕ) (i : ℕ)
    → c ≡ after_rounds H a p s i → next ≡ H (round_message i c p s)
    → next ≡ after_rounds H a p s (i + 1)
unfolding after_rounds
after_rounds_more H a p s c next i so_far step =
    rw add-one (step ∙ ap (λ (x : List ℕ). H (round_message i x p s)) so_far)
