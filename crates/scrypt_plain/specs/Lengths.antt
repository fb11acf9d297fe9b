-- How long the keys of codes and derived keys are: proofs, which stand here as an implementation of `PhcKdf` names one
-- of them. No public clause names these words.
use Rattle.std.proofs.Common.{◌≡◌, ℕ, zero, suc, ◌+◌, ◌-◌, ◌*◌, ◌/◌, ◌≤◌, Bool, true, false, nat_lt, cond, List, ◌++◌}
use Rattle.std.proofs.Common.{length, take, refl, sym, ap, ◌∙◌, arith}
use Rattle.std.specs.Int.{w32, to_be_bytes}
use Rattle.std.proofs.lemmas.List.{length-append, length-take-le, length-replicate, take-take, take-append-le}
use Rattle.std.proofs.lemmas.Bool.{ltb-false}
use Rattle.sha2.specs.Sha256.{sha256}
use Rattle.sha2.proofs.Facts256.{length-sha256}
use Rattle.hmac_plain.specs.Lengths.{length-hmac_sha256}
use Rattle.scrypt_plain.specs.Hmac.{block_key, hmac}
use Rattle.scrypt_plain.specs.Pbkdf2.{pbkdf2_blocks, pbkdf2_once}

short_key-le : (is_long : Bool) (key : List ℕ) → nat_lt 64 (length key) ≡ is_long
    → length (cond is_long (sha256 key) key) ≤ 64
short_key-le true key e = let digest = length-sha256 key in omega (arith, digest)
short_key-le false key e = ltb-false 64 (length key) e

pub length-block_key : (key : List ℕ) → length (block_key key) ≡ 64
length-block_key key =
    let short = short_key-le (nat_lt 64 (length key)) key refl in
    simp (length-append, length-replicate) (omega (arith, short))

pub length-pbkdf2_blocks : (p s : List ℕ) (i : ℕ) → length (pbkdf2_blocks p s i) ≡ 32 * i
unfolding pbkdf2_blocks
length-pbkdf2_blocks p s zero = refl
length-pbkdf2_blocks p s (suc i) =
    let before = length-pbkdf2_blocks p s i in
    let last = length-hmac_sha256 p (s ++ to_be_bytes w32 (i + 1)) in
    length-append (pbkdf2_blocks p s i) (hmac p (s ++ to_be_bytes w32 (i + 1))) ∙ omega (arith, before, last)

pub length-pbkdf2_once : (p s : List ℕ) (n : ℕ) → length (pbkdf2_once p s n) ≡ n
length-pbkdf2_once p s n =
    let all = length-pbkdf2_blocks p s ((n + 31) / 32) in
    length-take-le n (pbkdf2_blocks p s ((n + 31) / 32)) (omega (arith, all))

-- more blocks change nothing at the beginning
take-pbkdf2_blocks : (p s : List ℕ) (n i d : ℕ) → n ≤ 32 * i
    → take n (pbkdf2_blocks p s (i + d)) ≡ take n (pbkdf2_blocks p s i)
unfolding pbkdf2_blocks
take-pbkdf2_blocks p s n i zero h = let e : i + zero ≡ i = omega arith in ap (λ (k : ℕ). take n (pbkdf2_blocks p s k)) e
take-pbkdf2_blocks p s n i (suc d) h =
    let e : i + suc d ≡ suc (i + d) = omega arith in
    let long = length-pbkdf2_blocks p s (i + d) in
    ap (λ (k : ℕ). take n (pbkdf2_blocks p s k)) e
    ∙ take-append-le n (pbkdf2_blocks p s (i + d)) (hmac p (s ++ to_be_bytes w32 (i + d + 1))) (omega (arith, long))
    ∙ take-pbkdf2_blocks p s n i d h

pub take-pbkdf2_once : (p s : List ℕ) (short long : ℕ) → short ≤ long
    → pbkdf2_once p s short ≡ take short (pbkdf2_once p s long)
take-pbkdf2_once p s short long h =
    let i = (short + 31) / 32 in
    let j = (long + 31) / 32 in
    let blocks : i + (j - i) ≡ j = omega arith in
    sym (take-take short long (pbkdf2_blocks p s j) h
    ∙ ap (λ (k : ℕ). take short (pbkdf2_blocks p s k)) (sym blocks)
    ∙ take-pbkdf2_blocks p s short i (j - i) (omega arith))
