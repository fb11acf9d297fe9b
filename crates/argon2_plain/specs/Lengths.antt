-- How long hashes and tags are: proofs, which specs/KeyLength needs. No public clause names these words.
use Rattle.std.proofs.Common.{◌≡◌, ℕ, zero, suc, ◌+◌, ◌-◌, ◌*◌, ◌/◌, ◌≤◌, ◌<◌, Bool, true, false, nat_le, cond, List, [], ◌++◌, length}
use Rattle.std.proofs.Common.{take, refl, ◌∙◌, arith}
use Rattle.std.proofs.lemmas.List.{length-append, length-take-le}
use Rattle.std.proofs.lemmas.Bool.Decides.{nat_tests}
use Rattle.blake2b.specs.Lengths.{length-blake2b}
use Rattle.blake2b.specs.Words.{bytes}
use Rattle.argon2_plain.specs.Argon2.{chain, h, halves, le32, long_hash, tag_from, variable_hash, last_blocks, filled_memory}
use Rattle.argon2_plain.specs.declared.fill.Plan.{Plan}

length-h : (n : ℕ) (a : List ℕ) → n ≤ 64 → length (h n a) ≡ n
length-h n a le = length-blake2b [] a n le

length-chain : (v : List ℕ) (i : ℕ) → length v ≡ 64 → length (chain v i) ≡ 64
unfolding chain
length-chain v zero e = e
length-chain v (suc i) e = length-h 64 (chain v i) (omega arith)

pub length-halves : (v : List ℕ) (i : ℕ) → length v ≡ 64 → length (halves v i) ≡ 32 * i
unfolding halves
length-halves v zero e = refl
length-halves v (suc i) e =
    let before = length-halves v i e in
    let whole = length-chain v i e in
    let last = length-take-le 32 (chain v i) (omega (arith, whole)) in
    length-append (halves v i) (take 32 (chain v i)) ∙ omega (arith, before, last)

length-long_hash : (n : ℕ) (v : List ℕ) → length v ≡ 64 → 64 < n → length (long_hash n ((n + 31) / 32 - 2) v) ≡ n
length-long_hash n v e long =
    let r = (n + 31) / 32 - 2 in
    let front = length-halves v r e in
    let last = length-h (n - 32 * r) (chain v (r - 1)) (omega arith) in
    length-append (halves v r) (h (n - 32 * r) (chain v (r - 1))) ∙ omega (arith, front, last)

length-cases : (n : ℕ) (a : List ℕ) (is_short : Bool) → nat_le n 64 ≡ is_short
    → length (cond is_short (h n (le32 n ++ a)) (long_hash n ((n + 31) / 32 - 2) (h 64 (le32 n ++ a)))) ≡ n
length-cases n a true e = length-h n (le32 n ++ a) (grind (arith, nat_tests, e))
length-cases n a false e =
    length-long_hash n (h 64 (le32 n ++ a)) (length-h 64 (le32 n ++ a) (omega arith)) (grind (arith, nat_tests, e))

pub length-variable_hash : (n : ℕ) (a : List ℕ) → length (variable_hash n a) ≡ n
unfolding variable_hash
length-variable_hash n a = length-cases n a (nat_le n 64) refl

pub length-tag_from : (plan : Plan) (h0 : List ℕ) (n : ℕ) → length (tag_from plan h0 n) ≡ n
unfolding tag_from
length-tag_from plan h0 n = length-variable_hash n (bytes (last_blocks plan plan.lanes (filled_memory plan h0)))
