-- The text of joined parts.
use Rattle.std.proofs.Common.{◌≡◌, ◌≢◌, ℕ, List, ◌∷◌, ◌++◌, String, Global, Result, Ok, Err, true, false, arith}
use Rattle.std.specs.Prelude.{IfOk, string_bytes, codes, not, ◌==◌}
use Rattle.std.specs.Fmt.{decimal}
use Rattle.std.proofs.lemmas.Bool.Decides.{nat_tests}
use Rattle.sha_crypt.specs.Records.{rounds_part}
use Rattle.sha_crypt.proofs.Spellings.{join_by}

pub same_bytes : {E : Type 0} (r : Result (String Global) E) (a b : List ℕ) → a ≡ b → IfOk r (λ s. string_bytes s ≡ a)
    → IfOk r (λ s. string_bytes s ≡ b)
same_bytes (Ok s) a b e h = rw e at h
same_bytes (Err x) a b e h = tt

pub with_default : (id : List ℕ) (n : ℕ) (salt hash : List ℕ) → n ≡ 5000
    → 36 ∷ (id ++ 36 ∷ (salt ++ 36 ∷ hash)) ≡ codes "$" ++ id ++ codes "$" ++ rounds_part (not (n == 5000)) n ++ salt
    ++ codes "$" ++ hash
with_default id n salt hash is = let test : (n == 5000) ≡ true = grind (arith, nat_tests, is) in
    rw test (join_by false n id salt hash)

pub with_rounds : (id : List ℕ) (n : ℕ) (salt hash : List ℕ) → n ≢ 5000
    → 36 ∷ (id ++ 36 ∷ (codes "rounds=" ++ (decimal n ++ 36 ∷ (salt ++ 36 ∷ hash)))) ≡ codes "$" ++ id ++ codes "$"
    ++ rounds_part (not (n == 5000)) n ++ salt ++ codes "$" ++ hash
with_rounds id n salt hash other = let test : (n == 5000) ≡ false = grind (arith, nat_tests, other) in
    rw test (join_by true n id salt hash)
