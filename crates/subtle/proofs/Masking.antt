-- Selection by a mask.
use Rattle.std.proofs.Common.{◌≡◌, ℕ, ◌+◌, ◌-◌, ◌%◌, ◌^◌, ◌<◌, Bool, true, false, cond, bit_and, bit_xor, refl, sym, ap}
use Rattle.std.proofs.Common.{◌∙◌, arith}
use Rattle.std.proofs.Math.Nat.{mod-eq_of_lt, mod_self}
use Rattle.std.proofs.lemmas.Nat.{and_mask, and_comm, xor_lt, pow_pos}
use Rattle.std.specs.Int.Bits.{xor_assoc, xor_self, xor_zero_l, xor_zero_r}

-- the first, with the bits in which the two differ turned round where the mask is full, and left where it is empty
masked : (k : ℕ) (c : Bool) (a b : ℕ) → a < 2 ^ k → b < 2 ^ k
    → bit_xor a (bit_and (cond c (2 ^ k - 1) 0) (bit_xor a b)) ≡ cond c b a
masked k true a b h l =
    ap (λ x. bit_xor a x) (and_comm (2 ^ k - 1) (bit_xor a b) ∙ and_mask (bit_xor a b) k
    ∙ mod-eq_of_lt (xor_lt k a b h l))
    ∙ sym (xor_assoc a a b) ∙ ap (λ x. bit_xor x b) (xor_self a) ∙ xor_zero_l b
masked k false a b h l = ap (λ x. bit_xor a x) refl ∙ xor_zero_r a

mask_of : (k : ℕ) (c : Bool) → 0 < k → (0 + (2 ^ k - cond c 1 0)) % 2 ^ k ≡ cond c (2 ^ k - 1) 0
mask_of k true h =
    let some = pow_pos k in
    let plain : 0 + (2 ^ k - 1) ≡ 2 ^ k - 1 = omega arith in
    mod-eq_of_lt (omega arith) ∙ plain
mask_of k false h = let e : 0 + (2 ^ k - 0) ≡ 2 ^ k = omega arith in ap (λ (x : ℕ). x % 2 ^ k) e ∙ mod_self (2 ^ k)

pub selected : (k : ℕ) (c : Bool) (a b m : ℕ) → 0 < k → a < 2 ^ k → b < 2 ^ k → m ≡ cond c 1 0
    → bit_xor a (bit_and ((0 + (2 ^ k - m)) % 2 ^ k) (bit_xor a b)) ≡ cond c b a
selected k c a b m some la lb e =
    ap (λ (x : ℕ). bit_xor a (bit_and ((0 + (2 ^ k - x)) % 2 ^ k) (bit_xor a b))) e
    ∙ ap (λ (x : ℕ). bit_xor a (bit_and x (bit_xor a b))) (mask_of k c some) ∙ masked k c a b la lb
