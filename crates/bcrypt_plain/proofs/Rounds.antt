-- The rounds as the body does them: each half has its next subkey in it.
use Rattle.std.proofs.Common.{◌≡◌, ℕ, ◌+◌, List, bit_xor, refl, ap, sym, subst, ◌∙◌, add-one, arith}
use Rattle.std.specs.Int.Bits.{xor_assoc}
use Rattle.std.proofs.lemmas.Nat.{xor_comm}
use Rattle.bcrypt_plain.specs.declared.blowfish.Block.{Block}
use Rattle.bcrypt_plain.specs.Blowfish.{crossed, encrypt, entered, f_fn, rounds, subkey}

pub rounds-more : (x : List ℕ) (b : Block) (i : ℕ) → rounds x b (i + 1) ≡ crossed x (entered x i (rounds x b i))
unfolding rounds
rounds-more x b i = rw add-one refl

-- the two halves before round i
pub record Halves (x : List ℕ) (b : Block) (i left right : ℕ) : Type 0 where
  pub left_is : left ≡ bit_xor (rounds x b i).left (subkey x i)
  pub right_is : right ≡ bit_xor (rounds x b i).right (subkey x (i + 1))

pub halves_first : (x : List ℕ) (b : Block)
    → Halves x b 0 (bit_xor b.left (subkey x 0)) (bit_xor b.right (subkey x 1))
unfolding rounds
halves_first x b = record { left_is = refl; right_is = refl }

-- a half with its subkey and F is F and the half, with the subkey
swapped : (r p f : ℕ) → bit_xor (bit_xor r p) f ≡ bit_xor (bit_xor f r) p
swapped r p f = xor_comm (bit_xor r p) f ∙ sym (xor_assoc f r p)

pub halves_more : (x : List ℕ) (b : Block) (i left right f : ℕ) → Halves x b i left right → f ≡ f_fn x left
    → Halves x b (i + 1) (bit_xor right f) (bit_xor left (subkey x (i + 2)))
halves_more x b i left right f h e =
    let r : Block = rounds x b i in
    let two : i + 2 ≡ i + 1 + 1 = omega arith in
    let more = rounds-more x b i in
    let f_is : f ≡ f_fn x (bit_xor r.left (subkey x i)) = e ∙ ap (f_fn x) h.left_is in
    let crossed_left : (rounds x b (i + 1)).left ≡ bit_xor f r.right =
    ap (λ (w : Block). w.left) more ∙ ap (λ (v : ℕ). bit_xor v r.right) (sym f_is) in
    let crossed_right : (rounds x b (i + 1)).right ≡ left = ap (λ (w : Block). w.right) more ∙ sym h.left_is in
    record {
      left_is =
          ap (λ (v : ℕ). bit_xor v f) h.right_is ∙ swapped r.right (subkey x (i + 1)) f
          ∙ ap (λ (v : ℕ). bit_xor v (subkey x (i + 1))) (sym crossed_left);
      right_is =
          ap (λ (n : ℕ). bit_xor left (subkey x n)) two
          ∙ ap (λ (v : ℕ). bit_xor v (subkey x (i + 1 + 1))) (sym crossed_right);
    }

pub halves_end : (x : List ℕ) (b : Block) (i left right : ℕ) → Halves x b i left right → i ≡ 16
    → record { left = right; right = left } ≡ encrypt x b
unfolding encrypt
halves_end x b i left right h end =
    let at_end : Halves x b 16 left right = subst (λ (n : ℕ). Halves x b n left right) end h in
    let block : ℕ → ℕ → Block = λ l r. record { left = l; right = r } in
    ap (λ (l : ℕ). block l left) at_end.right_is
    ∙ ap (block (bit_xor (rounds x b 16).right (subkey x 17))) at_end.left_is
