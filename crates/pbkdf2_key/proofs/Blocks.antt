-- Rounds and blocks, under any pseudorandom function whose outputs have h bytes.
use Rattle.std.proofs.Common.{◌≡◌, ◌⊎◌, ℕ, zero, suc, ◌+◌, ◌-◌, ◌*◌, ◌≤◌, ◌<◌, List, [], ◌∷◌, ◌++◌, length, take}
use Rattle.std.proofs.Common.{refl, sym, ap, ap₂, ◌∙◌, arith, add-one, inl, inr}
use Rattle.std.specs.Prelude.{replicate}
use Rattle.std.specs.Int.{w32, div_ceil, to_be_bytes}
use Rattle.std.specs.Int.Bits.{xor_zero_l}
use Rattle.std.proofs.Math.Nat.{mul-le-mul_left, mul-le-mul_right}
use Rattle.std.proofs.lemmas.Bool.{cases_lt}
use Rattle.std.proofs.lemmas.Grind.{div_ceil_times}
use Rattle.std.proofs.lemmas.List.{take-append-le, take-take, take_all}
use Rattle.word_lists.specs.Lists.{xor_bytes}
use Rattle.pbkdf2_key.specs.Pbkdf2.{Prf, u, output_block, output_blocks, pbkdf2}
use Rattle.pbkdf2_key.specs.Lengths.{HasLength, enough, length-u, length-output_blocks}

xor_zeros : (n : ℕ) (ys : List ℕ) → length ys ≡ n → xor_bytes (replicate n 0) ys ≡ ys
xor_zeros zero [] e = refl
xor_zeros zero (y ∷ ys) e = absurd (omega (arith, e))
xor_zeros (suc n) [] e = refl
xor_zeros (suc n) (y ∷ ys) e = ap₂ (λ (a : ℕ) (b : List ℕ). a ∷ b) (xor_zero_l y) (xor_zeros n ys (omega (arith, e)))

take_none : (k : ℕ) → take {A = ℕ} k [] ≡ []
take_none zero = refl
take_none (suc k) = refl

-- ---- rounds

module _ (prf : Prf) (h : ℕ) (p s : List ℕ) (i : ℕ) where
  pub u_first : u prf p s i 1 ≡ prf p (s ++ to_be_bytes w32 i)
  unfolding u
  u_first = refl

  pub u_more : (j : ℕ) → u prf p s i (j + 1) ≡ prf p (u prf p s i j)
  unfolding u
  u_more j = ap (u prf p s i) (add-one j)

  -- one round is the first code
  pub block_first : HasLength prf h → output_block prf h p s i 1 ≡ prf p (s ++ to_be_bytes w32 i)
  unfolding output_block
  block_first long = xor_zeros h (u prf p s i 1) (length-u prf h long p s i 0) ∙ u_first

  pub block_more : (c : ℕ)
      → output_block prf h p s i (c + 1) ≡ xor_bytes (output_block prf h p s i c) (u prf p s i (c + 1))
  unfolding output_block
  block_more c =
      ap (output_block prf h p s i) (add-one c)
      ∙ ap (λ (k : ℕ). xor_bytes (output_block prf h p s i c) (u prf p s i k)) (sym (add-one c))

  -- one round more, by what the body computes
  pub round_more : (j : ℕ) (code sum next : List ℕ) → code ≡ u prf p s i j → sum ≡ output_block prf h p s i j
      → next ≡ prf p code → (next ≡ u prf p s i (j + 1)) × (xor_bytes sum next ≡ output_block prf h p s i (j + 1))
  round_more j code sum next code_is sum_is next_is =
      let now : next ≡ u prf p s i (j + 1) = next_is ∙ ap (prf p) code_is ∙ sym (u_more j) in
      (now, ap₂ xor_bytes sum_is now ∙ sym (block_more j))

-- ---- blocks

at_most_if : (a b : ℕ) → (b < a) ⊎ (a ≤ b) → (b < a → ⊥) → a ≤ b
at_most_if a b (inl more) none = absurd (none more)
at_most_if a b (inr most) none = most

-- at most b, where more is absurd
at_most : (a b : ℕ) → (b < a → ⊥) → a ≤ b
at_most a b none = at_most_if a b (cases_lt b a) none

-- each block but the last is whole
pub before_last : (n h i : ℕ) → 0 < h → i < div_ceil n h → h * i < n
before_last n h i least few =
    let times = (div_ceil_times n h least).1 in
    let more : h * (i + 1) ≤ h * div_ceil n h = mul-le-mul_left h (omega (arith, few)) in
    omega (arith, times, more)

-- there are no more blocks than bytes
pub few_blocks : (n h : ℕ) → 0 < h → div_ceil n h ≤ n
few_blocks n h least =
    at_most (div_ceil n h) n (λ more.
    let low = before_last n h n least more in
    let high : 1 * n ≤ h * n = mul-le-mul_right n (omega (arith, least)) in
    omega (arith, low, high))

module _ (prf : Prf) (h : ℕ) (p s : List ℕ) (c : ℕ) where
  pub blocks_none : output_blocks prf h p s c 0 ≡ []
  unfolding output_blocks
  blocks_none = refl

  pub blocks_more : (n : ℕ)
      → output_blocks prf h p s c (n + 1) ≡ output_blocks prf h p s c n ++ output_block prf h p s (n + 1) c
  unfolding output_blocks
  blocks_more n = ap (output_blocks prf h p s c) (add-one n)

  -- what is filled once i blocks are written
  abbrev pub IsFilled : List ℕ → ℕ → ℕ → Type 0
  IsFilled out n i = take (h * i) out ≡ take n (output_blocks prf h p s c i)

  pub filled_none : (out : List ℕ) (n : ℕ) → IsFilled out n 0
  filled_none out n =
      let none : h * 0 ≡ 0 = omega arith in
      ap (λ (k : ℕ). take k out) none ∙ sym (ap (take n) blocks_none ∙ take_none n)

  -- one block more
  pub filled_more : HasLength prf h → (i n : ℕ) (before out block : List ℕ) → h * i ≤ n → IsFilled before n i
      → block ≡ output_block prf h p s (i + 1) c
      → take (h * i + h) out ≡ take n (take (h * i) before ++ block) → IsFilled out n (i + 1)
  filled_more long i n before out block low filled is put =
      let whole = length-output_blocks prf h long p s c i in
      let blocks = filled ∙ take_all n (output_blocks prf h p s c i) (omega (arith, whole, low)) in
      let end : h * (i + 1) ≡ h * i + h = omega arith in
      ap (λ (k : ℕ). take k out) end ∙ put
      ∙ ap (take n) (ap₂ ◌++◌ blocks is ∙ sym (blocks_more i))

  -- all blocks
  pub filled_all : 0 < h → (out : List ℕ) (n : ℕ) → length out ≡ n → IsFilled out n (div_ceil n h)
      → out ≡ pbkdf2 prf h p s c n
  unfolding pbkdf2
  filled_all least out n size filled =
      let fits = enough n h least in
      sym (take_all (h * div_ceil n h) out (omega (arith, size, fits))) ∙ filled

-- ---- laws

module _ (prf : Prf) (h : ℕ) (least : 0 < h) (long : HasLength prf h) (p s : List ℕ) (c : ℕ) where
  -- more blocks change nothing at the beginning
  take-blocks : (n i d : ℕ) → n ≤ h * i
      → take n (output_blocks prf h p s c (i + d)) ≡ take n (output_blocks prf h p s c i)
  unfolding output_blocks
  take-blocks n i zero fits =
      let e : i + zero ≡ i = omega arith in ap (λ (k : ℕ). take n (output_blocks prf h p s c k)) e
  take-blocks n i (suc d) fits =
      let e : i + suc d ≡ suc (i + d) = omega arith in
      let all = length-output_blocks prf h long p s c (i + d) in
      let more : h * i ≤ h * (i + d) = mul-le-mul_left h (omega arith) in
      ap (λ (k : ℕ). take n (output_blocks prf h p s c k)) e
      ∙ take-append-le n (output_blocks prf h p s c (i + d)) (output_block prf h p s (i + d + 1) c)
      (omega (arith, all, more, fits))
      ∙ take-blocks n i d fits

  -- a longer key takes as many blocks or more
  more_blocks : (short long : ℕ) → short ≤ long → div_ceil short h ≤ div_ceil long h
  more_blocks short long le =
      at_most (div_ceil short h) (div_ceil long h) (λ more.
      let low = before_last short h (div_ceil long h) least more in
      let high = enough long h least in
      omega (arith, low, high, le))

  pub shorter : (short long : ℕ) → short ≤ long
      → pbkdf2 prf h p s c short ≡ take short (pbkdf2 prf h p s c long)
  unfolding pbkdf2
  shorter short long le =
      let i = div_ceil short h in
      let j = div_ceil long h in
      let few = more_blocks short long le in
      let blocks : i + (j - i) ≡ j = omega (arith, few) in
      sym (take-take short long (output_blocks prf h p s c j) le
      ∙ ap (λ (k : ℕ). take short (output_blocks prf h p s c k)) (sym blocks)
      ∙ take-blocks short i (j - i) (enough short h least))
