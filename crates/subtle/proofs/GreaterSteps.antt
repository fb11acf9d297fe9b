-- Bit smearing gives 1 exactly where the first number is greater.
use Rattle.std.proofs.Common.{◌≡◌, ◌≢◌, ℕ, zero, suc, ◌+◌, ◌-◌, ◌*◌, ◌/◌, ◌%◌, ◌^◌, ◌<◌, ◌≤◌, cond, List, [], ◌∷◌}
use Rattle.std.proofs.Common.{bit_and, bit_or, Bool, ◌==◌, refl, sym, ap, ◌∙◌, subst, arith, inl, inr}
use Rattle.std.specs.Prelude.{min, max, nat_lt}
use Rattle.std.specs.Int.{bit_at, Width}
use mir.Val.{bits}
use mir.Syntax.{w8, w16, w32, w64, w128}
use Rattle.std.proofs.Math.Nat.{div-div-eq-div-mul, div-eq_of_lt-le, div-eq_of_lt, div-one, mod-eq_of_lt}
use Rattle.std.proofs.Math.Nat.{lt-div-mul-add, pow-suc, div-le_self}
use Rattle.std.proofs.lemmas.Nat.{pow-add, mod-pow-add, pow_pos, and-not, and_comm, and_le_l, and_le_r, or_lt, and_mask}
use Rattle.std.proofs.lemmas.Nat.Bits.{bit_at_lowest, bit_at_and, bit_at_or, bit_at_not, bit_at-zero, bit_at-lt}
use Rattle.std.proofs.lemmas.Nat.Bits.{same_from_bits_below}
use Rattle.std.proofs.lemmas.Bool.{cases_lt, lt-ltb, le-ltb}
use Rattle.subtle.proofs.SignBits.{bit_tells}
use Rattle.subtle.specs.Smearing.{IsWidth, shifts_below, smeared, complement, under, over, greater_bit}

-- the steps tell whether a is greater than b
abbrev pub TellsGreater : ℕ → ℕ → ℕ → Type 0
TellsGreater w a b = greater_bit w a b ≡ cond (nat_lt b a) 1 0

-- bit i of y tells whether x has a bit among the v from i on
Window : ℕ → ℕ → ℕ → Type 0
Window x y v = (i : ℕ) → bit_at y i ≡ min 1 (x / 2 ^ i % 2 ^ v)

one_or_none : (r : ℕ) → r < 2 → r ≡ min 1 r
one_or_none zero h = refl
one_or_none (suc zero) h = refl
one_or_none (suc (suc r)) h = absurd (omega arith)

base : (x : ℕ) → Window x x 1
unfolding Window
base x i = one_or_none (x / 2 ^ i % 2) (bit_at-lt x i)

either : (p q r : ℕ) → 0 < p → max (min 1 r) (min 1 q) ≡ min 1 (q * p + r)
either zero q r h = absurd (omega arith)
either (suc p) zero r h = omega arith
either (suc p) (suc q) r h = omega arith

step : (x y v : ℕ) → Window x y v → Window x (bit_or y (y / 2 ^ v)) (v + v)
unfolding Window
step x y v h i =
    let n : ℕ = x / 2 ^ i in
    let shifted : y / 2 ^ v / 2 ^ i ≡ y / 2 ^ (v + i) =
    div-div-eq-div-mul y (2 ^ v) (2 ^ i) ∙ ap (λ (k : ℕ). y / k) (sym (pow-add 2 v i)) in
    let swap : v + i ≡ i + v = omega arith in
    let far : x / 2 ^ (v + i) ≡ n / 2 ^ v = ap (λ (k : ℕ). x / 2 ^ k) swap ∙ ap (λ (k : ℕ). x / k) (pow-add 2 i v)
    ∙ sym (div-div-eq-div-mul x (2 ^ i) (2 ^ v)) in
    let second : bit_at (y / 2 ^ v) i ≡ min 1 (n / 2 ^ v % 2 ^ v) =
    ap (λ (k : ℕ). k % 2) shifted ∙ h (v + i) ∙ ap (λ (k : ℕ). min 1 (k % 2 ^ v)) far in
    bit_at_or y (y / 2 ^ v) i ∙ ap (λ (k : ℕ). max k (bit_at (y / 2 ^ v) i)) (h i)
    ∙ ap (λ (k : ℕ). max (min 1 (n % 2 ^ v)) k) second
    ∙ either (2 ^ v) (n / 2 ^ v % 2 ^ v) (n % 2 ^ v) (pow_pos v) ∙ ap (λ (k : ℕ). min 1 k) (sym (mod-pow-add n v v))

-- each bit of the smeared number tells whether x reaches it
Covers : ℕ → Type 0
Covers w = (x : ℕ) → x < 2 ^ w → (i : ℕ) → bit_at (smeared (shifts_below w) x) i ≡ min 1 (x / 2 ^ i)

whole : (w x y : ℕ) → x < 2 ^ w → Window x y w → (i : ℕ) → bit_at y i ≡ min 1 (x / 2 ^ i)
unfolding Window
whole w x y lt h i =
    let le = div-le_self x (2 ^ i) in
    let small : x / 2 ^ i < 2 ^ w = omega arith in
    h i ∙ ap (λ (k : ℕ). min 1 k) (mod-eq_of_lt small)

covers-8 : Covers 8
unfolding Covers
covers-8 x lt = whole 8 x _ lt (step x _ 4 (step x _ 2 (step x _ 1 (base x))))

covers-16 : Covers 16
unfolding Covers
covers-16 x lt = whole 16 x _ lt (step x _ 8 (step x _ 4 (step x _ 2 (step x _ 1 (base x)))))

covers-32 : Covers 32
unfolding Covers
covers-32 x lt = whole 32 x _ lt (step x _ 16 (step x _ 8 (step x _ 4 (step x _ 2 (step x _ 1 (base x))))))

covers-64 : Covers 64
unfolding Covers
covers-64 x lt = whole 64 x _ lt
    (step x _ 32 (step x _ 16 (step x _ 8 (step x _ 4 (step x _ 2 (step x _ 1 (base x)))))))

covers-128 : Covers 128
unfolding Covers
covers-128 x lt = whole 128 x _ lt
    (step x _ 64 (step x _ 32 (step x _ 16 (step x _ 8 (step x _ 4 (step x _ 2 (step x _ 1 (base x))))))))

smeared_below : (w : ℕ) (ss : List ℕ) (x : ℕ) → x < 2 ^ w → smeared ss x < 2 ^ w
smeared_below w [] x h = h
smeared_below w (s ∷ ss) x h =
    let le = div-le_self x (2 ^ s) in
    let lt : x / 2 ^ s < 2 ^ w = omega arith in
    smeared_below w ss (bit_or x (x / 2 ^ s)) (or_lt w x (x / 2 ^ s) h lt)

-- the highest bit of a number
top : (w n : ℕ) → 0 < n → n < 2 ^ w → (t : ℕ) × (t < w) × (2 ^ t ≤ n) × (n < 2 ^ t + 2 ^ t)
top zero n some lt = absurd (omega arith)
top (suc w) n some lt = elim (cases_lt n (2 ^ w)) [
  | inl below ↦ let r = top w n some below in (r.0, omega arith, r.2, r.3)
  | inr ge ↦ (w, omega arith, ge, omega (arith, pow-suc 2 w))
]

bit_of_top : (n t : ℕ) → 2 ^ t ≤ n → n < 2 ^ t + 2 ^ t → bit_at n t ≡ 1
bit_of_top n t le lt =
    let one : n / 2 ^ t ≡ 1 = div-eq_of_lt-le {k = 1} (2 ^ t) (omega arith) (omega arith) in
    ap (λ (k : ℕ). k % 2) one

apart : (p q : ℕ) → p < 2 → q < 2 → min p (1 - q) ≡ 1 → min (1 - p) q ≡ 1 → ⊥
apart zero q hp hq e f = absurd (omega (arith, e))
apart (suc zero) q hp hq e f = absurd (omega (arith, f))
apart (suc (suc p)) q hp hq e f = absurd (omega arith)

none_left : (b n : ℕ) → min b (1 - min 1 (suc n)) ≡ 0
none_left b n = omega arith

reached : (n p : ℕ) → 0 < p → n / p ≡ 0 → n < p
reached n p h e = let lt : n < 0 * p + p = subst (λ (k : ℕ). n < k * p + p) e (lt-div-mul-add h) in omega (arith, lt)

some_left : (m : ℕ) → m ≢ 0 → min 1 m ≡ 1
some_left zero h = absurd (h refl)
some_left (suc m) h = omega arith

-- the bits of a that b lacks, and those of b that a lacks
of_a_alone : ℕ → ℕ → ℕ → ℕ
of_a_alone w a b = bit_and a (complement w b)

of_b_alone : ℕ → ℕ → ℕ → ℕ
of_b_alone w a b = bit_and (complement w a) b

kept : ℕ → ℕ → ℕ → ℕ
kept w a b = bit_and (of_a_alone w a b) (complement w (smeared (shifts_below w) (of_b_alone w a b)))

balance : (w a b : ℕ) → a < 2 ^ w → b < 2 ^ w → a + of_b_alone w a b ≡ b + of_a_alone w a b
unfolding of_a_alone of_b_alone
balance w a b la lb =
    let r = and-not w a b la lb in
    let l = and-not w b a lb la in
    let c = and_comm a b in
    let d = and_comm a (complement w b) in
    omega (arith, r, l, c, d)

b_alone_below : (w a b : ℕ) → b < 2 ^ w → of_b_alone w a b < 2 ^ w
unfolding of_b_alone
b_alone_below w a b lb = let le = and_le_r (complement w a) b in omega arith

a_alone_below : (w a b : ℕ) → a < 2 ^ w → of_a_alone w a b < 2 ^ w
unfolding of_a_alone
a_alone_below w a b la = let le = and_le_l a (complement w b) in omega arith

kept_below : (w a b : ℕ) → a < 2 ^ w → kept w a b < 2 ^ w
unfolding kept
kept_below w a b la = let le =
    and_le_l (of_a_alone w a b) (complement w (smeared (shifts_below w) (of_b_alone w a b))) in
    omega (arith, a_alone_below w a b la)

not_both : (W : Width) (a b t : ℕ) → a < 2 ^ bits W → b < 2 ^ bits W → t < bits W
    → bit_at (of_a_alone (bits W) a b) t ≡ 1 → bit_at (of_b_alone (bits W) a b) t ≡ 1 → ⊥
unfolding of_a_alone of_b_alone
not_both W a b t la lb lt l r =
    let w : ℕ = bits W in
    let left : min (bit_at a t) (1 - bit_at b t) ≡ 1 =
    ap (λ (k : ℕ). min (bit_at a t) k) (sym (bit_at_not W b t lb lt)) ∙ sym (bit_at_and a (complement w b) t) ∙ l in
    let right : min (1 - bit_at a t) (bit_at b t) ≡ 1 =
    ap (λ (k : ℕ). min k (bit_at b t)) (sym (bit_at_not W a t la lt)) ∙ sym (bit_at_and (complement w a) b t) ∙ r in
    apart (bit_at a t) (bit_at b t) (bit_at-lt a t) (bit_at-lt b t) left right

kept_at : (W : Width) → Covers (bits W) → (a b i : ℕ) → a < 2 ^ bits W → b < 2 ^ bits W → i < bits W
    → bit_at (kept (bits W) a b) i
    ≡ min (bit_at (of_a_alone (bits W) a b) i) (1 - min 1 (of_b_alone (bits W) a b / 2 ^ i))
unfolding kept Covers
kept_at W covers a b i la lb lt =
    let w : ℕ = bits W in
    let r : ℕ = of_b_alone w a b in
    let lr = b_alone_below w a b lb in
    bit_at_and (of_a_alone w a b) (complement w (smeared (shifts_below w) r)) i
    ∙ ap (λ (k : ℕ). min (bit_at (of_a_alone w a b) i) k)
    (bit_at_not W (smeared (shifts_below w) r) i (smeared_below w (shifts_below w) r lr) lt
    ∙ ap (λ (k : ℕ). 1 - k) (covers r lr i))

kept_some : (W : Width) → Covers (bits W) → (a b : ℕ) → a < 2 ^ bits W → b < 2 ^ bits W → b < a → kept (bits W) a b ≢ 0
kept_some W covers a b la lb more none =
    let w : ℕ = bits W in
    let l : ℕ = of_a_alone w a b in
    let r : ℕ = of_b_alone w a b in
    let even = balance w a b la lb in
    let t = top w l (omega arith) (a_alone_below w a b la) in
    let set : bit_at l t.0 ≡ 1 = bit_of_top l t.0 t.2 t.3 in
    elim (cases_lt r (2 ^ t.0)) [
      | inl below ↦
          let zero_above : r / 2 ^ t.0 ≡ 0 = div-eq_of_lt below in
          let is : bit_at (kept w a b) t.0 ≡ min 1 (1 - min 1 0) =
          kept_at W covers a b t.0 la lb t.1 ∙ rw (set, zero_above) refl in
          let isnt : bit_at (kept w a b) t.0 ≡ 0 = ap (λ (k : ℕ). bit_at k t.0) none ∙ bit_at-zero t.0 in
          omega (arith, is, isnt)
      | inr ge ↦ not_both W a b t.0 la lb t.1 set (bit_of_top r t.0 ge (omega arith))
    ]

kept_none : (W : Width) → Covers (bits W) → (a b : ℕ) → a < 2 ^ bits W → b < 2 ^ bits W → a ≤ b → kept (bits W) a b ≡ 0
kept_none W covers a b la lb fewer =
    same_from_bits_below w (kept w a b) 0 (kept_below w a b la) (pow_pos w) (λ i lt. at i lt ∙ sym (bit_at-zero i))
  where
    w : ℕ
    w = bits W

    at : (i : ℕ) → i < bits W → bit_at (kept (bits W) a b) i ≡ 0
    at i lt = kept_at W covers a b i la lb lt ∙ go (of_b_alone (bits W) a b / 2 ^ i) refl
      where
        go : (n : ℕ) → of_b_alone (bits W) a b / 2 ^ i ≡ n → min (bit_at (of_a_alone (bits W) a b) i) (1 - min 1 n) ≡ 0
        go (suc n) e = none_left (bit_at (of_a_alone (bits W) a b) i) n
        go zero e =
            let r = reached (of_b_alone (bits W) a b) (2 ^ i) (pow_pos i) e in
            let even = balance (bits W) a b la lb in
            let small : of_a_alone (bits W) a b / 2 ^ i ≡ 0 = div-eq_of_lt (omega arith) in
            let clear : bit_at (of_a_alone (bits W) a b) i ≡ 0 = ap (λ (k : ℕ). k % 2) small in
            ap (λ (k : ℕ). min k 1) clear

told : (W : Width) → Covers (bits W) → (a b : ℕ) → a < 2 ^ bits W → greater_bit (bits W) a b ≡ min 1 (kept (bits W) a b)
unfolding kept of_a_alone of_b_alone Covers
told W covers a b la = sym (bit_at_lowest _) ∙ covers (kept (bits W) a b) (kept_below (bits W) a b la) 0
    ∙ ap (λ (k : ℕ). min 1 k) (div-one (kept (bits W) a b))

greater : (W : Width) → Covers (bits W) → (a b : ℕ) → a < 2 ^ bits W → b < 2 ^ bits W → TellsGreater (bits W) a b
unfolding Covers
greater W covers a b la lb =
    let w : ℕ = bits W in
    let lowest : greater_bit w a b ≡ min 1 (kept w a b) = told W covers a b la in
    elim (cases_lt b a) [
      | inl more ↦ lowest ∙ some_left (kept w a b) (kept_some W covers a b la lb more) ∙ rw (lt-ltb b a more) refl
      | inr fewer ↦ lowest ∙ ap (λ (k : ℕ). min 1 k) (kept_none W covers a b la lb fewer) ∙ rw (le-ltb b a fewer) refl
    ]

pub tells_greater : (w a b : ℕ) → IsWidth w → a < 2 ^ w → b < 2 ^ w → TellsGreater w a b
tells_greater w a b width la lb = elim width [
  | inl e ↦ subst (λ (n : ℕ). a < 2 ^ n → b < 2 ^ n → TellsGreater n a b) (sym e) (greater w8 covers-8 a b) la lb
  | inr (inl e) ↦ subst (λ (n : ℕ). a < 2 ^ n → b < 2 ^ n → TellsGreater n a b) (sym e) (greater w16 covers-16 a b) la
      lb
  | inr (inr (inl e)) ↦ subst (λ (n : ℕ). a < 2 ^ n → b < 2 ^ n → TellsGreater n a b) (sym e)
      (greater w32 covers-32 a b) la lb
  | inr (inr (inr (inl e))) ↦
      subst (λ (n : ℕ). a < 2 ^ n → b < 2 ^ n → TellsGreater n a b) (sym e) (greater w64 covers-64 a b) la lb
  | inr (inr (inr (inr e))) ↦
      subst (λ (n : ℕ). a < 2 ^ n → b < 2 ^ n → TellsGreater n a b) (sym e) (greater w128 covers-128 a b) la lb
]

-- the answer of a body that makes the steps
pub told_by_steps : (w a b below above : ℕ) (r : Bool) → IsWidth w → a < 2 ^ w → b < 2 ^ w → below ≡ under w a b
    → above ≡ smeared (shifts_below w) (bit_and (bit_and a (complement w b)) (complement w below))
    → r ≡ (bit_and above 1 == 1) → r ≡ nat_lt b a
told_by_steps w a b below above r width la lb eb ea er =
    let same : above ≡ over w a b =
    ea ∙ ap (λ (x : ℕ). smeared (shifts_below w) (bit_and (bit_and a (complement w b)) (complement w x))) eb in
    let low : bit_and above 1 ≡ above % 2 = and_mask above 1 in
    er ∙ bit_tells (nat_lt b a) (bit_and above 1) (low ∙ ap (λ (x : ℕ). x % 2) same ∙ tells_greater w a b width la lb)
