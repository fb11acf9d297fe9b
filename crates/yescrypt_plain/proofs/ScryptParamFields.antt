-- The eleven characters of parameters of a text `$7$` have one spelling.
use Rattle.std.proofs.Common.{◌≡◌, ℕ, ◌+◌, ◌*◌, ◌/◌, ◌%◌, ◌^◌, ◌≤◌, ◌<◌, Bool, true, false, List, [], ◌∷◌, ◌++◌}
use Rattle.std.proofs.Common.{length, drop, slice_index, refl, sym, ap, ap₂, ◌∙◌, arith, subst, Some, None, Ok}
use Rattle.std.specs.Prelude.{◌||◌, not, nat_le, nat_lt, Option, if◌then◌else◌}
use Rattle.std.specs.Option.{option_and_then}
use Rattle.std.proofs.Math.Nat.{mul-le-mul_left}
use Rattle.std.proofs.lemmas.Bool.{and_parts}
use Rattle.std.proofs.lemmas.Bool.Decides.{nat_tests}
use Rattle.std.proofs.lemmas.List.{append_assoc}
use Rattle.std.proofs.lemmas.Option.{none-some, same_Some}
use Rattle.pieces.specs.Faults.{first_fault, unless}
use Rattle.pieces.proofs.FaultLaws.{err_ok, value_found}
use Rattle.yescrypt_plain.specs.Numbers.{character, five, five_text, value_of}
use Rattle.yescrypt_plain.specs.Params.{is_scrypt_cost, named_scrypt_params, scrypt_exceeds_memory, scrypt_fault, scrypt_in_bounds, scrypt_params}
use Rattle.yescrypt_plain.specs.Params.{scrypt_params_text, scrypt_taken}
use Rattle.yescrypt_plain.specs.declared.error.TextFault.TheVariants as fault
use Rattle.yescrypt_plain.specs.declared.params.ScryptParams.{ScryptParams}
use Rattle.yescrypt_plain.proofs.Numbers.{rest_is}
use Rattle.yescrypt_plain.proofs.Spelling.{value_is, value_read}

-- ---- bounds

pub record ScryptBounds (p : ScryptParams) : Type 0 where
  pub rows : p.ln ≤ 24
  pub blocks : p.r ≤ 131072
  pub parts : p.p ≤ 1024

or_false : (a b : Bool) → not (a || b) ≡ true → (a ≡ false) × (b ≡ false)
or_false false false h = (refl, refl)
or_false true b h = cc
or_false false true h = cc

pub scrypt_bounds_of : (p : ScryptParams) → scrypt_in_bounds p ≡ true → ScryptBounds p
scrypt_bounds_of p h =
    let both = and_parts (not (scrypt_exceeds_memory p.ln p.r)) (is_scrypt_cost p.ln p.r p.p) h in
    let memory = or_false (nat_lt 24 p.ln) (nat_lt (2 ^ 30) (128 * p.r * 2 ^ p.ln)) both.0 in
    let e = and_parts _ (nat_le (p.r * p.p) 131072) both.1 in
    let d = and_parts _ (nat_le p.p 1024) e.0 in
    let c = and_parts _ (nat_le 1 p.p) d.0 in
    let few = memory.0 in
    let some = c.1 in
    let most = d.1 in
    let product = e.1 in
    let one : 1 ≤ p.p = grind (arith, nat_tests, some) in
    let all : p.r * p.p ≤ 131072 = grind (arith, nat_tests, product) in
    let single : p.r * 1 ≤ p.r * p.p = mul-le-mul_left p.r one in
    record {
      rows = grind (arith, nat_tests, few);
      blocks = omega (arith, all, single);
      parts = grind (arith, nat_tests, most);
    }

-- ---- a field that is read

opened : {A : Type 0} {B : Type 0} (f : A → Option B) (o : Option A) (b : B) → option_and_then f o ≡ Some b
    → (a : A) × (o ≡ Some a) × (f a ≡ Some b)
opened f None b h = absurd (none-some b h)
opened f (Some a) b h = (a, refl, h)

five_values : (a b c d e v : ℕ) → a < 64 → b < 64 → c < 64 → d < 64 → e < 64
    → a + 64 * (b + 64 * (c + 64 * (d + 64 * e))) ≡ v
    → (v % 64 ≡ a) × (v / 64 % 64 ≡ b) × (v / 64 ^ 2 % 64 ≡ c) × (v / 64 ^ 3 % 64 ≡ d) × (v / 64 ^ 4 % 64 ≡ e)
five_values a b c d e v ha hb hc hd he is = (
  omega (arith, ha, is),
  omega (arith, ha, hb, is),
  omega (arith, ha, hb, hc, is),
  omega (arith, ha, hb, hc, hd, is),
  omega (arith, ha, hb, hc, hd, he, is),
)

cons_five : (a b c d e p q r s t : ℕ) (rest : List ℕ) → a ≡ p → b ≡ q → c ≡ r → d ≡ s → e ≡ t
    → a ∷ (b ∷ (c ∷ (d ∷ (e ∷ rest)))) ≡ p ∷ (q ∷ (r ∷ (s ∷ (t ∷ rest))))
cons_five a b c d e p q r s t rest ha hb hc hd he = rw (ha, hb, hc, hd, he) refl

-- five characters of a text
pub five_is : (text : List ℕ) (at v : ℕ) (rest : List ℕ) → five text at ≡ Some v
    → slice_index text at ∷ (slice_index text (at + 1) ∷ (slice_index text (at + 2) ∷ (slice_index text (at + 3)
    ∷ (slice_index text (at + 4) ∷ rest)))) ≡ five_text v ++ rest
unfolding five five_text
five_is text at v rest h =
    let a = opened _ (value_of (slice_index text at)) v h in
    let b = opened _ (value_of (slice_index text (at + 1))) v a.2 in
    let c = opened _ (value_of (slice_index text (at + 2))) v b.2 in
    let d = opened _ (value_of (slice_index text (at + 3))) v c.2 in
    let e = opened _ (value_of (slice_index text (at + 4))) v d.2 in
    let is = same_Some (a.0 + 64 * (b.0 + 64 * (c.0 + 64 * (d.0 + 64 * e.0)))) v e.2 in
    let va = value_is (slice_index text at) a.0 a.1 in
    let vb = value_is (slice_index text (at + 1)) b.0 b.1 in
    let vc = value_is (slice_index text (at + 2)) c.0 c.1 in
    let vd = value_is (slice_index text (at + 3)) d.0 d.1 in
    let ve = value_is (slice_index text (at + 4)) e.0 e.1 in
    let values = five_values a.0 b.0 c.0 d.0 e.0 v va.0 vb.0 vc.0 vd.0 ve.0 is in
    cons_five _ _ _ _ _ _ _ _ _ _ rest (va.1 ∙ ap character (sym values.0)) (vb.1 ∙ ap character (sym values.1))
    (vc.1 ∙ ap character (sym values.2)) (vd.1 ∙ ap character (sym values.3)) (ve.1 ∙ ap character (sym values.4))

five_more : (text : List ℕ) (i j : ℕ) → j ≡ i + 5 → i + 5 ≤ length text
    → drop i text ≡ slice_index text i ∷ (slice_index text (i + 1) ∷ (slice_index text (i + 2) ∷ (slice_index text (i + 3)
    ∷ (slice_index text (i + 4) ∷ drop j text))))
five_more text i j is room =
    let step : (k n m : ℕ) → n ≡ i + k → m ≡ n + 1 → k < 5 → drop n text ≡ slice_index text n ∷ drop m text =
    λ k n m is_n is_m few. rest_is text n (omega (arith, is_n, few, room))
    ∙ ap (λ (x : ℕ). slice_index text n ∷ drop x text) (sym is_m) in
    step 0 i (i + 1) (omega arith) refl (omega arith)
    ∙ ap (λ (xs : List ℕ). slice_index text i ∷ xs)
    (step 1 (i + 1) (i + 2) refl (omega arith) (omega arith)
    ∙ ap (λ (xs : List ℕ). slice_index text (i + 1) ∷ xs)
    (step 2 (i + 2) (i + 3) refl (omega arith) (omega arith)
    ∙ ap (λ (xs : List ℕ). slice_index text (i + 2) ∷ xs)
    (step 3 (i + 3) (i + 4) refl (omega arith) (omega arith)
    ∙ ap (λ (xs : List ℕ). slice_index text (i + 3) ∷ xs)
    (step 4 (i + 4) j refl (omega (arith, is)) (omega arith)))))

params_front : (text : List ℕ) (p : ScryptParams) (t : Bool) → nat_lt (length text) 11 ≡ t
    → (if t then None else option_and_then (λ ln.
    option_and_then (λ r.
    option_and_then (λ q. Some (record { ln = ln; r = r; p = q }))
    (five text 6))
    (five text 1))
    (value_of (slice_index text 0))) ≡ Some p
    → text ≡ scrypt_params_text p ++ drop 11 text
unfolding scrypt_params_text
params_front text p true is h = absurd (none-some p h)
params_front text p false is h =
    let ln = opened _ (value_of (slice_index text 0)) p h in
    let r = opened _ (five text 1) p ln.2 in
    let q = opened _ (five text 6) p r.2 in
    let same : record { ln = ln.0; r = r.0; p = q.0 } ≡ p = same_Some (record { ln = ln.0; r = r.0; p = q.0 }) p q.2 in
    let long : 11 ≤ length text = grind (arith, nat_tests, is) in
    let value = value_is (slice_index text 0) ln.0 ln.1 in
    let first : text ≡ slice_index text 0 ∷ drop 1 text = rest_is text 0 (omega (arith, long)) in
    let second = five_more text 1 6 refl (omega (arith, long)) ∙ five_is text 1 r.0 (drop 6 text) r.1 in
    let third = five_more text 6 11 refl (omega (arith, long)) ∙ five_is text 6 q.0 (drop 11 text) q.1 in
    let all : text ≡ character ln.0 ∷ (five_text r.0 ++ (five_text q.0 ++ drop 11 text)) =
    first ∙ ap₂ (λ (x : ℕ) (xs : List ℕ). x ∷ xs) value.1
    (second ∙ ap (λ (xs : List ℕ). five_text r.0 ++ xs) third) in
    all
    ∙ ap (λ (xs : List ℕ). character ln.0 ∷ xs) (sym (append_assoc (five_text r.0) (five_text q.0) (drop 11 text)))
    ∙ ap (λ (x : ScryptParams). character x.ln ∷ ((five_text x.r ++ five_text x.p) ++ drop 11 text)) same

named_front : (text : List ℕ) (p : ScryptParams) → named_scrypt_params text ≡ Some p
    → text ≡ scrypt_params_text p ++ drop 11 text
unfolding named_scrypt_params
named_front text p h = params_front text p (nat_lt (length text) 11) refl h

two_facts : (a b : Bool) → first_fault (unless a fault.Memory ∷ unless b fault.Cost ∷ []) ≡ None
    → (a ≡ true) × (b ≡ true)
two_facts true true h = (refl, refl)
two_facts false b h = cc
two_facts true false h = cc

read_by : (text : List ℕ) (p : ScryptParams) (o : Option ScryptParams) → named_scrypt_params text ≡ o
    → scrypt_taken o ≡ Ok p → (scrypt_in_bounds p ≡ true) × (text ≡ scrypt_params_text p ++ drop 11 text)
read_by text p None is h = absurd (err_ok fault.Params p h)
read_by text p (Some q) is h =
    let found = value_found q p (scrypt_fault q) h in
    let facts = two_facts (not (scrypt_exceeds_memory q.ln q.r)) (is_scrypt_cost q.ln q.r q.p) found.0 in
    let here : scrypt_in_bounds q ≡ true = rw (facts.0, facts.1) refl in (
      subst (λ (x : ScryptParams). scrypt_in_bounds x ≡ true) found.1 here,
      named_front text q is ∙ ap (λ (x : ScryptParams). scrypt_params_text x ++ drop 11 text) found.1,
    )

pub scrypt_params_are : (text : List ℕ) (p : ScryptParams) → scrypt_params text ≡ Ok p
    → (scrypt_in_bounds p ≡ true) × (text ≡ scrypt_params_text p ++ drop 11 text)
unfolding scrypt_params
scrypt_params_are text p h = read_by text p (named_scrypt_params text) refl h

-- ---- a field that is written

then_some : {A : Type 0} {B : Type 0} (f : A → Option B) (o : Option A) (a : A) (b : Option B) → o ≡ Some a → f a ≡ b
    → option_and_then f o ≡ b
then_some f o a b is h = ap (option_and_then f) is ∙ h

five_sum : (v : ℕ) → v < 2 ^ 30
    → v % 64 + 64 * (v / 64 % 64 + 64 * (v / 64 ^ 2 % 64 + 64 * (v / 64 ^ 3 % 64 + 64 * (v / 64 ^ 4 % 64)))) ≡ v
five_sum v small = omega (arith, small)

-- the number of five values
five_of : (a b c d e x y z u w : ℕ) → value_of a ≡ Some x → value_of b ≡ Some y → value_of c ≡ Some z → value_of d ≡ Some u
    → value_of e ≡ Some w
    → option_and_then (λ a.
    option_and_then (λ b.
    option_and_then (λ c.
    option_and_then (λ d.
    option_and_then (λ e. Some (a + 64 * (b + 64 * (c + 64 * (d + 64 * e)))))
    (value_of e))
    (value_of d))
    (value_of c))
    (value_of b))
    (value_of a) ≡ Some (x + 64 * (y + 64 * (z + 64 * (u + 64 * w))))
five_of a b c d e x y z u w ha hb hc hd he =
    then_some _ (value_of a) x _ ha
    (then_some _ (value_of b) y _ hb
    (then_some _ (value_of c) z _ hc
    (then_some _ (value_of d) u _ hd
    (then_some _ (value_of e) w _ he refl))))

value_at : (x : ℕ) → value_of (character (x % 64)) ≡ Some (x % 64)
value_at x = value_read (x % 64) (omega arith)

five_here : (v : ℕ) → v < 2 ^ 30
    → option_and_then (λ a.
    option_and_then (λ b.
    option_and_then (λ c.
    option_and_then (λ d.
    option_and_then (λ e. Some (a + 64 * (b + 64 * (c + 64 * (d + 64 * e)))))
    (value_of (character (v / 64 ^ 4 % 64))))
    (value_of (character (v / 64 ^ 3 % 64))))
    (value_of (character (v / 64 ^ 2 % 64))))
    (value_of (character (v / 64 % 64))))
    (value_of (character (v % 64))) ≡ Some v
five_here v small =
    five_of (character (v % 64)) (character (v / 64 % 64)) (character (v / 64 ^ 2 % 64)) (character (v / 64 ^ 3 % 64))
    (character (v / 64 ^ 4 % 64)) (v % 64) (v / 64 % 64) (v / 64 ^ 2 % 64) (v / 64 ^ 3 % 64) (v / 64 ^ 4 % 64) (value_at v)
    (value_at (v / 64)) (value_at (v / 64 ^ 2)) (value_at (v / 64 ^ 3)) (value_at (v / 64 ^ 4))
    ∙ ap Some (five_sum v small)

params_read : (p : ScryptParams) (salt : List ℕ) → p.ln < 64 → p.r < 2 ^ 30 → p.p < 2 ^ 30
    → named_scrypt_params (scrypt_params_text p ++ salt) ≡ Some p
unfolding named_scrypt_params scrypt_params_text five five_text
params_read p salt ln r q =
    let long : length (scrypt_params_text p ++ salt) ≡ 11 + length salt = omega arith in
    let test : nat_lt (length (scrypt_params_text p ++ salt)) 11 ≡ false = grind (arith, nat_tests, long) in
    rw test
    (then_some _ (value_of (character p.ln)) p.ln _ (value_read p.ln ln)
    (then_some _ (five (scrypt_params_text p ++ salt) 1) p.r _ (five_here p.r r)
    (then_some _ (five (scrypt_params_text p ++ salt) 6) p.p _ (five_here p.p q) refl)))

pub scrypt_salt_behind : (p : ScryptParams) (salt : List ℕ) → drop 11 (scrypt_params_text p ++ salt) ≡ salt
unfolding scrypt_params_text five_text
scrypt_salt_behind p salt = refl

faultless : (p : ScryptParams) → scrypt_in_bounds p ≡ true → scrypt_fault p ≡ None
faultless p h =
    let both = and_parts (not (scrypt_exceeds_memory p.ln p.r)) (is_scrypt_cost p.ln p.r p.p) h in
    rw (both.0, both.1) refl

pub scrypt_params_read : (p : ScryptParams) (salt : List ℕ) → scrypt_in_bounds p ≡ true
    → scrypt_params (scrypt_params_text p ++ salt) ≡ Ok p
unfolding scrypt_params
scrypt_params_read p salt h =
    let bounds = scrypt_bounds_of p h in
    let rows = bounds.rows in
    let blocks = bounds.blocks in
    let parts = bounds.parts in
    let named = params_read p salt (omega (arith, rows)) (omega (arith, blocks)) (omega (arith, parts)) in
    let none = faultless p h in
    rw (named, none) refl
