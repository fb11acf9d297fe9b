-- A parameter field of a text `$y$` has one spelling.
use Rattle.std.proofs.Common.{◌≡◌, ℕ, ◌+◌, ◌*◌, ◌-◌, ◌/◌, ◌%◌, ◌^◌, ◌≤◌, ◌<◌, Bool, true, false, List, [], ◌∷◌, ◌++◌}
use Rattle.std.proofs.Common.{length, length-drop, drop, refl, sym, ap, ◌∙◌, arith, subst, Some, None, Ok}
use Rattle.std.specs.Prelude.{◌==◌, ◌&&◌, ◌||◌, not, nat_le, nat_lt, Option, if◌then◌else◌}
use Rattle.std.specs.Option.{option_and_then}
use Rattle.std.proofs.lemmas.Bool.{and_parts}
use Rattle.std.proofs.lemmas.Bool.Decides.{nat_tests}
use Rattle.std.proofs.lemmas.List.{append-nil, drop_all}
use Rattle.std.proofs.lemmas.Option.{none-some, same_Some}
use Rattle.pieces.specs.Faults.{first_fault, unless}
use Rattle.pieces.proofs.FaultLaws.{err_ok, value_found}
use Rattle.yescrypt_plain.specs.Numbers.{named, number, number_text}
use Rattle.yescrypt_plain.specs.Params.{exceeds_memory, in_bounds, is_cost, named_fault, named_params, taken, time_text}
use Rattle.yescrypt_plain.specs.Params.{yescrypt_params, yescrypt_params_text}
use Rattle.yescrypt_plain.specs.declared.error.TextFault.TheVariants as fault
use Rattle.yescrypt_plain.specs.declared.number.Read.{Read}
use Rattle.yescrypt_plain.specs.declared.params.NamedParams.{NamedParams}
use Rattle.yescrypt_plain.specs.declared.params.YescryptParams.{YescryptParams}
use Rattle.yescrypt_plain.proofs.Spelling.{number_is, number_read}

abbrev read : ℕ → ℕ → Read
read value next = record { value = value; next = next }

abbrev params : ℕ → ℕ → ℕ → YescryptParams
params ln r t = record { ln = ln; r = r; t = t }

-- ---- what is taken

-- what is known of parameters without a fault
pub record IsTaken (p : NamedParams) : Type 0 where
  pub flavor : p.flavor ≡ 47
  pub parallelism : p.p ≡ 1
  pub upgrades : p.g ≡ 0
  pub rom : p.rom ≡ 0
  pub memory : not (exceeds_memory p.ln p.r) ≡ true
  pub cost : is_cost p.ln p.r p.t ≡ true

equal : (a b : ℕ) → (a == b) ≡ true → a ≡ b
equal a b h = grind (arith, nat_tests, h)

equals : (a b : ℕ) → a ≡ b → (a == b) ≡ true
equals a b h = grind (arith, nat_tests, h)

six_facts : (a b c d e f : Bool)
    → first_fault (unless a fault.Flavor ∷ unless b fault.Parallelism ∷ unless c fault.Upgrades ∷ unless d fault.Rom
    ∷ unless e fault.Memory ∷ unless f fault.Cost ∷ []) ≡ None
    → (a ≡ true) × (b ≡ true) × (c ≡ true) × (d ≡ true) × (e ≡ true) × (f ≡ true)
six_facts true true true true true true h = (refl, refl, refl, refl, refl, refl)
six_facts false b c d e f h = cc
six_facts true false c d e f h = cc
six_facts true true false d e f h = cc
six_facts true true true false e f h = cc
six_facts true true true true false f h = cc
six_facts true true true true true false h = cc

pub no_fault : (p : NamedParams) → named_fault p ≡ None → IsTaken p
no_fault p h =
    let facts = six_facts (p.flavor == 47) (p.p == 1) (p.g == 0) (p.rom == 0) (not (exceeds_memory p.ln p.r))
    (is_cost p.ln p.r p.t) h in
    record {
      flavor = equal p.flavor 47 facts.0;
      parallelism = equal p.p 1 facts.1;
      upgrades = equal p.g 0 facts.2;
      rom = equal p.rom 0 facts.3;
      memory = facts.4;
      cost = facts.5;
    }

abbrev named_as : ℕ → ℕ → ℕ → NamedParams
named_as ln r t = record { flavor = 47; ln = ln; r = r; p = 1; t = t; g = 0; rom = 0 }

faultless : (ln r t : ℕ) → in_bounds (params ln r t) ≡ true → named_fault (named_as ln r t) ≡ None
faultless ln r t h =
    let both = and_parts (not (exceeds_memory ln r)) (is_cost ln r t) h in
    rw (both.0, both.1) refl

-- the bounds as inequalities
pub record Bounds (ln r t : ℕ) : Type 0 where
  pub rows : 2 ≤ ln
  pub few_rows : ln ≤ 24
  pub blocks : 1 ≤ r
  pub few_blocks : r < 2 ^ 19
  pub time : t ≤ 1024

or_false : (a b c : Bool) → not (a || b || c) ≡ true → (a ≡ false) × (b ≡ false) × (c ≡ false)
or_false false false false h = (refl, refl, refl)
or_false true b c h = cc
or_false false true c h = cc
or_false false false true h = cc

pub bounds_of : (ln r t : ℕ) → in_bounds (params ln r t) ≡ true → Bounds ln r t
bounds_of ln r t h =
    let both = and_parts (not (exceeds_memory ln r)) (is_cost ln r t) h in
    let memory = or_false (nat_lt 24 ln) (nat_le (2 ^ 19) r) (nat_lt (2 ^ 30) (128 * r * 2 ^ ln)) both.0 in
    let cost = and_parts (nat_le 2 ln && nat_le 1 r) (nat_le t 1024) both.1 in
    let least = and_parts (nat_le 2 ln) (nat_le 1 r) cost.0 in
    let a = memory.0 in
    let b = memory.1 in
    let c = least.0 in
    let d = least.1 in
    let e = cost.1 in
    record {
      rows = grind (arith, nat_tests, c);
      few_rows = grind (arith, nat_tests, a);
      blocks = grind (arith, nat_tests, d);
      few_blocks = grind (arith, nat_tests, b);
      time = grind (arith, nat_tests, e);
    }

-- ---- a field that is read

opened : {A : Type 0} {B : Type 0} (f : A → Option B) (o : Option A) (b : B) → option_and_then f o ≡ Some b
    → (a : A) × (o ≡ Some a) × (f a ≡ Some b)
opened f None b h = absurd (none-some b h)
opened f (Some a) b h = (a, refl, h)

-- a number that is absent
absent_is : (text : List ℕ) (at : ℕ) (t : Bool) (least absent : ℕ) (r : Read) → named text at t least absent ≡ Some r
    → r.value ≡ absent → absent < least → (t ≡ false) × (r.next ≡ at)
absent_is text at true least absent r h value small =
    let from = (number_is text at least r h).from in
    absurd (omega (arith, from, value, small))
absent_is text at false least absent r h value small =
    (refl, ap (λ (x : Read). x.next) (sym (same_Some (read absent at) r h)))

no_bit : (n : ℕ) → (n == 1) ≡ false → n < 2 → n ≡ 0
no_bit n h small = grind (arith, nat_tests, h, small)

-- of the four parameters that may be named, the time alone can be
pub record IsTime (have : ℕ) : Type 0 where
  pub first : have % 2 ≡ 0
  pub third : have / 4 % 2 ≡ 0
  pub fourth : have / 8 % 2 ≡ 0
  pub few : have < 16

time_alone : (have : ℕ) → IsTime have → 1 ≤ have → have ≡ 2
time_alone have is some =
    let a = is.first in
    let b = is.third in
    let c = is.fourth in
    let d = is.few in
    omega (arith, a, b, c, d, some)

ends : (text : List ℕ) (n : ℕ) → n ≡ length text → drop n text ≡ []
ends text n h = drop_all n text (omega (arith, h))

-- the time, named
time_named : (text : List ℕ) (at : ℕ) (have : ℕ) (q : Bool) (t : Read) → have ≡ 2 → q ≡ (have / 2 % 2 == 1)
    → named text at q 1 0 ≡ Some t → t.next ≡ length text → drop at text ≡ number_text (t.value - 1)
time_named text at have true t two test h end =
    let s = number_is text at 1 t h in
    s.is ∙ ap (λ (xs : List ℕ). number_text (t.value - 1) ++ xs) (ends text t.next end)
    ∙ append-nil (number_text (t.value - 1))
time_named text at have false t two test h end =
    let bit : (have / 2 % 2 == 1) ≡ true = equals (have / 2 % 2) 1 (omega (arith, two)) in
    absurd cc

named_time : (t : ℕ) → 1 ≤ t → time_text t ≡ number_text 1 ++ number_text (t - 1)
named_time t some =
    let test : (t == 0) ≡ false = grind (arith, nat_tests, some) in
    rw test refl

-- the time and the number before it
tail_named : (text : List ℕ) (at : ℕ) (have t : Read) (q : Bool) → number text at 1 ≡ Some have
    → IsTime have.value → q ≡ (have.value / 2 % 2 == 1)
    → named text have.next q 1 0 ≡ Some t → t.next ≡ length text → 1 ≤ t.value → drop at text ≡ time_text t.value
tail_named text at have t q h is test ht end some =
    let s = number_is text at 1 have h in
    let two = time_alone have.value is s.from in
    let rest = time_named text have.next have.value q t two test ht end in
    let flags : number_text (have.value - 1) ≡ number_text 1 =
    ap number_text (omega (arith, two)) in
    s.is ∙ ap (λ (xs : List ℕ). xs ++ drop have.next text) flags
    ∙ ap (λ (xs : List ℕ). number_text 1 ++ xs) rest ∙ sym (named_time t.value some)

some_time : (text : List ℕ) (at : ℕ) (have : ℕ) (q : Bool) (t : Read) → have ≡ 2 → q ≡ (have / 2 % 2 == 1)
    → named text at q 1 0 ≡ Some t → 1 ≤ t.value
some_time text at have true t two test h = (number_is text at 1 t h).from
some_time text at have false t two test h =
    let bit : (have / 2 % 2 == 1) ≡ true = equals (have / 2 % 2) 1 (omega (arith, two)) in
    absurd cc

no_time : (text : List ℕ) (at : ℕ) (have : ℕ) (q : Bool) (t : Read) → have ≡ 0 → q ≡ (have / 2 % 2 == 1)
    → named text at q 1 0 ≡ Some t → t ≡ read 0 at
no_time text at have false t none test h = sym (same_Some (read 0 at) t h)
no_time text at have true t none test h =
    let bit : (have / 2 % 2 == 1) ≡ false = grind (arith, nat_tests, none) in
    absurd cc

tail_is : (text : List ℕ) (at : ℕ) (b : Bool) (have t : Read) (q : Bool) → named text at b 1 0 ≡ Some have
    → IsTime have.value → q ≡ (have.value / 2 % 2 == 1)
    → named text have.next q 1 0 ≡ Some t → t.next ≡ length text → drop at text ≡ time_text t.value
tail_is text at true have t q h is test ht end =
    let two = time_alone have.value is (number_is text at 1 have h).from in
    tail_named text at have t q h is test ht end (some_time text have.next have.value q t two test ht)
tail_is text at false have t q h is test ht end =
    let none : have ≡ read 0 at = sym (same_Some (read 0 at) have h) in
    let time : t ≡ read 0 have.next = no_time text have.next have.value q t (ap (λ (x : Read). x.value) none) test ht in
    let there : at ≡ length text =
    ap (λ (x : Read). x.next) (sym none) ∙ ap (λ (x : Read). x.next) (sym time) ∙ end in
    ends text at there ∙ ap (λ (x : Read). time_text x.value) (sym time)

kept : (t : Bool) (a b : NamedParams) → (if t then Some a else None) ≡ Some b → (t ≡ true) × (a ≡ b)
kept true a b h = (refl, same_Some a b h)
kept false a b h = absurd (none-some b h)

abbrev named_of : Read → Read → Read → Read → Read → Read → Read → NamedParams
named_of flavor ln r p t g rom = record {
  flavor = flavor.value;
  ln = ln.value;
  r = r.value;
  p = p.value;
  t = t.value;
  g = g.value;
  rom = rom.value;
}

all_is : (text : List ℕ) (flavor ln r have p t g rom : Read) → number text 0 0 ≡ Some flavor
    → number text flavor.next 1 ≡ Some ln → number text ln.next 1 ≡ Some r
    → named text r.next (nat_lt r.next (length text)) 1 0 ≡ Some have
    → named text have.next (have.value % 2 == 1) 2 1 ≡ Some p
    → named text p.next (have.value / 2 % 2 == 1) 1 0 ≡ Some t
    → named text t.next (have.value / 4 % 2 == 1) 1 0 ≡ Some g
    → named text g.next (have.value / 8 % 2 == 1) 1 0 ≡ Some rom
    → (rom.next == length text && nat_lt have.value 16) ≡ true → IsTaken (named_of flavor ln r p t g rom)
    → text ≡ yescrypt_params_text (params ln.value r.value t.value)
unfolding yescrypt_params_text
all_is text flavor ln r have p t g rom hf hl hr hh hp ht hg hrom end is =
    let both = and_parts (rom.next == length text) (nat_lt have.value 16) end in
    let few = both.1 in
    let at_p = absent_is text have.next (have.value % 2 == 1) 2 1 p hp is.parallelism (omega arith) in
    let at_g = absent_is text t.next (have.value / 4 % 2 == 1) 1 0 g hg is.upgrades (omega arith) in
    let at_rom = absent_is text g.next (have.value / 8 % 2 == 1) 1 0 rom hrom is.rom (omega arith) in
    let times : IsTime have.value = record {
      first = no_bit (have.value % 2) at_p.0 (omega arith);
      third = no_bit (have.value / 4 % 2) at_g.0 (omega arith);
      fourth = no_bit (have.value / 8 % 2) at_rom.0 (omega arith);
      few = grind (arith, nat_tests, few);
    } in
    let last : t.next ≡ length text = sym at_g.1 ∙ sym at_rom.1 ∙ equal rom.next (length text) both.0 in
    let time = subst (λ (n : ℕ). named text n (have.value / 2 % 2 == 1) 1 0 ≡ Some t) at_p.1 ht in
    let tail = tail_is text r.next (nat_lt r.next (length text)) have t (have.value / 2 % 2 == 1) hh times refl time last in
    let sf = number_is text 0 0 flavor hf in
    let sl = number_is text flavor.next 1 ln hl in
    let sr = number_is text ln.next 1 r hr in
    let j : flavor.value - 0 ≡ 47 = let e = is.flavor in omega (arith, e) in
    sf.is ∙ ap (λ (n : ℕ). number_text n ++ drop flavor.next text) j
    ∙ ap (λ (xs : List ℕ). number_text 47 ++ xs)
    (sl.is ∙ ap (λ (xs : List ℕ). number_text (ln.value - 1) ++ xs)
    (sr.is ∙ ap (λ (xs : List ℕ). number_text (r.value - 1) ++ xs) tail))

pub params_are : (text : List ℕ) (p : NamedParams) → named_params text ≡ Some p → IsTaken p
    → text ≡ yescrypt_params_text (params p.ln p.r p.t)
unfolding named_params
params_are text p h is =
    let flavor = opened _ (number text 0 0) p h in
    let ln = opened _ (number text flavor.0.next 1) p flavor.2 in
    let r = opened _ (number text ln.0.next 1) p ln.2 in
    let have = opened _ (named text r.0.next (nat_lt r.0.next (length text)) 1 0) p r.2 in
    let q = opened _ (named text have.0.next (have.0.value % 2 == 1) 2 1) p have.2 in
    let t = opened _ (named text q.0.next (have.0.value / 2 % 2 == 1) 1 0) p q.2 in
    let g = opened _ (named text t.0.next (have.0.value / 4 % 2 == 1) 1 0) p t.2 in
    let rom = opened _ (named text g.0.next (have.0.value / 8 % 2 == 1) 1 0) p g.2 in
    let both = kept _ (named_of flavor.0 ln.0 r.0 q.0 t.0 g.0 rom.0) p rom.2 in
    let named_is = both.1 in
    all_is text flavor.0 ln.0 r.0 have.0 q.0 t.0 g.0 rom.0 flavor.1 ln.1 r.1 have.1 q.1 t.1 g.1 rom.1 both.0
    (subst IsTaken (sym named_is) is)
    ∙ ap (λ (x : NamedParams). yescrypt_params_text (params x.ln x.r x.t)) named_is

-- ---- a field that is written

-- the end of a text
end_of : (text : List ℕ) (n : ℕ) → drop n text ≡ [] → n ≤ length text → n ≡ length text
end_of text n h room =
    let left : length text - n ≡ 0 = sym (length-drop n text) ∙ ap length h in
    omega (arith, left, room)

-- what is known of a field whose numbers are read so far
pub record IsBegun (text : List ℕ) (p : YescryptParams) : Type 0 where
  pub first : ℕ
  pub second : ℕ
  pub third : ℕ
  pub flavor : number text 0 0 ≡ Some (read 47 first)
  pub rows : number text first 1 ≡ Some (read p.ln second)
  pub blocks : number text second 1 ≡ Some (read p.r third)
  pub behind : drop third text ≡ time_text p.t
  pub room : third ≤ length text

begun : (text : List ℕ) (p : YescryptParams) → Bounds p.ln p.r p.t → text ≡ yescrypt_params_text p → IsBegun text p
unfolding yescrypt_params_text
begun text p bounds is =
    let rows = bounds.rows in
    let few_rows = bounds.few_rows in
    let blocks = bounds.blocks in
    let few_blocks = bounds.few_blocks in
    let f = number_read text 0 0 47 (number_text (p.ln - 1) ++ (number_text (p.r - 1) ++ time_text p.t)) (omega arith) is in
    let l = number_read text f.next 1 (p.ln - 1) (number_text (p.r - 1) ++ time_text p.t) (omega (arith, few_rows)) f.behind in
    let r = number_read text l.next 1 (p.r - 1) (time_text p.t) (omega (arith, few_blocks)) l.behind in
    let ln_is : 1 + (p.ln - 1) ≡ p.ln = omega (arith, rows) in
    let r_is : 1 + (p.r - 1) ≡ p.r = omega (arith, blocks) in
    record {
      first = f.next;
      second = l.next;
      third = r.next;
      flavor = f.is;
      rows = l.is ∙ ap (λ (v : ℕ). Some (read v l.next)) ln_is;
      blocks = r.is ∙ ap (λ (v : ℕ). Some (read v r.next)) r_is;
      behind = r.behind;
      room = r.room;
    }

-- the last of the numbers that are named
pub record IsEnded (text : List ℕ) (at t : ℕ) : Type 0 where
  pub have : Read
  pub time : Read
  pub have_is : named text at (nat_lt at (length text)) 1 0 ≡ Some have
  pub no_p : (have.value % 2 == 1) ≡ false
  pub no_g : (have.value / 4 % 2 == 1) ≡ false
  pub no_rom : (have.value / 8 % 2 == 1) ≡ false
  pub few : nat_lt have.value 16 ≡ true
  pub time_is : named text have.next (have.value / 2 % 2 == 1) 1 0 ≡ Some time
  pub value : time.value ≡ t
  pub end : (time.next == length text) ≡ true

ended_by : (text : List ℕ) (at t : ℕ) (test : Bool) → (t == 0) ≡ test → drop at text ≡ time_text t → at ≤ length text
    → t ≤ 1024 → IsEnded text at t
ended_by text at t true is there room most =
    let none : drop at text ≡ [] = there ∙ rw is refl in
    let at_end = end_of text at none room in
    let over : nat_lt at (length text) ≡ false = grind (arith, nat_tests, at_end) in
    record {
      have = read 0 at;
      time = read 0 at;
      have_is = rw over refl;
      no_p = refl;
      no_g = refl;
      no_rom = refl;
      few = refl;
      time_is = refl;
      value = sym (equal t 0 is);
      end = equals at (length text) at_end;
    }
ended_by text at t false is there room most =
    let some : 1 ≤ t = grind (arith, nat_tests, is) in
    let h = number_read text at 1 1 (number_text (t - 1)) (omega arith) (there ∙ named_time t some) in
    let after = h.after in
    let fits = h.room in
    let inside : nat_lt at (length text) ≡ true = grind (arith, nat_tests, after, fits) in
    let n = number_read text h.next 1 (t - 1) [] (omega (arith, most))
    (h.behind ∙ sym (append-nil (number_text (t - 1)))) in
    record {
      have = read 2 h.next;
      time = read (1 + (t - 1)) n.next;
      have_is = rw inside h.is;
      no_p = refl;
      no_g = refl;
      no_rom = refl;
      few = refl;
      time_is = n.is;
      value = omega (arith, some);
      end = equals n.next (length text) (end_of text n.next n.behind n.room);
    }

then_some : {A : Type 0} {B : Type 0} (f : A → Option B) (o : Option A) (a : A) (b : Option B) → o ≡ Some a → f a ≡ b
    → option_and_then f o ≡ b
then_some f o a b is h = ap (option_and_then f) is ∙ h

absent : (text : List ℕ) (at : ℕ) (t : Bool) (least value : ℕ) → t ≡ false
    → named text at t least value ≡ Some (read value at)
absent text at t least value is = rw is refl

pub params_read : (text : List ℕ) (p : YescryptParams) → in_bounds p ≡ true → text ≡ yescrypt_params_text p
    → named_params text ≡ Some (named_as p.ln p.r p.t)
unfolding named_params
params_read text p good is =
    let bounds = bounds_of p.ln p.r p.t good in
    let b = begun text p bounds is in
    let e = ended_by text b.third p.t (p.t == 0) refl b.behind b.room bounds.time in
    then_some _ (number text 0 0) (read 47 b.first) _ b.flavor
    (then_some _ (number text b.first 1) (read p.ln b.second) _ b.rows
    (then_some _ (number text b.second 1) (read p.r b.third) _ b.blocks
    (then_some _ (named text b.third (nat_lt b.third (length text)) 1 0) e.have _ e.have_is
    (then_some _ (named text e.have.next (e.have.value % 2 == 1) 2 1) (read 1 e.have.next) _
    (absent text e.have.next (e.have.value % 2 == 1) 2 1 e.no_p)
    (then_some _ (named text e.have.next (e.have.value / 2 % 2 == 1) 1 0) e.time _ e.time_is
    (then_some _ (named text e.time.next (e.have.value / 4 % 2 == 1) 1 0) (read 0 e.time.next) _
    (absent text e.time.next (e.have.value / 4 % 2 == 1) 1 0 e.no_g)
    (then_some _ (named text e.time.next (e.have.value / 8 % 2 == 1) 1 0) (read 0 e.time.next) _
    (absent text e.time.next (e.have.value / 8 % 2 == 1) 1 0 e.no_rom)
    (rw (e.end, e.few, e.value) refl))))))))

-- ---- the law

taken_none : (params : YescryptParams) → taken None ≡ Ok params → ⊥
taken_none p h = err_ok fault.Params p h

read_by : (text : List ℕ) (params : YescryptParams) (o : Option NamedParams) → named_params text ≡ o
    → taken o ≡ Ok params → (in_bounds params ≡ true) × (text ≡ yescrypt_params_text params)
read_by text params None is h = absurd (taken_none params h)
read_by text params (Some p) is h =
    let found = value_found (record { ln = p.ln; r = p.r; t = p.t }) params (named_fault p) h in
    let good = no_fault p found.0 in
    let here : in_bounds (record { ln = p.ln; r = p.r; t = p.t }) ≡ true = rw (good.memory, good.cost) refl in (
      subst (λ (q : YescryptParams). in_bounds q ≡ true) found.1 here,
      params_are text p is good ∙ ap yescrypt_params_text found.1,
    )

pub params_of_text : (text : List ℕ) (params : YescryptParams) → yescrypt_params text ≡ Ok params
    → (in_bounds params ≡ true) × (text ≡ yescrypt_params_text params)
unfolding yescrypt_params
params_of_text text params h = read_by text params (named_params text) refl h

pub text_of_params : (text : List ℕ) (p : YescryptParams)
    → (in_bounds p ≡ true) × (text ≡ yescrypt_params_text p) → yescrypt_params text ≡ Ok p
unfolding yescrypt_params
text_of_params text p h =
    let named = params_read text p h.0 h.1 in
    let none = faultless p.ln p.r p.t h.0 in
    rw (named, none) refl
