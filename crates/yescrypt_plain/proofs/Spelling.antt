-- A number has one spelling.
use Rattle.std.proofs.Common.{◌≡◌, ℕ, zero, suc, ◌+◌, ◌*◌, ◌-◌, ◌/◌, ◌%◌, ◌^◌, ◌≤◌, ◌<◌, Bool, true, false, List, [], ◌∷◌, ◌++◌}
use Rattle.std.proofs.Common.{length, length-append, length-drop, take, drop, slice_index, refl, sym, ap, ap₂, ◌∙◌, arith, subst, inl, inr, Some, None}
use Rattle.std.specs.Prelude.{◌&&◌, nat_le, nat_lt, Option, if◌then◌else◌}
use Rattle.std.specs.Option.{option_and_then}
use Rattle.std.proofs.Math.Nat.{div-div-eq-div-mul, div-one}
use Rattle.std.proofs.lemmas.Bool.{cases_lt}
use Rattle.std.proofs.lemmas.Bool.Decides.{nat_tests}
use Rattle.std.proofs.lemmas.List.{drop-drop, drop_at, take-append-drop}
use Rattle.std.proofs.lemmas.Nat.{div-mul-add, mod-mul-add, pow-add}
use Rattle.std.proofs.lemmas.Option.{none-some, same_Some}
use Rattle.yescrypt_plain.specs.Numbers.{character, class_for, class_number, class_of, class_text, digits, digits_text, first_number}
use Rattle.yescrypt_plain.specs.Numbers.{number, number_text, value_of}
use Rattle.yescrypt_plain.specs.declared.number.Class.{Class}
use Rattle.yescrypt_plain.specs.declared.number.Read.{Read}
use Rattle.yescrypt_plain.proofs.Numbers.{rest_is}

-- ---- characters

value_by : (a b d : Bool) (c v : ℕ) → (nat_le 46 c && nat_le c 57) ≡ a → (nat_le 65 c && nat_le c 90) ≡ b
    → (nat_le 97 c && nat_le c 122) ≡ d
    → (if a then Some (c - 46) else (if b then Some (c - 53) else (if d then Some (c - 59) else None))) ≡ Some v
    → (v < 64) × (c ≡ character v)
value_by true b d c v ia ib id h =
    let e : c - 46 ≡ v = same_Some (c - 46) v h in
    let low : v < 12 = grind (arith, nat_tests, ia, e) in
    let t : nat_lt v 12 ≡ true = grind (arith, nat_tests, low) in
    let is : c ≡ 46 + v = grind (arith, nat_tests, ia, e) in
    (omega (arith, low), rw t is)
value_by false true d c v ia ib id h =
    let e : c - 53 ≡ v = same_Some (c - 53) v h in
    let low : v < 38 = grind (arith, nat_tests, ib, e) in
    let high : 12 ≤ v = grind (arith, nat_tests, ib, e) in
    let t : nat_lt v 12 ≡ false = grind (arith, nat_tests, high) in
    let u : nat_lt v 38 ≡ true = grind (arith, nat_tests, low) in
    let is : c ≡ 53 + v = grind (arith, nat_tests, ib, e) in
    (omega (arith, low), rw (t, u) is)
value_by false false true c v ia ib id h =
    let e : c - 59 ≡ v = same_Some (c - 59) v h in
    let low : v < 64 = grind (arith, nat_tests, id, e) in
    let high : 38 ≤ v = grind (arith, nat_tests, id, e) in
    let t : nat_lt v 12 ≡ false = grind (arith, nat_tests, high) in
    let u : nat_lt v 38 ≡ false = grind (arith, nat_tests, high) in
    let is : c ≡ 59 + v = grind (arith, nat_tests, id, e) in
    (low, rw (t, u) is)
value_by false false false c v ia ib id h = absurd (none-some v h)

-- a character with a value is that of the value
pub value_is : (c v : ℕ) → value_of c ≡ Some v → (v < 64) × (c ≡ character v)
value_is c v h = value_by (nat_le 46 c && nat_le c 57) (nat_le 65 c && nat_le c 90) (nat_le 97 c && nat_le c 122) c v refl
    refl refl h

read_by : (a b : Bool) (v : ℕ) → nat_lt v 12 ≡ a → nat_lt v 38 ≡ b → v < 64
    → value_of (if a then 46 + v else (if b then 53 + v else 59 + v)) ≡ Some v
read_by true b v ia ib small =
    let t : (nat_le 46 (46 + v) && nat_le (46 + v) 57) ≡ true = grind (arith, nat_tests, ia) in
    let e : 46 + v - 46 ≡ v = omega arith in
    rw t (ap Some e)
read_by false true v ia ib small =
    let t : (nat_le 46 (53 + v) && nat_le (53 + v) 57) ≡ false = grind (arith, nat_tests, ia) in
    let u : (nat_le 65 (53 + v) && nat_le (53 + v) 90) ≡ true = grind (arith, nat_tests, ia, ib) in
    let e : 53 + v - 53 ≡ v = omega arith in
    rw (t, u) (ap Some e)
read_by false false v ia ib small =
    let t : (nat_le 46 (59 + v) && nat_le (59 + v) 57) ≡ false = grind (arith, nat_tests, ib) in
    let u : (nat_le 65 (59 + v) && nat_le (59 + v) 90) ≡ false = grind (arith, nat_tests, ib) in
    let w : (nat_le 97 (59 + v) && nat_le (59 + v) 122) ≡ true = grind (arith, nat_tests, ib, small) in
    let e : 59 + v - 59 ≡ v = omega arith in
    rw (t, u, w) (ap Some e)

-- the character of a value has this value
pub value_read : (v : ℕ) → v < 64 → value_of (character v) ≡ Some v
value_read v small = read_by (nat_lt v 12) (nat_lt v 38) v refl refl small

-- ---- digits

power : (n : ℕ) → 64 ^ suc n ≡ 64 ^ n * 64
power n = let e : suc n ≡ n + 1 = omega arith in ap (λ (k : ℕ). 64 ^ k) e ∙ pow-add 64 n 1

above : (n w : ℕ) → w / 64 ^ suc n ≡ w / 64 ^ n / 64
above n w = ap (λ (k : ℕ). w / k) (power n) ∙ sym (div-div-eq-div-mul w (64 ^ n) 64)

-- what is read of n characters
pub record AreDigits (n v : ℕ) (text : List ℕ) (w : ℕ) : Type 0 where
  pub room : n ≤ length text
  pub front : w / 64 ^ n ≡ v
  pub are : take n text ≡ digits_text n w

digit_more : (n v w c : ℕ) (text : List ℕ) (o : Option ℕ) → value_of c ≡ o
    → ((d : ℕ) → digits n (v * 64 + d) text ≡ Some w → AreDigits n (v * 64 + d) text w)
    → option_and_then (λ d. digits n (v * 64 + d) text) o ≡ Some w → AreDigits (suc n) v (c ∷ text) w
unfolding digits_text
digit_more n v w c text None is rest h = absurd (none-some w h)
digit_more n v w c text (Some d) is rest h =
    let r = rest d h in
    let of = value_is c d is in
    let here : w / 64 ^ n % 64 ≡ d = ap (λ (x : ℕ). x % 64) r.front ∙ mod-mul-add v 64 d of.0 in
    record {
      room = omega (arith, r.room);
      front = above n w ∙ ap (λ (x : ℕ). x / 64) r.front ∙ div-mul-add v 64 d of.0;
      are = ap₂ (λ (x : ℕ) (xs : List ℕ). x ∷ xs) (of.1 ∙ ap character (sym here)) r.are;
    }

pub digits_are : (n v w : ℕ) (text : List ℕ) → digits n v text ≡ Some w → AreDigits n v text w
unfolding digits digits_text
digits_are zero v w text h =
    record { room = omega arith; front = div-one w ∙ sym (same_Some v w h); are = refl }
digits_are (suc n) v w [] h = absurd (none-some w h)
digits_are (suc n) v w (c ∷ text) h =
    digit_more n v w c text (value_of c) refl (λ d. digits_are n (v * 64 + d) w text) h

-- the digits of a number are read as it
pub digits_read : (n w : ℕ) (rest : List ℕ) → digits n (w / 64 ^ n) (digits_text n w ++ rest) ≡ Some w
unfolding digits digits_text
digits_read zero w rest = ap Some (div-one w)
digits_read (suc n) w rest =
    let x : ℕ = w / 64 ^ n % 64 in
    let small : x < 64 = omega arith in
    let whole : w / 64 ^ suc n * 64 + x ≡ w / 64 ^ n =
    ap (λ (y : ℕ). y * 64 + x) (above n w) ∙ omega arith in
    rw (value_read x small, whole) (digits_read n w rest)

-- ---- classes

class_text_of : (v : ℕ) (k : Class) → class_for v ≡ k → number_text v ≡ class_text k (v - k.base)
unfolding number_text
class_text_of v k is = ap (λ (c : Class). class_text c (v - c.base)) is

abbrev class : ℕ → ℕ → ℕ → Class
class start more base = record { start = start; more = more; base = base }

first_class : (v : ℕ) → v < 48 → class_for v ≡ class 0 0 0
first_class v most = let t : nat_lt v 48 ≡ true = grind (arith, nat_tests, most) in rw t refl

second_class : (v : ℕ) → 48 ≤ v → v < 560 → class_for v ≡ class 48 1 48
second_class v least most =
    let t : nat_lt v 48 ≡ false = grind (arith, nat_tests, least) in
    let u : nat_lt v 560 ≡ true = grind (arith, nat_tests, most) in
    rw (t, u) refl

third_class : (v : ℕ) → 560 ≤ v → v < 16944 → class_for v ≡ class 56 2 560
third_class v least most =
    let t : nat_lt v 48 ≡ false = grind (arith, nat_tests, least) in
    let u : nat_lt v 560 ≡ false = grind (arith, nat_tests, least) in
    let w : nat_lt v 16944 ≡ true = grind (arith, nat_tests, most) in
    rw (t, u, w) refl

fourth_class : (v : ℕ) → 16944 ≤ v → v < 541232 → class_for v ≡ class 60 3 16944
fourth_class v least most =
    let t : nat_lt v 48 ≡ false = grind (arith, nat_tests, least) in
    let u : nat_lt v 560 ≡ false = grind (arith, nat_tests, least) in
    let w : nat_lt v 16944 ≡ false = grind (arith, nat_tests, least) in
    let x : nat_lt v 541232 ≡ true = grind (arith, nat_tests, most) in
    rw (t, u, w, x) refl

fifth_class : (v : ℕ) → 541232 ≤ v → v < 17318448 → class_for v ≡ class 62 4 541232
fifth_class v least most =
    let t : nat_lt v 48 ≡ false = grind (arith, nat_tests, least) in
    let u : nat_lt v 560 ≡ false = grind (arith, nat_tests, least) in
    let w : nat_lt v 16944 ≡ false = grind (arith, nat_tests, least) in
    let x : nat_lt v 541232 ≡ false = grind (arith, nat_tests, least) in
    let y : nat_lt v 17318448 ≡ true = grind (arith, nat_tests, most) in
    rw (t, u, w, x, y) refl

last_class : (v : ℕ) → 17318448 ≤ v → class_for v ≡ class 63 5 17318448
last_class v least =
    let t : nat_lt v 48 ≡ false = grind (arith, nat_tests, least) in
    let u : nat_lt v 560 ≡ false = grind (arith, nat_tests, least) in
    let w : nat_lt v 16944 ≡ false = grind (arith, nat_tests, least) in
    let x : nat_lt v 541232 ≡ false = grind (arith, nat_tests, least) in
    let y : nat_lt v 17318448 ≡ false = grind (arith, nat_tests, least) in
    rw (t, u, w, x, y) refl

-- ---- numbers of one to four characters

pub one_is : (v a : ℕ) → v < 48 → a ≡ character v → a ∷ [] ≡ number_text v
unfolding digits_text
one_is v a small is =
    let whole = div-one (v - 0) in
    let value : v ≡ 0 + (v - 0) / 1 = omega (arith, whole) in
    ap (λ (x : ℕ). x ∷ []) (is ∙ ap character value) ∙ sym (class_text_of v (class 0 0 0) (first_class v small))

pub two_is : (v a b : ℕ) → 48 + v < 560 → a ≡ character (48 + v / 64) → b ≡ character (v % 64)
    → a ∷ (b ∷ []) ≡ number_text (48 + v)
unfolding digits_text
two_is v a b small ea eb =
    let k : Class = class 48 1 48 in
    let rest : 48 + v - 48 ≡ v = omega arith in
    let text : number_text (48 + v) ≡ class_text k v =
    class_text_of (48 + v) k (second_class (48 + v) (omega arith) small) ∙ ap (class_text k) rest in
    let is : b ≡ character (v / 1 % 64) = eb ∙ ap (λ (x : ℕ). character (x % 64)) (sym (div-one v)) in
    ap₂ (λ (x y : ℕ). x ∷ (y ∷ [])) ea is ∙ sym text

pub three_is : (v a b c : ℕ) → 560 + v < 16944 → a ≡ character (56 + v / 4096) → b ≡ character (v / 64 % 64)
    → c ≡ character (v % 64) → a ∷ (b ∷ (c ∷ [])) ≡ number_text (560 + v)
unfolding digits_text
three_is v a b c small ea eb ec =
    let k : Class = class 56 2 560 in
    let rest : 560 + v - 560 ≡ v = omega arith in
    let text : number_text (560 + v) ≡ class_text k v =
    class_text_of (560 + v) k (third_class (560 + v) (omega arith) small) ∙ ap (class_text k) rest in
    let is : c ≡ character (v / 1 % 64) = ec ∙ ap (λ (x : ℕ). character (x % 64)) (sym (div-one v)) in
    ap₂ (λ (x : ℕ) (xs : List ℕ). x ∷ xs) ea (ap₂ (λ (x y : ℕ). x ∷ (y ∷ [])) eb is) ∙ sym text

pub four_is : (v a b c d : ℕ) → 16944 + v < 541232 → a ≡ character (60 + v / 262144) → b ≡ character (v / 4096 % 64)
    → c ≡ character (v / 64 % 64) → d ≡ character (v % 64) → a ∷ (b ∷ (c ∷ (d ∷ []))) ≡ number_text (16944 + v)
unfolding digits_text
four_is v a b c d small ea eb ec ed =
    let k : Class = class 60 3 16944 in
    let rest : 16944 + v - 16944 ≡ v = omega arith in
    let text : number_text (16944 + v) ≡ class_text k v =
    class_text_of (16944 + v) k (fourth_class (16944 + v) (omega arith) small) ∙ ap (class_text k) rest in
    let is : d ≡ character (v / 1 % 64) = ed ∙ ap (λ (x : ℕ). character (x % 64)) (sym (div-one v)) in
    ap₂ (λ (x : ℕ) (xs : List ℕ). x ∷ xs) ea
    (ap₂ (λ (x : ℕ) (xs : List ℕ). x ∷ xs) eb (ap₂ (λ (x y : ℕ). x ∷ (y ∷ [])) ec is)) ∙ sym text

-- ---- numbers that are read

-- the class of a first character is that of the number
same_by : (a b c d e : Bool) (f w : ℕ) (k : Class) → nat_lt f 48 ≡ a → nat_lt f 56 ≡ b → nat_lt f 60 ≡ c
    → nat_lt f 62 ≡ d → nat_lt f 63 ≡ e → f < 64
    → k ≡ (if a then class 0 0 0 else (if b then class 48 1 48 else (if c then class 56 2 560 else (if d then class 60 3 16944
    else (if e then class 62 4 541232 else class 63 5 17318448)))))
    → w / 64 ^ k.more ≡ f - k.start → (class_for (k.base + w) ≡ k) × (k.start ≤ f)
same_by true b c d e f w k ia ib ic id ie small is v = subst
    (λ (k : Class). w / 64 ^ k.more ≡ f - k.start → (class_for (k.base + w) ≡ k) × (k.start ≤ f)) (sym is)
    (λ v. let one = div-one w in (first_class (0 + w) (grind (arith, nat_tests, ia, v, one)), omega arith)) v
same_by false true c d e f w k ia ib ic id ie small is v = subst
    (λ (k : Class). w / 64 ^ k.more ≡ f - k.start → (class_for (k.base + w) ≡ k) × (k.start ≤ f)) (sym is)
    (λ v.
    let least : 48 ≤ f = grind (arith, nat_tests, ia) in
    let most : f < 56 = grind (arith, nat_tests, ib) in
    (second_class (48 + w) (omega arith) (omega (arith, v, most)), least)) v
same_by false false true d e f w k ia ib ic id ie small is v = subst
    (λ (k : Class). w / 64 ^ k.more ≡ f - k.start → (class_for (k.base + w) ≡ k) × (k.start ≤ f)) (sym is)
    (λ v.
    let least : 56 ≤ f = grind (arith, nat_tests, ib) in
    let most : f < 60 = grind (arith, nat_tests, ic) in
    (third_class (560 + w) (omega arith) (omega (arith, v, most)), least)) v
same_by false false false true e f w k ia ib ic id ie small is v = subst
    (λ (k : Class). w / 64 ^ k.more ≡ f - k.start → (class_for (k.base + w) ≡ k) × (k.start ≤ f)) (sym is)
    (λ v.
    let least : 60 ≤ f = grind (arith, nat_tests, ic) in
    let most : f < 62 = grind (arith, nat_tests, id) in
    (fourth_class (16944 + w) (omega arith) (omega (arith, v, most)), least)) v
same_by false false false false true f w k ia ib ic id ie small is v = subst
    (λ (k : Class). w / 64 ^ k.more ≡ f - k.start → (class_for (k.base + w) ≡ k) × (k.start ≤ f)) (sym is)
    (λ v.
    let least : 62 ≤ f = grind (arith, nat_tests, id) in
    let most : f < 63 = grind (arith, nat_tests, ie) in
    (fifth_class (541232 + w) (omega arith) (omega (arith, v, most)), least)) v
same_by false false false false false f w k ia ib ic id ie small is v = subst
    (λ (k : Class). w / 64 ^ k.more ≡ f - k.start → (class_for (k.base + w) ≡ k) × (k.start ≤ f)) (sym is)
    (λ v.
    let least : 63 ≤ f = grind (arith, nat_tests, ie) in
    (last_class (17318448 + w) (omega arith), least)) v

same_class : (f w : ℕ) → f < 64 → w / 64 ^ (class_of f).more ≡ f - (class_of f).start
    → (class_for ((class_of f).base + w) ≡ class_of f) × ((class_of f).start ≤ f)
same_class f w small v =
    same_by (nat_lt f 48) (nat_lt f 56) (nat_lt f 60) (nat_lt f 62) (nat_lt f 63) f w (class_of f) refl refl refl refl refl
    small refl v

-- a number that is read at a place: its characters stand there
pub record IsSpelled (text : List ℕ) (at least : ℕ) (r : Read) : Type 0 where
  pub from : least ≤ r.value
  pub is : drop at text ≡ number_text (r.value - least) ++ drop r.next text
  pub room : r.next ≤ length text

abbrev read : ℕ → ℕ → Read
read value next = record { value = value; next = next }

spelled : (text : List ℕ) (at least f w : ℕ) → at < length text → value_of (slice_index text at) ≡ Some f
    → AreDigits (class_of f).more (f - (class_of f).start) (drop (at + 1) text) w
    → IsSpelled text at least (read (least + (class_of f).base + w) (at + 1 + (class_of f).more))
spelled text at least f w lt first digits =
    let k : Class = class_of f in
    let of = value_is (slice_index text at) f first in
    let same = same_class f w of.0 digits.front in
    let above : least + k.base + w - least ≡ k.base + w = omega arith in
    let beyond : k.base + w - k.base ≡ w = omega arith in
    let front : k.start + w / 64 ^ k.more ≡ f =
    ap (λ (x : ℕ). k.start + x) digits.front ∙ omega (arith, same.1) in
    let number : number_text (least + k.base + w - least) ≡ character f ∷ digits_text k.more w =
    ap number_text above ∙ class_text_of (k.base + w) k same.0 ∙ ap (class_text k) beyond
    ∙ ap (λ (x : ℕ). character x ∷ digits_text k.more w) front in
    let rest : drop (at + 1) text ≡ digits_text k.more w ++ drop (at + 1 + k.more) text =
    sym (take-append-drop k.more (drop (at + 1) text))
    ∙ ap₂ (λ (xs ys : List ℕ). xs ++ ys) digits.are (drop-drop k.more (at + 1) text) in
    let long = length-drop (at + 1) text in
    let room = digits.room in
    record {
      from = omega arith;
      is = rest_is text at lt ∙ ap₂ (λ (x : ℕ) (xs : List ℕ). x ∷ xs) of.1 rest
          ∙ ap (λ (xs : List ℕ). xs ++ drop (at + 1 + k.more) text) (sym number);
      room = omega (arith, long, room, lt);
    }

by_digits : (text : List ℕ) (at least f : ℕ) (r : Read) (o : Option ℕ) → at < length text
    → value_of (slice_index text at) ≡ Some f
    → digits (class_of f).more (f - (class_of f).start) (drop (at + 1) text) ≡ o
    → class_number least at (class_of f) o ≡ Some r → IsSpelled text at least r
by_digits text at least f r None lt first is h = absurd (none-some r h)
by_digits text at least f r (Some w) lt first is h =
    subst (IsSpelled text at least)
    (same_Some (read (least + (class_of f).base + w) (at + 1 + (class_of f).more)) r h)
    (spelled text at least f w lt first
    (digits_are (class_of f).more (f - (class_of f).start) w (drop (at + 1) text) is))

by_first : (text : List ℕ) (at least : ℕ) (r : Read) (o : Option ℕ) → at < length text
    → value_of (slice_index text at) ≡ o → first_number least at (drop (at + 1) text) o ≡ Some r
    → IsSpelled text at least r
by_first text at least r None lt is h = absurd (none-some r h)
by_first text at least r (Some f) lt is h =
    by_digits text at least f r (digits (class_of f).more (f - (class_of f).start) (drop (at + 1) text)) lt is refl h

by_place : (text : List ℕ) (at least : ℕ) (r : Read) (t : Bool) → nat_lt at (length text) ≡ t
    → (if t then first_number least at (drop (at + 1) text) (value_of (slice_index text at)) else None) ≡ Some r
    → IsSpelled text at least r
by_place text at least r true is h =
    by_first text at least r (value_of (slice_index text at)) (grind (arith, nat_tests, is)) refl h
by_place text at least r false is h = absurd (none-some r h)

pub number_is : (text : List ℕ) (at least : ℕ) (r : Read) → number text at least ≡ Some r → IsSpelled text at least r
unfolding number
number_is text at least r h = by_place text at least r (nat_lt at (length text)) refl h

-- ---- numbers that are written

-- a text that goes on by a character
pub record GoesOn (text : List ℕ) (at c : ℕ) (rest : List ℕ) : Type 0 where
  pub inside : at < length text
  pub here : slice_index text at ≡ c
  pub behind : drop (at + 1) text ≡ rest

pub goes_on : (text : List ℕ) (at c : ℕ) (rest : List ℕ) → drop at text ≡ c ∷ rest → GoesOn text at c rest
goes_on [] zero c rest h = cc
goes_on [] (suc at) c rest h = cc
goes_on (x ∷ text) zero c rest h = record { inside = omega arith; here = cc; behind = cc }
goes_on (x ∷ text) (suc at) c rest h =
    let r = goes_on text at c rest h in
    let e : suc at + 1 ≡ suc (at + 1) = omega arith in
    record {
      inside = omega (arith, r.inside);
      here = r.here;
      behind = ap (λ (n : ℕ). drop n (x ∷ text)) e ∙ r.behind;
    }

length-digits_text : (n v : ℕ) → length (digits_text n v) ≡ n
unfolding digits_text
length-digits_text zero v = refl
length-digits_text (suc n) v = ap suc (length-digits_text n v)

-- the class of a number is that of its first character
pub record Leads (v : ℕ) (k : Class) : Type 0 where
  pub base : k.base ≤ v
  pub below : k.start + (v - k.base) / 64 ^ k.more < 64
  pub class : class_of (k.start + (v - k.base) / 64 ^ k.more) ≡ k

first_leads : (v : ℕ) → v < 48 → Leads v (class 0 0 0)
first_leads v most =
    let one = div-one (v - 0) in
    let small : 0 + (v - 0) / 1 < 48 = omega (arith, one, most) in
    let t : nat_lt (0 + (v - 0) / 1) 48 ≡ true = grind (arith, nat_tests, small) in
    record { base = omega arith; below = omega (arith, small); class = rw t refl }

second_leads : (v : ℕ) → 48 ≤ v → v < 560 → Leads v (class 48 1 48)
second_leads v least most =
    let f : ℕ = 48 + (v - 48) / 64 in
    let small : f < 56 = omega arith in
    let t : nat_lt f 48 ≡ false = grind (arith, nat_tests) in
    let u : nat_lt f 56 ≡ true = grind (arith, nat_tests, small) in
    record { base = least; below = omega (arith, small); class = rw (t, u) refl }

third_leads : (v : ℕ) → 560 ≤ v → v < 16944 → Leads v (class 56 2 560)
third_leads v least most =
    let f : ℕ = 56 + (v - 560) / 4096 in
    let small : f < 60 = omega arith in
    let t : nat_lt f 48 ≡ false = grind (arith, nat_tests) in
    let u : nat_lt f 56 ≡ false = grind (arith, nat_tests) in
    let w : nat_lt f 60 ≡ true = grind (arith, nat_tests, small) in
    record { base = least; below = omega (arith, small); class = rw (t, u, w) refl }

fourth_leads : (v : ℕ) → 16944 ≤ v → v < 541232 → Leads v (class 60 3 16944)
fourth_leads v least most =
    let f : ℕ = 60 + (v - 16944) / 262144 in
    let small : f < 62 = omega arith in
    let t : nat_lt f 48 ≡ false = grind (arith, nat_tests) in
    let u : nat_lt f 56 ≡ false = grind (arith, nat_tests) in
    let w : nat_lt f 60 ≡ false = grind (arith, nat_tests) in
    let x : nat_lt f 62 ≡ true = grind (arith, nat_tests, small) in
    record { base = least; below = omega (arith, small); class = rw (t, u, w, x) refl }

-- a number is read where its characters stand, and the text goes on behind them
pub record IsReadAt (text : List ℕ) (at least v : ℕ) (rest : List ℕ) : Type 0 where
  pub next : ℕ
  pub is : number text at least ≡ Some (read (least + v) next)
  pub behind : drop next text ≡ rest
  pub room : next ≤ length text
  pub after : at < next

written_by : (text : List ℕ) (at least v : ℕ) (rest : List ℕ) (k : Class) → class_for v ≡ k → Leads v k
    → drop at text ≡ number_text v ++ rest → IsReadAt text at least v rest
unfolding number
written_by text at least v rest k class leads there =
    let w : ℕ = v - k.base in
    let f : ℕ = k.start + w / 64 ^ k.more in
    let first = goes_on text at (character f) (digits_text k.more w ++ rest)
    (there ∙ ap (λ (xs : List ℕ). xs ++ rest) (class_text_of v k class)) in
    let inside = first.inside in
    let base = leads.base in
    let t : nat_lt at (length text) ≡ true = grind (arith, nat_tests, inside) in
    let value : value_of (slice_index text at) ≡ Some f =
    ap value_of first.here ∙ value_read f leads.below in
    let start : f - k.start ≡ w / 64 ^ k.more = omega arith in
    let digits_are : digits k.more (f - k.start) (drop (at + 1) text) ≡ Some w =
    ap₂ (digits k.more) start first.behind ∙ digits_read k.more w rest in
    let value_is : least + k.base + w ≡ least + v = omega (arith, base) in
    let after : first_number least at (drop (at + 1) text) (Some f) ≡ Some (read (least + v) (at + 1 + k.more)) =
    ap (λ (c : Class). class_number least at c (digits c.more (f - c.start) (drop (at + 1) text))) leads.class
    ∙ ap (class_number least at k) digits_are
    ∙ ap (λ (x : ℕ). Some (read x (at + 1 + k.more))) value_is in
    let long : length (digits_text k.more w ++ rest) ≡ k.more + length rest =
    length-append (digits_text k.more w) rest ∙ ap (λ (n : ℕ). n + length rest) (length-digits_text k.more w) in
    let left = sym (length-drop (at + 1) text) ∙ ap length first.behind ∙ long in
    record {
      next = at + 1 + k.more;
      is = rw t (ap (first_number least at (drop (at + 1) text)) value ∙ after);
      behind = sym (drop-drop k.more (at + 1) text) ∙ ap (drop k.more) first.behind
          ∙ drop_at (digits_text k.more w) rest k.more (length-digits_text k.more w);
      room = omega (arith, inside, left);
      after = omega arith;
    }

-- such a number is read back
pub number_read : (text : List ℕ) (at least v : ℕ) (rest : List ℕ) → v < 541232 → drop at text ≡ number_text v ++ rest
    → IsReadAt text at least v rest
number_read text at least v rest most there = elim (cases_lt v 48) [
  | inl low ↦ written_by text at least v rest (class 0 0 0) (first_class v low) (first_leads v low) there
  | inr a ↦ elim (cases_lt v 560) [
    | inl low ↦ written_by text at least v rest (class 48 1 48) (second_class v a low) (second_leads v a low) there
    | inr b ↦ elim (cases_lt v 16944) [
      | inl low ↦ written_by text at least v rest (class 56 2 560) (third_class v b low) (third_leads v b low) there
      | inr c ↦ written_by text at least v rest (class 60 3 16944) (fourth_class v c most) (fourth_leads v c most)
          there
    ]
  ]
]

pub law : (w : ℕ) (rest : List ℕ) → digits 0 w rest ≡ Some w
unfolding digits
law w rest = refl
