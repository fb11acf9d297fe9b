-- Numbers, character by character.
use Rattle.std.proofs.Common.{◌≡◌, ℕ, zero, suc, ◌+◌, ◌-◌, ◌*◌, ◌^◌, ◌<◌, ◌≤◌, List, [], ◌∷◌, length, drop, slice_index, arith, refl}
use Rattle.std.proofs.Common.{sym, ap, ap₂, ◌∙◌, Some, None}
use Rattle.std.specs.Option.{option_and_then}
use Rattle.std.proofs.lemmas.List.{drop_all}
use Rattle.std.proofs.lemmas.Nat.{pow-add}
use Rattle.yescrypt_plain.specs.Numbers.{digits, value_of}

-- the first element of a rest
pub rest_is : (text : List ℕ) (i : ℕ) → i < length text → drop i text ≡ slice_index text i ∷ drop (i + 1) text
rest_is [] i h = absurd (omega arith)
rest_is (c ∷ text) zero h = refl
rest_is (c ∷ text) (suc i) h =
    let e : suc (i + 1) ≡ suc i + 1 = omega arith in
    rest_is text i (omega arith) ∙ ap (λ (n : ℕ). slice_index text i ∷ drop n (c ∷ text)) e

-- what is left after i characters
pub record IsRead (count first : ℕ) (text : List ℕ) (value i : ℕ) : Type 0 where
  pub rest : digits (count - i) value (drop i text) ≡ digits count first text
  pub most : value + 1 ≤ 64 * 64 ^ i

pub read_none : (count first : ℕ) (text : List ℕ) → first < 64 → IsRead count first text first 0
read_none count first text h =
    let e : count - 0 ≡ count = omega arith in
    record { rest = ap (λ (n : ℕ). digits n first text) e; most = omega arith }

open_one : (n v : ℕ) (text : List ℕ) (i : ℕ) → i < length text
    → digits (suc n) v (drop i text)
    ≡ option_and_then (λ d. digits n (v * 64 + d) (drop (i + 1) text)) (value_of (slice_index text i))
unfolding digits
open_one n v text i h = ap (digits (suc n) v) (rest_is text i h)

opened : (count i v : ℕ) (text : List ℕ) → i < count → i < length text
    → digits (count - i) v (drop i text)
    ≡ option_and_then (λ d. digits (count - (i + 1)) (v * 64 + d) (drop (i + 1) text)) (value_of (slice_index text i))
opened count i v text lt h =
    let e : count - i ≡ suc (count - (i + 1)) = omega arith in
    ap (λ (n : ℕ). digits n v (drop i text)) e ∙ open_one (count - (i + 1)) v text i h

pub read_more : (count first i v d : ℕ) (text : List ℕ) → IsRead count first text v i → i < count → i < length text
    → Some d ≡ value_of (slice_index text i) → d < 64 → IsRead count first text (v * 64 + d) (i + 1)
read_more count first i v d text was lt h is small =
    let power = pow-add 64 i 1 in
    let m = was.most in
    record {
      rest = sym (opened count i v text lt h
          ∙ ap (option_and_then (λ d. digits (count - (i + 1)) (v * 64 + d) (drop (i + 1) text))) (sym is)) ∙ was.rest;
      most = omega (arith, power, m);
    }

pub read_bad : (count first i v : ℕ) (text : List ℕ) → IsRead count first text v i → i < count → i < length text
    → None ≡ value_of (slice_index text i) → None ≡ digits count first text
read_bad count first i v text was lt h is =
    sym (opened count i v text lt h
    ∙ ap (option_and_then (λ d. digits (count - (i + 1)) (v * 64 + d) (drop (i + 1) text))) (sym is)) ∙ was.rest

none_left : (n v : ℕ) → digits (suc n) v [] ≡ None
unfolding digits
none_left n v = refl

pub read_short : (count first i v : ℕ) (text : List ℕ) → IsRead count first text v i → i < count → length text ≤ i
    → None ≡ digits count first text
read_short count first i v text was lt h =
    let e : count - i ≡ suc (count - (i + 1)) = omega arith in
    sym (ap₂ (λ (n : ℕ) (t : List ℕ). digits n v t) e (drop_all i text h) ∙ none_left (count - (i + 1)) v) ∙ was.rest

none_more : (v : ℕ) (text : List ℕ) → digits 0 v text ≡ Some v
unfolding digits
none_more v text = refl

pub read_all : (count first i v : ℕ) (text : List ℕ) → IsRead count first text v i → i ≡ count
    → Some v ≡ digits count first text
read_all count first i v text was e =
    let z : count - i ≡ 0 = omega arith in
    sym (ap (λ (n : ℕ). digits n v (drop i text)) z ∙ none_more v (drop i text)) ∙ was.rest
