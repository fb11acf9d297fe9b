-- Lists repeated and cut, and the binary digits of a number.
use Rattle.std.proofs.Common.{◌≡◌, ℕ, zero, suc, ◌+◌, ◌-◌, ◌*◌, ◌/◌, ◌%◌, ◌<◌, ◌≤◌, ◌==◌, if◌then◌else◌, List, [], ◌∷◌}
use Rattle.std.proofs.Common.{◌++◌, ◌≢◌, subst, length, take, reverse, sym, ap, ◌∙◌, append_assoc, arith, length-append}
use Rattle.std.proofs.lemmas.List.{take-append-le, append-nil, reverse-append}
use Rattle.std.proofs.lemmas.Int.Digits.{digits_of_step}
use Rattle.std.proofs.Math.Seq.{take-append-add}
use Rattle.std.proofs.Math.Nat.{div-add-mod}
use Rattle.std.specs.Int.Digits.{digits_of}
use Rattle.std.specs.List.{flat_map}
use Rattle.sha_crypt.specs.Digest.{copies, repeated_to, binary_digits, by_digits}

pub copies-add : (a b : ℕ) (xs : List ℕ) → copies (a + b) xs ≡ copies a xs ++ copies b xs
copies-add a zero xs =
    let e : a + 0 ≡ a = omega arith in ap (λ (n : ℕ). copies n xs) e ∙ sym (append-nil (copies a xs))
copies-add a (suc b) xs =
    let e : a + suc b ≡ suc (a + b) = omega arith in
    ap (λ (n : ℕ). copies n xs) e ∙ ap (λ (ys : List ℕ). ys ++ xs) (copies-add a b xs) ∙ simp append_assoc

pub length-copies : (n : ℕ) (xs : List ℕ) → length (copies n xs) ≡ n * length xs
length-copies zero xs = omega arith
length-copies (suc n) xs = omega (arith, length-append (copies n xs) xs, length-copies n xs)

-- copies of xs begin with xs
pub take-copies : (k r : ℕ) (xs : List ℕ) → r ≤ length xs → (0 < r → 0 < k)
    → take r (copies k xs) ≡ take r xs
take-copies zero r xs fits some =
    let e : r ≡ 0 = grind arith in ap (λ (n : ℕ). take n (copies zero xs)) e ∙ ap (λ (n : ℕ). take n xs) (sym e)
take-copies (suc k) r xs fits some =
    let e : suc k ≡ 1 + k = omega arith in
    ap (λ (n : ℕ). take r (copies n xs)) e ∙ ap (λ (ys : List ℕ). take r ys) (copies-add 1 k xs)
    ∙ take-append-le r xs (copies k xs) fits

-- what is repeated and cut is whole copies and the front of one more
pub repeated_to_is : (n q r : ℕ) (xs : List ℕ) → n ≡ q * length xs + r → r < length xs
    → repeated_to n xs ≡ copies q xs ++ take r xs
repeated_to_is n q r xs sum small =
    let q_in : q ≤ n = grind arith in
    let split : n ≡ q + (n - q) = omega arith in
    let at : n ≡ length (copies q xs) + r = omega (arith, length-copies q xs) in
    let some : 0 < r → 0 < n - q = λ h. grind arith in
    ap (λ (k : ℕ). take n (copies k xs)) split
    ∙ ap (λ (ys : List ℕ). take n ys) (copies-add q (n - q) xs)
    ∙ ap (λ (k : ℕ). take k (copies q xs ++ copies (n - q) xs)) at
    ∙ take-append-add (copies q xs) (copies (n - q) xs) r
    ∙ ap (λ (ys : List ℕ). copies q xs ++ ys) (take-copies (n - q) r xs (omega arith) some)

-- the same, by the length of what is repeated
pub repeated_to_by : (n w : ℕ) (xs : List ℕ) → length xs ≡ w → 0 < w
    → repeated_to n xs ≡ copies (n / w) xs ++ take (n % w) xs
repeated_to_by n w xs len pos =
    let sum : n ≡ n / w * w + n % w = omega (arith, div-add-mod n w) in
    let sum_by_length : n ≡ n / w * length xs + n % w = rw len sum in
    repeated_to_is n (n / w) (n % w) xs sum_by_length (omega (arith, len))

-- what is no longer than xs is its front, repeated and cut
pub repeated_to_short : (n : ℕ) (xs : List ℕ) → n ≤ length xs → repeated_to n xs ≡ take n xs
repeated_to_short n xs fits = take-copies n n xs fits (λ h. h)

-- the lowest digit comes first
pub by_digits_step : (n : ℕ) (b password : List ℕ) → 0 < n
    → by_digits n b password ≡ (if n % 2 == 1 then b else password) ++ by_digits (n / 2) b password
by_digits_step n b password pos =
    let f = λ (digit : ℕ). if digit == 1 then b else password in
    let e : binary_digits n ≡ (n % 2) ∷ binary_digits (n / 2)
    = ap reverse (digits_of_step 2 n (omega arith) pos) ∙ reverse-append (digits_of 2 (n / 2)) (n % 2 ∷ []) in
    ap (flat_map f) e

-- what has taken in the copies and the front of one more has taken in what is repeated and cut
pub holds_repeated : (P : List ℕ → Type 0) (m : List ℕ) (n w : ℕ) (xs : List ℕ) → length xs ≡ w → 0 < w
    → P ((m ++ copies (n / w) xs) ++ take (n % w) xs) → P (m ++ repeated_to n xs)
holds_repeated P m n w xs len pos h =
    let e : (m ++ copies (n / w) xs) ++ take (n % w) xs ≡ m ++ repeated_to n xs
    = rw append_assoc (ap (λ (ys : List ℕ). m ++ ys) (sym (repeated_to_by n w xs len pos))) in
    subst P e h

-- after the lowest digit, a 1, the others are left
pub by_digits_after_one : (n : ℕ) (b password x whole : List ℕ) → 0 < n → n % 2 ≡ 1
    → x ++ by_digits n b password ≡ whole → (x ++ b) ++ by_digits (n / 2) b password ≡ whole
by_digits_after_one n b password x whole pos digit e =
    let step : by_digits n b password ≡ b ++ by_digits (n / 2) b password
    = by_digits_step n b password pos
    ∙ ap (λ (d : ℕ). (if d == 1 then b else password) ++ by_digits (n / 2) b password) digit in
    rw append_assoc (ap (λ (ys : List ℕ). x ++ ys) (sym step) ∙ e)

-- after the lowest digit, a 0, the others are left
pub by_digits_after_zero : (n : ℕ) (b password x whole : List ℕ) → 0 < n → n % 2 ≢ 1
    → x ++ by_digits n b password ≡ whole → (x ++ password) ++ by_digits (n / 2) b password ≡ whole
by_digits_after_zero n b password x whole pos digit e =
    let zero_digit : n % 2 ≡ 0 = omega arith in
    let step : by_digits n b password ≡ password ++ by_digits (n / 2) b password
    = by_digits_step n b password pos
    ∙ ap (λ (d : ℕ). (if d == 1 then b else password) ++ by_digits (n / 2) b password) zero_digit in
    rw append_assoc (ap (λ (ys : List ℕ). x ++ ys) (sym step) ∙ e)
