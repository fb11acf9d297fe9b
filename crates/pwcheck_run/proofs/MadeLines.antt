-- A line of `bench`, by what its makers say; and the counts.
use Rattle.std.proofs.Common.{◌≡◌, ℕ, suc, ◌+◌, ◌%◌, Bool, List, ◌++◌, refl, ap, ◌∙◌, add-one, inl, inr, Result, Err}
use Rattle.std.proofs.Common.{arith, zero, true, false}
use Rattle.std.specs.Prelude.{◌⊎◌, ◌≤◌, ◌==◌, Ok, codes, if◌then◌else◌, IsAscii, is_err}
use mir.Val.{bool_byte}
use Rattle.rand_core.specs.Stream.{Stream}
use Rattle.sha_crypt.specs.Simple.{characters}
use Rattle.stored_check.specs.Verdict.{IsVerdict, verdict}
use Rattle.stored_check.specs.declared.error.StoredError.{StoredError}
use Rattle.stored_check.specs.declared.error.StoredError.TheVariants.{OutOfMemory}
use Rattle.scrypt_plain.specs.Profile.{accepted, key}
use Rattle.pwcheck_run.specs.Bench.{asked_password, count_lines, drawn, line_seed, line_verdict, made_text, says_neither}
use Rattle.pwcheck_run.specs.Bench.{seeded}

pub drawn_is : (n i : ℕ) → characters 8 (seeded (line_seed n i)) ≡ drawn n i
unfolding drawn
drawn_is n i = refl

pub letter_ascii : IsAscii (codes "x")
letter_ascii zero = omega arith
letter_ascii (suc i) = omega arith

pub line_is : (n i : ℕ) (password stored asked longer : List ℕ) (left : Stream) (r : Result Bool StoredError)
    (lacks : Bool)
    → (password, left) ≡ drawn n i → stored ≡ made_text i password left → longer ≡ password ++ codes "x"
    → asked ≡ (if i % 4 == 3 then longer else password)
    → IsVerdict (verdict accepted key asked stored) lacks r → (r ≡ line_verdict n i) ⊎ (r ≡ Err OutOfMemory)
unfolding line_verdict
line_is n i password stored asked longer left r lacks pair stored_is longer_is asked_is (inr none) = inr none.0
line_is n i password stored asked longer left r lacks pair stored_is longer_is asked_is (inl is) =
    let asks : asked ≡ asked_password i password =
    asked_is ∙ ap (λ (l : List ℕ). if i % 4 == 3 then l else password) longer_is in
    inl (is ∙ ap (λ (a : List ℕ). verdict accepted key a stored) asks
    ∙ ap (λ (t : List ℕ). verdict accepted key (asked_password i password) t) stored_is
    ∙ ap (λ (p : List ℕ × Stream). verdict accepted key (asked_password i p.0) (made_text i p.0 p.1)) pair)

pub none_counted : (test : Result Bool StoredError → Bool) (n : ℕ) → 0 ≡ count_lines test n 0
unfolding count_lines
none_counted test n = refl

-- one line more
pub one_counted : (test : Result Bool StoredError → Bool) (n k count one : ℕ) (r : Result Bool StoredError)
    → count ≡ count_lines test n k → r ≡ line_verdict n k
    → one ≡ (if test r then 1 else 0) → count + one ≡ count_lines test n (k + 1)
unfolding count_lines
one_counted test n k count one r so_far is one_is =
    rw add-one (ap (λ (c : ℕ). c + one) so_far
    ∙ ap (λ (o : ℕ). count_lines test n k + o)
    (one_is ∙ ap (λ (v : Result Bool StoredError). if test v then 1 else 0) is))

pub of_line : (r v : Result Bool StoredError) → (r ≡ v) ⊎ (r ≡ Err OutOfMemory) → (r ≡ Err OutOfMemory → ⊥) → r ≡ v
of_line r v (inl is) known = is
of_line r v (inr lacks) known = absurd (known lacks)

-- ---- tests as numbers

pub as_number : (b c : Bool) → b ≡ c → bool_byte b ≡ (if c then 1 else 0)
as_number true c is = rw (← is) refl
as_number false c is = rw (← is) refl

pub at_most_one : (b : Bool) → bool_byte b ≤ 1
at_most_one true = omega arith
at_most_one false = omega arith

pub other_is : (r : Result Bool StoredError) → is_err r ≡ says_neither r
other_is (Ok b) = refl
other_is (Err e) = refl
