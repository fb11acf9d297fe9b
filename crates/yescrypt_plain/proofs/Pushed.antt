-- Texts that are put together piece by piece.
use Rattle.std.proofs.Common.{◌≡◌, ℕ, ◌-◌, List, ◌++◌, refl, ap, ◌∙◌}
use Rattle.std.specs.Prelude.{◌==◌, true, false}
use Rattle.std.proofs.lemmas.List.{append_assoc, append-nil}
use Rattle.yescrypt_plain.specs.Numbers.{number_text}
use Rattle.yescrypt_plain.specs.Params.{yescrypt_params_text}
use Rattle.yescrypt_plain.specs.declared.params.YescryptParams.{YescryptParams}

-- two pieces more
two_more : (text a b first second : List ℕ) → first ≡ text ++ a → second ≡ first ++ b → second ≡ text ++ (a ++ b)
two_more text a b first second h k =
    k ∙ ap (λ (x : List ℕ). x ++ b) h ∙ append_assoc text a b

three_more : (text a b c first second third : List ℕ) → first ≡ text ++ a → second ≡ first ++ b → third ≡ second ++ c
    → third ≡ text ++ (a ++ (b ++ c))
three_more text a b c first second third h k l =
    two_more text a (b ++ c) first third h (two_more first b c second third k l)

-- the parameters without a time
pub pushed : (text first second third : List ℕ) (p : YescryptParams) → first ≡ text ++ number_text 47
    → second ≡ first ++ number_text (p.ln - 1) → third ≡ second ++ number_text (p.r - 1) → (p.t == 0) ≡ true
    → third ≡ text ++ yescrypt_params_text p
unfolding yescrypt_params_text
pushed text first second third p h k l none =
    three_more text (number_text 47) (number_text (p.ln - 1)) (number_text (p.r - 1)) first second third h k l
    ∙ rw (none, append-nil (number_text (p.r - 1))) refl

-- and with one
pub pushed_time : (text first second third fourth fifth : List ℕ) (p : YescryptParams) → first ≡ text ++ number_text 47
    → second ≡ first ++ number_text (p.ln - 1) → third ≡ second ++ number_text (p.r - 1)
    → fourth ≡ third ++ number_text 1 → fifth ≡ fourth ++ number_text (p.t - 1) → (p.t == 0) ≡ false
    → fifth ≡ text ++ yescrypt_params_text p
unfolding yescrypt_params_text
pushed_time text first second third fourth fifth p h k l m n some =
    two_more text (number_text 47) (number_text (p.ln - 1) ++ (number_text (p.r - 1) ++ (number_text 1 ++ number_text (p.t - 1))))
    first fifth h
    (two_more first (number_text (p.ln - 1)) (number_text (p.r - 1) ++ (number_text 1 ++ number_text (p.t - 1))) second fifth k
    (two_more second (number_text (p.r - 1)) (number_text 1 ++ number_text (p.t - 1)) third fifth l
    (two_more third (number_text 1) (number_text (p.t - 1)) fourth fifth m n)))
    ∙ rw some refl
