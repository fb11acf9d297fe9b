-- What the steps of an alphabet give.
use Rattle.std.proofs.Common.{◌≡◌, ℕ, zero, suc, ◌<◌, Bool, true, ◌==◌, Option, Some, None, refl, ap, ◌∙◌, arith}
use Rattle.std.proofs.Common.{List, [], ◌∷◌, ◌++◌, ◌+◌, take, drop, sym, inl, inr, ◌%◌, w16, ℤ, to_z, pos, negsuc}
use Rattle.std.proofs.Common.{take-add}
use Rattle.std.specs.Prelude.{MatchOption, ⊤}
use Rattle.std.proofs.lemmas.Int.{to_z_pos, to_z-of_z}
use Rattle.std.specs.Int.{cast_unsigned}
use Rattle.std.specs.Int.Signed.{mag}
use Rattle.std.proofs.lemmas.Bool.{and_parts, eqb-true, cases_eq}
use Rattle.base64ct.specs.Encoding.{Alphabet, is_alphabet, are_ascii, character, value_of}
use Rattle.base64ct.specs.Steps.{Steps, EncodeStep, past_value, past_sum, encode_from, all_below, decoded_by}
use Rattle.base64ct.specs.Steps.{word_add}
use Rattle.base64ct.specs.Steps.{encoded_by, word_of, steps_agree}
use Rattle.base64ct.proofs.Values.{value_of-Some}
use Rattle.base64ct.proofs.Ascii.{items_below}

-- a test that passed below n passes at each k below n
pub at_below : (n : ℕ) (test : ℕ → Bool) → all_below n test ≡ true → (k : ℕ) → k < n → test k ≡ true
at_below zero test h k lt = absurd (omega (arith, lt))
at_below (suc n) test h k lt =
    let parts = and_parts (test n) (all_below n test) h in
    let below : k < n → test k ≡ true = λ less. at_below n test parts.1 k less in
    elim (cases_eq k n) [ inl same ↦ ap test same ∙ parts.0 | inr other ↦ below (omega arith) ]

pub step_decoded : (a : Alphabet) (s : Steps) → steps_agree a s ≡ true → (c : ℕ) → c < 256
    → decoded_by s c ≡ word_of (value_of a c)
unfolding steps_agree
step_decoded a s agree c lt =
    let parts = and_parts (all_below 256 (λ c. decoded_by s c == word_of (value_of a c)))
    (all_below 64 (λ v. encoded_by s v == character a v)) agree in
    eqb-true _ _ (at_below 256 (λ c. decoded_by s c == word_of (value_of a c)) parts.0 c lt)

pub step_encoded : (a : Alphabet) (s : Steps) → steps_agree a s ≡ true → (v : ℕ) → v < 64
    → encoded_by s v ≡ character a v
unfolding steps_agree
step_encoded a s agree v lt =
    let parts = and_parts (all_below 256 (λ c. decoded_by s c == word_of (value_of a c)))
    (all_below 64 (λ v. encoded_by s v == character a v)) agree in
    eqb-true _ _ (at_below 64 (λ v. encoded_by s v == character a v) parts.1 v lt)

-- ---- the words of values and of characters as numbers

value_small : (a : Alphabet) (c : ℕ) → is_alphabet a ≡ true → MatchOption (value_of a c) ⊤ (λ v. v < 64)
value_small a c lawful = go (value_of a c) refl
  where
    go : (o : Option ℕ) → value_of a c ≡ o → MatchOption o ⊤ (λ v. v < 64)
    go None e = tt
    go (Some v) e = (value_of-Some a c v lawful e).0

signed_word : (o : Option ℕ) (n : ℕ) → n ≡ word_of o → MatchOption o ⊤ (λ v. v < 64)
    → MatchOption o (to_z w16 n ≡ negsuc 0) (λ v. to_z w16 n ≡ pos v)
signed_word None n e below = rw e refl
signed_word (Some v) n e below = rw e (to_z_pos w16 v (omega arith))

pub decoded_value : (a : Alphabet) (s : Steps) (c n : ℕ) → is_alphabet a ≡ true → steps_agree a s ≡ true → c < 256
    → n ≡ decoded_by s c → MatchOption (value_of a c) (to_z w16 n ≡ negsuc 0) (λ v. to_z w16 n ≡ pos v)
decoded_value a s c n lawful agree lt e =
    signed_word (value_of a c) n (e ∙ step_decoded a s agree c lt) (value_small a c lawful)

-- ---- the sums of an encoder, as numbers of 16 bits

-- a number of 16 bits is that of its word
word_kept : (z : ℤ) → mag z < 0x8000 → to_z w16 (cast_unsigned w16 z) ≡ z
word_kept z lt = to_z-of_z w16 z (record { sfits = lt })

encode_append : (v : ℕ) (more steps : List EncodeStep) (x : ℕ)
    → encode_from x v (steps ++ more) ≡ encode_from (encode_from x v steps) v more
encode_append v more [] x = refl
encode_append v more (past_value bound n ∷ steps) x = encode_append v more steps _
encode_append v more (past_sum bound n ∷ steps) x = encode_append v more steps _

-- z is the sum behind the first k steps
abbrev pub IsSum : Steps → (v k : ℕ) → ℤ → Type 0
IsSum s v k z = cast_unsigned w16 z ≡ encode_from (word_add v s.base) v (take k s.encoding)

pub next_sum : (s : Steps) (v k : ℕ) (z next : ℤ) → IsSum s v k z → mag z < 0x8000
    → cast_unsigned w16 next
    ≡ encode_from (cast_unsigned w16 (to_z w16 (cast_unsigned w16 z))) v (take 1 (drop k s.encoding))
    → IsSum s v (k + 1) next
next_sum s v k z next sum small step =
    let one : List EncodeStep = take 1 (drop k s.encoding) in
    step ∙ ap (λ (i : ℤ). encode_from (cast_unsigned w16 i) v one) (word_kept z small)
    ∙ ap (λ (x : ℕ). encode_from x v one) sum
    ∙ sym (ap (λ (l : List EncodeStep). encode_from (word_add v s.base) v l) (take-add k 1 s.encoding)
    ∙ encode_append v one (take k s.encoding) (word_add v s.base))

encoded_character : (a : Alphabet) (s : Steps) (v n : ℕ) → are_ascii a ≡ true → steps_agree a s ≡ true → v < 64
    → n ≡ encoded_by s v → n % 256 ≡ character a v
encoded_character a s v n ascii agree lt e =
    omega (arith, e, step_encoded a s agree v lt, items_below 128 a.characters (omega arith) ascii v)

-- the low byte of the last sum is the character
pub last_sum : (a : Alphabet) (s : Steps) (v low k : ℕ) (z : ℤ) → are_ascii a ≡ true → steps_agree a s ≡ true → v < 64
    → take k s.encoding ≡ s.encoding → IsSum s v k z → mag z < 0x8000
    → low ≡ cast_unsigned w16 (to_z w16 (cast_unsigned w16 z)) % 256 → low ≡ character a v
last_sum a s v low k z ascii agree lt all sum small is =
    is ∙ ap (λ (i : ℤ). cast_unsigned w16 i % 256) (word_kept z small)
    ∙ encoded_character a s v (cast_unsigned w16 z) ascii agree lt
    (sum ∙ ap (λ (l : List EncodeStep). encode_from (word_add v s.base) v l) all)
