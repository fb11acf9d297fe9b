-- The loop over the words of a password, and the passwords that the measure is for.
use Rattle.std.proofs.Common.{◌≡◌, ℕ, zero, suc, ◌+◌, ◌*◌, ◌%◌, ◌<◌, Bool, true, false, List, [], ◌∷◌, length}
use Rattle.std.proofs.Common.{slice_index, refl, ap, add-one, arith}
use Rattle.std.specs.Prelude.{◌&&◌, ◌||◌, not, take}
use Rattle.std.specs.List.{list_any}
use Rattle.std.proofs.lemmas.List.{length-append}
use Rattle.std.proofs.lemmas.List.Folds.{list_any-append, list_any_at}
use Rattle.bcrypt_plain.specs.Bcrypt.{bcrypt, ctext}
use Rattle.bcrypt_plain.specs.Measure.{all_kept, first_state, is_filled, is_high, is_kept, is_ones, measured_bcrypt, some_filled}
use Rattle.bcrypt_plain.specs.Schedule.{cyclic_byte, key_of, setup_from}

-- the four bytes of word i
abbrev pub word : List ℕ → ℕ → List ℕ
word key i =
    cyclic_byte key (4 * i) ∷ cyclic_byte key (4 * i + 1) ∷ cyclic_byte key (4 * i + 2) ∷ cyclic_byte key (4 * i + 3) ∷ []

pub kept_more : (key bytes : List ℕ) (i : ℕ) (kept this : Bool) → kept ≡ all_kept key i → bytes ≡ word key i
    → this ≡ is_kept (slice_index bytes 0) (slice_index bytes 1) (slice_index bytes 2) (slice_index bytes 3)
    → (kept && this) ≡ all_kept key (i + 1)
unfolding all_kept
kept_more key bytes i kept this held is e = rw (add-one, held, e, is) refl

pub filled_more : (key bytes : List ℕ) (i : ℕ) (filled this : Bool) → filled ≡ some_filled key i → bytes ≡ word key i
    → this ≡ is_filled (slice_index bytes 0) (slice_index bytes 1) (slice_index bytes 2) (slice_index bytes 3)
    → (filled || this) ≡ some_filled key (i + 1)
unfolding some_filled
filled_more key bytes i filled this held is e = rw (add-one, held, e, is) refl

-- ---- a password without a byte of 255

-- no byte of a key has ones alone
abbrev HasNoOnes : List ℕ → Type 0
HasNoOnes key = (j : ℕ) → is_ones (cyclic_byte key j) ≡ false

by_value : (xs : List ℕ) (i : ℕ) (v : Bool) → is_ones (slice_index xs i) ≡ v → i < length xs → list_any is_ones xs ≡ false
    → is_ones (slice_index xs i) ≡ false
by_value xs i false is lt none = is
by_value xs i true is lt none = absurd (let some = list_any_at is_ones xs i 0 lt is in cc)

zero_after : (password : List ℕ) → list_any is_ones password ≡ false → list_any is_ones (key_of password) ≡ false
zero_after password none = rw (list_any-append is_ones password (0 ∷ []), none) refl

key_has_none : (password : List ℕ) → list_any is_ones password ≡ false → HasNoOnes (key_of password)
key_has_none password none j =
    let len : length (key_of password) ≡ length password + 1 = length-append password (0 ∷ []) in
    by_value (key_of password) (j % length (key_of password)) _ refl (omega (arith, len)) (zero_after password none)

by_signs : (x y z : Bool)
    → (((not x || false) && (not y || false) && (not z || false)) && (x || y || z)) ≡ false
by_signs true y z = refl
by_signs false true z = refl
by_signs false false true = refl
by_signs false false false = refl

word_same : (a b c d : ℕ) → is_ones a ≡ false → (is_kept a b c d && is_filled a b c d) ≡ false
word_same a b c d none = rw none (by_signs (is_high b) (is_high c) (is_high d))

one_more : (k f l g : Bool) → (k && f) ≡ false → (l && g) ≡ false → ((k && l) && (f || g)) ≡ false
one_more false f l g before this = refl
one_more true f false g before this = refl
one_more true f true g before this = rw (before, this) refl

none_measured : (key : List ℕ) (n : ℕ) → HasNoOnes key → (all_kept key n && some_filled key n) ≡ false
unfolding all_kept some_filled
none_measured key zero none = refl
none_measured key (suc i) none =
    one_more (all_kept key i) (some_filled key i) _ _ (none_measured key i none)
    (word_same (cyclic_byte key (4 * i)) (cyclic_byte key (4 * i + 1)) (cyclic_byte key (4 * i + 2))
    (cyclic_byte key (4 * i + 3)) (none (4 * i)))

pub measured_same : (password salt : List ℕ) (cost : ℕ) → list_any is_ones password ≡ false
    → measured_bcrypt password salt cost ≡ bcrypt password salt cost
unfolding bcrypt measured_bcrypt
measured_same password salt cost none =
    ap (λ (measured : Bool). take 23 (ctext (setup_from (first_state measured) cost salt (key_of password))))
    (none_measured (key_of password) 18 (key_has_none password none))
