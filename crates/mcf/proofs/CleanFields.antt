-- Texts whose bytes are good have fields without a fault.
use Rattle.std.proofs.Common.{◌≡◌, ℕ, suc, ◌+◌, ◌≤◌, Bool, true, false, List, [], ◌∷◌, inl, inr, length, slice_index}
use Rattle.std.proofs.Common.{refl, sym, ap, subst, ◌∙◌, eqb-true, arith}
use Rattle.std.specs.Prelude.{None, not, ◌==◌, ◌||◌, ◌&&◌}
use Rattle.std.proofs.lemmas.Bool.{cases_Bool, cases_lt, true≢false}
use Rattle.std.proofs.lemmas.Bool.Decides.{nat_tests}
use Rattle.pieces.specs.Pieces.{before_pieces, pieces_at}
use Rattle.pieces.proofs.Cuts.{cut_in_front}
use Rattle.mcf.specs.Clean.{is_good, AreGood}
use Rattle.mcf.specs.Grammar.{field_fault, first_field_fault, is_field_byte}
use Rattle.mcf.proofs.Built.{field_bytes}
use Rattle.mcf.specs.declared.error.Error.TheVariants.{FieldInvalid}
use Rattle.pieces.proofs.FaultLaws.{or_none, some_none}

-- a byte of a field in front of fields without a fault
in_front : (b : ℕ) (pieces : List (List ℕ)) → is_field_byte b ≡ true → first_field_fault pieces ≡ None
    → first_field_fault (before_pieces false b pieces) ≡ None
in_front b [] fits none = rw fits refl
in_front b ([] ∷ pieces) fits none =
    absurd (some_none FieldInvalid (or_none (field_fault []) (first_field_fault pieces) none).0)
in_front b ((c ∷ piece) ∷ pieces) fits none =
    let each = or_none (field_fault (c ∷ piece)) (first_field_fault pieces) none in
    rw (fits, field_bytes c piece each.0, each.1) refl

no_cut : (b : ℕ) → is_field_byte b ≡ true → (b == 36) ≡ false
no_cut b fits = grind (arith, nat_tests, fits)

rest_good : (b : ℕ) (text : List ℕ) (n : ℕ) → AreGood (b ∷ text) 0 (suc n) → AreGood text 0 n
rest_good b text n good k from below =
    let next : suc k + 1 ≡ suc (k + 1) = omega arith in
    subst (λ j. is_good (slice_index text k) (slice_index (b ∷ text) j) ≡ true) next
    (good (suc k) (omega arith) (omega (arith, below)))

-- a good byte that isn't a cut
head_fits : (b : ℕ) (text : List ℕ) → is_field_byte (slice_index (b ∷ text) (length text)) ≡ true
    → AreGood (b ∷ text) 0 (length text) → (b == 36) ≡ false → is_field_byte b ≡ true
head_fits b [] last good other = last
head_fits b (c ∷ text) last good other =
    let here : (is_field_byte b || (b == 36 && not (c == 36))) ≡ true = good 0 (omega arith) (omega arith) in
    first_holds (is_field_byte b) (b == 36) (not (c == 36)) here other
  where
    first_holds : (t u v : Bool) → (t || (u && v)) ≡ true → u ≡ false → t ≡ true
    first_holds true u v h e = refl
    first_holds false true v h e = absurd (true≢false e)
    first_holds false false v h e = absurd (true≢false (sym h))

behind_cut : (b next : ℕ) → is_good b next ≡ true → is_field_byte b ≡ false → (b ≡ 36) × ((next == 36) ≡ false)
behind_cut b next good other = by_tests (is_field_byte b) (b == 36) (next == 36) good other refl
  where
    by_tests : (t u v : Bool) → (t || (u && not v)) ≡ true → t ≡ false → (b == 36) ≡ u → (b ≡ 36) × (v ≡ false)
    by_tests true u v h e is = absurd (true≢false e)
    by_tests false false v h e is = absurd (true≢false (sym h))
    by_tests false true true h e is = absurd (true≢false (sym h))
    by_tests false true false h e is = (eqb-true _ _ is, refl)

pushed : (b : ℕ) (text : List ℕ) → is_field_byte b ≡ true
    → pieces_at 36 (b ∷ text) ≡ before_pieces false b (pieces_at 36 text)
unfolding pieces_at
pushed b text fits = rw (no_cut b fits) refl

lone : (b : ℕ) → is_field_byte b ≡ true → first_field_fault (pieces_at 36 (b ∷ [])) ≡ None
unfolding pieces_at
lone b fits = rw (no_cut b fits) (in_front b [] fits refl)

before_cut : (b : ℕ) (pieces : List (List ℕ)) → is_field_byte b ≡ true → first_field_fault pieces ≡ None
    → first_field_fault (before_pieces false b ([] ∷ pieces)) ≡ None
before_cut b pieces fits none = rw (fits, none) refl

no_fault : (b : ℕ) (text : List ℕ) → is_field_byte b ≡ true
    → is_field_byte (slice_index (b ∷ text) (length text)) ≡ true → AreGood (b ∷ text) 0 (length text)
    → first_field_fault (pieces_at 36 (b ∷ text)) ≡ None
no_fault b [] fits last good = lone b fits
no_fault b (c ∷ []) fits last good =
    ap first_field_fault (pushed b (c ∷ []) fits) ∙ in_front b (pieces_at 36 (c ∷ [])) fits (lone c last)
no_fault b (c ∷ (d ∷ text)) fits last good =
    let behind = rest_good b (c ∷ (d ∷ text)) (suc (length text)) good in
    elim (cases_Bool (is_field_byte c)) [
      | inl e ↦ ap first_field_fault (pushed b (c ∷ (d ∷ text)) fits)
          ∙ in_front b (pieces_at 36 (c ∷ (d ∷ text))) fits (no_fault c (d ∷ text) e last behind)
      | inr e ↦
          let cut = behind_cut c d (behind 0 (omega arith) (omega arith)) e in
          let others = rest_good c (d ∷ text) (length text) behind in
          let split : pieces_at 36 (c ∷ (d ∷ text)) ≡ [] ∷ pieces_at 36 (d ∷ text) =
          ap (λ (x : ℕ). pieces_at 36 (x ∷ (d ∷ text))) cut.0 ∙ cut_in_front 36 (d ∷ text) in
          ap first_field_fault (pushed b (c ∷ (d ∷ text)) fits ∙ ap (before_pieces false b) split)
          ∙ before_cut b (pieces_at 36 (d ∷ text)) fits
          (no_fault d text (head_fits d text last others cut.1) last others)
    ]

pub fault_of_good : (bytes : List ℕ) (n : ℕ) → length bytes ≡ n + 1 → is_field_byte (slice_index bytes 0) ≡ true
    → is_field_byte (slice_index bytes n) ≡ true
    → AreGood bytes 0 n → first_field_fault (pieces_at 36 bytes) ≡ None
fault_of_good [] n long first last good = absurd (omega (arith, long))
fault_of_good (b ∷ text) n long first last good =
    let is : n ≡ length text = omega (arith, long) in
    no_fault b text first (subst (λ k. is_field_byte (slice_index (b ∷ text) k) ≡ true) is last)
    (subst (AreGood (b ∷ text) 0) is good)

-- the places below n are those below i and those behind
pub joined : (bytes : List ℕ) (i j n : ℕ) → AreGood bytes 0 i → AreGood bytes j n → j ≤ i → AreGood bytes 0 n
joined bytes i j n front back near k from below =
    elim (cases_lt k i) [ inl low ↦ front k from low | inr past ↦ back k (omega arith) below ]
