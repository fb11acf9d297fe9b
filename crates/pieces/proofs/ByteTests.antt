-- Texts whose bytes all pass a test.
use Rattle.std.proofs.Common.{◌≡◌, ℕ, zero, suc, ◌<◌, Bool, true, false, List, [], ◌∷◌, ◌++◌, length, slice_index}
use Rattle.std.proofs.Common.{refl, sym, ap, ◌∙◌, arith, inl, inr}
use Rattle.std.specs.List.{list_all}
use Rattle.std.specs.Prelude.{IsAscii, ◌==◌, not}
use Rattle.std.specs.Str.{IsUtf8, is_utf8}
use Rattle.std.proofs.lemmas.Bool.{and_parts, cases_Bool, false≢true}
use Rattle.std.proofs.lemmas.Str.{IsUtf8-from_is_utf8}
use Rattle.std.proofs.lemmas.Str.Ascii.{IsAscii-nil, IsAscii-cons}
use Rattle.pieces.specs.Pieces.{LacksByte}

-- the test for each byte but c
abbrev pub is_not : ℕ → ℕ → Bool
is_not c b = not (b == c)

-- a text of bytes among which c is none
pub lacks : (p : ℕ → Bool) (c : ℕ) → p c ≡ false → (s : List ℕ) → list_all p s ≡ true → LacksByte c s
lacks p c other [] h i below = absurd (omega (arith, below))
lacks p c other (b ∷ s) h zero below =
    λ same. false≢true (sym other ∙ ap p (sym same) ∙ (and_parts (p b) (list_all p s) h).0)
lacks p c other (b ∷ s) h (suc i) below =
    lacks p c other s (and_parts (p b) (list_all p s) h).1 i (omega (arith, below))

-- both parts of a text
pub all_append : (p : ℕ → Bool) (s t : List ℕ) → list_all p s ≡ true → list_all p t ≡ true → list_all p (s ++ t) ≡ true
all_append p [] t hs ht = ht
all_append p (b ∷ s) t hs ht =
    let parts = and_parts (p b) (list_all p s) hs in
    rw (parts.0) (all_append p s t parts.1 ht)

-- a weaker test
pub all_weaker : (p q : ℕ → Bool) → ((b : ℕ) → p b ≡ true → q b ≡ true) → (s : List ℕ) → list_all p s ≡ true
    → list_all q s ≡ true
all_weaker p q weaker [] h = refl
all_weaker p q weaker (b ∷ s) h =
    let parts = and_parts (p b) (list_all p s) h in
    rw (weaker b parts.0) (all_weaker p q weaker s parts.1)

-- one byte of a text
pub passes_at : (p : ℕ → Bool) (cs : List ℕ) (i : ℕ) → list_all p cs ≡ true → i < length cs
    → p (slice_index cs i) ≡ true
passes_at p [] i h below = absurd (omega (arith, below))
passes_at p (c ∷ cs) zero h below = (and_parts (p c) (list_all p cs) h).0
passes_at p (c ∷ cs) (suc i) h below = passes_at p cs i (and_parts (p c) (list_all p cs) h).1 (omega (arith, below))

-- a test that ASCII bytes alone pass
pub all_ascii : (p : ℕ → Bool) → ((b : ℕ) → p b ≡ true → b < 128) → (s : List ℕ) → list_all p s ≡ true → IsAscii s
all_ascii p small [] h = IsAscii-nil
all_ascii p small (b ∷ s) h =
    let both = and_parts (p b) (list_all p s) h in
    IsAscii-cons b s (small b both.0) (all_ascii p small s both.1)

-- bytes that are no text
pub not_text : (bs : List ℕ) → (IsUtf8 bs → ⊥) → is_utf8 bs ≡ false
not_text bs other = elim (cases_Bool (is_utf8 bs)) [ inl e ↦ absurd (other (IsUtf8-from_is_utf8 bs e)) | inr e ↦ e ]
