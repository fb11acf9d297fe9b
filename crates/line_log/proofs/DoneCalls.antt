-- A call that is done, or isn't, leaves what a crash may leave of it.
use Rattle.std.proofs.Common.{◌≡◌, ◌⊎◌, inl, inr, ℕ, zero, suc, ◌+◌, ◌<◌, ◌≤◌, List, [], ◌∷◌, ◌++◌, length, take, drop, refl, sym, ap, ◌∙◌, subst, arith, append_assoc, length-append, length-drop}
use Rattle.std.specs.Prelude.{min}
use Rattle.std.proofs.lemmas.List.{drop_all, drop_at, length-take, take_at, take_min}
use Rattle.line_log.specs.Device.{Cut, Torn, Zeroed}

-- a write that isn't done
pub torn_same : (at n : ℕ) (c : List ℕ) → Torn at n c c
torn_same at n c = record { before = take_min at c; after = refl; no_shorter = omega arith; no_longer = omega arith }

zeroed_same : (bytes : List ℕ) → Zeroed bytes bytes
zeroed_same [] = tt
zeroed_same (b ∷ bytes) = (inl refl, zeroed_same bytes)

take_twice : (n : ℕ) (xs : List ℕ) → take n (take n xs) ≡ take n xs
take_twice zero xs = refl
take_twice (suc n) [] = refl
take_twice (suc n) (x ∷ xs) = ap (λ (l : List ℕ). x ∷ l) (take_twice n xs)

nothing_behind : (n : ℕ) (xs : List ℕ) → Zeroed (drop n xs) (drop n (take n xs))
nothing_behind zero xs = tt
nothing_behind (suc n) [] = tt
nothing_behind (suc n) (x ∷ xs) = nothing_behind n xs

-- a cut that isn't done
pub cut_unchanged : (len : ℕ) (c : List ℕ) → Cut len c c
cut_unchanged len c = record { front = refl; rest = zeroed_same (drop len c) }

-- a cut that is done
pub cut_by : (len : ℕ) (old new : List ℕ) → new ≡ take len old → Cut len old new
cut_by len old new is = subst (Cut len old) (sym is) (record { front = take_twice len old; rest = nothing_behind len old })

module _ (at : ℕ) (bytes old : List ℕ) where
  abbrev behind : List ℕ
  behind = drop (at + length bytes) old

  abbrev whole : List ℕ
  whole = take at old ++ bytes ++ behind

  written_length : length whole ≡ min at (length old) + (length bytes + length behind)
  written_length = omega (arith, length-append (take at old ++ bytes) behind, length-append (take at old) bytes, length-take at old)

  written_after : (at ≤ length old) ⊎ (length old < at) → drop (at + length bytes) whole ≡ behind
  written_after (inl within) =
      drop_at (take at old ++ bytes) behind (at + length bytes) (omega (arith, within, length-append (take at old) bytes, length-take at old))
  written_after (inr past) =
      drop_all (at + length bytes) whole (omega (arith, past, written_length, length-drop (at + length bytes) old))
      ∙ sym (drop_all (at + length bytes) old (omega (arith, past)))

  within_or_past : (at ≤ length old) ⊎ (length old < at)
  within_or_past = grind arith

  -- a write that is done is one of those that are cut short, whatever its place
  pub torn_written : Torn at (length bytes) old whole
  torn_written = record {
    before =
        ap (λ (l : List ℕ). take (min at (length old)) l) (append_assoc (take at old) bytes behind)
        ∙ take_at (take at old) (bytes ++ behind) (min at (length old)) (length-take at old);
    after = written_after within_or_past;
    no_shorter = omega (arith, written_length, length-drop (at + length bytes) old);
    no_longer = omega (arith, written_length, length-drop (at + length bytes) old);
  }

pub torn_by : (at : ℕ) (bytes copy old new : List ℕ) → copy ≡ bytes → new ≡ take at old ++ bytes ++ drop (at + length bytes) old → Torn at (length copy) old new
torn_by at bytes copy old new is holds =
    subst (λ (b : List ℕ). Torn at (length b) old new) (sym is) (subst (Torn at (length bytes) old) (sym holds) (torn_written at bytes old))
