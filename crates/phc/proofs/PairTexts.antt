-- The text of pairs, cut again.
use Rattle.std.proofs.Common.{◌≡◌, ℕ, ◌≤◌, Bool, true, false, List, [], ◌∷◌, ◌++◌, length, map, refl, ap, ◌∙◌, arith}
use Rattle.std.specs.Prelude.{◌==◌, ◌&&◌, ◌||◌, nat_le, Some, None}
use Rattle.std.specs.List.{list_all}
use Rattle.std.proofs.lemmas.Bool.{and_parts}
use Rattle.std.proofs.lemmas.Bool.Decides.{nat_tests}
use Rattle.pieces.specs.Pieces.{EachLacks, pieces_at}
use Rattle.pieces.specs.Lists.{is_empty}
use Rattle.pieces.proofs.Cuts.{cut_joined, first_cut, one_piece}
use Rattle.phc.specs.Grammar.{cut_pairs, has_value_bytes, is_name, is_value_byte}
use Rattle.pieces.specs.Characters.{is_name_byte}
use Rattle.pieces.specs.Faults.{first_fault, unless}
use Rattle.pieces.proofs.FaultLaws.{first_none, or_none, some_none, unless_none}
use Rattle.pieces.proofs.ListLaws.{nil_of_empty}
use Rattle.phc.specs.Grammar.{behind_name_fault, name_fault, pair_fault, pair_of, text_fault, text_pairs, value_fault}
use Rattle.phc.specs.Params.{Pairs, pair_text, pairs_text}
use Rattle.phc.specs.Record.{is_pair}
use Rattle.phc.specs.declared.error.Error.TheVariants.{ParamNameInvalid, ParamValueInvalid, ParamsMaxExceeded}
use Rattle.phc.proofs.Characters.{all_append, all_weaker, lacks, name_bytes}
use Rattle.phc.proofs.ValueBytes.{value_parts}

-- a byte of a pair
abbrev pub is_pair_byte : ℕ → Bool
is_pair_byte b = is_name_byte b || is_value_byte b || b == 61

-- the three parts of the test
pub pair_parts : (name value : List ℕ) → is_pair (name, value) ≡ true
    → (is_name name ≡ true) × (nat_le (length value) 64 ≡ true) × (has_value_bytes value ≡ true)
pair_parts name value h =
    let outer = and_parts (is_name name && nat_le (length value) 64) (has_value_bytes value) h in
    let inner = and_parts (is_name name) (nat_le (length value) 64) outer.0 in
    (inner.0, inner.1, outer.1)

name_in_pair : (b : ℕ) → is_name_byte b ≡ true → is_pair_byte b ≡ true
name_in_pair b h = rw h refl

value_in_pair : (b : ℕ) → is_value_byte b ≡ true → is_pair_byte b ≡ true
value_in_pair b h = by_test (is_name_byte b)
  where
    by_test : (t : Bool) → (t || is_value_byte b || b == 61) ≡ true
    by_test true = refl
    by_test false = rw h refl

pub pair_bytes : (p : List ℕ × List ℕ) → is_pair p ≡ true → list_all is_pair_byte (pair_text p) ≡ true
pair_bytes (name, value) h =
    let parts = pair_parts name value h in
    all_append is_pair_byte name (61 ∷ value)
    (all_weaker is_name_byte is_pair_byte name_in_pair name (name_bytes name parts.0))
    (all_weaker is_value_byte is_pair_byte value_in_pair value parts.2)

each_lacks : (ps : Pairs) → list_all is_pair ps ≡ true → EachLacks 44 (map pair_text ps)
each_lacks [] h = tt
each_lacks (p ∷ ps) h =
    let parts = and_parts (is_pair p) (list_all is_pair ps) h in
    (lacks is_pair_byte 44 refl (pair_text p) (pair_bytes p parts.0), each_lacks ps parts.1)

pair_cut : (name value : List ℕ) → is_pair (name, value) ≡ true
    → pieces_at 61 (name ++ 61 ∷ value) ≡ name ∷ (value ∷ [])
pair_cut name value h =
    let parts = pair_parts name value h in
    first_cut 61 name value (lacks is_name_byte 61 refl name (name_bytes name parts.0))
    ∙ ap (λ (ps : List (List ℕ)). name ∷ ps) (one_piece 61 value (lacks is_value_byte 61 refl value parts.2))

no_pair_fault : (name value : List ℕ) → is_pair (name, value) ≡ true → pair_fault (name ∷ (value ∷ [])) ≡ None
no_pair_fault name value h =
    let parts = pair_parts name value h in
    rw (parts.0, parts.1, parts.2) refl

-- the pieces of each pair are the pair
cut_each : (ps : Pairs) → list_all is_pair ps ≡ true → map pair_of (map (pieces_at 61) (map pair_text ps)) ≡ ps
cut_each [] h = refl
cut_each ((name, value) ∷ ps) h =
    let parts = and_parts (is_pair (name, value)) (list_all is_pair ps) h in
    rw (pair_cut name value parts.0) (ap (λ (qs : Pairs). (name, value) ∷ qs) (cut_each ps parts.1))

no_faults : (ps : Pairs) → list_all is_pair ps ≡ true
    → first_fault (map pair_fault (map (pieces_at 61) (map pair_text ps))) ≡ None
no_faults [] h = refl
no_faults ((name, value) ∷ ps) h =
    let parts = and_parts (is_pair (name, value)) (list_all is_pair ps) h in
    rw (pair_cut name value parts.0, no_pair_fault name value parts.0) (no_faults ps parts.1)

some_text : (p : List ℕ × List ℕ) (ps : Pairs) → is_empty (pairs_text (p ∷ ps)) ≡ false
some_text ([], value) [] = refl
some_text ([], value) (q ∷ ps) = refl
some_text (b ∷ name, value) [] = refl
some_text (b ∷ name, value) (q ∷ ps) = refl

text_without_fault : (s : List ℕ) → is_empty s ≡ false → length s ≤ 127
    → first_fault (map pair_fault (cut_pairs s)) ≡ None → text_fault s ≡ None
text_without_fault s some short h =
    let room : nat_le (length s) 127 ≡ true = grind (arith, nat_tests, short) in
    rw (some, room) h

pairs_of_text : (s : List ℕ) (ps : Pairs) → is_empty s ≡ false → map pair_of (cut_pairs s) ≡ ps → text_pairs s ≡ ps
pairs_of_text s ps some h = rw some h

-- the text of pairs has no fault and has these pairs
pub valid_pairs : (ps : Pairs) → list_all is_pair ps ≡ true → length (pairs_text ps) ≤ 127
    → (text_fault (pairs_text ps) ≡ None) × (text_pairs (pairs_text ps) ≡ ps)
valid_pairs [] h short = (refl, refl)
valid_pairs (p ∷ ps) h short =
    let each = each_lacks (p ∷ ps) h in
    let cut : pieces_at 44 (pairs_text (p ∷ ps)) ≡ map pair_text (p ∷ ps) =
    cut_joined 44 (pair_text p) (map pair_text ps) each.0 each.1 in (
      text_without_fault (pairs_text (p ∷ ps)) (some_text p ps) short
          (ap (λ (qs : List (List ℕ)). first_fault (map pair_fault (map (pieces_at 61) qs))) cut
          ∙ no_faults (p ∷ ps) h),
      pairs_of_text (pairs_text (p ∷ ps)) (p ∷ ps) (some_text p ps)
          (ap (λ (qs : List (List ℕ)). map pair_of (map (pieces_at 61) qs)) cut ∙ cut_each (p ∷ ps) h),
    )

-- ---- the pairs of a text without a fault

-- a name and a value
pub record GoodPair (pieces : List (List ℕ)) : Type 0 where
  pub name : List ℕ
  pub value : List ℕ
  pub are : pieces ≡ name ∷ value ∷ []
  pub is_name : is_name name ≡ true
  pub is_value : value_fault value ≡ None

pub good_pair : (pieces : List (List ℕ)) → pair_fault pieces ≡ None → GoodPair pieces
good_pair [] h = absurd (some_none ParamNameInvalid h)
good_pair (name ∷ []) h =
    absurd (some_none ParamValueInvalid (or_none (name_fault name) (Some ParamValueInvalid) h).1)
good_pair (name ∷ (value ∷ more)) h =
    let parts = or_none (name_fault name) (behind_name_fault (value ∷ more)) h in
    let behind = or_none (value_fault value) (unless (is_empty more) ParamValueInvalid) parts.1 in
    record {
      name = name;
      value = value;
      are = ap (λ (ps : List (List ℕ)). name ∷ value ∷ ps)
          (nil_of_empty more (unless_none (is_empty more) ParamValueInvalid behind.1));
      is_name = unless_none (is_name name) ParamNameInvalid parts.0;
      is_value = behind.0;
    }

pair_of_pieces : (pieces : List (List ℕ)) → pair_fault pieces ≡ None → is_pair (pair_of pieces) ≡ true
pair_of_pieces pieces h =
    let good = good_pair pieces h in
    let value = value_parts good.value good.is_value in
    let short : nat_le (length good.value) 64 ≡ true = grind (arith, nat_tests, value.0) in
    rw (good.are, good.is_name, short, value.1) refl

each_pair : (cuts : List (List (List ℕ))) → first_fault (map pair_fault cuts) ≡ None
    → list_all is_pair (map pair_of cuts) ≡ true
each_pair [] h = refl
each_pair (cut ∷ cuts) h =
    let parts = first_none (pair_fault cut) (map pair_fault cuts) h in
    rw (pair_of_pieces cut parts.0) (each_pair cuts parts.1)

pub pairs_valid : (s : List ℕ) → text_fault s ≡ None → list_all is_pair (text_pairs s) ≡ true
pairs_valid [] h = refl
pairs_valid (b ∷ s) h =
    each_pair (cut_pairs (b ∷ s))
    (first_none (unless (nat_le (length (b ∷ s)) 127) ParamsMaxExceeded) (map pair_fault (cut_pairs (b ∷ s))) h).1
