-- Texts of pairs, cut and put together.
use Rattle.std.proofs.Common.{◌≡◌, ℕ, ◌≤◌, Bool, true, false, List, [], ◌∷◌, ◌++◌, length, map, refl, sym, ap, ◌∙◌}
use Rattle.std.proofs.Common.{arith, append_assoc}
use Rattle.std.specs.Prelude.{nat_le, nat_lt, is_some, Option, Some, None, Ok, Err, if◌then◌else◌}
use Rattle.std.specs.List.{join_with_byte, list_all}
use Rattle.std.specs.Option.{option_map}
use Rattle.std.specs.Str.{IsAscii, IsUtf8}
use Rattle.std.proofs.lemmas.Bool.{and_parts, false≢true}
use Rattle.std.proofs.lemmas.Bool.Decides.{nat_tests}
use Rattle.std.proofs.lemmas.Str.{IsUtf8-from_ascii, IsAscii-append}
use Rattle.std.proofs.lemmas.Str.Ascii.{IsAscii-nil, IsAscii-cons}
use Rattle.std.proofs.lemmas.Option.{same_Some, none-some}
use Rattle.pieces.specs.Pieces.{pieces_at}
use Rattle.pieces.specs.Lists.{is_empty}
use Rattle.pieces.proofs.Cuts.{cut_of, join_pieces}
use Rattle.phc.specs.Grammar.{cut_pairs, is_name, pair_fault, pair_of, text_fault}
use Rattle.phc.specs.Grammar.{text_pairs, value_fault}
use Rattle.pieces.specs.Faults.{unless}
use Rattle.phc.specs.Params.{Pairs, add, appended, get, pair_text, pairs_fault, pairs_text}
use Rattle.phc.specs.Record.{is_pair}
use Rattle.phc.specs.PairsOfText.{pairs_text-text_pairs}
use Rattle.phc.specs.declared.error.Error.TheVariants.{ParamsMaxExceeded}
use Rattle.phc.proofs.PairTexts.{good_pair, pairs_valid, valid_pairs}
use Rattle.pieces.proofs.FaultLaws.{first_none}
use Rattle.phc.proofs.ValueBytes.{name_ascii, value_ascii, value_parts}

-- ---- one pair

heads : (a b : List ℕ) (ps qs : List (List ℕ)) → (a ∷ ps) ≡ (b ∷ qs) → (a ≡ b) × (ps ≡ qs)
heads a b ps qs h = (cc, cc)

-- a pair that is cut at its first `=`
pub split_good : (pair name value : List ℕ) → pieces_at 61 pair ≡ name ∷ pieces_at 61 value
    → pair_fault (pieces_at 61 pair) ≡ None
    → (is_name name ≡ true) × (value_fault value ≡ None) × (pair_of (pieces_at 61 pair) ≡ (name, value))
split_good pair name value cut h =
    let good = good_pair (pieces_at 61 pair) h in
    let parts = heads name good.name (pieces_at 61 value) (good.value ∷ []) (sym cut ∙ good.are) in
    let same : value ≡ good.value = sym (join_pieces 61 value) ∙ ap (join_with_byte 61) parts.1 in (
      rw parts.0 good.is_name,
      rw same good.is_value,
      rw good.are (ap (λ (x : List ℕ). (x, good.value)) (sym parts.0) ∙ ap (λ (x : List ℕ). (name, x)) (sym same)),
    )

-- ---- UTF-8

part_ascii : (part : List ℕ) → pair_fault (pieces_at 61 part) ≡ None → IsAscii part
part_ascii part h =
    let good = good_pair (pieces_at 61 part) h in
    let text : good.name ++ 61 ∷ good.value ≡ part = sym (ap (join_with_byte 61) good.are) ∙ join_pieces 61 part in
    rw (← text) (IsAscii-append good.name (61 ∷ good.value) (name_ascii good.name good.is_name)
    (IsAscii-cons 61 good.value (omega arith) (value_ascii good.value good.is_value)))

parts_ascii : (parts : List (List ℕ)) → pairs_fault parts ≡ None → IsAscii (join_with_byte 44 parts)
parts_ascii [] h = IsAscii-nil
parts_ascii (part ∷ []) h = part_ascii part (first_none (pair_fault (pieces_at 61 part)) [] h).0
parts_ascii (part ∷ (next ∷ parts)) h =
    let cut = first_none (pair_fault (pieces_at 61 part)) (map pair_fault (map (pieces_at 61) (next ∷ parts))) h in
    IsAscii-append part (44 ∷ join_with_byte 44 (next ∷ parts)) (part_ascii part cut.0)
    (IsAscii-cons 44 (join_with_byte 44 (next ∷ parts)) (omega arith) (parts_ascii (next ∷ parts) cut.1))

-- the pairs of a nonempty text without a fault have none
pub pairs_good : (s : List ℕ) → text_fault s ≡ None → is_empty s ≡ false → pairs_fault (pieces_at 44 s) ≡ None
pairs_good [] h some = absurd (false≢true (sym some))
pairs_good (b ∷ s) h some =
    (first_none (unless (nat_le (length (b ∷ s)) 127) ParamsMaxExceeded) (map pair_fault (cut_pairs (b ∷ s))) h).1

pub text_utf8 : (s : List ℕ) → text_fault s ≡ None → IsUtf8 s
text_utf8 [] h = IsUtf8-from_ascii [] IsAscii-nil
text_utf8 (b ∷ s) h =
    IsUtf8-from_ascii (b ∷ s)
    (rw (join_pieces 44 (b ∷ s)) at (parts_ascii (pieces_at 44 (b ∷ s)) (pairs_good (b ∷ s) h refl)))

-- ---- one more pair

map-append : {A B : Type 0} (f : A → B) (xs ys : List A) → map f (xs ++ ys) ≡ map f xs ++ map f ys
map-append f [] ys = refl
map-append f (x ∷ xs) ys = ap (λ zs. f x ∷ zs) (map-append f xs ys)

join_more : (c : ℕ) (x : List ℕ) (xs : List (List ℕ)) (y : List ℕ)
    → join_with_byte c ((x ∷ xs) ++ y ∷ []) ≡ join_with_byte c (x ∷ xs) ++ c ∷ y
join_more c x [] y = refl
join_more c x (x' ∷ xs) y = ap (λ (t : List ℕ). x ++ c ∷ t) (join_more c x' xs y)
    ∙ sym (append_assoc x (c ∷ join_with_byte c (x' ∷ xs)) (c ∷ y))

text_more : (ps : Pairs) (p q : List ℕ × List ℕ) (others : Pairs) → ps ≡ q ∷ others
    → pairs_text (ps ++ p ∷ []) ≡ pairs_text ps ++ 44 ∷ pair_text p
text_more ps p q others is =
    rw is (ap (join_with_byte 44) (map-append pair_text (q ∷ others) (p ∷ []))
    ∙ join_more 44 (pair_text q) (map pair_text others) (pair_text p))

-- the text of one more pair
pub appended_text : (s name value : List ℕ) → text_fault s ≡ None
    → pairs_text (text_pairs s ++ (name, value) ∷ []) ≡ appended s name value
appended_text [] name value h = refl
appended_text (b ∷ s) name value h =
    let cut = cut_of 44 (b ∷ s) in
    text_more (text_pairs (b ∷ s)) (name, value) (pair_of (pieces_at 61 cut.first))
    (map pair_of (map (pieces_at 61) cut.others))
    (ap (λ (ps : List (List ℕ)). map pair_of (map (pieces_at 61) ps)) cut.are)
    ∙ ap (λ (t : List ℕ). t ++ 44 ∷ pair_text (name, value)) (pairs_text-text_pairs (b ∷ s) h)

all_more : (ps : Pairs) (p : List ℕ × List ℕ) → list_all is_pair ps ≡ true → is_pair p ≡ true
    → list_all is_pair (ps ++ p ∷ []) ≡ true
all_more [] p each one = rw one refl
all_more (q ∷ ps) p each one = let parts = and_parts (is_pair q) (list_all is_pair ps) each in
    rw parts.0 (all_more ps p parts.1 one)

-- a text with one more pair has no fault and these pairs, where it fits
pub grown : (s name value : List ℕ) → text_fault s ≡ None → is_name name ≡ true → value_fault value ≡ None
    → length (appended s name value) ≤ 127
    → (text_fault (appended s name value) ≡ None)
    × (text_pairs (appended s name value) ≡ text_pairs s ++ (name, value) ∷ [])
grown s name value h n v short =
    let parts = value_parts value v in
    let fits : nat_le (length value) 64 ≡ true = grind (arith, nat_tests, parts.0) in
    let one : is_pair (name, value) ≡ true = rw (n, fits, parts.1) refl in
    let text = appended_text s name value h in
    rw text at (valid_pairs (text_pairs s ++ (name, value) ∷ [])
    (all_more (text_pairs s) (name, value) (pairs_valid s h) one) (rw text short))

-- ---- an addition

-- what is told by the longer text, where there is one
pub fits : (s name value t : List ℕ)
    → Some t ≡ (if nat_lt 127 (length (appended s name value)) then None else Some (appended s name value))
    → (t ≡ appended s name value) × (nat_lt 127 (length (appended s name value)) ≡ false)
fits s name value t h = by_test (nat_lt 127 (length (appended s name value))) refl h
  where
    by_test : (long : Bool) → nat_lt 127 (length (appended s name value)) ≡ long
        → Some t ≡ (if long then None else Some (appended s name value))
        → (t ≡ appended s name value) × (nat_lt 127 (length (appended s name value)) ≡ false)
    by_test false is e = (same_Some t (appended s name value) e, is)
    by_test true is e = absurd (some_text t e)
      where
        some_text : (x : List ℕ) → Some x ≡ None → ⊥
        some_text x y = cc

-- what is told where there is none
pub too_long : (s name value : List ℕ)
    → None ≡ (if nat_lt 127 (length (appended s name value)) then None else Some (appended s name value))
    → nat_lt 127 (length (appended s name value)) ≡ true
too_long s name value h = by_test (nat_lt 127 (length (appended s name value))) refl h
  where
    by_test : (long : Bool) → nat_lt 127 (length (appended s name value)) ≡ long
        → None ≡ (if long then None else Some (appended s name value))
        → nat_lt 127 (length (appended s name value)) ≡ true
    by_test true is e = is
    by_test false is e = absurd (none-some (appended s name value) e)

pub at_most : (n : ℕ) → nat_lt 127 n ≡ false → n ≤ 127
at_most n h = grind (arith, nat_tests, h)

-- an accepted addition
pub addition : (s name value t : List ℕ) → text_fault s ≡ None → is_name name ≡ true → value_fault value ≡ None
    → is_some (get (text_pairs s) name) ≡ false
    → t ≡ appended s name value → nat_lt 127 (length (appended s name value)) ≡ false
    → add (text_pairs s) name value ≡ Ok (text_pairs t)
addition s name value t h n v fresh is short =
    rw (fresh, appended_text s name value h, short, is) (ap Ok (sym (grown s name value h n v (at_most _ short)).1))

-- an addition that is too long
pub refusal : (s name value : List ℕ) → text_fault s ≡ None → is_some (get (text_pairs s) name) ≡ false
    → nat_lt 127 (length (appended s name value)) ≡ true → add (text_pairs s) name value ≡ Err ParamsMaxExceeded
refusal s name value h fresh long = rw (fresh, appended_text s name value h, long) refl

-- a look-up that found nothing
pub absent : {A : Type 0} (text : A → List ℕ) (r : Option A) (g : Option (List ℕ)) → option_map text r ≡ g
    → is_some r ≡ false → is_some g ≡ false
absent text None g is none = rw (← is) refl
absent text (Some a) g is none = absurd (false≢true (sym none))
