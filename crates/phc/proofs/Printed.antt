-- An accepted text prints back.
use Rattle.std.proofs.Common.{◌≡◌, ℕ, ◌^◌, ◌<◌, Bool, true, false, List, [], ◌∷◌, ◌++◌, length, take, drop, get_or, map}
use Rattle.std.proofs.Common.{refl, sym, ap, ◌∙◌, arith, append_assoc, take-append-drop, Ok}
use Rattle.std.specs.Prelude.{◌&&◌, not, nat_eq, nat_le, nat_lt, Option, Some, None, is_some, codes}
use Rattle.std.specs.Prelude.{if◌then◌else◌}
use Rattle.std.specs.Option.{option_and_then}
use Rattle.std.specs.Fmt.{decimal}
use Rattle.std.specs.List.{list_all, starts_with, join_with_byte}
use Rattle.std.specs.Char.{is_ascii_digit}
use Rattle.std.proofs.lemmas.List.{append-nil}
use Rattle.std.proofs.lemmas.Fmt.{decimal-digits_value}
use Rattle.std.proofs.lemmas.Bool.{and_parts, false≢true}
use Rattle.std.proofs.lemmas.Bool.Decides.{nat_tests}
use Rattle.std.proofs.lemmas.Option.{none-some, same_Some}
use Rattle.pieces.specs.Pieces.{pieces_at, first}
use Rattle.pieces.specs.Lists.{is_empty}
use Rattle.pieces.proofs.Cuts.{cut_of, join_pieces}
use Rattle.base64ct.specs.Alphabets.{base64_unpadded}
use Rattle.base64ct.proofs.DecodingLaws.{decoding-Some, same_true}
use Rattle.phc.specs.Encoded.{decoding}
use Rattle.phc.specs.Grammar.{fault_of, version_fault, text_fault, salt_fault}
use Rattle.phc.specs.Grammar.{hash_fault, pairs_of, pair_of, text_pairs, decimal_value, fault_of_layout, layout}
use Rattle.phc.specs.Grammar.{version_digits, params_text, read_first, pieces_behind, has_byte}
use Rattle.pieces.proofs.PlainNumbers.{decimal_back}
use Rattle.pieces.proofs.FaultLaws.{err_ok, value_found}
use Rattle.phc.specs.Params.{Pairs, pairs_text}
use Rattle.phc.specs.PairsOfText.{pairs_text-text_pairs}
use Rattle.phc.specs.Record.{record_of_layout, phc, phc_of_pieces, phc_text, version_part, params_part, bytes_part}
use Rattle.phc.specs.Record.{hash_part, record_text}
use Rattle.phc.specs.declared.error.Error.TheVariants.{MissingField}
use Rattle.phc.specs.declared.password_hash.PasswordHash.{PasswordHash}
use Rattle.phc.proofs.FieldFaults.{decimal_found, good_hash, good_salt}
use Rattle.phc.proofs.LayoutFaults.{good_parts}

-- pieces with a `$` before each
abbrev pub shown : List (List ℕ) → List ℕ
shown [] = []
shown (piece ∷ pieces) = 36 ∷ (piece ++ shown pieces)

pub join_shown : (id : List ℕ) (pieces : List (List ℕ)) → join_with_byte 36 (id ∷ pieces) ≡ id ++ shown pieces
join_shown id [] = sym (append-nil id)
join_shown id (p ∷ ps) = ap (λ (t : List ℕ). id ++ (36 ∷ t)) (join_shown p ps)

-- ---- the version

version_text : (q digits : List ℕ) → version_digits q ≡ Some digits → q ≡ codes "v=" ++ digits
version_text q digits h = by_tests (has_byte 44 q) (starts_with nat_eq q (codes "v=")) refl h
  where
    by_tests : (comma starts : Bool) → starts_with nat_eq q (codes "v=") ≡ starts
        → (if comma then None else (if starts then Some (drop 2 q) else None)) ≡ Some digits → q ≡ codes "v=" ++ digits
    by_tests true starts is e = absurd (none-some digits e)
    by_tests false false is e = absurd (none-some digits e)
    by_tests false true is e =
        let front : codes "v=" ≡ take 2 q = same_true (codes "v=") (take 2 q) is in
        let rest : drop 2 q ≡ digits = same_Some (drop 2 q) digits e in
        sym (take-append-drop 2 q) ∙ ap (λ (x : List ℕ). x ++ drop 2 q) (sym front)
        ∙ ap (λ (x : List ℕ). codes "v=" ++ x) rest

version_case : (q : List ℕ) (qs : List (List ℕ)) (r : Option (List ℕ)) → version_digits q ≡ r
    → fault_of version_fault r ≡ None
    → shown (q ∷ qs) ≡ version_part (option_and_then decimal_value r) ++ shown (pieces_behind r (q ∷ qs))
version_case q qs None is h = refl
version_case q qs (Some digits) is h = by_value (decimal_value digits) refl
  where
    by_value : (n : Option ℕ) → decimal_value digits ≡ n → shown (q ∷ qs) ≡ version_part n ++ shown qs
    by_value None e =
        absurd (false≢true (ap is_some (sym e) ∙ decimal_found digits h))
    by_value (Some n) e = rw (version_text q digits is, decimal_back (2 ^ 32) digits n (omega arith) e) refl

version_shown : (pieces : List (List ℕ)) → fault_of version_fault (read_first version_digits pieces) ≡ None
    → shown pieces ≡ version_part (option_and_then decimal_value (read_first version_digits pieces))
    ++ shown (pieces_behind (read_first version_digits pieces) pieces)
version_shown [] h = refl
version_shown (q ∷ qs) h = version_case q qs (version_digits q) refl h

-- ---- the parameters

some_pairs : (ps : Pairs) (p : List ℕ × List ℕ) (others : Pairs) → ps ≡ p ∷ others → params_part ps ≡ 36 ∷ pairs_text ps
some_pairs ps p others is = rw is refl

pairs_shown : (b : ℕ) (s : List ℕ) → text_fault (b ∷ s) ≡ None → params_part (text_pairs (b ∷ s)) ≡ 36 ∷ (b ∷ s)
pairs_shown b s h =
    let cut = cut_of 44 (b ∷ s) in
    some_pairs (text_pairs (b ∷ s)) (pair_of (pieces_at 61 cut.first)) (map pair_of (map (pieces_at 61) cut.others))
    (ap (λ (ps : List (List ℕ)). map pair_of (map (pieces_at 61) ps)) cut.are)
    ∙ ap (λ (t : List ℕ). 36 ∷ t) (pairs_text-text_pairs (b ∷ s) h)

params_case : (q : List ℕ) (qs : List (List ℕ)) (test : Bool) → has_byte 61 q ≡ test
    → fault_of text_fault (if test then Some q else None) ≡ None
    → shown (q ∷ qs) ≡ params_part (pairs_of (if test then Some q else None))
    ++ shown (pieces_behind (if test then Some q else None) (q ∷ qs))
params_case q qs false is h = refl
params_case [] qs true is h = absurd (false≢true is)
params_case (b ∷ q) qs true is h = ap (λ (t : List ℕ). t ++ shown qs) (sym (pairs_shown b q h))

params_shown : (pieces : List (List ℕ)) → fault_of text_fault (read_first params_text pieces) ≡ None
    → shown pieces ≡ params_part (pairs_of (read_first params_text pieces))
    ++ shown (pieces_behind (read_first params_text pieces) pieces)
params_shown [] h = refl
params_shown (q ∷ qs) h = params_case q qs (has_byte 61 q) refl h

-- ---- salt and hash

bytes_case : (q : List ℕ) (qs : List (List ℕ)) (r : Option (List ℕ)) → decoding q ≡ r → is_some r ≡ true
    → shown (q ∷ qs) ≡ bytes_part r ++ shown qs
bytes_case q qs None is some = absurd (false≢true some)
bytes_case q qs (Some b) is some = ap (λ (t : List ℕ). 36 ∷ (t ++ shown qs)) (decoding-Some base64_unpadded q b is).1

salt_shown : (pieces : List (List ℕ)) → fault_of salt_fault (first pieces) ≡ None
    → shown pieces ≡ bytes_part (option_and_then decoding (first pieces)) ++ shown (drop 1 pieces)
salt_shown [] h = refl
salt_shown (q ∷ qs) h = bytes_case q qs (decoding q) refl (good_salt q h).decodes

hash_shown : (pieces : List (List ℕ)) → fault_of hash_fault (first pieces) ≡ None
    → shown pieces ≡ bytes_part (option_and_then decoding (first pieces)) ++ shown (drop 1 pieces)
hash_shown [] h = refl
hash_shown (q ∷ qs) h = bytes_case q qs (decoding q) refl (good_hash q h).decodes

-- a hash stands behind a salt
behind_salt : (pieces : List (List ℕ)) → fault_of salt_fault (first pieces) ≡ None
    → fault_of hash_fault (first (drop 1 pieces)) ≡ None
    → shown (drop 1 pieces)
    ≡ hash_part (option_and_then decoding (first pieces)) (option_and_then decoding (first (drop 1 pieces)))
    ++ shown (drop 1 (drop 1 pieces))
behind_salt [] hs hh = refl
behind_salt (q ∷ qs) hs hh = by_salt (decoding q) refl (good_salt q hs).decodes
  where
    by_salt : (r : Option (List ℕ)) → decoding q ≡ r → is_some r ≡ true
        → shown qs ≡ hash_part r (option_and_then decoding (first qs)) ++ shown (drop 1 qs)
    by_salt None is some = absurd (false≢true some)
    by_salt (Some b) is some = hash_shown qs hh

nothing_shown : (pieces : List (List ℕ)) → is_empty pieces ≡ true → shown pieces ≡ []
nothing_shown [] h = refl
nothing_shown (q ∷ qs) h = absurd (false≢true h)

-- ---- the whole

join_five : (front v p s h v' p' s' h' r : List ℕ) → v' ≡ v ++ p' → p' ≡ p ++ s' → s' ≡ s ++ h' → h' ≡ h ++ r → r ≡ []
    → (((front ++ v) ++ p) ++ s) ++ h ≡ front ++ v'
join_five front v p s h v' p' s' h' r ev ep es eh er =
    rw (ev, ep, es, eh, er, append-nil, append_assoc, append_assoc, append_assoc) refl

layout_printed : (id : List ℕ) (pieces : List (List ℕ)) → fault_of_layout id (layout pieces) ≡ None
    → record_text (record_of_layout id (layout pieces)) ≡ 36 ∷ (id ++ shown pieces)
unfolding record_text
layout_printed id pieces h =
    let version = read_first version_digits pieces in
    let after_version = pieces_behind version pieces in
    let params = read_first params_text after_version in
    let after_params = pieces_behind params after_version in
    let good = good_parts id (layout pieces) h in
    join_five (36 ∷ id) _ _ _ _ (shown pieces) (shown after_version) (shown after_params) (shown (drop 1 after_params))
    (shown (drop 1 (drop 1 after_params)))
    (version_shown pieces good.version) (params_shown after_version good.params) (salt_shown after_params good.salt)
    (behind_salt after_params good.salt good.hash) (nothing_shown (drop 1 (drop 1 after_params)) good.end)

accepted : (id : List ℕ) (pieces : List (List ℕ)) (r : PasswordHash) → phc id pieces ≡ Ok r
    → record_text r ≡ 36 ∷ (id ++ shown pieces)
unfolding phc
accepted id pieces r h =
    let is = value_found (record_of_layout id (layout pieces)) r (fault_of_layout id (layout pieces)) h in
    rw (← is.1) (layout_printed id pieces is.0)

of_pieces : (pieces : List (List ℕ)) (r : PasswordHash) → phc_of_pieces pieces ≡ Ok r
    → record_text r ≡ join_with_byte 36 pieces
of_pieces [] r h = absurd (err_ok MissingField r h)
of_pieces ([] ∷ []) r h = absurd (err_ok MissingField r h)
of_pieces ([] ∷ id ∷ pieces) r h =
    accepted id pieces r h ∙ ap (λ (t : List ℕ). 36 ∷ t) (sym (join_shown id pieces))
of_pieces ((b ∷ front) ∷ others) r h = absurd (err_ok MissingField r h)

-- the record of an accepted text prints it
pub prints_back : (s : List ℕ) (r : PasswordHash) → phc_text s ≡ Ok r → record_text r ≡ s
unfolding phc_text
prints_back s r h = of_pieces (pieces_at 36 s) r h ∙ join_pieces 36 s
