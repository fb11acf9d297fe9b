-- A record that is read is printable, and its parts are valid.
use Rattle.std.proofs.Common.{◌≡◌, ℕ, ◌+◌, ◌*◌, ◌/◌, ◌^◌, ◌<◌, ◌≤◌, Bool, true, false, List, [], ◌∷◌, ◌++◌, length}
use Rattle.std.proofs.Common.{drop, refl, sym, ap, ◌∙◌, arith, Ok}
use Rattle.std.specs.Prelude.{◌&&◌, not, map, nat_eq, nat_le, nat_lt, Option, Some, None, IfSome, is_some, is_none}
use Rattle.std.specs.Prelude.{codes, unwrap_or, if◌then◌else◌}
use Rattle.std.specs.Option.{option_and_then}
use Rattle.std.specs.List.{list_all, starts_with}
use Rattle.std.specs.Cmp.Lexicographic.{pointwise}
use Rattle.std.proofs.lemmas.Bool.{and_parts, false≢true}
use Rattle.std.proofs.lemmas.Bool.Decides.{nat_tests}
use Rattle.std.proofs.lemmas.Option.{none-some}
use Rattle.std.proofs.Math.Bool.{and-false}
use Rattle.pieces.specs.Pieces.{first, pieces_at}
use Rattle.base64ct.specs.Alphabets.{base64_unpadded}
use Rattle.base64ct.specs.Encoding.{EachBelow}
use Rattle.base64ct.proofs.DecodingLaws.{decoding-Some, length-decodable, same_true}
use Rattle.phc.specs.Encoded.{decoding}
use Rattle.phc.specs.Grammar.{pieces_behind, cut_pairs, decimal_value, fault_of, fault_of_layout, read_first, has_byte}
use Rattle.phc.specs.Grammar.{hash_fault, layout, pair_fault, pairs_of}
use Rattle.pieces.proofs.PlainNumbers.{found}
use Rattle.phc.specs.Grammar.{params_text, salt_fault, text_fault, text_pairs, version_digits}
use Rattle.pieces.specs.Faults.{unless}
use Rattle.phc.specs.Grammar.{version_fault}
use Rattle.phc.specs.Params.{Pairs, pair_text, pairs_text}
use Rattle.phc.specs.PairsOfText.{pairs_text-text_pairs}
use Rattle.phc.specs.Record.{IsRecord, is_lone_v, is_pair, is_printable, phc, phc_of_pieces, phc_text, record_of_layout}
use Rattle.phc.specs.declared.error.Error.{Error}
use Rattle.phc.specs.declared.error.Error.TheVariants.{MissingField}
use Rattle.phc.specs.declared.error.Error.TheVariants.{ParamsMaxExceeded}
use Rattle.phc.specs.declared.password_hash.PasswordHash.{PasswordHash}
use Rattle.phc.proofs.Characters.{has_none}
use Rattle.phc.proofs.FieldFaults.{decimal_found, good_hash, good_salt}
use Rattle.phc.proofs.LayoutFaults.{good_parts}
use Rattle.phc.proofs.PairTexts.{is_pair_byte, pair_bytes, pairs_valid}
use Rattle.pieces.proofs.FaultLaws.{err_ok, first_none, unless_none, value_found}

-- ---- a hash stands behind a salt

some_not_none : {A : Type 0} (o : Option A) → is_some o ≡ true → is_none o ≡ false
some_not_none None h = absurd (false≢true h)
some_not_none (Some a) h = refl

hash_behind_salt : (pieces : List (List ℕ)) → fault_of salt_fault (first pieces) ≡ None
    → (is_some (option_and_then decoding (first (drop 1 pieces))) && is_none (option_and_then decoding (first pieces)))
    ≡ false
hash_behind_salt [] h = refl
hash_behind_salt (q ∷ qs) h =
    rw (some_not_none (decoding q) (good_salt q h).decodes) (and-false (is_some (option_and_then decoding (first qs))))

-- ---- one single pair named `v` is a version

lone_version : (q : List ℕ) (p : List ℕ × List ℕ) → q ≡ pair_text p → is_pair p ≡ true
    → pointwise nat_eq p.0 (codes "v") ≡ true → version_digits q ≡ Some p.1
lone_version q p is valid lone =
    let name : p.0 ≡ codes "v" = same_true p.0 (codes "v") lone in
    let none : has_byte 44 q ≡ false =
    has_none is_pair_byte 44 refl q (ap (list_all is_pair_byte) is ∙ pair_bytes p valid) in
    let text : q ≡ codes "v=" ++ p.1 = is ∙ ap (λ (n : List ℕ). n ++ 61 ∷ p.1) name in
    rw none (ap (λ (t : List ℕ). if starts_with nat_eq t (codes "v=") then Some (drop 2 t) else None) text)

lone_pairs : (q : List ℕ) (ps : Pairs) → text_pairs q ≡ ps → text_fault q ≡ None → version_digits q ≡ None
    → is_lone_v ps ≡ false
lone_pairs q [] is h none = refl
lone_pairs q (p ∷ (other ∷ ps)) is h none = refl
lone_pairs q (p ∷ []) is h none = by_test (pointwise nat_eq p.0 (codes "v")) refl
  where
    valid : is_pair p ≡ true
    valid = (and_parts (is_pair p) true (ap (list_all is_pair) (sym is) ∙ pairs_valid q h)).0

    text : q ≡ pair_text p
    text = sym (pairs_text-text_pairs q h) ∙ ap pairs_text is

    by_test : (t : Bool) → pointwise nat_eq p.0 (codes "v") ≡ t → t ≡ false
    by_test false e = refl
    by_test true e = absurd (none-some p.1 (sym none ∙ lone_version q p text valid e))

params_case : (q : List ℕ) (test : Bool) → version_digits q ≡ None
    → fault_of text_fault (if test then Some q else None) ≡ None
    → is_lone_v (pairs_of (if test then Some q else None)) ≡ false
params_case q false none h = refl
params_case q true none h = lone_pairs q (text_pairs q) refl h none

version_case : (q : List ℕ) (qs : List (List ℕ)) (version : Option (List ℕ)) → version_digits q ≡ version
    → fault_of version_fault version ≡ None
    → fault_of text_fault (read_first params_text (pieces_behind version (q ∷ qs))) ≡ None
    → (is_none (option_and_then decimal_value version)
    && is_lone_v (pairs_of (read_first params_text (pieces_behind version (q ∷ qs))))) ≡ false
version_case q qs (Some digits) is v h = rw (some_not_none (decimal_value digits) (decimal_found digits v)) refl
version_case q qs None is v h = params_case q (has_byte 61 q) is h

no_lone_v : (pieces : List (List ℕ)) → fault_of version_fault (read_first version_digits pieces) ≡ None
    → fault_of text_fault (read_first params_text (pieces_behind (read_first version_digits pieces) pieces)) ≡ None
    → (is_none (option_and_then decimal_value (read_first version_digits pieces))
    && is_lone_v (pairs_of (read_first params_text (pieces_behind (read_first version_digits pieces) pieces))))
    ≡ false
no_lone_v [] v h = refl
no_lone_v (q ∷ qs) v h = version_case q qs (version_digits q) refl v h

-- ---- the parts are valid

version_bound : (digits : Option (List ℕ)) → IfSome (option_and_then decimal_value digits) (λ n. n < 2 ^ 32)
version_bound None = tt
version_bound (Some digits) =
    by_result (decimal_value digits) refl
  where
    by_result : (r : Option ℕ) → decimal_value digits ≡ r → IfSome r (λ n. n < 2 ^ 32)
    by_result None is = tt
    by_result (Some n) is = (found (2 ^ 32) digits n is).below

pairs_are : (text : Option (List ℕ)) → fault_of text_fault text ≡ None → list_all is_pair (pairs_of text) ≡ true
pairs_are None h = refl
pairs_are (Some s) h = pairs_valid s h

pub text_bound : (s : List ℕ) → text_fault s ≡ None → length s ≤ 127
text_bound [] h = omega arith
text_bound (b ∷ s) h =
    let short = unless_none (nat_le (length (b ∷ s)) 127) ParamsMaxExceeded
    (first_none (unless (nat_le (length (b ∷ s)) 127) ParamsMaxExceeded) (map_faults (b ∷ s)) h).0 in
    grind (arith, nat_tests, short)
  where
    map_faults : List ℕ → List (Option Error)
    map_faults t = map pair_fault (cut_pairs t)

params_bound : (text : Option (List ℕ)) → fault_of text_fault text ≡ None → length (pairs_text (pairs_of text)) ≤ 127
params_bound None h = omega arith
params_bound (Some s) h = rw (pairs_text-text_pairs s h) (text_bound s h)

salt_bounds : (q b : List ℕ) → decoding q ≡ Some b → salt_fault q ≡ None
    → EachBelow 256 b × (8 ≤ length b) × (length b ≤ 48)
salt_bounds q b is h =
    let good = good_salt q h in
    let size : length q ≡ (4 * length b + 2) / 3 = length-decodable base64_unpadded q b refl is in
    ((decoding-Some base64_unpadded q b is).0, omega (arith, good.least, size), omega (arith, good.most, size))

salt_case : (q : List ℕ) (r : Option (List ℕ)) → decoding q ≡ r → salt_fault q ≡ None
    → IfSome r (λ b. EachBelow 256 b × (8 ≤ length b) × (length b ≤ 48))
salt_case q None is h = tt
salt_case q (Some b) is h = salt_bounds q b is h

salt_valid : (piece : Option (List ℕ)) → fault_of salt_fault piece ≡ None
    → IfSome (option_and_then decoding piece) (λ b. EachBelow 256 b × (8 ≤ length b) × (length b ≤ 48))
salt_valid None h = tt
salt_valid (Some q) h = salt_case q (decoding q) refl h

hash_bounds : (q b : List ℕ) → decoding q ≡ Some b → hash_fault q ≡ None
    → EachBelow 256 b × (10 ≤ length b) × (length b ≤ 64)
hash_bounds q b is h =
    let good = good_hash q h in
    let long : nat_le 10 (length b) ≡ true = ap (λ (o : Option (List ℕ)). nat_le 10 (length (unwrap_or o []))) (sym is)
    ∙ good.least in
    let least : 10 ≤ length b = grind (arith, nat_tests, long) in
    let size : length q ≡ (4 * length b + 2) / 3 = length-decodable base64_unpadded q b refl is in
    ((decoding-Some base64_unpadded q b is).0, least, omega (arith, good.most, size))

hash_case : (q : List ℕ) (r : Option (List ℕ)) → decoding q ≡ r → hash_fault q ≡ None
    → IfSome r (λ b. EachBelow 256 b × (10 ≤ length b) × (length b ≤ 64))
hash_case q None is h = tt
hash_case q (Some b) is h = hash_bounds q b is h

hash_valid : (piece : Option (List ℕ)) → fault_of hash_fault piece ≡ None
    → IfSome (option_and_then decoding piece) (λ b. EachBelow 256 b × (10 ≤ length b) × (length b ≤ 64))
hash_valid None h = tt
hash_valid (Some q) h = hash_case q (decoding q) refl h

-- ---- the whole

-- a printable record of valid parts
pub record IsRead (r : PasswordHash) : Type 0 where
  pub valid : IsRecord r
  pub printable : is_printable r ≡ true

two_tests : (a b : Bool) → a ≡ false → b ≡ false → (not a && not b) ≡ true
two_tests a b ea eb = rw (ea, eb) refl

read_layout : (id : List ℕ) (pieces : List (List ℕ)) → fault_of_layout id (layout pieces) ≡ None
    → IsRead (record_of_layout id (layout pieces))
read_layout id pieces h =
    let version = read_first version_digits pieces in
    let after_version = pieces_behind version pieces in
    let params = read_first params_text after_version in
    let after_params = pieces_behind params after_version in
    let good = good_parts id (layout pieces) h in
    record {
      valid = record {
        algorithm = good.name;
        version = version_bound version;
        pairs = pairs_are params good.params;
        params = params_bound params good.params;
        salt = salt_valid (first after_params) good.salt;
        hash = hash_valid (first (drop 1 after_params)) good.hash;
      };
      printable = two_tests _ _ (hash_behind_salt after_params good.salt) (no_lone_v pieces good.version good.params);
    }

accepted : (id : List ℕ) (pieces : List (List ℕ)) (r : PasswordHash) → phc id pieces ≡ Ok r → IsRead r
unfolding phc
accepted id pieces r h =
    let is = value_found (record_of_layout id (layout pieces)) r (fault_of_layout id (layout pieces)) h in
    rw (← is.1) (read_layout id pieces is.0)

of_pieces : (pieces : List (List ℕ)) (r : PasswordHash) → phc_of_pieces pieces ≡ Ok r → IsRead r
of_pieces [] r h = absurd (err_ok MissingField r h)
of_pieces ([] ∷ []) r h = absurd (err_ok MissingField r h)
of_pieces ([] ∷ id ∷ pieces) r h = accepted id pieces r h
of_pieces ((b ∷ front) ∷ others) r h = absurd (err_ok MissingField r h)

-- a record that is read has valid parts and is printable
pub read_is : (s : List ℕ) (r : PasswordHash) → phc_text s ≡ Ok r → IsRead r
unfolding phc_text
read_is s r h = of_pieces (pieces_at 36 s) r h

-- ---- what the types of the parts promise

pub bytes_told : (n m : ℕ) (o : Option (List ℕ)) (s b : List ℕ) → o ≡ Some s → b ≡ s → EachBelow 256 b → n ≤ length b
    → length b ≤ m
    → IfSome o (λ b. EachBelow 256 b × (n ≤ length b) × (length b ≤ m))
bytes_told n m o s b is same small least most = rw (is, ← same) (small, least, most)
