-- A printable record is read back from its text, and every record that is read is printable.
use Rattle.std.proofs.Common.{◌≡◌, ◌≢◌, ℕ, zero, suc, ◌^◌, ◌<◌, ◌≤◌, Bool, true, false, List, [], ◌∷◌}
use Rattle.std.proofs.Common.{◌++◌, length, drop, refl, sym, ap, ◌∙◌, arith, append_assoc, Ok}
use Rattle.std.specs.Prelude.{◌==◌, ◌&&◌, ◌||◌, not, nat_eq, nat_le, nat_lt, Option, Some, None, IfSome, is_some}
use Rattle.std.specs.Prelude.{is_none, codes, if◌then◌else◌}
use Rattle.std.specs.Option.{option_and_then, option_map}
use Rattle.std.specs.Fmt.{decimal, digits}
use Rattle.std.specs.List.{list_all, starts_with}
use Rattle.std.specs.Char.{is_ascii_digit}
use Rattle.std.specs.Cmp.Lexicographic.{pointwise}
use Rattle.std.proofs.lemmas.List.{append-nil}
use Rattle.std.proofs.lemmas.Fmt.{decimal_nonempty, digits_value-decimal, first_decimal, length-decimal-le}
use Rattle.std.proofs.lemmas.Bool.{and_parts, false≢true}
use Rattle.std.proofs.lemmas.Bool.Decides.{nat_tests}
use Rattle.pieces.specs.Pieces.{EachLacks, first, pieces_at}
use Rattle.pieces.proofs.Cuts.{cut_in_front, cut_joined}
use Rattle.base64ct.specs.Alphabets.{base64_unpadded}
use Rattle.base64ct.specs.Encoding.{EachBelow}
use Rattle.base64ct.proofs.DecodingLaws.{decoding-encoding}
use Rattle.phc.specs.Encoded.{decoding, encoding}
use Rattle.phc.specs.Grammar.{Layout, pieces_behind, decimal_value, fault_of, fault_of_layout, read_first, has_byte}
use Rattle.phc.specs.Grammar.{hash_fault, is_name, is_value_byte, layout}
use Rattle.pieces.specs.Characters.{is_name_byte}
use Rattle.pieces.proofs.PlainNumbers.{decimal_read}
use Rattle.phc.specs.Grammar.{pairs_of, params_text, salt_fault, text_fault, version_digits}
use Rattle.pieces.specs.Faults.{value_or_fault}
use Rattle.pieces.proofs.ListLaws.{no_leading_zero}
use Rattle.phc.specs.Grammar.{version_fault}
use Rattle.phc.specs.Params.{Pairs, pair_text, pairs_text}
use Rattle.phc.specs.Record.{IsRecord, bytes_part, hash_part, is_lone_v, is_pair, is_printable, params_part, phc}
use Rattle.phc.specs.Record.{phc_of_pieces, phc_text, record_of_layout, record_text, version_part}
use Rattle.phc.specs.declared.password_hash.PasswordHash.{PasswordHash}
use Rattle.phc.proofs.Characters.{all_append, all_weaker, decimal_digits, encoding_value, has_none, lacks, name_bytes}
use Rattle.phc.proofs.PairTexts.{is_pair_byte, pair_bytes, pair_parts, valid_pairs}
use Rattle.phc.proofs.Printed.{join_shown, shown}
use Rattle.phc.proofs.EncodedBytes.{encoded_length}

-- ---- the pieces of a record

abbrev version_pieces : Option ℕ → List (List ℕ)
version_pieces None = []
version_pieces (Some n) = (codes "v=" ++ decimal n) ∷ []

abbrev params_pieces : Pairs → List (List ℕ)
params_pieces [] = []
params_pieces (p ∷ ps) = pairs_text (p ∷ ps) ∷ []

abbrev bytes_pieces : Option (List ℕ) → List (List ℕ)
bytes_pieces None = []
bytes_pieces (Some b) = encoding b ∷ []

abbrev hash_pieces : Option (List ℕ) → Option (List ℕ) → List (List ℕ)
hash_pieces None hash = []
hash_pieces (Some salt) hash = bytes_pieces hash

shown_append : (ps qs : List (List ℕ)) → shown (ps ++ qs) ≡ shown ps ++ shown qs
shown_append [] qs = refl
shown_append (p ∷ ps) qs = ap (λ (t : List ℕ). 36 ∷ (p ++ t)) (shown_append ps qs)
    ∙ ap (λ (t : List ℕ). 36 ∷ t) (sym (append_assoc p (shown ps) (shown qs)))

version_shown : (version : Option ℕ) → version_part version ≡ shown (version_pieces version)
version_shown None = refl
version_shown (Some n) = ap (λ (t : List ℕ). 36 ∷ t) (sym (append-nil (codes "v=" ++ decimal n)))

params_shown : (ps : Pairs) → params_part ps ≡ shown (params_pieces ps)
params_shown [] = refl
params_shown (p ∷ ps) = ap (λ (t : List ℕ). 36 ∷ t) (sym (append-nil (pairs_text (p ∷ ps))))

bytes_shown : (b : Option (List ℕ)) → bytes_part b ≡ shown (bytes_pieces b)
bytes_shown None = refl
bytes_shown (Some b) = ap (λ (t : List ℕ). 36 ∷ t) (sym (append-nil (encoding b)))

hash_shown : (salt hash : Option (List ℕ)) → hash_part salt hash ≡ shown (hash_pieces salt hash)
hash_shown None hash = refl
hash_shown (Some salt) hash = bytes_shown hash

abbrev pieces_of : PasswordHash → List (List ℕ)
pieces_of r = version_pieces r.version ++ (params_pieces r.params ++ (bytes_pieces r.salt ++ hash_pieces r.salt r.hash))

four : (front v p s h : List ℕ) (vq pq sq hq : List (List ℕ)) → v ≡ shown vq → p ≡ shown pq → s ≡ shown sq
    → h ≡ shown hq
    → (((front ++ v) ++ p) ++ s) ++ h ≡ front ++ shown (vq ++ (pq ++ (sq ++ hq)))
four front v p s h vq pq sq hq ev ep es eh =
    rw (ev, ep, es, eh, shown_append vq (pq ++ (sq ++ hq)), shown_append pq (sq ++ hq), shown_append sq hq)
    (append_assoc ((front ++ shown vq) ++ shown pq) (shown sq) (shown hq)
    ∙ append_assoc (front ++ shown vq) (shown pq) (shown sq ++ shown hq)
    ∙ append_assoc front (shown vq) (shown pq ++ (shown sq ++ shown hq)))

-- the text of a record is its identifier and its pieces
text_of_pieces : (r : PasswordHash) → record_text r ≡ 36 ∷ (r.algorithm ++ shown (pieces_of r))
unfolding record_text
text_of_pieces r =
    four (36 ∷ r.algorithm) (version_part r.version) (params_part r.params) (bytes_part r.salt)
    (hash_part r.salt r.hash)
    (version_pieces r.version) (params_pieces r.params) (bytes_pieces r.salt) (hash_pieces r.salt r.hash)
    (version_shown r.version) (params_shown r.params) (bytes_shown r.salt) (hash_shown r.salt r.hash)

-- ---- no piece has a `$`

abbrev is_version_byte : ℕ → Bool
is_version_byte b = is_ascii_digit b || (b == 118 || b == 61)

digit_in_version : (b : ℕ) → is_ascii_digit b ≡ true → is_version_byte b ≡ true
digit_in_version b h = rw h refl

version_bytes : (n : ℕ) → n < 2 ^ 32 → list_all is_version_byte (codes "v=" ++ decimal n) ≡ true
version_bytes n h = all_weaker is_ascii_digit is_version_byte digit_in_version (decimal n) (decimal_digits n h)

abbrev is_params_byte : ℕ → Bool
is_params_byte b = is_pair_byte b || b == 44

in_params : (b : ℕ) → is_pair_byte b ≡ true → is_params_byte b ≡ true
in_params b h = rw h refl

pair_in_params : (p : List ℕ × List ℕ) → is_pair p ≡ true → list_all is_params_byte (pair_text p) ≡ true
pair_in_params p h = all_weaker is_pair_byte is_params_byte in_params (pair_text p) (pair_bytes p h)

params_bytes : (p : List ℕ × List ℕ) (ps : Pairs) → list_all is_pair (p ∷ ps) ≡ true
    → list_all is_params_byte (pairs_text (p ∷ ps)) ≡ true
params_bytes p [] h = pair_in_params p (and_parts (is_pair p) true h).0
params_bytes p (q ∷ ps) h =
    let parts = and_parts (is_pair p) (list_all is_pair (q ∷ ps)) h in
    all_append is_params_byte (pair_text p) (44 ∷ pairs_text (q ∷ ps)) (pair_in_params p parts.0)
    (params_bytes q ps parts.1)

append_lacks : (ps qs : List (List ℕ)) → EachLacks 36 ps → EachLacks 36 qs → EachLacks 36 (ps ++ qs)
append_lacks [] qs hp hq = hq
append_lacks (p ∷ ps) qs hp hq = (hp.0, append_lacks ps qs hp.1 hq)

version_lacks : (version : Option ℕ) → IfSome version (λ n. n < 2 ^ 32) → EachLacks 36 (version_pieces version)
version_lacks None h = tt
version_lacks (Some n) h = (lacks is_version_byte 36 refl (codes "v=" ++ decimal n) (version_bytes n h), tt)

params_lacks : (ps : Pairs) → list_all is_pair ps ≡ true → EachLacks 36 (params_pieces ps)
params_lacks [] h = tt
params_lacks (p ∷ ps) h = (lacks is_params_byte 36 refl (pairs_text (p ∷ ps)) (params_bytes p ps h), tt)

bytes_lacks : (b : Option (List ℕ)) → IfSome b (λ b. EachBelow 256 b) → EachLacks 36 (bytes_pieces b)
bytes_lacks None h = tt
bytes_lacks (Some b) h = (lacks is_value_byte 36 refl (encoding b) (encoding_value b h), tt)

hash_lacks : (salt hash : Option (List ℕ)) → IfSome hash (λ b. EachBelow 256 b) → EachLacks 36 (hash_pieces salt hash)
hash_lacks None hash h = tt
hash_lacks (Some salt) hash h = bytes_lacks hash h

-- ---- the version

pair_start : (name value : List ℕ) → is_name name ≡ true → pointwise nat_eq name (codes "v") ≡ false
    → starts_with nat_eq (name ++ 61 ∷ value) (codes "v=") ≡ false
pair_start [] value name other = refl
pair_start (b ∷ []) value name other = let differ : (b == 118) ≡ false = grind (arith, nat_tests, other) in
    grind (arith, nat_tests, differ)
pair_start (b ∷ (c ∷ name)) value h other =
    let bytes = and_parts (is_name_byte b) (list_all is_name_byte (c ∷ name)) (name_bytes (b ∷ (c ∷ name)) h) in
    let byte = (and_parts (is_name_byte c) (list_all is_name_byte name) bytes.1).0 in
    second b c (name ++ 61 ∷ value) (other_byte c byte)
  where
    other_byte : (c : ℕ) → is_name_byte c ≡ true → c ≢ 61
    other_byte c h = λ same. false≢true (ap is_name_byte (sym same) ∙ h)

    second : (b c : ℕ) (s : List ℕ) → c ≢ 61 → starts_with nat_eq (b ∷ (c ∷ s)) (codes "v=") ≡ false
    second b c s other = grind (arith, nat_tests, other)

or_true : (x y : Bool) → y ≡ true → (x || y) ≡ true
or_true true y h = refl
or_true false y h = h

has_cut : (c : ℕ) (s t : List ℕ) → has_byte c (s ++ c ∷ t) ≡ true
has_cut c [] t = let same : (c == c) ≡ true = grind (arith, nat_tests) in rw same refl
has_cut c (b ∷ s) t = or_true (b == c) (has_byte c (s ++ c ∷ t)) (has_cut c s t)

-- parameters are no version, but for one single pair named `v`
params_no_version : (p : List ℕ × List ℕ) (ps : Pairs) → list_all is_pair (p ∷ ps) ≡ true → is_lone_v (p ∷ ps) ≡ false
    → version_digits (pairs_text (p ∷ ps)) ≡ None
params_no_version p [] h lone = by_test (has_byte 44 (pair_text p))
  where
    name : is_name p.0 ≡ true
    name = (pair_parts p.0 p.1 (and_parts (is_pair p) true h).0).0

    by_test : (test : Bool)
        → (if test then None else
        (if starts_with nat_eq (pair_text p) (codes "v=") then Some (drop 2 (pair_text p)) else None)) ≡ None
    by_test true = refl
    by_test false = rw (pair_start p.0 p.1 name lone) refl
params_no_version p (q ∷ ps) h lone = rw (has_cut 44 (pair_text p) (pairs_text (q ∷ ps))) refl

value_start : (s : List ℕ) → list_all is_value_byte s ≡ true → starts_with nat_eq s (codes "v=") ≡ false
value_start [] h = refl
value_start (b ∷ []) h = grind (arith, nat_tests)
value_start (b ∷ (c ∷ s)) h =
    let rest = (and_parts (is_value_byte b) (list_all is_value_byte (c ∷ s)) h).1 in
    second (other_byte (and_parts (is_value_byte c) (list_all is_value_byte s) rest).0)
  where
    other_byte : is_value_byte c ≡ true → c ≢ 61
    other_byte h = λ same. false≢true (ap is_value_byte (sym same) ∙ h)

    second : c ≢ 61 → starts_with nat_eq (b ∷ (c ∷ s)) (codes "v=") ≡ false
    second other = grind (arith, nat_tests, other)

value_no_version : (s : List ℕ) → list_all is_value_byte s ≡ true → version_digits s ≡ None
value_no_version s h = rw (has_none is_value_byte 44 refl s h, value_start s h) refl

no_version : (ps : Pairs) (salt hash : Option (List ℕ)) → list_all is_pair ps ≡ true → is_lone_v ps ≡ false
    → IfSome salt (λ b. EachBelow 256 b)
    → read_first version_digits (params_pieces ps ++ (bytes_pieces salt ++ hash_pieces salt hash)) ≡ None
no_version [] None hash h lone below = refl
no_version [] (Some b) hash h lone below = value_no_version (encoding b) (encoding_value b below)
no_version (p ∷ ps) salt hash h lone below = params_no_version p ps h lone

version_first : (version : Option ℕ) (more : List (List ℕ)) → IfSome version (λ n. n < 2 ^ 32)
    → (version ≡ None → read_first version_digits more ≡ None)
    → read_first version_digits (version_pieces version ++ more) ≡ option_map decimal version
version_first None more h none = none refl
version_first (Some n) more h none =
    rw (has_none is_version_byte 44 refl (codes "v=" ++ decimal n) (version_bytes n h)) refl

version_behind : (version : Option ℕ) (more : List (List ℕ))
    → pieces_behind (option_map decimal version) (version_pieces version ++ more) ≡ more
version_behind None more = refl
version_behind (Some n) more = refl

-- ---- the parameters

abbrev params_piece : Pairs → Option (List ℕ)
params_piece [] = None
params_piece (p ∷ ps) = Some (pairs_text (p ∷ ps))

or_more : (x y z : Bool) → (y ≡ true → z ≡ true) → (x || y) ≡ true → (x || z) ≡ true
or_more true y z more h = refl
or_more false y z more h = more h

has_more : (c : ℕ) (s t : List ℕ) → has_byte c s ≡ true → has_byte c (s ++ t) ≡ true
has_more c [] t h = absurd (false≢true h)
has_more c (b ∷ s) t h = or_more (b == c) (has_byte c s) (has_byte c (s ++ t)) (has_more c s t) h

has_equals : (p : List ℕ × List ℕ) (ps : Pairs) → has_byte 61 (pairs_text (p ∷ ps)) ≡ true
has_equals p [] = has_cut 61 p.0 p.1
has_equals p (q ∷ ps) = has_more 61 (pair_text p) (44 ∷ pairs_text (q ∷ ps)) (has_cut 61 p.0 p.1)

params_first : (ps : Pairs) (salt hash : Option (List ℕ)) → IfSome salt (λ b. EachBelow 256 b)
    → read_first params_text (params_pieces ps ++ (bytes_pieces salt ++ hash_pieces salt hash)) ≡ params_piece ps
params_first [] None hash below = refl
params_first [] (Some b) hash below = rw (has_none is_value_byte 61 refl (encoding b) (encoding_value b below)) refl
params_first (p ∷ ps) salt hash below = rw (has_equals p ps) refl

params_behind : (ps : Pairs) (more : List (List ℕ)) → pieces_behind (params_piece ps) (params_pieces ps ++ more) ≡ more
params_behind [] more = refl
params_behind (p ∷ ps) more = refl

-- ---- salt and hash

salt_first : (salt hash : Option (List ℕ))
    → first (bytes_pieces salt ++ hash_pieces salt hash) ≡ option_map encoding salt
salt_first None hash = refl
salt_first (Some b) hash = refl

hash_next : (salt hash : Option (List ℕ)) → (is_some hash && is_none salt) ≡ false
    → first (drop 1 (bytes_pieces salt ++ hash_pieces salt hash)) ≡ option_map encoding hash
hash_next None None h = refl
hash_next None (Some x) h = absurd (false≢true (sym h))
hash_next (Some b) None h = refl
hash_next (Some b) (Some x) h = refl

nothing_behind : (salt hash : Option (List ℕ)) → drop 1 (drop 1 (bytes_pieces salt ++ hash_pieces salt hash)) ≡ []
nothing_behind None hash = refl
nothing_behind (Some b) None = refl
nothing_behind (Some b) (Some x) = refl

-- ---- the layout

layout_is : (pieces after_version after_params : List (List ℕ)) (version params salt hash : Option (List ℕ))
    → read_first version_digits pieces ≡ version → pieces_behind version pieces ≡ after_version
    → read_first params_text after_version ≡ params → pieces_behind params after_version ≡ after_params
    → first after_params ≡ salt → first (drop 1 after_params) ≡ hash → drop 1 (drop 1 after_params) ≡ []
    → layout pieces ≡ record { version = version; params = params; salt = salt; hash = hash; rest = [] }
layout_is pieces after_version after_params version params salt hash e1 e2 e3 e4 e5 e6 e7 =
    rw (e1, e2, e3, e4, e5, e6, e7) refl

abbrev layout_of : PasswordHash → Layout
layout_of r = record {
  version = option_map decimal r.version;
  params = params_piece r.params;
  salt = option_map encoding r.salt;
  hash = option_map encoding r.hash;
  rest = [];
}

printable_parts : (a b c d : Bool) → (not (a && b) && not (c && d)) ≡ true → ((a && b) ≡ false) × (c ≡ true → d ≡ false)
printable_parts false b false d h = (refl, λ e. absurd (false≢true e))
printable_parts false b true false h = (refl, λ e. refl)
printable_parts false b true true h = absurd (false≢true h)
printable_parts true false false d h = (refl, λ e. absurd (false≢true e))
printable_parts true false true false h = (refl, λ e. refl)
printable_parts true false true true h = absurd (false≢true h)
printable_parts true true c d h = absurd (false≢true h)

some_below : (n m : ℕ) (o : Option (List ℕ)) → IfSome o (λ b. EachBelow 256 b × (n ≤ length b) × (length b ≤ m))
    → IfSome o (λ b. EachBelow 256 b)
some_below n m None h = tt
some_below n m (Some b) h = h.0

layout_of_printed : (r : PasswordHash) → IsRecord r → is_printable r ≡ true → layout (pieces_of r) ≡ layout_of r
layout_of_printed r valid printable =
    let parts = printable_parts (is_some r.hash) (is_none r.salt) (is_none r.version) (is_lone_v r.params) printable in
    let below = some_below 8 48 r.salt valid.salt in
    layout_is (pieces_of r) (params_pieces r.params ++ (bytes_pieces r.salt ++ hash_pieces r.salt r.hash))
    (bytes_pieces r.salt ++ hash_pieces r.salt r.hash)
    (option_map decimal r.version) (params_piece r.params) (option_map encoding r.salt) (option_map encoding r.hash)
    (version_first r.version (params_pieces r.params ++ (bytes_pieces r.salt ++ hash_pieces r.salt r.hash))
    valid.version
    (λ none. no_version r.params r.salt r.hash valid.pairs (parts.1 (ap is_none none)) below))
    (version_behind r.version (params_pieces r.params ++ (bytes_pieces r.salt ++ hash_pieces r.salt r.hash)))
    (params_first r.params r.salt r.hash below)
    (params_behind r.params (bytes_pieces r.salt ++ hash_pieces r.salt r.hash))
    (salt_first r.salt r.hash) (hash_next r.salt r.hash parts.0) (nothing_behind r.salt r.hash)

-- ---- what the parts are read as

version_none : (version : Option ℕ) → IfSome version (λ n. n < 2 ^ 32)
    → fault_of version_fault (option_map decimal version) ≡ None
version_none None h = refl
version_none (Some n) h =
    let bounds : length (decimal n) ≤ 10 = length-decimal-le 10 n (omega arith) (omega (arith, h)) (omega (arith, h)) in
    let short : nat_le (length (decimal n)) 64 ≡ true = grind (arith, nat_tests, bounds) in
    rw (short, decimal_read (2 ^ 32) n (omega arith) h) refl

version_read : (version : Option ℕ) → IfSome version (λ n. n < 2 ^ 32)
    → option_and_then decimal_value (option_map decimal version) ≡ version
version_read None h = refl
version_read (Some n) h = decimal_read (2 ^ 32) n (omega arith) h

params_none : (ps : Pairs) → list_all is_pair ps ≡ true → length (pairs_text ps) ≤ 127
    → fault_of text_fault (params_piece ps) ≡ None
params_none [] h short = refl
params_none (p ∷ ps) h short = (valid_pairs (p ∷ ps) h short).0

params_read : (ps : Pairs) → list_all is_pair ps ≡ true → length (pairs_text ps) ≤ 127 → pairs_of (params_piece ps) ≡ ps
params_read [] h short = refl
params_read (p ∷ ps) h short = (valid_pairs (p ∷ ps) h short).1

bytes_read : (b : List ℕ) → EachBelow 256 b → decoding (encoding b) ≡ Some b
bytes_read b below = decoding-encoding base64_unpadded b refl below

salt_none : (salt : Option (List ℕ)) → IfSome salt (λ b. EachBelow 256 b × (8 ≤ length b) × (length b ≤ 48))
    → fault_of salt_fault (option_map encoding salt) ≡ None
salt_none None h = refl
salt_none (Some b) h =
    let long : 11 ≤ length (encoding b) = omega (arith, encoded_length b h.0, h.1) in
    let short : length (encoding b) ≤ 64 = omega (arith, encoded_length b h.0, h.2) in
    let one : nat_le 11 (length (encoding b)) ≡ true = grind (arith, nat_tests, long) in
    let two : nat_le (length (encoding b)) 64 ≡ true = grind (arith, nat_tests, short) in
    rw (one, two, bytes_read b h.0) refl

hash_none : (hash : Option (List ℕ)) → IfSome hash (λ b. EachBelow 256 b × (10 ≤ length b) × (length b ≤ 64))
    → fault_of hash_fault (option_map encoding hash) ≡ None
hash_none None h = refl
hash_none (Some b) h =
    let short : length (encoding b) ≤ 86 = omega (arith, encoded_length b h.0, h.2) in
    let one : nat_le (length (encoding b)) 86 ≡ true = grind (arith, nat_tests, short) in
    let long : nat_le 10 (length b) ≡ true = grind (arith, nat_tests, h.1) in
    rw (one, bytes_read b h.0, long) refl

field_read : (n m : ℕ) (b : Option (List ℕ)) → IfSome b (λ b. EachBelow 256 b × (n ≤ length b) × (length b ≤ m))
    → option_and_then decoding (option_map encoding b) ≡ b
field_read n m None h = refl
field_read n m (Some b) h = bytes_read b h.0

-- ---- the whole

no_fault : (r : PasswordHash) → IsRecord r → fault_of_layout r.algorithm (layout_of r) ≡ None
no_fault r valid =
    rw (
      valid.algorithm,
      version_none r.version valid.version,
      params_none r.params valid.pairs valid.params,
      salt_none r.salt valid.salt,
      hash_none r.hash valid.hash,
    ) refl

same_record : (r : PasswordHash) → IsRecord r → record_of_layout r.algorithm (layout_of r) ≡ r
same_record r valid =
    rw (
      version_read r.version valid.version,
      params_read r.params valid.pairs valid.params,
      field_read 8 48 r.salt valid.salt,
      field_read 10 64 r.hash valid.hash,
    ) refl

pieces_of_printed : (r : PasswordHash) → IsRecord r → pieces_at 36 (record_text r) ≡ [] ∷ (r.algorithm ∷ pieces_of r)
pieces_of_printed r valid =
    let lack = append_lacks (version_pieces r.version)
    (params_pieces r.params ++ (bytes_pieces r.salt ++ hash_pieces r.salt r.hash))
    (version_lacks r.version valid.version)
    (append_lacks (params_pieces r.params) (bytes_pieces r.salt ++ hash_pieces r.salt r.hash)
    (params_lacks r.params valid.pairs)
    (append_lacks (bytes_pieces r.salt) (hash_pieces r.salt r.hash)
    (bytes_lacks r.salt (some_below 8 48 r.salt valid.salt))
    (hash_lacks r.salt r.hash (some_below 10 64 r.hash valid.hash)))) in
    ap (pieces_at 36) (text_of_pieces r)
    ∙ cut_in_front 36 (r.algorithm ++ shown (pieces_of r))
    ∙ ap (λ (t : List ℕ). [] ∷ pieces_at 36 t) (sym (join_shown r.algorithm (pieces_of r)))
    ∙ ap (λ (ps : List (List ℕ)). [] ∷ ps)
    (cut_joined 36 r.algorithm (pieces_of r)
    (lacks is_name_byte 36 refl r.algorithm (name_bytes r.algorithm valid.algorithm)) lack)

read_of_pieces : (r : PasswordHash) → IsRecord r → is_printable r ≡ true → phc r.algorithm (pieces_of r) ≡ Ok r
unfolding phc
read_of_pieces r valid printable =
    ap (λ (l : Layout). value_or_fault (record_of_layout r.algorithm l) (fault_of_layout r.algorithm l))
    (layout_of_printed r valid printable)
    ∙ ap (value_or_fault (record_of_layout r.algorithm (layout_of r))) (no_fault r valid) ∙ ap Ok (same_record r valid)

-- a printable record is read back from its text
pub parses_back : (r : PasswordHash) → IsRecord r → is_printable r ≡ true → phc_text (record_text r) ≡ Ok r
unfolding phc_text
parses_back r valid printable = ap phc_of_pieces (pieces_of_printed r valid) ∙ read_of_pieces r valid printable
