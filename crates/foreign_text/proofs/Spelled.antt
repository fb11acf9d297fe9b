-- What Django, Werkzeug, OpenLDAP and passlib write is converted to the text of the record, or of the digest and its salt.
use Rattle.std.proofs.Common.{◌≡◌, ℕ, zero, suc, ◌+◌, ◌-◌, ◌*◌, ◌%◌, ◌/◌, ◌^◌, ◌<◌, ◌≤◌, Bool, true, false, List, [], ◌∷◌, ◌++◌, length, map}
use Rattle.std.proofs.Common.{refl, sym, ap, ◌∙◌, arith, Ok}
use Rattle.std.specs.Prelude.{◌==◌, not, replicate, Some, None, codes, take, drop, nat_eq, nat_le, nat_lt}
use Rattle.std.specs.Cmp.Lexicographic.{pointwise}
use Rattle.std.specs.List.{ends_with}
use Rattle.std.proofs.lemmas.Bool.Decides.{nat_tests}
use Rattle.std.specs.Char.{is_ascii_digit}
use Rattle.std.specs.Fmt.{decimal}
use Rattle.std.specs.List.{list_all}
use Rattle.std.proofs.lemmas.Bool.{and_parts}
use Rattle.std.proofs.lemmas.Fmt.{decimal_nonempty}
use Rattle.std.proofs.lemmas.List.{length-append}
use Rattle.std.proofs.lemmas.Option.{none-some, same_Some}
use Rattle.std.proofs.Math.Seq.{drop-append_seam, take-append_seam}
use Rattle.pieces.specs.Pieces.{begins, LacksByte, pieces_at}
use Rattle.pieces.proofs.ByteTests.{all_append, all_weaker, lacks, passes_at}
use Rattle.pieces.proofs.Cuts.{first_cut, one_piece}
use Rattle.pieces.proofs.PlainNumbers.{decimal_read}
use Rattle.base64ct.specs.Alphabets.{base64, base64_pbkdf2}
use Rattle.base64ct.specs.Encoding.{Alphabet, EachBelow, character, encoding, groups, is_alphabet, padding}
use Rattle.base64ct.proofs.DecodingLaws.{decoding-encoding}
use Rattle.base64ct.proofs.Encodings.{groups-below}
use Rattle.base64ct.proofs.GoodBlocks.{below-append}
use Rattle.base64ct.proofs.Padding.{length-encoding, padding_count}
use Rattle.phc.specs.Grammar.{value_fault}
use Rattle.phc.proofs.Characters.{decimal_digits}
use Rattle.phc.proofs.ValueBytes.{decimal_length, value_from}
use Rattle.hex.specs.Hex.{encode_lower, encode_with, lower_digits}
use Rattle.hex.proofs.HexLemmas.{decode_of-encode_lower, length-encode_with}
use Rattle.foreign_text.specs.Converted.{converted}
use Rattle.foreign_text.specs.Django.{django, django_pbkdf2_fields}
use Rattle.salted_digest.specs.Digest.{digest_size}
use Rattle.salted_digest.specs.declared.hash.DigestHash.{DigestHash}
use Rattle.salted_digest.specs.declared.hash.DigestHash.TheVariants as digest
use Rattle.foreign_text.specs.Digests.{bare_field, digest_text, salted_field}
use Rattle.foreign_text.specs.Encoded.{either_fields, encoded_fields}
use Rattle.foreign_text.specs.Fields.{field_bytes, in_three, is_small_digit, number_of, small_hex, three_of}
use Rattle.foreign_text.specs.Laws.{AreHeld}
use Rattle.foreign_text.specs.Ldap.{ldap}
use Rattle.foreign_text.specs.Passlib.{begins_with_digit, passlib}
use Rattle.foreign_text.specs.Records.{made_text}
use Rattle.foreign_text.specs.Spellings.{bare_spelling, django_front, django_spelling, ldap_spelling, passlib_spelling, salted_spelling, three}
use Rattle.foreign_text.specs.Spellings.{werkzeug_hash, werkzeug_spelling}
use Rattle.foreign_text.specs.Werkzeug.{werkzeug, werkzeug_fields, werkzeug_method}
use Rattle.foreign_text.specs.declared.converted.Foreign.TheVariants.{Django, Ldap, Passlib, Werkzeug}
use Rattle.foreign_text.specs.declared.kdf.Kdf.TheVariants.{Pbkdf2}
use Rattle.foreign_text.specs.declared.kdf.Pbkdf2Hash.{Pbkdf2Hash}
use Rattle.foreign_text.specs.declared.kdf.Pbkdf2Hash.TheVariants.{Sha1, Sha256, Sha512}
use Rattle.foreign_text.proofs.Lengths.{key_held, salt_held, taken}
use Rattle.phc.proofs.ValueBytes.{values}

-- ---- no `$` in fields

abbrev no_dollar : ℕ → Bool
no_dollar b = not (b == 36)

repeated : (p : ℕ → Bool) (n b : ℕ) → p b ≡ true → list_all p (replicate n b) ≡ true
repeated p zero b h = refl
repeated p (suc n) b h = rw h (repeated p n b h)

padded : (p : ℕ → Bool) (t : Bool) (n : ℕ) → p 61 ≡ true → list_all p (padding t n) ≡ true
padded p true n h = repeated p ((4 - n % 4) % 4) 61 h
padded p false n h = refl

characters_pass : (p : ℕ → Bool) (a : Alphabet) (vs : List ℕ) → length a.characters ≡ 64
    → list_all p a.characters ≡ true → EachBelow 64 vs → list_all p (map (character a) vs) ≡ true
characters_pass p a [] size h below = refl
characters_pass p a (v ∷ vs) size h below =
    let here : v < length a.characters = omega (arith, size, below 0) in
    rw (passes_at p a.characters v h here) (characters_pass p a vs size h (λ i. below (suc i)))

encoding_passes : (p : ℕ → Bool) (a : Alphabet) (b : List ℕ) → length a.characters ≡ 64 → list_all p a.characters ≡ true
    → p 61 ≡ true → EachBelow 256 b → list_all p (encoding a b) ≡ true
unfolding encoding
encoding_passes p a b size h equals below =
    let vs : List ℕ = groups a.low_first b in
    all_append p (map (character a) vs) (padding a.padded (length vs))
    (characters_pass p a vs size h (groups-below a.low_first b below)) (padded p a.padded (length vs) equals)

-- the same of an alphabet without padding, so that `=` needn't pass
unpadded_passes : (p : ℕ → Bool) (a : Alphabet) (b : List ℕ) → length a.characters ≡ 64 → list_all p a.characters ≡ true
    → a.padded ≡ false → EachBelow 256 b → list_all p (encoding a b) ≡ true
unfolding encoding
unpadded_passes p a b size h bare below =
    let vs : List ℕ = groups a.low_first b in
    let none : list_all p (padding a.padded (length vs)) ≡ true = rw bare refl in
    all_append p (map (character a) vs) (padding a.padded (length vs))
    (characters_pass p a vs size h (groups-below a.low_first b below)) none

encoding_lacks : (a : Alphabet) (b : List ℕ) → length a.characters ≡ 64 → list_all no_dollar a.characters ≡ true
    → EachBelow 256 b → LacksByte 36 (encoding a b)
encoding_lacks a b size h below = lacks no_dollar 36 refl (encoding a b) (encoding_passes no_dollar a b size h refl below)

decimal_lacks : (n : ℕ) → n < 2 ^ 32 → LacksByte 36 (decimal n)
decimal_lacks n small = lacks is_ascii_digit 36 refl (decimal n) (decimal_digits n small)

-- ---- three fields are cut again

three_cut : (a b c : List ℕ) → LacksByte 36 a → LacksByte 36 b → LacksByte 36 c
    → pieces_at 36 (three a b c) ≡ a ∷ (b ∷ (c ∷ []))
three_cut a b c la lb lc =
    first_cut 36 a (b ++ 36 ∷ c) la
    ∙ ap (λ (ps : List (List ℕ)). a ∷ ps) (first_cut 36 b c lb ∙ ap (λ (ps : List (List ℕ)). b ∷ ps) (one_piece 36 c lc))

-- ---- what they say

rounds_read : (n : ℕ) → n < 2 ^ 32 → number_of (decimal n) ≡ Some n
rounds_read n small =
    let valid : value_fault (decimal n) ≡ None =
    value_from (decimal n) (omega (arith, decimal_length n small)) (values n small) in
    rw valid (decimal_read (2 ^ 32) n (omega arith) small)

padding_small : (p : Bool) (n : ℕ) → padding_count p n ≤ 3
padding_small true n = omega arith
padding_small false n = omega arith

bytes_read : (a : Alphabet) (b : List ℕ) → is_alphabet a ≡ true → EachBelow 256 b → length b ≤ 64
    → field_bytes a (encoding a b) ≡ Some b
bytes_read a b lawful below few =
    let size = length-encoding a b below in
    let short : length (encoding a b) ≤ 128 = omega (arith, size, few, padding_small a.padded ((4 * length b + 2) / 3)) in
    taken a (encoding a b) b short (decoding-encoding a b lawful below)

-- ---- hexadecimal digits

encode_passes : (p : ℕ → Bool) (t xs : List ℕ) → list_all p t ≡ true → 16 ≤ length t → EachBelow 256 xs
    → list_all p (encode_with t xs) ≡ true
unfolding encode_with
encode_passes p t [] h size below = refl
encode_passes p t (b ∷ rest) h size below =
    let byte : b < 256 = below 0 in
    let high : b / 16 < length t = omega (arith, size, byte) in
    let low : b % 16 < length t = omega (arith, size) in
    rw (passes_at p t (b / 16) h high, passes_at p t (b % 16) h low)
    (encode_passes p t rest h size (λ i. below (suc i)))

digits_read : (b : List ℕ) → EachBelow 256 b → length b ≤ 64 → small_hex (encode_lower b) ≡ Some b
digits_read b below few =
    let size = length-encode_with lower_digits b in
    let fits : nat_le (length (encode_lower b)) 128 ≡ true = grind (arith, nat_tests, size, few) in
    rw (encode_passes is_small_digit lower_digits b refl (omega arith) below, fits, decode_of-encode_lower b below) refl

digits_lack : (b : List ℕ) → EachBelow 256 b → LacksByte 36 (encode_lower b)
digits_lack b below =
    lacks no_dollar 36 refl (encode_lower b) (encode_passes no_dollar lower_digits b refl (omega arith) below)

-- ---- a key without padding

abbrev no_equals : ℕ → Bool
no_equals b = not (b == 61)

all_drop : (p : ℕ → Bool) (n : ℕ) (s : List ℕ) → list_all p s ≡ true → list_all p (drop n s) ≡ true
all_drop p zero s h = h
all_drop p (suc n) [] h = refl
all_drop p (suc n) (b ∷ s) h = all_drop p n s (and_parts (p b) (list_all p s) h).1

no_end : (ys : List ℕ) → list_all no_equals ys ≡ true → pointwise nat_eq (61 ∷ []) ys ≡ false
no_end [] h = refl
no_end (y ∷ ys) h =
    let other = (and_parts (no_equals y) (list_all no_equals ys) h).0 in
    let test : nat_eq 61 y ≡ false = grind (arith, nat_tests, other) in
    rw test refl

unpadded_end : (key : List ℕ) → EachBelow 256 key → ends_with nat_eq (encoding base64_pbkdf2 key) (codes "=") ≡ false
unpadded_end key below =
    let t : List ℕ = encoding base64_pbkdf2 key in
    no_end (drop (length t - 1) t) (all_drop no_equals (length t - 1) t (unpadded_passes no_equals base64_pbkdf2 key refl refl refl below))

-- ---- the fields

module _ (rounds : ℕ) (salt key : List ℕ) where
  django_read : (hash : Pbkdf2Hash) → AreHeld (Pbkdf2 hash rounds) salt key → LacksByte 36 salt
      → in_three (django_pbkdf2_fields hash) (three_of (pieces_at 36 (three (decimal rounds) salt (encoding base64 key))))
      ≡ Ok (made_text (Pbkdf2 hash rounds) salt key)
  django_read hash held plain =
      let cut = three_cut (decimal rounds) salt (encoding base64 key) (decimal_lacks rounds held.cost_fits) plain
      (encoding_lacks base64 key refl refl held.key_bytes) in
      rw (
        cut,
        rounds_read rounds held.cost_fits,
        bytes_read base64 key refl held.key_bytes held.key_most,
        salt_held salt held.salt_least held.salt_most,
        key_held key held.key_least held.key_most,
      ) refl

  module _ (hash : Pbkdf2Hash) (held : AreHeld (Pbkdf2 hash rounds) salt key) where
    adapted_cut : pieces_at 36 (three (decimal rounds) (encoding base64_pbkdf2 salt) (encoding base64_pbkdf2 key))
        ≡ decimal rounds ∷ (encoding base64_pbkdf2 salt ∷ (encoding base64_pbkdf2 key ∷ []))
    adapted_cut =
        three_cut (decimal rounds) (encoding base64_pbkdf2 salt) (encoding base64_pbkdf2 key)
        (decimal_lacks rounds held.cost_fits) (encoding_lacks base64_pbkdf2 salt refl refl held.salt_bytes)
        (encoding_lacks base64_pbkdf2 key refl refl held.key_bytes)

    adapted_fields : encoded_fields base64_pbkdf2 hash (decimal rounds) (encoding base64_pbkdf2 salt) (encoding base64_pbkdf2 key)
        ≡ Ok (made_text (Pbkdf2 hash rounds) salt key)
    adapted_fields =
        let salt_few : length salt ≤ 64 = omega (arith, held.salt_most) in
        rw (
          rounds_read rounds held.cost_fits,
          bytes_read base64_pbkdf2 salt refl held.salt_bytes salt_few,
          bytes_read base64_pbkdf2 key refl held.key_bytes held.key_most,
          salt_held salt held.salt_least held.salt_most,
          key_held key held.key_least held.key_most,
        ) refl

    adapted_read : in_three (encoded_fields base64_pbkdf2 hash) (three_of (pieces_at 36 (three (decimal rounds)
        (encoding base64_pbkdf2 salt) (encoding base64_pbkdf2 key))))
        ≡ Ok (made_text (Pbkdf2 hash rounds) salt key)
    adapted_read =
        ap (λ (ps : List (List ℕ)). in_three (encoded_fields base64_pbkdf2 hash) (three_of ps)) adapted_cut ∙ adapted_fields

    either_read : in_three (either_fields hash) (three_of (pieces_at 36 (three (decimal rounds)
        (encoding base64_pbkdf2 salt) (encoding base64_pbkdf2 key))))
        ≡ Ok (made_text (Pbkdf2 hash rounds) salt key)
    either_read =
        ap (λ (ps : List (List ℕ)). in_three (either_fields hash) (three_of ps)) adapted_cut
        ∙ rw (unpadded_end key held.key_bytes) adapted_fields

    werkzeug_read : LacksByte 36 salt → LacksByte 36 (werkzeug_hash hash ++ decimal rounds)
        → werkzeug_method (werkzeug_hash hash ++ decimal rounds) ≡ Ok (Pbkdf2 hash rounds)
        → in_three werkzeug_fields (three_of (pieces_at 36 (werkzeug_spelling hash rounds salt key)))
        ≡ Ok (made_text (Pbkdf2 hash rounds) salt key)
    werkzeug_read plain front method =
        let cut = three_cut (werkzeug_hash hash ++ decimal rounds) salt (encode_lower key) front plain
        (digits_lack key held.key_bytes) in
        rw (
          cut,
          method,
          digits_read key held.key_bytes held.key_most,
          salt_held salt held.salt_least held.salt_most,
          key_held key held.key_least held.key_most,
        ) refl

-- ---- the laws

pub django_kept : (hash : Pbkdf2Hash) (front : List ℕ) (rounds : ℕ) (salt key : List ℕ) → django_front hash ≡ Some front
    → AreHeld (Pbkdf2 hash rounds) salt key → LacksByte 36 salt
    → converted Django (django_spelling front rounds salt key) ≡ Ok (made_text (Pbkdf2 hash rounds) salt key)
unfolding converted django
django_kept Sha1 front rounds salt key named held plain =
    ap (λ (f : List ℕ). converted Django (django_spelling f rounds salt key)) (sym (same_Some (codes "pbkdf2_sha1$") front named))
    ∙ django_read rounds salt key Sha1 held plain
django_kept Sha256 front rounds salt key named held plain =
    ap (λ (f : List ℕ). converted Django (django_spelling f rounds salt key)) (sym (same_Some (codes "pbkdf2_sha256$") front named))
    ∙ django_read rounds salt key Sha256 held plain
django_kept Sha512 front rounds salt key named held plain = absurd (none-some front named)

pub ldap_kept : (hash : Pbkdf2Hash) (rounds : ℕ) (salt key : List ℕ) → AreHeld (Pbkdf2 hash rounds) salt key
    → converted Ldap (ldap_spelling hash rounds salt key) ≡ Ok (made_text (Pbkdf2 hash rounds) salt key)
unfolding converted ldap
ldap_kept Sha1 rounds salt key held = either_read rounds salt key Sha1 held
ldap_kept Sha256 rounds salt key held = either_read rounds salt key Sha256 held
ldap_kept Sha512 rounds salt key held = either_read rounds salt key Sha512 held

-- Werkzeug's method is read as its hash and rounds
no_colon : (n : ℕ) → n < 2 ^ 32 → LacksByte 58 (decimal n)
no_colon n small = lacks is_ascii_digit 58 refl (decimal n) (decimal_digits n small)

method_read : (hash : Pbkdf2Hash) (rounds : ℕ) → rounds < 2 ^ 32
    → werkzeug_method (werkzeug_hash hash ++ decimal rounds) ≡ Ok (Pbkdf2 hash rounds)
unfolding werkzeug_method
method_read Sha1 rounds small = rw (one_piece 58 (decimal rounds) (no_colon rounds small), rounds_read rounds small) refl
method_read Sha256 rounds small = rw (one_piece 58 (decimal rounds) (no_colon rounds small), rounds_read rounds small) refl
method_read Sha512 rounds small = rw (one_piece 58 (decimal rounds) (no_colon rounds small), rounds_read rounds small) refl

digit_is_plain : (b : ℕ) → is_ascii_digit b ≡ true → no_dollar b ≡ true
digit_is_plain b h = grind (arith, nat_tests)

method_lacks : (hash : Pbkdf2Hash) (rounds : ℕ) → rounds < 2 ^ 32 → LacksByte 36 (werkzeug_hash hash ++ decimal rounds)
method_lacks Sha1 rounds small =
    lacks no_dollar 36 refl (codes "pbkdf2:sha1:" ++ decimal rounds)
    (all_append no_dollar (codes "pbkdf2:sha1:") (decimal rounds) refl
    (all_weaker is_ascii_digit no_dollar digit_is_plain (decimal rounds) (decimal_digits rounds small)))
method_lacks Sha256 rounds small =
    lacks no_dollar 36 refl (codes "pbkdf2:sha256:" ++ decimal rounds)
    (all_append no_dollar (codes "pbkdf2:sha256:") (decimal rounds) refl
    (all_weaker is_ascii_digit no_dollar digit_is_plain (decimal rounds) (decimal_digits rounds small)))
method_lacks Sha512 rounds small =
    lacks no_dollar 36 refl (codes "pbkdf2:sha512:" ++ decimal rounds)
    (all_append no_dollar (codes "pbkdf2:sha512:") (decimal rounds) refl
    (all_weaker is_ascii_digit no_dollar digit_is_plain (decimal rounds) (decimal_digits rounds small)))

pub werkzeug_kept : (hash : Pbkdf2Hash) (rounds : ℕ) (salt key : List ℕ) → AreHeld (Pbkdf2 hash rounds) salt key
    → LacksByte 36 salt
    → converted Werkzeug (werkzeug_spelling hash rounds salt key) ≡ Ok (made_text (Pbkdf2 hash rounds) salt key)
unfolding converted werkzeug
werkzeug_kept Sha1 rounds salt key held plain =
    werkzeug_read rounds salt key Sha1 held plain (method_lacks Sha1 rounds held.cost_fits)
    (method_read Sha1 rounds held.cost_fits)
werkzeug_kept Sha256 rounds salt key held plain =
    werkzeug_read rounds salt key Sha256 held plain (method_lacks Sha256 rounds held.cost_fits)
    (method_read Sha256 rounds held.cost_fits)
werkzeug_kept Sha512 rounds salt key held plain =
    werkzeug_read rounds salt key Sha512 held plain (method_lacks Sha512 rounds held.cost_fits)
    (method_read Sha512 rounds held.cost_fits)

-- a decimal begins with a digit
digit_first : (ds rest : List ℕ) → list_all is_ascii_digit ds ≡ true → 0 < length ds
    → begins_with_digit (ds ++ rest) ≡ true
digit_first [] rest h some = absurd (omega (arith, some))
digit_first (d ∷ ds) rest h some = (and_parts (is_ascii_digit d) (list_all is_ascii_digit ds) h).0

-- and so do the fields of passlib
digit_held : (rounds : ℕ) (salt key : List ℕ) → rounds < 2 ^ 32
    → begins_with_digit (three (decimal rounds) (encoding base64_pbkdf2 salt) (encoding base64_pbkdf2 key)) ≡ true
digit_held rounds salt key small =
    let some = decimal_nonempty rounds (omega (arith, small)) in
    let rest : List ℕ = 36 ∷ (encoding base64_pbkdf2 salt ++ 36 ∷ encoding base64_pbkdf2 key) in
    digit_first (decimal rounds) rest (decimal_digits rounds small) some

-- so that they aren't Mattermost's, whose first field is a name
digit_is_no_name : (b : ℕ) → is_ascii_digit b ≡ true → nat_eq 102 b ≡ false
digit_is_no_name b h = grind (arith, nat_tests)

no_name : (text : List ℕ) → begins_with_digit text ≡ true → begins text (codes "f=") ≡ false
no_name [] h = refl
no_name (b ∷ text) h = rw (digit_is_no_name b h) refl

pub passlib_kept : (hash : Pbkdf2Hash) (rounds : ℕ) (salt key : List ℕ) → AreHeld (Pbkdf2 hash rounds) salt key
    → converted Passlib (passlib_spelling hash rounds salt key) ≡ Ok (made_text (Pbkdf2 hash rounds) salt key)
unfolding converted passlib
passlib_kept Sha1 rounds salt key held =
    let fields : List ℕ = three (decimal rounds) (encoding base64_pbkdf2 salt) (encoding base64_pbkdf2 key) in
    rw (no_name fields (digit_held rounds salt key held.cost_fits)) (adapted_read rounds salt key Sha1 held)
passlib_kept Sha256 rounds salt key held =
    rw (digit_held rounds salt key held.cost_fits) (adapted_read rounds salt key Sha256 held)
passlib_kept Sha512 rounds salt key held =
    rw (digit_held rounds salt key held.cost_fits) (adapted_read rounds salt key Sha512 held)

-- ---- digests

size_most : (hash : DigestHash) → digest_size hash ≤ 64
size_most digest.Md5 = omega arith
size_most digest.Sha1 = omega arith
size_most digest.Sha256 = omega arith
size_most digest.Sha512 = omega arith

module _ (hash : DigestHash) (hashed : List ℕ) (below : EachBelow 256 hashed) (size : length hashed ≡ digest_size hash) where
  salted_read : (salt : List ℕ) → EachBelow 256 salt → 1 ≤ length salt → length salt ≤ 48
      → salted_field hash (encoding base64 (hashed ++ salt)) ≡ Ok (digest_text hash salt hashed)
  unfolding salted_field
  salted_read salt bytes least most =
      let all : List ℕ = hashed ++ salt in
      let whole : EachBelow 256 all = below-append hashed salt below bytes in
      let long : length all ≡ length hashed + length salt = length-append hashed salt in
      let count = length-encoding base64 all whole in
      let short : nat_le (length (encoding base64 all)) 152 ≡ true =
      grind (arith, nat_tests, count, long, size, size_most hash, most) in
      let enough : nat_lt (length all) (digest_size hash) ≡ false = grind (arith, nat_tests, long, size) in
      let first : take (digest_size hash) all ≡ hashed = ap (λ n. take n all) (sym size) ∙ take-append_seam hashed salt in
      let others : drop (digest_size hash) all ≡ salt = ap (λ n. drop n all) (sym size) ∙ drop-append_seam hashed salt in
      let some : nat_le 1 (length salt) ≡ true = grind (arith, nat_tests, least) in
      let few : nat_le (length salt) 48 ≡ true = grind (arith, nat_tests, most) in
      rw (short, decoding-encoding base64 all refl whole, enough, first, others, some, few) refl

  bare_read : bare_field hash (encoding base64 hashed) ≡ Ok (digest_text hash [] hashed)
  unfolding bare_field
  bare_read =
      let count = length-encoding base64 hashed below in
      let short : nat_le (length (encoding base64 hashed)) 152 ≡ true = grind (arith, nat_tests, count, size, size_most hash) in
      let same : (length hashed == digest_size hash) ≡ true = grind (arith, nat_tests, size) in
      rw (short, decoding-encoding base64 hashed refl below, same) refl

pub salted_kept : (hash : DigestHash) (salt hashed : List ℕ) → EachBelow 256 salt → 1 ≤ length salt → length salt ≤ 48
    → EachBelow 256 hashed → length hashed ≡ digest_size hash
    → converted Ldap (salted_spelling hash salt hashed) ≡ Ok (digest_text hash salt hashed)
unfolding converted ldap
salted_kept digest.Md5 salt hashed bytes least most below size = salted_read digest.Md5 hashed below size salt bytes least most
salted_kept digest.Sha1 salt hashed bytes least most below size = salted_read digest.Sha1 hashed below size salt bytes least most
salted_kept digest.Sha256 salt hashed bytes least most below size = salted_read digest.Sha256 hashed below size salt bytes least most
salted_kept digest.Sha512 salt hashed bytes least most below size = salted_read digest.Sha512 hashed below size salt bytes least most

pub bare_kept : (hash : DigestHash) (hashed : List ℕ) → EachBelow 256 hashed → length hashed ≡ digest_size hash
    → converted Ldap (bare_spelling hash hashed) ≡ Ok (digest_text hash [] hashed)
unfolding converted ldap
bare_kept digest.Md5 hashed below size = bare_read digest.Md5 hashed below size
bare_kept digest.Sha1 hashed below size = bare_read digest.Sha1 hashed below size
bare_kept digest.Sha256 hashed below size = bare_read digest.Sha256 hashed below size
bare_kept digest.Sha512 hashed below size = bare_read digest.Sha512 hashed below size
