-- Hash fields and their bytes.
use Rattle.std.proofs.Common.{◌≡◌, ◌≢◌, ℕ, ◌+◌, ◌*◌, ◌/◌, ◌<◌, Bool, true, false, List, [], ◌∷◌, length, map}
use Rattle.std.proofs.Common.{slice_index, get_or, refl, sym, ap, ◌∙◌, arith}
use Rattle.std.specs.Prelude.{◌==◌, nat_eq, Option, Some, None}
use Rattle.std.specs.Cmp.Lexicographic.{pointwise}
use Rattle.std.proofs.lemmas.Bool.Decides.{nat_tests}
use Rattle.base64ct.specs.Encoding.{EachBelow, encoding, byte_count, longest_input}
use Rattle.base64ct.specs.Decoding.{decoding}
use Rattle.base64ct.specs.Alphabets.{base64_sha_crypt}
use Rattle.base64ct.proofs.DecodingLaws.{decoding-Some, decoding_is, same_true, true_same}
use Rattle.base64ct.proofs.DecodingLaws.{length-decoding, length-decodable, decoding-encoding, decoded_len-unpadded}
use Rattle.std.specs.Prelude.{zero, suc, nat_lt, if◌then◌else◌, Result, Ok, Err}
use Rattle.std.proofs.Common.{◌≤◌, rules}
use Rattle.std.proofs.lemmas.List.{ext_get_or, length-map, get_or-map}
use Rattle.std.proofs.lemmas.Bool.{and_parts, false≢true}
use Rattle.sha_crypt.specs.Digest.{sha_crypt_digest}
use Rattle.sha_crypt.specs.Fields.{ShaFields, checked_hash}
use Rattle.sha_crypt.specs.Check.{fields_answer}
use Rattle.sha_crypt.specs.HashField.{is_hash_field, are_places, undoes, IsHashField, IsHashFieldOf}
use Rattle.std.specs.Prelude.{is_some, IsErr, IfOk, ◌↔◌, ◌⊎◌, ◌++◌, drop}
use Rattle.std.proofs.lemmas.List.{drop_all, append-nil}
use Rattle.base64ct.specs.declared.errors.InvalidLengthError.{InvalidLengthError}
use Rattle.base64ct.proofs.Encodings.{encoding_once}
use Rattle.std.proofs.lemmas.Bool.{cases_lt}
use Rattle.std.proofs.Common.{inl, inr}
use Rattle.std.proofs.lemmas.Option.{none-some, same_Some}
use Rattle.sha_crypt.specs.declared.errors.CheckError.TheVariants.{HashMismatch}
use Rattle.sha_crypt.specs.HashField.{in_order, hash_field, of_length, field_bytes}

by_length : (n : ℕ) (t : List ℕ) (r : Option (List ℕ)) → decoding base64_sha_crypt t ≡ r → byte_count (length t) ≢ n
    → None ≡ of_length n r
by_length n t None is other = refl
by_length n t (Some b) is other =
    let len = length-decoding base64_sha_crypt t b refl is ∙ decoded_len-unpadded base64_sha_crypt t refl in
    let wrong : (length b == n) ≡ false = grind (arith, nat_tests, len, other) in
    rw wrong refl

-- a text of another length is the encoding of no n bytes
pub wrong_length : (n : ℕ) (t : List ℕ) → byte_count (length t) ≢ n → None ≡ field_bytes n t
wrong_length n t other = by_length n t (decoding base64_sha_crypt t) refl other

pub same_tests : (p q : Bool) → (p ≡ true → q ≡ true) → (q ≡ true → p ≡ true) → p ≡ q
same_tests true true f g = refl
same_tests false false f g = refl
same_tests true false f g = sym (f refl)
same_tests false true f g = g refl

-- bytes are compared in place of their encodings
pub same_hash : (places digest bytes hash : List ℕ) → EachBelow 256 (in_order places digest)
    → decoding base64_sha_crypt hash ≡ Some bytes
    → pointwise nat_eq (in_order places digest) bytes ≡ pointwise nat_eq (hash_field places digest) hash
unfolding hash_field
same_hash places digest bytes hash small is =
    let m : List ℕ = in_order places digest in
    let parts = decoding-Some base64_sha_crypt hash bytes is in
    let there : pointwise nat_eq m bytes ≡ true → pointwise nat_eq (encoding base64_sha_crypt m) hash ≡ true =
    λ h. rw (same_true m bytes h, ← parts.1) (true_same hash) in
    let back : pointwise nat_eq (encoding base64_sha_crypt m) hash ≡ true → pointwise nat_eq m bytes ≡ true =
    λ h. let e : m ≡ bytes =
    encoding_once base64_sha_crypt m bytes refl small parts.0
    (same_true (encoding base64_sha_crypt m) hash h ∙ parts.1) in
    rw e (true_same bytes) in
    same_tests (pointwise nat_eq m bytes) (pointwise nat_eq (encoding base64_sha_crypt m) hash) there back

kept : (n : ℕ) (b bytes : List ℕ) (t : Bool) → (length b == n) ≡ t → (if t then Some b else None) ≡ Some bytes
    → Some b ≡ Some bytes
kept n b bytes true is h = h
kept n b bytes false is h = absurd (none-some bytes h)

pub decoded_of : (n : ℕ) (bytes : List ℕ) (r : Option (List ℕ)) → of_length n r ≡ Some bytes → r ≡ Some bytes
decoded_of n bytes None h = h
decoded_of n bytes (Some b) h = kept n b bytes (length b == n) refl h

-- what the bytes of the password's digest and of the hash field tell
pub answer_same : (H : List ℕ → List ℕ) (places password : List ℕ) (n : ℕ) (f : ShaFields) (bytes digest m : List ℕ)
    (r : Bool)
    → field_bytes n f.hash ≡ Some bytes → digest ≡ sha_crypt_digest H password f.salt f.rounds
    → m ≡ in_order places digest → EachBelow 256 m → r ≡ pointwise nat_eq m bytes
    → (if r then Ok tt else Err HashMismatch) ≡ fields_answer H places password (checked_hash (is_hash_field n) (Ok f))
answer_same H places password n f bytes digest m r found digest_is m_is small r_is =
    let same : pointwise nat_eq (in_order places digest) bytes ≡ pointwise nat_eq (hash_field places digest) f.hash =
    same_hash places digest bytes f.hash (rw m_is at small)
    (decoded_of n bytes (decoding base64_sha_crypt f.hash) found) in
    let test : r ≡ pointwise nat_eq (hash_field places digest) f.hash =
    r_is ∙ ap (λ (x : List ℕ). pointwise nat_eq x bytes) m_is ∙ same in
    rw (found, ← digest_is, ← test) refl

-- each of these is below n
pub all_below : (n : ℕ) (xs : List ℕ) → 0 < n → are_places n xs ≡ true → (k : ℕ) → slice_index xs k < n
all_below n [] pos h k = pos
all_below n (x ∷ xs) pos h zero = let parts = and_parts (nat_lt x n) (are_places n xs) h in
    grind (arith, nat_tests, parts.0)
all_below n (x ∷ xs) pos h (suc k) = let parts = and_parts (nat_lt x n) (are_places n xs) h in
    all_below n xs pos parts.1 k

-- bytes that are ordered one after another
pub ordered : (places digest bytes : List ℕ) (i : ℕ) → length bytes ≡ length places → length bytes ≤ i
    → ((k : ℕ) → k < i → get_or bytes k 0 ≡ get_or digest (get_or places k 0) 0) → bytes ≡ in_order places digest
ordered places digest bytes i len all each =
    let f : ℕ → ℕ = λ k. slice_index digest k in
    ext_get_or 0 bytes (map f places) (len ∙ sym (length-map places f))
    (λ k lt. each k (omega (arith, lt, all)) ∙ sym (get_or-map f places k 0 0 (omega (arith, lt, len))))

at_undone : (n k : ℕ) (places back : List ℕ) → undoes n places back ≡ true → k < n
    → slice_index back (slice_index places k) ≡ k
at_undone zero k places back h lt = absurd (omega (arith, lt))
at_undone (suc n) k places back h lt =
    let parts = and_parts (slice_index back (slice_index places n) == n) (undoes n places back) h in
    let here : slice_index back (slice_index places n) ≡ n = grind (arith, nat_tests, parts.0) in
    elim (cases_lt k n) [
      | inl below ↦ at_undone n k places back parts.1 below
      | inr ge ↦ let same : k ≡ n = omega (arith, lt, ge) in rw same here
    ]

-- what is ordered back is ordered as it was
pub ordered_back : (n : ℕ) (places back bytes : List ℕ) → length places ≡ n → length back ≡ n → length bytes ≡ n
    → are_places n places ≡ true → undoes n places back ≡ true
    → bytes ≡ in_order places (in_order back bytes)
ordered_back n places back bytes lp lb len small undone =
    let f : ℕ → ℕ = λ k. slice_index bytes k in
    ordered places (in_order back bytes) bytes n (omega (arith, len, lp)) (omega (arith, len))
    (λ k lt.
    let pos : 0 < n = omega (arith, lt) in
    let in_back : slice_index places k < length back = omega (arith, all_below n places pos small k, lb) in
    sym (get_or-map f back (slice_index places k) 0 0 in_back ∙ ap f (at_undone n k places back undone lt)))

pub below_map : (places digest : List ℕ) → EachBelow 256 digest → EachBelow 256 (in_order places digest)
below_map [] digest small i = omega arith
below_map (p ∷ places) digest small zero = small p
below_map (p ∷ places) digest small (suc i) = below_map places digest small i

pub decoded : (n : ℕ) (places back source bytes digest : List ℕ) → length places ≡ n → length back ≡ n
    → length bytes ≡ n → are_places n places ≡ true → undoes n places back ≡ true
    → field_bytes n source ≡ Some bytes → digest ≡ in_order back bytes → IsHashFieldOf n places source digest
unfolding hash_field
decoded n places back source bytes digest lp lb len small undone found is =
    let at : ℕ → ℕ = λ k. slice_index bytes k in
    let parts = decoding-Some base64_sha_crypt source bytes
    (decoded_of n bytes (decoding base64_sha_crypt source) found) in (
      ap length is ∙ length-map back at ∙ lb,
      rw is (below_map back bytes parts.0),
      parts.1 ∙ ap (encoding base64_sha_crypt) (ordered_back n places back bytes lp lb len small undone
          ∙ ap (in_order places) (sym is)),
    )

of_right_length : (n : ℕ) (b : List ℕ) → length b ≡ n → of_length n (Some b) ≡ Some b
of_right_length n b len = let test : (length b == n) ≡ true = grind (arith, nat_tests) in rw test refl

pub not_decoded : (n : ℕ) (places source digest : List ℕ) → length places ≡ n → field_bytes n source ≡ None
    → IsHashFieldOf n places source digest → ⊥
unfolding hash_field
not_decoded n places source digest lp none is =
    let m : List ℕ = in_order places digest in
    let f : ℕ → ℕ = λ k. slice_index digest k in
    let found : decoding base64_sha_crypt source ≡ Some m =
    decoding_is base64_sha_crypt source m refl (below_map places digest is.1) is.2 in
    let right : length m ≡ n = length-map places f ∙ lp in
    absurd (none-some m (sym none ∙ ap (of_length n) found ∙ of_right_length n m right))

kept_length : (n : ℕ) (bytes : List ℕ) (r : Option (List ℕ)) → of_length n r ≡ Some bytes → length bytes ≡ n
kept_length n bytes None h = absurd (none-some bytes h)
kept_length n bytes (Some b) h = by_test (length b == n) refl h
  where
    by_test : (t : Bool) → (length b == n) ≡ t → (if t then Some b else None) ≡ Some bytes → length bytes ≡ n
    by_test true is e = let same : length b ≡ n = grind (arith, nat_tests, is) in
        ap length (sym (same_Some b bytes e)) ∙ same
    by_test false is e = absurd (none-some bytes e)

-- the test for hash fields tells those of digests
pub field_found : (n : ℕ) (places back text : List ℕ) (r : Option (List ℕ)) → field_bytes n text ≡ r → is_some r ≡ true
    → length places ≡ n → length back ≡ n → are_places n places ≡ true → undoes n places back ≡ true
    → IsHashField n places text
field_found n places back text None is some lp lb small undone = absurd (false≢true some)
field_found n places back text (Some bytes) is some lp lb small undone = (
  in_order back bytes,
  decoded n places back text bytes (in_order back bytes) lp lb
      (kept_length n bytes (decoding base64_sha_crypt text) is) small undone is refl,
)

pub field_is_found : (n : ℕ) (places text : List ℕ) (r : Option (List ℕ)) → field_bytes n text ≡ r → length places ≡ n
    → IsHashField n places text → is_some r ≡ true
field_is_found n places text None is lp h = absurd (not_decoded n places text h.0 lp is h.1)
field_is_found n places text (Some bytes) is lp h = refl

-- two digests with one hash field
pub field_once : (n : ℕ) (places back x y : List ℕ) → length places ≡ n → length back ≡ n → are_places n back ≡ true
    → undoes n back places ≡ true
    → length x ≡ n → length y ≡ n → EachBelow 256 x → EachBelow 256 y → hash_field places x ≡ hash_field places y
    → x ≡ y
unfolding hash_field
field_once n places back x y lp lb small undone lx ly below_x below_y same =
    let ordered_same : in_order places x ≡ in_order places y =
    encoding_once base64_sha_crypt (in_order places x) (in_order places y) refl (below_map places x below_x)
    (below_map places y below_y) same in
    ordered_back n back places x lb lp lx small undone ∙ ap (in_order back) ordered_same
    ∙ sym (ordered_back n back places y lb lp ly small undone)

-- an unpadded encoding has the length that its bytes ask for
encoding_len : (b : List ℕ) → EachBelow 256 b → length (encoding base64_sha_crypt b) ≡ (4 * length b + 2) / 3
encoding_len b below = length-decodable base64_sha_crypt (encoding base64_sha_crypt b) b refl
    (decoding-encoding base64_sha_crypt b refl below)

-- what the encoder leaves of a buffer of just the right length
pub encoded : (places digest bytes old new : List ℕ) (r : Result ℕ InvalidLengthError) → bytes ≡ in_order places digest
    → EachBelow 256 bytes
    → length bytes ≤ longest_input → length old ≡ (4 * length bytes + 2) / 3
    → IsErr r ↔ ((longest_input < length bytes) ⊎ (length old < length (encoding base64_sha_crypt bytes)))
    → IfOk r (λ n. (n ≡ length (encoding base64_sha_crypt bytes)) × (n ≤ length old)
    × (new ≡ encoding base64_sha_crypt bytes ++ drop n old))
    → new ≡ hash_field places digest
unfolding hash_field
encoded places digest bytes old new (Ok n) is small short room refused written =
    let len = encoding_len bytes small in
    let none : drop n old ≡ [] = drop_all n old (omega (arith, written.0)) in
    written.2 ∙ ap (λ (xs : List ℕ). encoding base64_sha_crypt bytes ++ xs) none
    ∙ append-nil (encoding base64_sha_crypt bytes) ∙ ap (encoding base64_sha_crypt) is
encoded places digest bytes old new (Err e) is small short room refused written =
    let len = encoding_len bytes small in
    elim (refused.0 (search rules)) [ inl long ↦ absurd (omega arith) | inr full ↦ absurd (omega arith) ]

-- what is decoded from the hash field of a digest is that digest
pub decoded_again : (n : ℕ) (places back x y text : List ℕ) → length places ≡ n → length back ≡ n
    → are_places n back ≡ true → undoes n back places ≡ true
    → length x ≡ n → EachBelow 256 x → text ≡ hash_field places x → IsHashFieldOf n places text y → y ≡ x
decoded_again n places back x y text lp lb small undone lx below_x is other =
    field_once n places back y x lp lb small undone other.0 lx other.1 below_x (sym other.2 ∙ is)
