-- The law for texts of bcrypt.
use Rattle.std.proofs.Common.{◌≡◌, ℕ, ◌+◌, ◌/◌, ◌%◌, ◌≤◌, Bool, true, false, List, ◌∷◌, ◌++◌, length, refl, sym, subst, ap, ◌∙◌, arith}
use Rattle.std.proofs.Common.{inl, inr, Some, Result, Ok, Err}
use Rattle.std.specs.Prelude.{◌↔◌, codes, if◌then◌else◌}
use Rattle.std.specs.List.{list_any}
use Rattle.std.proofs.lemmas.Bool.Decides.{nat_tests}
use Rattle.base64ct.specs.Encoding.{EachBelow}
use Rattle.phc.specs.declared.password_hash.PasswordHash.{PasswordHash}
use Rattle.pieces.specs.Pieces.{pieces_at}
use Rattle.pieces.proofs.ByteTests.{all_append}
use Rattle.bcrypt_plain.specs.Bcrypt.{bcrypt}
use Rattle.bcrypt_plain.specs.Check.{bcrypt_answer, has_zero, hash_matches, parts_answer}
use Rattle.bcrypt_plain.specs.Field.{bcrypt_field}
use Rattle.bcrypt_plain.specs.Made.{text_of, two_digits}
use Rattle.bcrypt_plain.specs.Measure.{is_ones}
use Rattle.bcrypt_plain.specs.Text.{Parts, text_parts, version_of}
use Rattle.bcrypt_plain.specs.declared.error.BcryptError.TheVariants as of_bcrypt
use Rattle.bcrypt_plain.specs.declared.error.BcryptFault.{BcryptFault}
use Rattle.bcrypt_plain.proofs.MadeTexts.{field_passes, hash_below, hash_long, parts, text_read}
use Rattle.bcrypt_plain.proofs.Measured.{measured_same}
use Rattle.bcrypt_plain.proofs.ReadTexts.{current_is, current_lacks, text_is}
use Rattle.any_check.specs.Table.{any_verdict, of_bcrypt_check, text_scheme}
use Rattle.scheme_list.specs.declared.schemes.Scheme.TheVariants.{Bcrypt}
use Rattle.crypt_text.specs.Settings.{begins, bcrypt_setting}
use Rattle.scheme_list.specs.Schemes.{method_of}
use Rattle.crypt_text.specs.Texts.{bcrypt_of, bcrypt_text, crypt_text, if_setting, method_text}
use Rattle.crypt_law.proofs.Answers.{IsTold, as_any, told_of}
use Rattle.crypt_law.proofs.BcryptReadings.{bcrypt_read}
use Rattle.crypt_law.proofs.Clean.{are_clean, is_clean, none_refused}
use Rattle.crypt_law.proofs.Prefixes.{crypt_is, law_by, row_is}

-- the letters of the three prefixes
pub data Letter : Type 0 where
  of_a : Letter
  of_b : Letter
  of_y : Letter

abbrev pub id : Letter → List ℕ
id of_a = codes "2a"
id of_b = codes "2b"
id of_y = codes "2y"

-- `$2b$`, and the rest
abbrev pub whole : Letter → List ℕ → List ℕ
whole of_a rest = 36 ∷ (50 ∷ (97 ∷ (36 ∷ rest)))
whole of_b rest = 36 ∷ (50 ∷ (98 ∷ (36 ∷ rest)))
whole of_y rest = 36 ∷ (50 ∷ (121 ∷ (36 ∷ rest)))

scheme_is : (l : Letter) (rest : List ℕ) → text_scheme (whole l rest) ≡ Some Bcrypt
unfolding text_scheme pieces_at
scheme_is of_a rest = refl
scheme_is of_b rest = refl
scheme_is of_y rest = refl

method_is : (l : Letter) (phrase rest : List ℕ)
    → method_text (method_of (whole l rest)) phrase (whole l rest)
    ≡ if_setting (bcrypt_text (id l) phrase) (bcrypt_setting rest)
method_is of_a phrase rest = refl
method_is of_b phrase rest = refl
method_is of_y phrase rest = refl

current : (l : Letter) → version_of (id l) ≡ version_of (codes "2b")
current of_a = refl
current of_b = refl
current of_y = refl

printed_is : (l : Letter) (cost : ℕ) (salt hash : List ℕ)
    → text_of (id l) cost salt hash ≡ whole l (two_digits cost ++ 36 ∷ (bcrypt_field salt ++ bcrypt_field hash))
printed_is of_a cost salt hash = refl
printed_is of_b cost salt hash = refl
printed_is of_y cost salt hash = refl

letter_of : (name : List ℕ) → version_of name ≡ version_of (codes "2b") → (l : Letter) × (name ≡ id l)
letter_of name h =
    elim (current_is name h) [ inl is ↦ (of_a, is) | inr (inl is) ↦ (of_b, is) | inr (inr is) ↦ (of_y, is) ]

-- ---- the characters of a text

field_clean : (bytes : List ℕ) → EachBelow 256 bytes → are_clean (bcrypt_field bytes) ≡ true
field_clean bytes below = field_passes is_clean bytes refl below

digit_clean : (n : ℕ) → n ≤ 9 → is_clean (48 + n) ≡ true
digit_clean n h = grind (arith, nat_tests, h)

rest_clean : (cost : ℕ) (salt hash : List ℕ) → cost ≤ 31 → EachBelow 256 salt → EachBelow 256 hash
    → are_clean (two_digits cost ++ 36 ∷ (bcrypt_field salt ++ bcrypt_field hash)) ≡ true
rest_clean cost salt hash most salt_below hash_below =
    rw (digit_clean (cost / 10) (omega (arith, most)), digit_clean (cost % 10) (omega arith))
    (all_append is_clean (bcrypt_field salt) (bcrypt_field hash) (field_clean salt salt_below) (field_clean hash hash_below))

whole_clean : (l : Letter) (rest : List ℕ) → are_clean rest ≡ true → are_clean (whole l rest) ≡ true
whole_clean of_a rest h = h
whole_clean of_b rest h = h
whole_clean of_y rest h = h

-- ---- a text is read as a setting

-- the safety measure of `2a` is for phrases with a byte of 255 alone
hash_is : (l : Letter) (phrase rest salt : List ℕ) (cost : ℕ)
    → (begins (whole l rest) (codes "$2a$") ≡ true → list_any is_ones phrase ≡ false)
    → bcrypt_of (id l) phrase salt cost ≡ bcrypt phrase salt cost
hash_is of_a phrase rest salt cost plain = measured_same phrase salt cost (plain refl)
hash_is of_b phrase rest salt cost plain = refl
hash_is of_y phrase rest salt cost plain = refl

made_from : (l : Letter) (phrase salt own : List ℕ) (cost : ℕ) → length phrase ≤ 511
    → bcrypt_of (id l) phrase salt cost ≡ bcrypt phrase salt cost → 4 ≤ cost → cost ≤ 31
    → length salt ≡ 16 → EachBelow 256 salt → EachBelow 256 own
    → crypt_text phrase (text_of (id l) cost salt own) ≡ Ok (text_of (id l) cost salt (bcrypt phrase salt cost))
made_from l phrase salt own cost short same least most len below own_below =
    let rest : List ℕ = two_digits cost ++ 36 ∷ (bcrypt_field salt ++ bcrypt_field own) in
    let clean = none_refused (whole l rest) (whole_clean l rest (rest_clean cost salt own most below own_below)) in
    ap (crypt_text phrase) (printed_is l cost salt own)
    ∙ crypt_is phrase (whole l rest) short clean
    ∙ method_is l phrase rest
    ∙ ap (if_setting (bcrypt_text (id l) phrase)) (bcrypt_read cost salt (bcrypt_field own) least most len below)
    ∙ ap (λ (hash : List ℕ). Ok (text_of (id l) cost salt hash)) same

-- ---- the verdict

by_tests : (zero same matches : Bool)
    → of_bcrypt_check (if zero then Err of_bcrypt.ZeroByte else (if same then Ok tt else Err of_bcrypt.HashMismatch))
    ≡ as_any matches → same ≡ matches
by_tests true same matches h = absurd cc
by_tests false true matches h = cc
by_tests false false matches h = cc

told_by : (phrase text : List ℕ) (matches : Bool) → of_bcrypt_check (bcrypt_answer phrase text) ≡ as_any matches
    → IsTold (text_parts text) (hash_matches phrase) matches
unfolding bcrypt_answer
told_by phrase text matches h =
    told_of (λ r. of_bcrypt_check (parts_answer phrase r)) as_any (hash_matches phrase) (λ e b none. cc)
    (λ p b told. by_tests (has_zero phrase) (hash_matches phrase p) b told) (text_parts text) matches h

-- ---- the law

abbrev found : Parts → Result Parts BcryptFault
found p = Ok p

hash_same : (p q : Parts) → found p ≡ found q → p.hash ≡ q.hash
hash_same p q h = let same : p ≡ q = cc in ap (λ (r : Parts). r.hash) same

-- two texts with one salt and one cost have one hash
hash_once : (l : Letter) (salt hash own : List ℕ) (cost : ℕ) → 4 ≤ cost → cost ≤ 31 → length salt ≡ 16
    → EachBelow 256 salt → length hash ≡ 23 → EachBelow 256 hash → length own ≡ 23 → EachBelow 256 own
    → text_of (id l) cost salt hash ≡ text_of (id l) cost salt own → hash ≡ own
hash_once l salt hash own cost least most len below hash_len hash_small own_len own_small same =
    let lacks = current_lacks (id l) (current l) in
    hash_same (parts cost salt hash) (parts cost salt own)
    (sym (text_read (id l) cost salt hash lacks (current l) least most len below hash_len hash_small)
    ∙ ap text_parts same
    ∙ text_read (id l) cost salt own lacks (current l) least most len below own_len own_small)

module _ (accepted : PasswordHash → List ℕ → ℕ → Bool) (tag : List ℕ → PasswordHash → List ℕ → ℕ → List ℕ) where
  pub bcrypt_law : (l : Letter) (phrase rest : List ℕ) (matches : Bool) → length phrase ≤ 511
      → (begins (whole l rest) (codes "$2a$") ≡ true → list_any is_ones phrase ≡ false)
      → any_verdict accepted tag phrase (whole l rest) ≡ as_any matches
      → (crypt_text phrase (whole l rest) ≡ Ok (whole l rest)) ↔ (matches ≡ true)
  bcrypt_law l phrase rest matches short plain h =
      let text : List ℕ = whole l rest in
      let answer = told_by phrase text matches
      (sym (row_is accepted tag phrase text Bcrypt short (scheme_is l rest)) ∙ h) in
      let p = answer.means in
      let found = text_is text p answer.are in
      let letter = letter_of found.id found.current in
      let is : text ≡ text_of (id letter.0) p.cost p.salt p.hash =
      found.is ∙ ap (λ (n : List ℕ). text_of n p.cost p.salt p.hash) letter.1 in
      let same = hash_is letter.0 phrase (two_digits p.cost ++ 36 ∷ (bcrypt_field p.salt ++ bcrypt_field p.hash)) p.salt p.cost
      (subst (λ (t : List ℕ). begins t (codes "$2a$") ≡ true → list_any is_ones phrase ≡ false)
      (is ∙ printed_is letter.0 p.cost p.salt p.hash) plain) in
      law_by phrase text (text_of (id letter.0) p.cost p.salt) (bcrypt phrase p.salt p.cost) p.hash matches
      (ap (crypt_text phrase) is
      ∙ made_from letter.0 phrase p.salt p.hash p.cost short same found.least found.most found.long found.below found.hash_below)
      is
      (hash_once letter.0 p.salt (bcrypt phrase p.salt p.cost) p.hash p.cost found.least found.most found.long found.below
      (hash_long phrase p.salt p.cost) (hash_below phrase p.salt p.cost) found.hash_long found.hash_below)
      answer.told
