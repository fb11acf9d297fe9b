-- The law for texts of sha1-crypt.
use Rattle.std.proofs.Common.{◌≡◌, ◌⊎◌, ℕ, ◌≤◌, Bool, true, false, List, [], ◌∷◌, ◌++◌, length, refl, sym, ap, subst, ◌∙◌}
use Rattle.std.proofs.Common.{append_assoc, arith, inl, inr, Option, Some, None, Result, Ok, Err}
use Rattle.std.specs.Prelude.{◌↔◌, codes, nat_eq, nat_le, nat_lt}
use Rattle.std.specs.Char.{is_ascii_digit}
use Rattle.std.specs.Cmp.Lexicographic.{pointwise}
use Rattle.std.specs.Fmt.{decimal}
use Rattle.std.proofs.lemmas.Bool.Decides.{nat_tests}
use Rattle.std.proofs.lemmas.Fmt.{digits_decimal}
use Rattle.base64ct.specs.Encoding.{EachBelow}
use Rattle.phc.specs.declared.password_hash.PasswordHash.{PasswordHash}
use Rattle.mcf.specs.Grammar.{parts_of_pieces}
use Rattle.pieces.specs.Characters.{is_crypt_character}
use Rattle.pieces.specs.Pieces.{LacksByte, before_pieces, pieces_at}
use Rattle.pieces.proofs.ByteTests.{all_append, all_weaker, lacks}
use Rattle.pieces.proofs.PlainNumbers as of_number
use Rattle.plain_rounds.proofs.Decimals.{rounds_lack_dollar}
use Rattle.sha_crypt.specs.Fields.{old_number}
use Rattle.sha_crypt.specs.HashField.{hash_field, in_order}
use Rattle.sha_crypt.proofs.Decimals.{plain_number-decimal, plain_old}
use Rattle.scheme_list.specs.Schemes.{method_of, scheme_named}
use Rattle.scheme_list.specs.declared.schemes.Scheme.{Scheme}
use Rattle.scheme_list.specs.declared.schemes.Scheme.TheVariants.{Sha1Crypt}
use Rattle.sha1_crypt.specs.Check.{AreValid, answer_by, sha1_answer, text_of}
use Rattle.sha1_crypt.specs.Digest.{sha1_digest}
use Rattle.sha1_crypt.specs.Field.{map_sha1, sha1_field, with_first}
use Rattle.sha1_crypt.specs.Text.{Parts, text_parts}
use Rattle.sha1_crypt.specs.declared.error.Sha1Fault.{Sha1Fault}
use Rattle.sha1_crypt.proofs.Rounds.{is_digest}
use Rattle.sha1_crypt.proofs.Texts.{is_text_of, read_parts, text_read, written_below}
use Rattle.any_check.specs.Table.{any_verdict, of_sha1, text_scheme}
use Rattle.crypt_text.specs.Settings.{Sha1Setting, are_sha1_rounds, has_refused, is_sha1_salt, sha1_by_number, sha1_by_rest, sha1_setting}
use Rattle.crypt_text.specs.Texts.{crypt_text, if_setting, method_text, sha1_text}
use Rattle.crypt_law.proofs.Answers.{IsTold, as_any, told_of}
use Rattle.crypt_law.proofs.Characters.{characters_clean, field_clean}
use Rattle.crypt_law.proofs.Clean.{are_clean, is_clean, none_refused}
use Rattle.crypt_law.proofs.Cuts.{after_cut, before_cut, has_cut}
use Rattle.crypt_law.proofs.Prefixes.{crypt_is, law_by, row_is}

-- `$sha1`, and the rest
abbrev pub whole : List ℕ → List ℕ
whole rest = 36 ∷ (115 ∷ (104 ∷ (97 ∷ (49 ∷ rest))))

-- ---- the scheme of the text: sha1-crypt, or none where the identifier goes on

-- the scheme by the pieces of the rest
abbrev by_pieces : List (List ℕ) → Option Scheme
by_pieces pieces =
    scheme_named
    (parts_of_pieces
    (before_pieces true 36 (before_pieces false 115 (before_pieces false 104 (before_pieces false 97 (before_pieces false 49 pieces)))))).id

own_or_none : (pieces : List (List ℕ)) → (by_pieces pieces ≡ Some Sha1Crypt) ⊎ (by_pieces pieces ≡ None)
own_or_none [] = inl refl
own_or_none ([] ∷ pieces) = inl refl
own_or_none ((b ∷ piece) ∷ pieces) = inr refl

scheme_is : (rest : List ℕ) → (text_scheme (whole rest) ≡ Some Sha1Crypt) ⊎ (text_scheme (whole rest) ≡ None)
unfolding text_scheme pieces_at
scheme_is rest = own_or_none (pieces_at 36 rest)

method_is : (phrase rest : List ℕ)
    → method_text (method_of (whole rest)) phrase (whole rest) ≡ if_setting (sha1_text phrase) (sha1_setting (whole rest))
method_is phrase rest = refl

-- ---- the verdict

abbrev as_sha1 : Bool → Result Bool Sha1Fault
as_sha1 b = Ok b

sha1_ok : (r : Result Bool Sha1Fault) (b : Bool) → of_sha1 r ≡ as_any b → r ≡ as_sha1 b
sha1_ok (Ok x) b h = cc
sha1_ok (Err e) b h = cc

bool_same : (a b : Bool) → as_sha1 a ≡ as_sha1 b → a ≡ b
bool_same a b h = cc

abbrev sha1_matches : List ℕ → Parts → Bool
sha1_matches phrase p = pointwise nat_eq (sha1_digest phrase p.salt p.rounds) p.hash

parts_told : (phrase text : List ℕ) (b : Bool) → sha1_answer phrase text ≡ as_sha1 b
    → IsTold (text_parts text) (sha1_matches phrase) b
unfolding sha1_answer
parts_told phrase text b h =
    told_of (answer_by (pointwise nat_eq) phrase) as_sha1 (sha1_matches phrase) (λ e c none. cc)
    (λ p c told. bool_same (sha1_matches phrase p) c told) (text_parts text) b h

-- ---- a text of a digest, read as a setting

abbrev setting : ℕ → List ℕ → Sha1Setting
setting n salt = record { rounds = n; salt = salt }

rounds_taken : (n : ℕ) (salt : List ℕ) → AreValid n salt → are_sha1_rounds n ≡ true
rounds_taken n salt valid =
    let least = valid.least in
    let most = valid.most in
    grind (arith, nat_tests, least, most)

salt_taken : (n : ℕ) (salt : List ℕ) → AreValid n salt → is_sha1_salt salt ≡ true
salt_taken n salt valid =
    let some : nat_le 1 (length salt) ≡ true = grind (arith, nat_tests, valid.some) in
    let short : nat_le (length salt) 64 ≡ true = grind (arith, nat_tests, valid.short) in
    rw (some, short, valid.characters) refl

salt_read : (n : ℕ) (salt hash : List ℕ) → AreValid n salt
    → sha1_by_number (Some n) (salt ++ 36 ∷ hash) ≡ Some (setting n salt)
salt_read n salt hash valid =
    let own : LacksByte 36 salt = lacks is_crypt_character 36 refl salt valid.characters in
    rw (before_cut salt hash own, rounds_taken n salt valid, salt_taken n salt valid) refl

rest_read : (n : ℕ) (salt hash : List ℕ) → AreValid n salt
    → sha1_by_rest (Some (decimal n ++ 36 ∷ (salt ++ 36 ∷ hash))) ≡ Some (setting n salt)
rest_read n salt hash valid =
    let least = valid.least in
    let most = valid.most in
    let digits : LacksByte 36 (decimal n) = rounds_lack_dollar n most in
    let more : List ℕ = salt ++ 36 ∷ hash in
    let number : old_number (decimal n) ≡ Some n =
    plain_old (decimal n) n (plain_number-decimal n (omega (arith, least)) (omega (arith, most))) in
    rw (has_cut (decimal n) more, before_cut (decimal n) more digits, after_cut (decimal n) more digits, number)
    (salt_read n salt hash valid)

setting_read : (n : ℕ) (salt digest : List ℕ) → AreValid n salt
    → sha1_setting (text_of n salt digest) ≡ Some (setting n salt)
unfolding sha1_setting
setting_read n salt digest valid = rest_read n salt (sha1_field digest) valid

-- ---- its bytes

digit_clean : (b : ℕ) → is_ascii_digit b ≡ true → is_clean b ≡ true
digit_clean b h = grind (arith, nat_tests, h)

field_is_clean : (digest : List ℕ) → EachBelow 256 digest → are_clean (sha1_field digest) ≡ true
unfolding hash_field
field_is_clean digest below = field_clean (in_order map_sha1 (with_first digest)) (written_below digest below)

text_clean : (n : ℕ) (salt digest : List ℕ) → AreValid n salt → EachBelow 256 digest
    → has_refused (text_of n salt digest) ≡ false
text_clean n salt digest valid below =
    let most = valid.most in
    let digits = all_weaker is_ascii_digit is_clean digit_clean (decimal n) (digits_decimal of_number.own n (omega (arith, most))) in
    none_refused (text_of n salt digest)
    (all_append is_clean (decimal n) (36 ∷ (salt ++ 36 ∷ sha1_field digest)) digits
    (all_append is_clean salt (36 ∷ sha1_field digest) (characters_clean salt valid.characters) (field_is_clean digest below)))

-- ---- the text that crypt(3) gives

joined : (digits salt hash : List ℕ)
    → codes "$sha1$" ++ digits ++ codes "$" ++ salt ++ codes "$" ++ hash ≡ whole (36 ∷ (digits ++ 36 ∷ (salt ++ 36 ∷ hash)))
joined digits salt hash =
    append_assoc (codes "$sha1$" ++ digits ++ codes "$" ++ salt) (codes "$") hash
    ∙ append_assoc (codes "$sha1$" ++ digits ++ codes "$") salt (36 ∷ hash)
    ∙ append_assoc (codes "$sha1$" ++ digits) (codes "$") (salt ++ 36 ∷ hash)

crypt_read : (phrase : List ℕ) (n : ℕ) (salt digest : List ℕ) → length phrase ≤ 511 → AreValid n salt → EachBelow 256 digest
    → crypt_text phrase (text_of n salt digest) ≡ Ok (text_of n salt (sha1_digest phrase salt n))
crypt_read phrase n salt digest short valid below =
    crypt_is phrase (text_of n salt digest) short (text_clean n salt digest valid below)
    ∙ method_is phrase (36 ∷ (decimal n ++ 36 ∷ (salt ++ 36 ∷ sha1_field digest)))
    ∙ ap (if_setting (sha1_text phrase)) (setting_read n salt digest valid)
    ∙ ap Ok (joined (decimal n) salt (sha1_field (sha1_digest phrase salt n)))

parts_same : (a b : Parts) → ◌≡◌ {A = Result Parts Sha1Fault} (Ok a) (Ok b) → a ≡ b
parts_same a b h = cc

-- one text is of one digest
once : (phrase text : List ℕ) (p : Parts) → text_parts text ≡ Ok p → AreValid p.rounds p.salt
    → text_of p.rounds p.salt (sha1_digest phrase p.salt p.rounds) ≡ text → sha1_digest phrase p.salt p.rounds ≡ p.hash
once phrase text p are valid same =
    let digest : List ℕ = sha1_digest phrase p.salt p.rounds in
    let is = is_digest phrase p.salt p.rounds valid.least in
    let read = text_read p.rounds p.salt digest valid is.long is.below in
    ap (λ (q : Parts). q.hash)
    (parts_same (read_parts p.rounds p.salt digest) p (sym read ∙ ap text_parts same ∙ are))

module _ (accepted : PasswordHash → List ℕ → ℕ → Bool) (tag : List ℕ → PasswordHash → List ℕ → ℕ → List ℕ) where
  no_verdict : (phrase text : List ℕ) (b : Bool) → length phrase ≤ 511 → text_scheme text ≡ None
      → any_verdict accepted tag phrase text ≡ as_any b → ⊥
  unfolding any_verdict
  no_verdict phrase text b short none h =
      let fits : nat_lt 4096 (length phrase) ≡ false = grind (arith, nat_tests, short) in
      let refused = rw (fits, none) at h in cc

  answer_is : (phrase rest : List ℕ) (b : Bool) → length phrase ≤ 511
      → any_verdict accepted tag phrase (whole rest) ≡ as_any b → sha1_answer phrase (whole rest) ≡ as_sha1 b
  answer_is phrase rest b short h =
      elim (scheme_is rest) [
        | inl is ↦
            sha1_ok (sha1_answer phrase (whole rest)) b
            (sym (row_is accepted tag phrase (whole rest) Sha1Crypt short is) ∙ h)
        | inr none ↦ absurd (no_verdict phrase (whole rest) b short none h)
      ]

  pub sha1_law : (phrase rest : List ℕ) (b : Bool) → length phrase ≤ 511
      → any_verdict accepted tag phrase (whole rest) ≡ as_any b
      → (crypt_text phrase (whole rest) ≡ Ok (whole rest)) ↔ (b ≡ true)
  sha1_law phrase rest b short h =
      let told = parts_told phrase (whole rest) b (answer_is phrase rest b short h) in
      let p = told.means in
      let t = is_text_of (whole rest) p told.are in
      let digest : List ℕ = sha1_digest phrase p.salt p.rounds in
      law_by phrase (whole rest) (text_of p.rounds p.salt) digest p.hash b
      (subst (λ (s : List ℕ). crypt_text phrase s ≡ Ok (text_of p.rounds p.salt digest)) t.is
      (crypt_read phrase p.rounds p.salt p.hash short t.valid t.below)) (sym t.is)
      (λ same. once phrase (whole rest) p told.are t.valid (same ∙ t.is)) told.told
