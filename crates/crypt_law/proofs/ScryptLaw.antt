-- The law for texts `$7$`.
use Rattle.std.proofs.Common.{◌≡◌, ℕ, suc, ◌^◌, ◌≤◌, Bool, true, false, List, [], ◌∷◌, ◌++◌, length, take, refl, sym, ap, ◌∙◌, arith}
use Rattle.std.proofs.Common.{append_assoc, Some, Ok, Err}
use Rattle.std.specs.Prelude.{◌↔◌, ◌||◌, codes, nat_le, nat_lt, if◌then◌else◌}
use Rattle.std.specs.List.{list_all}
use Rattle.std.proofs.lemmas.Bool.{and_parts}
use Rattle.std.proofs.lemmas.Bool.Decides.{nat_tests}
use Rattle.std.proofs.lemmas.List.{append_cancel_left, length-append}
use Rattle.base64ct.specs.Alphabets.{base64_sha_crypt}
use Rattle.base64ct.specs.Encoding.{EachBelow}
use Rattle.base64ct.proofs.Encodings.{encoding_once}
use Rattle.phc.specs.declared.password_hash.PasswordHash.{PasswordHash}
use Rattle.pieces.specs.Pieces.{pieces_at}
use Rattle.pieces.proofs.ByteTests.{all_append}
use Rattle.scrypt_plain.specs.Scrypt.{scrypt}
use Rattle.yescrypt_plain.specs.Check.{scrypt_answer, scrypt_matches, scrypt_verdict, verdict}
use Rattle.yescrypt_plain.specs.Field.{crypt_field}
use Rattle.yescrypt_plain.specs.Numbers.{five_text}
use Rattle.yescrypt_plain.specs.Params.{scrypt_in_bounds, scrypt_params_text}
use Rattle.pieces.specs.Characters.{is_crypt_character}
use Rattle.yescrypt_plain.specs.Text.{ScryptMeaning}
use Rattle.yescrypt_plain.specs.Text.{scrypt_text}
use Rattle.yescrypt_plain.specs.declared.error.CheckError.TheVariants as of_crypt
use Rattle.yescrypt_plain.specs.declared.params.ScryptParams.{ScryptParams}
use Rattle.yescrypt_plain.proofs.Characters.{scrypt_params_characters}
use Rattle.yescrypt_plain.proofs.Fields.{field_len, field_passes}
use Rattle.scrypt_plain.proofs.KeyBytes.{scrypt_bytes}
use Rattle.yescrypt_plain.proofs.ScryptParamFields.{scrypt_params_read, scrypt_salt_behind}
use Rattle.yescrypt_plain.proofs.ScryptTexts.{text_is}
use Rattle.yescrypt_plain.proofs.TextPieces.{field_lacks}
use Rattle.any_check.specs.Table.{any_verdict, of_scrypt_check, text_scheme}
use Rattle.scheme_list.specs.declared.schemes.Scheme.TheVariants.{ScryptCrypt}
use Rattle.crypt_text.specs.Settings.{ScryptSetting, are_salt_bytes, is_dollar, scrypt_setting}
use Rattle.scheme_list.specs.Schemes.{method_of}
use Rattle.crypt_text.specs.Texts as crypt
use Rattle.crypt_text.specs.Texts.{crypt_text, if_setting, method_text}
use Rattle.crypt_law.proofs.Answers.{IsTold, as_any, told_of}
use Rattle.crypt_law.proofs.Characters.{characters_clean, field_clean}
use Rattle.crypt_law.proofs.Clean.{are_clean, is_clean, none_refused}
use Rattle.crypt_law.proofs.Cuts.{before_last_cut}
use Rattle.crypt_law.proofs.Lengths.{scrypt_hash_size, scrypt_params_size}
use Rattle.crypt_law.proofs.Prefixes.{crypt_is, law_by, row_is}

-- `$7$`, and the rest
abbrev pub whole : List ℕ → List ℕ
whole rest = 36 ∷ (55 ∷ (36 ∷ rest))

scheme_is : (rest : List ℕ) → text_scheme (whole rest) ≡ Some ScryptCrypt
unfolding text_scheme pieces_at
scheme_is rest = refl

method_is : (phrase rest : List ℕ) → length (whole rest) ≤ 339
    → method_text (method_of (whole rest)) phrase (whole rest)
    ≡ if_setting (crypt.scrypt_text rest phrase) (scrypt_setting rest)
method_is phrase rest short =
    let fits : nat_lt 339 (length (whole rest)) ≡ false = grind (arith, nat_tests, short) in
    rw fits refl

-- ---- a text is read as a setting

good_byte : (t r : Bool) (behind more : Bool) → t ≡ true → more ≡ true → (if t || r then more else behind) ≡ true
good_byte true r behind more h m = m
good_byte false r behind more h m = cc

good_bytes : (behind : Bool) (text : List ℕ) → list_all is_crypt_character text ≡ true → are_salt_bytes behind text ≡ true
unfolding are_salt_bytes
good_bytes behind [] h = refl
good_bytes behind (b ∷ text) h =
    let parts = and_parts (is_crypt_character b) (list_all is_crypt_character text) h in
    good_byte (is_crypt_character b) (is_dollar b) behind (are_salt_bytes (is_dollar b) text) parts.0
    (good_bytes (is_dollar b) text parts.1)

good_cut : (behind : Bool) (text more : List ℕ) → list_all is_crypt_character text ≡ true → list_all is_crypt_character more ≡ true
    → are_salt_bytes behind (text ++ 36 ∷ more) ≡ true
unfolding are_salt_bytes
good_cut behind [] more h m = good_bytes true more m
good_cut behind (b ∷ text) more h m =
    let parts = and_parts (is_crypt_character b) (list_all is_crypt_character text) h in
    good_byte (is_crypt_character b) (is_dollar b) behind (are_salt_bytes (is_dollar b) (text ++ 36 ∷ more)) parts.0
    (good_cut (is_dollar b) text more parts.1 m)

abbrev behind_params : List ℕ → List ℕ → List ℕ
behind_params salt hash = salt ++ 36 ∷ crypt_field hash

abbrev rest_of : ScryptParams → List ℕ → List ℕ → List ℕ
rest_of params salt hash = scrypt_params_text params ++ behind_params salt hash

abbrev setting : ScryptParams → List ℕ → ScryptSetting
setting params salt = record { params = params; salt = salt }

setting_read : (params : ScryptParams) (salt hash : List ℕ) → scrypt_in_bounds params ≡ true
    → list_all is_crypt_character salt ≡ true → EachBelow 256 hash
    → scrypt_setting (rest_of params salt hash) ≡ Some (setting params salt)
unfolding scrypt_setting
setting_read params salt hash good characters hash_small =
    let field = field_passes is_crypt_character hash refl hash_small in
    rw (
      scrypt_params_read params (behind_params salt hash) good,
      scrypt_salt_behind params (behind_params salt hash),
      good_cut false salt (crypt_field hash) characters field,
      before_last_cut salt (crypt_field hash) (field_lacks hash hash_small),
    ) refl

rest_clean : (params : ScryptParams) (salt hash : List ℕ) → scrypt_in_bounds params ≡ true
    → list_all is_crypt_character salt ≡ true → EachBelow 256 hash → are_clean (whole (rest_of params salt hash)) ≡ true
rest_clean params salt hash good characters hash_small =
    all_append is_clean (scrypt_params_text params) (behind_params salt hash)
    (characters_clean (scrypt_params_text params) (scrypt_params_characters params good))
    (all_append is_clean salt (36 ∷ crypt_field hash) (characters_clean salt characters) (field_clean hash hash_small))

short_text : (params : ScryptParams) (salt hash : List ℕ) → length salt ≤ 86 → length hash ≡ 32 → EachBelow 256 hash
    → length (whole (rest_of params salt hash)) ≤ 339
short_text params salt hash most size hash_small =
    let of_params = scrypt_params_size params in
    let of_hash = field_len hash hash_small in
    let tail = length-append salt (36 ∷ crypt_field hash) in
    let rest = length-append (scrypt_params_text params) (salt ++ 36 ∷ crypt_field hash) in
    let all : suc (suc (suc (length (scrypt_params_text params ++ (salt ++ 36 ∷ crypt_field hash))))) ≤ 339 =
    omega (arith, of_params, of_hash, most, size, tail, rest) in
    all

-- ---- the answer

front_params : (params : ScryptParams) (more : List ℕ) → take 11 (scrypt_params_text params ++ more) ≡ scrypt_params_text params
unfolding scrypt_params_text five_text
front_params params more = refl

abbrev front : ScryptParams → List ℕ → List ℕ
front params salt = codes "$7$" ++ scrypt_params_text params ++ salt ++ codes "$"

front_is : (params : ScryptParams) (salt tail : List ℕ)
    → front params salt ++ tail ≡ whole (scrypt_params_text params ++ (salt ++ 36 ∷ tail))
front_is params salt tail =
    let p : List ℕ = scrypt_params_text params in
    append_assoc (codes "$7$" ++ p ++ salt) (codes "$") tail
    ∙ append_assoc (codes "$7$" ++ p) salt (36 ∷ tail)

text_again : (params : ScryptParams) (salt hash : List ℕ)
    → whole ((scrypt_params_text params ++ salt) ++ 36 ∷ crypt_field hash) ≡ whole (rest_of params salt hash)
text_again params salt hash = ap whole (append_assoc (scrypt_params_text params) salt (36 ∷ crypt_field hash))

abbrev key : List ℕ → ScryptMeaning → List ℕ
key phrase m = scrypt phrase m.salt (2 ^ m.params.ln) m.params.r m.params.p 32

by_match : (t matches : Bool) → of_scrypt_check (if t then Ok tt else Err of_crypt.HashMismatch) ≡ as_any matches
    → t ≡ matches
by_match true matches h = cc
by_match false matches h = cc

by_verdict : (phrase : List ℕ) (t matches : Bool) → length phrase ≤ 511
    → of_scrypt_check (verdict phrase t) ≡ as_any matches → t ≡ matches
by_verdict phrase t matches short h =
    let fits : nat_lt 4096 (length phrase) ≡ false = grind (arith, nat_tests, short) in
    by_match t matches (rw fits at h)

told_by : (phrase text : List ℕ) (matches : Bool) → length phrase ≤ 511
    → of_scrypt_check (scrypt_answer phrase text) ≡ as_any matches
    → IsTold (scrypt_text text) (scrypt_matches phrase) matches
unfolding scrypt_answer
told_by phrase text matches short h =
    told_of (λ r. of_scrypt_check (scrypt_verdict phrase r)) as_any (scrypt_matches phrase) (λ e b none. cc)
    (λ m b told. by_verdict phrase (scrypt_matches phrase m) b short told) (scrypt_text text) matches h

module _ (accepted : PasswordHash → List ℕ → ℕ → Bool) (tag : List ℕ → PasswordHash → List ℕ → ℕ → List ℕ) where
  pub scrypt_law : (phrase rest : List ℕ) (matches : Bool) → length phrase ≤ 511
      → any_verdict accepted tag phrase (whole rest) ≡ as_any matches
      → (crypt_text phrase (whole rest) ≡ Ok (whole rest)) ↔ (matches ≡ true)
  scrypt_law phrase rest matches short h =
      let text : List ℕ = whole rest in
      let answer = told_by phrase text matches short
      (sym (row_is accepted tag phrase text ScryptCrypt short (scheme_is rest)) ∙ h) in
      let m = answer.means in
      let found = text_is text m answer.are in
      let of_salt = and_parts (nat_le (length m.salt) 86) (list_all is_crypt_character m.salt) found.salt in
      let few = of_salt.0 in
      let most : length m.salt ≤ 86 = grind (arith, nat_tests, few) in
      let characters = of_salt.1 in
      let again : List ℕ = rest_of m.params m.salt m.hash in
      let is : text ≡ whole again = found.is ∙ text_again m.params m.salt m.hash in
      let clean = none_refused (whole again) (rest_clean m.params m.salt m.hash found.bounds characters found.hash_below) in
      let made = ap (crypt_text phrase) is ∙ crypt_is phrase (whole again) short clean
      ∙ method_is phrase again (short_text m.params m.salt m.hash most (scrypt_hash_size text m answer.are) found.hash_below)
      ∙ ap (if_setting (crypt.scrypt_text again phrase))
      (setting_read m.params m.salt m.hash found.bounds characters found.hash_below)
      ∙ ap (λ (p : List ℕ). Ok (codes "$7$" ++ p ++ m.salt ++ codes "$" ++ crypt_field (key phrase m)))
      (front_params m.params (behind_params m.salt m.hash)) in
      law_by phrase text (λ (t : List ℕ). front m.params m.salt ++ crypt_field t) (key phrase m) m.hash matches made
      (is ∙ sym (front_is m.params m.salt (crypt_field m.hash)))
      (λ same.
      encoding_once base64_sha_crypt (key phrase m) m.hash refl
      (scrypt_bytes phrase m.salt (2 ^ m.params.ln) m.params.r m.params.p 32) found.hash_below
      (append_cancel_left (front m.params m.salt) (crypt_field (key phrase m)) (crypt_field m.hash) same))
      answer.told
