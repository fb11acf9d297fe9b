-- The law for texts `$y$`.
use Rattle.std.proofs.Common.{◌≡◌, ℕ, suc, ◌≤◌, Bool, true, false, List, ◌∷◌, ◌++◌, length, refl, sym, ap, ◌∙◌, arith}
use Rattle.std.proofs.Common.{append_assoc, Some, Ok, Err}
use Rattle.std.specs.Prelude.{◌↔◌, codes, nat_le, nat_lt, if◌then◌else◌}
use Rattle.std.proofs.lemmas.Bool.Decides.{nat_tests}
use Rattle.std.proofs.lemmas.List.{append_cancel_left, length-append}
use Rattle.base64ct.specs.Alphabets.{base64_sha_crypt}
use Rattle.base64ct.specs.Encoding.{EachBelow}
use Rattle.base64ct.proofs.DecodingLaws.{decoding-encoding}
use Rattle.base64ct.proofs.Encodings.{encoding_once}
use Rattle.phc.specs.declared.password_hash.PasswordHash.{PasswordHash}
use Rattle.pieces.specs.Pieces.{pieces_at}
use Rattle.pieces.proofs.ByteTests.{all_append}
use Rattle.yescrypt_plain.specs.Check.{verdict, yescrypt_answer, yescrypt_matches, yescrypt_verdict}
use Rattle.yescrypt_plain.specs.Field.{crypt_field}
use Rattle.yescrypt_plain.specs.Params.{in_bounds, yescrypt_params_text}
use Rattle.yescrypt_plain.specs.Text.{YescryptMeaning}
use Rattle.yescrypt_plain.specs.Text.{yescrypt_text}
use Rattle.yescrypt_plain.specs.Yescrypt.{yescrypt}
use Rattle.yescrypt_plain.specs.declared.error.CheckError.TheVariants as of_crypt
use Rattle.yescrypt_plain.specs.declared.params.YescryptParams.{YescryptParams}
use Rattle.yescrypt_plain.proofs.Fields.{field_len}
use Rattle.yescrypt_plain.proofs.KeyBytes.{key_below}
use Rattle.yescrypt_plain.proofs.Characters.{params_characters}
use Rattle.yescrypt_plain.proofs.ParamFields.{text_of_params}
use Rattle.yescrypt_plain.proofs.TextPieces.{field_lacks, params_lack}
use Rattle.yescrypt_plain.proofs.YescryptTexts.{text_is}
use Rattle.any_check.specs.Table.{any_verdict, of_yescrypt_check, text_scheme}
use Rattle.scheme_list.specs.declared.schemes.Scheme.TheVariants.{Yescrypt}
use Rattle.crypt_text.specs.Settings.{YescryptSetting, salt_bytes, yescrypt_setting}
use Rattle.scheme_list.specs.Schemes.{method_of}
use Rattle.crypt_text.specs.Texts as crypt
use Rattle.crypt_text.specs.Texts.{crypt_text, if_setting, method_text}
use Rattle.crypt_law.proofs.Answers.{IsTold, as_any, told_of}
use Rattle.crypt_law.proofs.Characters.{characters_clean, field_clean}
use Rattle.crypt_law.proofs.Clean.{are_clean, is_clean, none_refused}
use Rattle.crypt_law.proofs.Cuts.{after_cut, before_cut, before_last_cut, has_cut}
use Rattle.crypt_law.proofs.Lengths.{params_size, yescrypt_hash_size}
use Rattle.crypt_law.proofs.Prefixes.{crypt_is, law_by, row_is}

-- `$y$`, and the rest
abbrev pub whole : List ℕ → List ℕ
whole rest = 36 ∷ (121 ∷ (36 ∷ rest))

scheme_is : (rest : List ℕ) → text_scheme (whole rest) ≡ Some Yescrypt
unfolding text_scheme pieces_at
scheme_is rest = refl

method_is : (phrase rest : List ℕ) → length (whole rest) ≤ 339
    → method_text (method_of (whole rest)) phrase (whole rest)
    ≡ if_setting (crypt.yescrypt_text phrase) (yescrypt_setting rest)
method_is phrase rest short =
    let fits : nat_lt 339 (length (whole rest)) ≡ false = grind (arith, nat_tests, short) in
    rw fits refl

-- ---- a text is read as a setting

abbrev rest_of : YescryptParams → List ℕ → List ℕ → List ℕ
rest_of params salt hash = yescrypt_params_text params ++ 36 ∷ (crypt_field salt ++ 36 ∷ crypt_field hash)

abbrev setting : YescryptParams → List ℕ → YescryptSetting
setting params salt = record {
  params = params;
  salt = salt;
  params_text = yescrypt_params_text params;
  salt_text = crypt_field salt;
}

salt_read : (salt : List ℕ) → length salt ≤ 64 → EachBelow 256 salt → salt_bytes (crypt_field salt) ≡ Some salt
salt_read salt most below =
    let long = field_len salt below in
    let fits : length (crypt_field salt) ≤ 86 = omega (arith, long, most) in
    let test : nat_le (length (crypt_field salt)) 86 ≡ true = grind (arith, nat_tests, fits) in
    rw test (decoding-encoding base64_sha_crypt salt refl below)

setting_read : (params : YescryptParams) (salt hash : List ℕ) → in_bounds params ≡ true → length salt ≤ 64
    → EachBelow 256 salt → EachBelow 256 hash
    → yescrypt_setting (rest_of params salt hash) ≡ Some (setting params salt)
unfolding yescrypt_setting
setting_read params salt hash good most below hash_small =
    let field_text : List ℕ = yescrypt_params_text params in
    let more : List ℕ = crypt_field salt ++ 36 ∷ crypt_field hash in
    rw (
      has_cut field_text more,
      before_cut field_text more (params_lack params good),
      after_cut field_text more (params_lack params good),
      before_last_cut (crypt_field salt) (crypt_field hash) (field_lacks hash hash_small),
      text_of_params field_text params (good, refl),
      salt_read salt most below,
    ) refl

rest_clean : (params : YescryptParams) (salt hash : List ℕ) → in_bounds params ≡ true → EachBelow 256 salt
    → EachBelow 256 hash → are_clean (whole (rest_of params salt hash)) ≡ true
rest_clean params salt hash good below hash_small =
    all_append is_clean (yescrypt_params_text params) (36 ∷ (crypt_field salt ++ 36 ∷ crypt_field hash))
    (characters_clean (yescrypt_params_text params) (params_characters params good))
    (all_append is_clean (crypt_field salt) (36 ∷ crypt_field hash) (field_clean salt below) (field_clean hash hash_small))

short_text : (params : YescryptParams) (salt hash : List ℕ) → length salt ≤ 64 → length hash ≡ 32 → EachBelow 256 salt
    → EachBelow 256 hash → length (whole (rest_of params salt hash)) ≤ 339
short_text params salt hash most size below hash_small =
    let of_params = params_size params in
    let of_salt = field_len salt below in
    let of_hash = field_len hash hash_small in
    let tail = length-append (crypt_field salt) (36 ∷ crypt_field hash) in
    let rest = length-append (yescrypt_params_text params) (36 ∷ (crypt_field salt ++ 36 ∷ crypt_field hash)) in
    let all :
    suc (suc (suc (length (yescrypt_params_text params ++ 36 ∷ (crypt_field salt ++ 36 ∷ crypt_field hash))))) ≤ 339 =
    omega (arith, of_params, of_salt, of_hash, most, size, tail, rest) in
    all

-- ---- the answer

abbrev front : YescryptParams → List ℕ → List ℕ
front params salt = codes "$y$" ++ yescrypt_params_text params ++ codes "$" ++ crypt_field salt ++ codes "$"

front_is : (params : YescryptParams) (salt tail : List ℕ)
    → front params salt ++ tail ≡ whole (yescrypt_params_text params ++ 36 ∷ (crypt_field salt ++ 36 ∷ tail))
front_is params salt tail =
    let p : List ℕ = yescrypt_params_text params in
    append_assoc (codes "$y$" ++ p ++ codes "$" ++ crypt_field salt) (codes "$") tail
    ∙ append_assoc (codes "$y$" ++ p ++ codes "$") (crypt_field salt) (36 ∷ tail)
    ∙ append_assoc (codes "$y$" ++ p) (codes "$") (crypt_field salt ++ 36 ∷ tail)

abbrev key : List ℕ → YescryptMeaning → List ℕ
key phrase m = yescrypt phrase m.salt m.params.ln m.params.r m.params.t

by_verdict : (phrase : List ℕ) (t matches : Bool) → length phrase ≤ 511
    → of_yescrypt_check (verdict phrase t) ≡ as_any matches → t ≡ matches
by_verdict phrase t matches short h =
    let fits : nat_lt 4096 (length phrase) ≡ false = grind (arith, nat_tests, short) in
    by_match t (rw fits at h)
  where
    by_match : (t : Bool) → of_yescrypt_check (if t then Ok tt else Err of_crypt.HashMismatch) ≡ as_any matches
        → t ≡ matches
    by_match true h = cc
    by_match false h = cc

told_by : (phrase text : List ℕ) (matches : Bool) → length phrase ≤ 511
    → of_yescrypt_check (yescrypt_answer phrase text) ≡ as_any matches
    → IsTold (yescrypt_text text) (yescrypt_matches phrase) matches
unfolding yescrypt_answer
told_by phrase text matches short h =
    told_of (λ r. of_yescrypt_check (yescrypt_verdict phrase r)) as_any (yescrypt_matches phrase) (λ e b none. cc)
    (λ m b told. by_verdict phrase (yescrypt_matches phrase m) b short told) (yescrypt_text text) matches h

module _ (accepted : PasswordHash → List ℕ → ℕ → Bool) (tag : List ℕ → PasswordHash → List ℕ → ℕ → List ℕ) where
  pub yescrypt_law : (phrase rest : List ℕ) (matches : Bool) → length phrase ≤ 511
      → any_verdict accepted tag phrase (whole rest) ≡ as_any matches
      → (crypt_text phrase (whole rest) ≡ Ok (whole rest)) ↔ (matches ≡ true)
  yescrypt_law phrase rest matches short h =
      let text : List ℕ = whole rest in
      let answer = told_by phrase text matches short
      (sym (row_is accepted tag phrase text Yescrypt short (scheme_is rest)) ∙ h) in
      let m = answer.means in
      let found = text_is text m answer.are in
      let again : List ℕ = rest_of m.params m.salt m.hash in
      let clean = none_refused (whole again) (rest_clean m.params m.salt m.hash found.bounds found.below found.hash_below) in
      let made = ap (crypt_text phrase) found.is ∙ crypt_is phrase (whole again) short clean
      ∙ method_is phrase again
      (short_text m.params m.salt m.hash found.most (yescrypt_hash_size text m answer.are) found.below found.hash_below)
      ∙ ap (if_setting (crypt.yescrypt_text phrase))
      (setting_read m.params m.salt m.hash found.bounds found.most found.below found.hash_below) in
      law_by phrase text (λ (t : List ℕ). front m.params m.salt ++ crypt_field t) (key phrase m) m.hash matches made
      (found.is ∙ sym (front_is m.params m.salt (crypt_field m.hash)))
      (λ same.
      encoding_once base64_sha_crypt (key phrase m) m.hash refl
      (key_below phrase m.salt m.params.ln m.params.r m.params.t) found.hash_below
      (append_cancel_left (front m.params m.salt) (crypt_field (key phrase m)) (crypt_field m.hash) same))
      answer.told
