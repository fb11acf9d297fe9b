-- Texts that are made are ASCII, and so UTF-8.
use Rattle.std.proofs.Common.{◌≡◌, ℕ, zero, suc, ◌+◌, ◌-◌, ◌/◌, ◌%◌, ◌^◌, ◌<◌, ◌≤◌, Bool, true, false, List, [], ◌∷◌, ◌++◌}
use Rattle.std.proofs.Common.{length, refl, sym, subst, ap, ◌∙◌, arith, inl, inr, Ok, Err, Some, None}
use Rattle.std.specs.Prelude.{◌==◌, IsAscii, Option, Result, codes, nat_le, nat_lt, if◌then◌else◌}
use Rattle.std.specs.List.{list_all}
use Rattle.std.specs.Str.{is_utf8}
use Rattle.std.proofs.lemmas.Bool.{and_parts}
use Rattle.std.proofs.lemmas.Bool.Decides.{nat_tests}
use Rattle.std.proofs.lemmas.Str.{IsAscii-append, IsUtf8-from_ascii, is_utf8-from_IsUtf8}
use Rattle.std.proofs.lemmas.Str.Ascii.{IsAscii-cons, IsAscii-nil}
use Rattle.base64ct.specs.Alphabets.{base64_bcrypt, base64_sha_crypt}
use Rattle.base64ct.proofs.Ascii.{encoding_ascii}
use Rattle.mcf.specs.Grammar.{fault}
use Rattle.mcf.specs.declared.error.Error as mcf_error
use Rattle.mcf.proofs.Ascii.{valid_ascii}
use Rattle.pieces.specs.Pieces.{pieces_at}
use Rattle.pieces.proofs.ByteTests.{all_append, all_ascii}
use Rattle.phc.specs.Record.{record_text}
use Rattle.bcrypt_plain.specs.Bcrypt.{bcrypt}
use Rattle.bcrypt_plain.specs.Field.{bcrypt_field}
use Rattle.bcrypt_plain.specs.Made.{bcrypt_text, two_digits}
use Rattle.sha_crypt.specs.Fields.{ShaFields}
use Rattle.sha_crypt.specs.Records as sha
use Rattle.sha_crypt.specs.declared.errors.Family.{Family}
use Rattle.sha_crypt.specs.declared.errors.Family.TheVariants.{Sha256, Sha512}
use Rattle.stored_check.specs.Verdict.{verdict}
use Rattle.stored_check.specs.declared.error.StoredError.{StoredError}
use Rattle.stored_check.proofs.Walk.{not_a_text}
use Rattle.any_make.specs.declared.scheme.Pbkdf2Hash.{Pbkdf2Hash}
use Rattle.any_make.specs.declared.scheme.Pbkdf2Hash.TheVariants.{Sha256, Sha512}
use Rattle.yescrypt_plain.specs.Field.{crypt_field}
use Rattle.yescrypt_plain.specs.Made.{yescrypt_hash_text}
use Rattle.yescrypt_plain.specs.Numbers.{character, class_for, class_text, digits_text, number_text}
use Rattle.yescrypt_plain.specs.Params.{in_bounds, time_text, yescrypt_params_text}
use Rattle.yescrypt_plain.specs.Yescrypt.{yescrypt}
use Rattle.yescrypt_plain.specs.declared.params.YescryptParams.{YescryptParams}
use Rattle.any_check.specs.Records.{accepted, needs_memory, tag}
use Rattle.any_check.specs.Table.{any_verdict, is_record, of_stored, sha_scheme, text_scheme}
use Rattle.any_check.proofs.Families.{sha_stored}
use Rattle.any_check.specs.Cost.{verdict_within}
use Rattle.any_check.proofs.Causes.{within}
use Rattle.any_make.specs.Costs.{is_taken}
use Rattle.any_make.specs.Made.{hash_text}
use Rattle.any_make.specs.Records.{argon2_record, pbkdf2_record, scrypt_record}
use Rattle.any_make.specs.declared.scheme.Argon2Cost.{Argon2Cost}
use Rattle.yescrypt_plain.specs.declared.params.ScryptParams.{ScryptParams}
use Rattle.any_make.specs.declared.scheme.MakeCost.{MakeCost}
use Rattle.any_make.specs.declared.scheme.MakeCost.TheVariants as cost
use Rattle.any_make.proofs.Judged.{by_record, by_row}
use Rattle.any_make.proofs.Matches.{made_is, made_matches, short_enough}
use Rattle.pwcheck_c.specs.AnyAnswers.{any_answer, bounds_of}
use Rattle.pwcheck_c.specs.Answers.{cause_answer}
use Rattle.pwcheck_c.specs.Laws.{MadeMatches}

-- ---- characters

abbrev is_small : ℕ → Bool
is_small c = nat_lt c 128

small_ascii : (text : List ℕ) → list_all is_small text ≡ true → IsAscii text
small_ascii text h = all_ascii is_small (λ b small. grind (arith, nat_tests, small)) text h

-- ---- a text that is read by the modular crypt format, as its verdict tells

stored_ok : (v : Result Bool StoredError) → of_stored v ≡ Ok true → v ≡ Ok true
stored_ok (Ok b) h = cc
stored_ok (Err e) h = absurd cc

module _ (password text : List ℕ) (short : length password ≤ 4096) (is : verdict accepted tag password text ≡ Ok true) where
  by_fault : (o : Option mcf_error.Error) → fault text ≡ o → IsAscii text
  by_fault None valid = valid_ascii text valid
  by_fault (Some e) bad =
      elim (not_a_text accepted tag needs_memory password text e short bad)
      [ inl same ↦ absurd (let err = same ∙ is in cc) | inr want ↦ absurd (let err = want.0 in cc) ]

  read_ascii : IsAscii text
  read_ascii = by_fault (fault text) refl

-- the same of a text of SHA-crypt or a record, by its verdict among all schemes
family_scheme : (family : Family) (f : ShaFields) → text_scheme (sha.record_text family f) ≡ Some (sha_scheme family)
unfolding text_scheme pieces_at sha.record_text
family_scheme Sha256 f = refl
family_scheme Sha512 f = refl

of_family : (family : Family) (password text : List ℕ) → length password ≤ 4096 → text_scheme text ≡ Some (sha_scheme family)
    → any_verdict accepted tag password text ≡ Ok true → IsAscii text
of_family family password text short named is =
    read_ascii password text short
    (stored_ok (verdict accepted tag password text)
    (sym (sha_stored accepted tag password text family) ∙ sym (by_row password text (sha_scheme family) short named) ∙ is))

of_record : (password text : List ℕ) → length password ≤ 4096 → is_record (text_scheme text) ≡ true
    → any_verdict accepted tag password text ≡ Ok true → IsAscii text
of_record password text short named is =
    read_ascii password text short
    (stored_ok (verdict accepted tag password text) (sym (by_record password text short named) ∙ is))

-- ---- bcrypt

bcrypt_ascii : (n : ℕ) (password salt : List ℕ) → n ≤ 31 → IsAscii (bcrypt_text password salt n)
bcrypt_ascii n password salt most =
    let of_salt : List ℕ = bcrypt_field salt in
    let of_hash : List ℕ = bcrypt_field (bcrypt password salt n) in
    let last : IsAscii (of_salt ++ of_hash) =
    IsAscii-append of_salt of_hash (encoding_ascii base64_bcrypt salt refl)
    (encoding_ascii base64_bcrypt (bcrypt password salt n) refl) in
    let high : 48 + n / 10 < 128 = omega (arith, most) in
    let low : 48 + n % 10 < 128 = omega arith in
    let dollar : 36 < 128 = omega arith in
    let digit : IsAscii ((48 + n % 10) ∷ []) = IsAscii-cons (48 + n % 10) [] low IsAscii-nil in
    let digits : IsAscii (two_digits n) = IsAscii-cons (48 + n / 10) ((48 + n % 10) ∷ []) high digit in
    IsAscii-append (codes "$2b$") (two_digits n ++ 36 ∷ (of_salt ++ of_hash)) (small_ascii (codes "$2b$") refl)
    (IsAscii-append (two_digits n) (36 ∷ (of_salt ++ of_hash)) digits
    (IsAscii-cons 36 (of_salt ++ of_hash) dollar last))

-- ---- yescrypt: a character of a value below 64

character_by : (a b : Bool) (v : ℕ) → v < 64 → is_small (if a then 46 + v else (if b then 53 + v else 59 + v)) ≡ true
character_by true b v small = grind (arith, nat_tests, small)
character_by false true v small = grind (arith, nat_tests, small)
character_by false false v small = grind (arith, nat_tests, small)

character_small : (v : ℕ) → v < 64 → is_small (character v) ≡ true
character_small v small = character_by (nat_lt v 12) (nat_lt v 38) v small

digits_small : (n v : ℕ) → list_all is_small (digits_text n v) ≡ true
unfolding digits_text
digits_small zero v = refl
digits_small (suc n) v =
    let digit : v / 64 ^ n % 64 < 64 = omega arith in
    rw (character_small (v / 64 ^ n % 64) digit) (digits_small n v)

class_small : (start more base v : ℕ) → start + v / 64 ^ more < 64
    → list_all is_small (class_text (record { start = start; more = more; base = base }) v) ≡ true
class_small start more base v first = rw (character_small (start + v / 64 ^ more) first) (digits_small more v)

of_class : (v start more base : ℕ) → class_for v ≡ record { start = start; more = more; base = base }
    → start + (v - base) / 64 ^ more < 64 → list_all is_small (number_text v) ≡ true
unfolding number_text
of_class v start more base is first =
    ap (λ c. list_all is_small (class_text c (v - c.base))) is ∙ class_small start more base (v - base) first

-- numbers below this are of the first four classes
number_small : (v : ℕ) → v < 541232 → list_all is_small (number_text v) ≡ true
number_small v most = by_48 (nat_lt v 48) refl
  where
    by_16944 : (t : Bool) → nat_lt v 16944 ≡ t → 560 ≤ v → list_all is_small (number_text v) ≡ true
    by_16944 true is least =
        let a : nat_lt v 48 ≡ false = grind (arith, nat_tests, least) in
        let b : nat_lt v 560 ≡ false = grind (arith, nat_tests, least) in
        let below : v < 16944 = grind (arith, nat_tests, is) in
        of_class v 56 2 560 (rw (a, b, is) refl) (omega (arith, below))
    by_16944 false is least =
        let a : nat_lt v 48 ≡ false = grind (arith, nat_tests, least) in
        let b : nat_lt v 560 ≡ false = grind (arith, nat_tests, least) in
        let c : nat_lt v 541232 ≡ true = grind (arith, nat_tests, most) in
        of_class v 60 3 16944 (rw (a, b, is, c) refl) (omega (arith, most))

    by_560 : (t : Bool) → nat_lt v 560 ≡ t → 48 ≤ v → list_all is_small (number_text v) ≡ true
    by_560 true is least =
        let a : nat_lt v 48 ≡ false = grind (arith, nat_tests, least) in
        let below : v < 560 = grind (arith, nat_tests, is) in
        of_class v 48 1 48 (rw (a, is) refl) (omega (arith, below))
    by_560 false is least =
        let above : 560 ≤ v = grind (arith, nat_tests, is) in
        by_16944 (nat_lt v 16944) refl above

    by_48 : (t : Bool) → nat_lt v 48 ≡ t → list_all is_small (number_text v) ≡ true
    by_48 true is =
        let below : v < 48 = grind (arith, nat_tests, is) in
        of_class v 0 0 0 (rw is refl) (omega (arith, below))
    by_48 false is =
        let above : 48 ≤ v = grind (arith, nat_tests, is) in
        by_560 (nat_lt v 560) refl above

-- the bounds of the numbers that are written
record IsSmall (c : YescryptParams) : Type 0 where
  pub of_ln : c.ln ≤ 24
  pub of_r : c.r < 2 ^ 19
  pub of_t : c.t ≤ 1024

small_params : (c : YescryptParams) → in_bounds c ≡ true → IsSmall c
small_params c good =
    record {
      of_ln = grind (arith, nat_tests, good);
      of_r = grind (arith, nat_tests, good);
      of_t = grind (arith, nat_tests, good);
    }

time_small : (t : ℕ) (test : Bool) → t ≤ 1024
    → list_all is_small (if test then [] else number_text 1 ++ number_text (t - 1)) ≡ true
time_small t true most = refl
time_small t false most =
    all_append is_small (number_text 1) (number_text (t - 1)) (number_small 1 (omega arith))
    (number_small (t - 1) (omega (arith, most)))

params_ascii : (c : YescryptParams) → in_bounds c ≡ true → IsAscii (yescrypt_params_text c)
unfolding yescrypt_params_text
params_ascii c good =
    let small = small_params c good in
    let ln = small.of_ln in
    let r = small.of_r in
    small_ascii _
    (all_append is_small (number_text 47) _ (number_small 47 (omega arith))
    (all_append is_small (number_text (c.ln - 1)) _ (number_small (c.ln - 1) (omega (arith, ln)))
    (all_append is_small (number_text (c.r - 1)) (time_text c.t) (number_small (c.r - 1) (omega (arith, r)))
    (time_small c.t (c.t == 0) small.of_t))))

yescrypt_ascii : (c : YescryptParams) (password salt : List ℕ) → in_bounds c ≡ true
    → IsAscii (yescrypt_hash_text password salt c)
yescrypt_ascii c password salt good =
    let key : List ℕ = yescrypt password salt c.ln c.r c.t in
    let salt_field : IsAscii (crypt_field salt) = encoding_ascii base64_sha_crypt salt refl in
    let key_field : IsAscii (crypt_field key) = encoding_ascii base64_sha_crypt key refl in
    let last : IsAscii (crypt_field salt ++ 36 ∷ crypt_field key) =
    IsAscii-append (crypt_field salt) (36 ∷ crypt_field key) salt_field
    (IsAscii-cons 36 (crypt_field key) (omega arith) key_field) in
    IsAscii-append (codes "$y$") (yescrypt_params_text c ++ 36 ∷ (crypt_field salt ++ 36 ∷ crypt_field key))
    (small_ascii (codes "$y$") refl)
    (IsAscii-append (yescrypt_params_text c) (36 ∷ (crypt_field salt ++ 36 ∷ crypt_field key)) (params_ascii c good)
    (IsAscii-cons 36 _ (omega arith) last))

-- ---- each scheme

scrypt_scheme : (c : ScryptParams) (salt key : List ℕ) → is_record (text_scheme (record_text (scrypt_record c salt key))) ≡ true
unfolding text_scheme pieces_at record_text
scrypt_scheme c salt key = refl

argon2_scheme : (c : Argon2Cost) (salt key : List ℕ) → is_record (text_scheme (record_text (argon2_record c salt key))) ≡ true
unfolding text_scheme pieces_at record_text
argon2_scheme c salt key = refl

pbkdf2_scheme : (hash : Pbkdf2Hash) (n : ℕ) (salt key : List ℕ)
    → is_record (text_scheme (record_text (pbkdf2_record hash n salt key))) ≡ true
unfolding text_scheme pieces_at record_text
pbkdf2_scheme Sha256 n salt key = refl
pbkdf2_scheme Sha512 n salt key = refl

made_ascii : (c : MakeCost) (password salt : List ℕ) → is_taken c ≡ true → length password ≤ 4096
    → any_verdict accepted tag password (hash_text c password salt) ≡ Ok true → IsAscii (hash_text c password salt)
unfolding hash_text
made_ascii (cost.ShaCrypt family n) password salt taken short is =
    of_family family password _ short (family_scheme family _) is
made_ascii (cost.Scrypt c) password salt taken short is =
    of_record password _ short (scrypt_scheme c salt _) is
made_ascii (cost.Bcrypt n) password salt taken short is =
    let parts = and_parts (nat_le 4 n) (nat_le n 31) taken in
    bcrypt_ascii n password salt (grind (arith, nat_tests, parts.1))
made_ascii (cost.Yescrypt c) password salt taken short is = yescrypt_ascii c password salt taken
made_ascii (cost.Argon2id c) password salt taken short is =
    of_record password _ short (argon2_scheme c salt _) is
made_ascii (cost.Pbkdf2 hash n) password salt taken short is =
    of_record password _ short (pbkdf2_scheme hash n salt _) is

-- ---- the law

pub any_matches : MadeMatches
unfolding any_answer
any_matches limits c password salt text below h cheap =
    let all = made_is c password salt text h in
    let taken = all.0 in
    let short : length password ≤ 4096 = short_enough c (length password) taken.short in
    let verdict : any_verdict accepted tag password text ≡ Ok true = made_matches c password salt text below h in
    let own : any_verdict accepted tag password (hash_text c password salt) ≡ Ok true =
    ap (any_verdict accepted tag password) all.1 ∙ verdict in
    let ascii : IsAscii text = subst (λ (t : List ℕ). IsAscii t) all.1 (made_ascii c password salt taken.cost short own) in
    let text_utf8 : is_utf8 text ≡ true = is_utf8-from_IsUtf8 text (IsUtf8-from_ascii text ascii) in
    let bounded : verdict_within accepted tag (bounds_of limits) password text ≡ Ok true =
    within accepted tag password text (bounds_of limits) cheap ∙ verdict in
    rw (taken.text, text_utf8) (ap cause_answer bounded)
