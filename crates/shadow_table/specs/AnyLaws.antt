-- The policy is lawful. The proofs stand here because its `impl` names the last of them.
use Rattle.std.proofs.Common.{◌≡◌, ℕ, ◌<◌, ◌≤◌, Bool, true, false, List, [], ◌∷◌, length, refl, sym, ap, ◌∙◌, arith, subst}
use Rattle.std.specs.Prelude.{◌&&◌, is_ok, nat_le, nat_lt, not, Option, Some, None, Result, Ok, Err, if◌then◌else◌}
use Rattle.std.specs.List.{list_all, list_any}
use Rattle.std.specs.Str.{IsAscii, IsUtf8, is_utf8}
use Rattle.std.proofs.lemmas.Bool.{and_parts, or_parts, false≢true}
use Rattle.std.proofs.lemmas.Bool.Decides.{nat_tests}
use Rattle.std.proofs.lemmas.Str.{IsUtf8-from_ascii, IsUtf8-from_is_utf8}
use Rattle.std.proofs.lemmas.Str.Ascii.{IsAscii-nil, IsAscii-cons}
use Rattle.line_io.specs.Lines.{NoFeed, is_feed}
use Rattle.mcf.specs.Grammar.{mcf}
use Rattle.phc.specs.Grammar.{salt_fault}
use Rattle.phc.specs.declared.error.Error.TheVariants.{SaltTooLong, SaltTooShort}
use Rattle.any_make.specs.Costs.{salt_length}
use Rattle.phc.proofs.EncodedBytes.{salt_bytes}
use Rattle.base64ct.specs.Encoding.{EachBelow}
use Rattle.any_make.specs.Made.{made}
use Rattle.any_make.specs.declared.error.MakeFault.{MakeFault}
use Rattle.any_make.proofs.Matches.{made_matches}
use Rattle.any_check.specs.Kinds.{text_kind}
use Rattle.pieces.specs.Characters.{is_tab}
use Rattle.pieces.specs.Faults.{unless}
use Rattle.pieces.proofs.FaultLaws.{first_none}
use Rattle.stored_check.specs.Verdict.{may_lack_memory, text_answer}
use Rattle.stored_check.specs.Verdict.{text_needs, verdict}
use Rattle.stored_check.specs.declared.error.StoredError.{StoredError}
use Rattle.stored_check.specs.declared.error.StoredError.TheVariants.{PasswordTooLong}
use Rattle.yescrypt_plain.specs.Check.{is_verdict, scrypt_answer, scrypt_matches, scrypt_verdict, yescrypt_answer}
use Rattle.yescrypt_plain.specs.Check.{yescrypt_matches, yescrypt_verdict}
use Rattle.yescrypt_plain.specs.Text.{ScryptMeaning, YescryptMeaning, scrypt_text, yescrypt_text}
use Rattle.yescrypt_plain.specs.declared.error.CheckError.TheVariants as of_crypt
use Rattle.yescrypt_plain.specs.declared.error.TextFault.{TextFault}
use Rattle.any_check.specs.Given.{given_may_lack, given_verdict}
use Rattle.any_check.specs.Records.{accepted, needs_memory, tag}
use Rattle.any_check.specs.Table.{any_may_lack, any_verdict, of_scrypt_check, of_stored, of_yescrypt_check}
use Rattle.any_check.specs.Table.{row_may_lack, scheme_answer, text_scheme}
use Rattle.any_check.specs.declared.error.AnyError.{AnyError}
use Rattle.any_check.specs.declared.error.AnyError.TheVariants.{Stored}
use Rattle.scheme_list.specs.declared.schemes.Scheme.{Scheme}
use Rattle.scheme_list.specs.declared.schemes.Scheme.TheVariants.{Argon2d, Argon2i, Argon2id, Pbkdf2Sha256}
use Rattle.scheme_list.specs.declared.schemes.Scheme.TheVariants.{Pbkdf2Sha1, Pbkdf2Sha512, Scrypt, ScryptCrypt, Yescrypt}
use Rattle.pw_file.specs.Policy.{IsFresh, IsLawful}
use Rattle.shadow_table.specs.AnyTexts.{any_texts}
use Rattle.shadow_table.specs.Rules.{bytes_of_salt, fault_of_salt, fresh_text, is_put, is_too_costly, keeps, keeps_beside, text_made}
use Rattle.shadow_table.specs.Strength.{is_weaker_kind, keeps_kind}
use Rattle.shadow_table.specs.declared.rules.TableRules.{TableRules}
use Rattle.shadow_table.specs.Fields.{has_name_bytes, is_cut_byte, is_field, is_field_byte, is_locked_text, is_user_name}
use Rattle.shadow_table.specs.declared.fault.FieldFault.TheVariants.{Byte}

-- ---- names

-- bytes of which none is one of these has none of those among them
without : (p q : ℕ → Bool) → ((b : ℕ) → p b ≡ false → q b ≡ false) → (s : List ℕ) → list_any p s ≡ false
    → list_any q s ≡ false
without p q apart [] h = refl
without p q apart (b ∷ s) h =
    let parts = or_parts (p b) (list_any p s) h in
    rw (apart b parts.0) (without p q apart s parts.1)

-- what is asked of the bytes of a name
record HasNameBytes (s : List ℕ) : Type 0 where
  pub most : length s ≤ 64
  pub uncut : list_any is_cut_byte s ≡ false

name_bytes : (s : List ℕ) → is_user_name s ≡ true → HasNameBytes s
name_bytes s h =
    let bytes = (and_parts (is_utf8 s) (has_name_bytes s) h).1 in
    record { most = grind (arith, nat_tests, bytes); uncut = grind (arith, nat_tests, bytes) }

name_utf8 : (s : List ℕ) → is_user_name s ≡ true → IsUtf8 s
name_utf8 s h = IsUtf8-from_is_utf8 s (and_parts (is_utf8 s) (has_name_bytes s) h).0

name_tabless : (s : List ℕ) → is_user_name s ≡ true → list_any is_tab s ≡ false
name_tabless s h =
    without is_cut_byte is_tab (λ b is. grind (arith, nat_tests, is)) s (name_bytes s h).uncut

name_feedless : (s : List ℕ) → is_user_name s ≡ true → NoFeed s
name_feedless s h =
    without is_cut_byte is_feed (λ b is. grind (arith, nat_tests, is)) s (name_bytes s h).uncut

-- ---- texts

field_if : (t : Bool) → unless t Byte ≡ None → t ≡ true
field_if true h = refl
field_if false h = absurd cc

ascii : (s : List ℕ) → list_all is_field_byte s ≡ true → IsAscii s
ascii [] h = IsAscii-nil
ascii (b ∷ s) h =
    let parts = and_parts (is_field_byte b) (list_all is_field_byte s) h in
    let byte = parts.0 in
    let small : b < 128 = grind (arith, nat_tests, byte) in
    IsAscii-cons b s small (ascii s parts.1)

feedless : (s : List ℕ) → list_all is_field_byte s ≡ true → NoFeed s
feedless [] h = refl
feedless (b ∷ s) h =
    let parts = and_parts (is_field_byte b) (list_all is_field_byte s) h in
    let byte = parts.0 in
    let other : is_feed b ≡ false = grind (arith, nat_tests, byte) in
    rw other (feedless s parts.1)

pub text_utf8 : (s : List ℕ) → unless (is_field s) Byte ≡ None → IsUtf8 s
text_utf8 s none = IsUtf8-from_ascii s (ascii s (field_if (is_field s) none))

text_feedless : (s : List ℕ) → unless (is_field s) Byte ≡ None → NoFeed s
text_feedless s none = feedless s (field_if (is_field s) none)

-- ---- the text that an upgrade makes

salt_taken : (r : TableRules) (salt : List ℕ) → fault_of_salt r salt ≡ None → salt_fault salt ≡ None
salt_taken r salt none =
    (first_none (salt_fault salt)
    (unless (nat_le (salt_length r.upgrade_to) (length (bytes_of_salt salt))) SaltTooShort
    ∷ unless (nat_le (length (bytes_of_salt salt)) (salt_length r.upgrade_to)) SaltTooLong
    ∷ []) none).0

-- the bytes of a salt are bytes
salt_below : (salt : List ℕ) → salt_fault salt ≡ None → EachBelow 256 (bytes_of_salt salt)
salt_below salt good = let s = salt_bytes salt good in rw (s.decoded) s.small

not_true : (t : Bool) → not t ≡ true → t ≡ false
not_true true h = absurd (false≢true h)
not_true false h = refl

not_false : (t : Bool) → not t ≡ false → t ≡ true
not_false true h = refl
not_false false h = absurd (false≢true (sym h))

-- what is asked of a text that comes in the place of another
pub record IsPut (r : TableRules) (password old fresh : List ℕ) : Type 0 where
  pub short : length fresh ≤ 1024
  pub is_text : is_field fresh ≡ true
  pub unlocked : is_locked_text fresh ≡ false
  pub affordable : is_too_costly r.limits password fresh ≡ false
  pub no_weaker : is_weaker_kind (text_kind accepted fresh) (text_kind accepted old) ≡ false

pub put_parts : (r : TableRules) (password old fresh : List ℕ) → is_put r password old fresh ≡ true → IsPut r password old fresh
put_parts r password old fresh h =
    let costly = is_too_costly r.limits password fresh in
    let weaker = is_weaker_kind (text_kind accepted fresh) (text_kind accepted old) in
    let short = nat_le (length fresh) 1024 in
    let unlocked = not (is_locked_text fresh) in
    let a = and_parts (short && is_field fresh && unlocked && not costly) (not weaker) h in
    let b = and_parts (short && is_field fresh && unlocked) (not costly) a.0 in
    let c = and_parts (short && is_field fresh) unlocked b.0 in
    let d = and_parts short (is_field fresh) c.0 in
    let few = d.0 in
    record {
      short = grind (arith, nat_tests, few);
      is_text = d.1;
      unlocked = not_true (is_locked_text fresh) c.1;
      affordable = not_true costly b.1;
      no_weaker = not_true weaker a.1;
    }

-- a text that was made of the password and comes in the place of the old one
pub record IsMade (r : TableRules) (password salt old : List ℕ) : Type 0 where
  pub put : IsPut r password old (fresh_text r password salt)
  pub kept_not : keeps_kind r.upgrade_to (text_kind accepted old) ≡ false
  pub matches : given_verdict None password (fresh_text r password salt) ≡ Ok true

pub made_parts : (r : TableRules) (password salt old : List ℕ) → salt_fault salt ≡ None → keeps r password salt old ≡ false → IsMade r password salt old
made_parts r password salt old good leaves =
    let parts = or_parts (keeps_kind r.upgrade_to (text_kind accepted old)) (keeps_beside r password old (made r.upgrade_to password (bytes_of_salt salt))) leaves in
    by_made parts.0 (made r.upgrade_to password (bytes_of_salt salt)) refl parts.1
  where
    by_made : keeps_kind r.upgrade_to (text_kind accepted old) ≡ false → (m : Result (List ℕ) MakeFault)
        → made r.upgrade_to password (bytes_of_salt salt) ≡ m → keeps_beside r password old m ≡ false → IsMade r password salt old
    by_made other (Err e) at h = absurd (false≢true (sym h))
    by_made other (Ok fresh) at h =
        let is : fresh_text r password salt ≡ fresh = ap text_made at in
        record {
          put = subst (λ (t : List ℕ). IsPut r password old t) (sym is) (put_parts r password old fresh (not_false (is_put r password old fresh) h));
          kept_not = other;
          matches = ap (given_verdict None password) is ∙ made_matches r.upgrade_to password (bytes_of_salt salt) fresh (salt_below salt good) at;
        }

fresh_known : (r : TableRules) (password salt old : List ℕ) → fault_of_salt r salt ≡ None → keeps r password salt old ≡ false
    → IsFresh (any_texts r) password (fresh_text r password salt)
fresh_known r password salt old good leaves =
    let m = made_parts r password salt old (salt_taken r salt good) leaves in
    record {
      short = m.put.short;
      taken = ap (λ (t : Bool). unless t Byte) m.put.is_text;
      unlocked = m.put.unlocked;
      affordable = m.put.affordable;
      matches = λ short. m.matches;
    }

-- ---- verdicts

length_cases : {E : Type 0} → (t : Bool) (e : E) (rest : Result Bool E) → is_ok (if t then Err e else rest) ≡ true
    → t ≡ false
length_cases false e rest h = refl
length_cases true e rest h = absurd (false≢true h)

judged_short : (password text : List ℕ) → is_ok (given_verdict None password text) ≡ true → length password ≤ 4096
unfolding any_verdict
judged_short password text h =
    let test = length_cases (nat_lt 4096 (length password)) (Stored PasswordTooLong)
    (scheme_answer accepted tag (text_scheme text) password text) h in
    grind (arith, nat_tests, test)

-- ---- where memory may be wanting there is a verdict

-- a password is short, and the row of its text has a verdict
abbrev IsJudged : List ℕ → Result Bool AnyError → Type 0
IsJudged password r = (nat_lt 4096 (length password) ≡ false) × (is_ok r ≡ true)

stored_ok : (r : Result Bool StoredError) → is_ok r ≡ true → is_ok (of_stored r) ≡ true
stored_ok (Ok b) h = refl
stored_ok (Err e) h = absurd (false≢true h)

record_short : (password text : List ℕ) → is_ok (verdict accepted tag password text) ≡ true
    → nat_lt 4096 (length password) ≡ false
unfolding verdict
record_short password text ok =
    length_cases (nat_lt 4096 (length password)) PasswordTooLong (text_answer accepted tag password (mcf text)) ok

record_judged : (password text : List ℕ) → may_lack_memory accepted needs_memory tag password text ≡ true
    → IsJudged password (of_stored (verdict accepted tag password text))
unfolding may_lack_memory
record_judged password text h =
    let ok = (and_parts (is_ok (verdict accepted tag password text)) (text_needs needs_memory (mcf text)) h).0 in
    (record_short password text ok, stored_ok (verdict accepted tag password text) ok)

-- by the length of the password, and whether the hash matches
crypt_cases : (password : List ℕ) (long matches : Bool) → nat_lt 4096 (length password) ≡ long
    → is_verdict (if long then Err of_crypt.PasswordTooLong else (if matches then Ok tt else Err of_crypt.HashMismatch))
    ≡ true
    → (nat_lt 4096 (length password) ≡ false)
    × ((is_ok (of_yescrypt_check
    (if long then Err of_crypt.PasswordTooLong else (if matches then Ok tt else Err of_crypt.HashMismatch))) ≡ true)
    × (is_ok (of_scrypt_check
    (if long then Err of_crypt.PasswordTooLong else (if matches then Ok tt else Err of_crypt.HashMismatch))) ≡ true))
crypt_cases password true matches is h = absurd (false≢true h)
crypt_cases password false true is h = (is, (refl, refl))
crypt_cases password false false is h = (is, (refl, refl))

yescrypt_cases : (password : List ℕ) (r : Result YescryptMeaning TextFault)
    → is_verdict (yescrypt_verdict password r) ≡ true
    → IsJudged password (of_yescrypt_check (yescrypt_verdict password r))
yescrypt_cases password (Err e) h = absurd (false≢true h)
yescrypt_cases password (Ok m) h =
    let both = crypt_cases password (nat_lt 4096 (length password)) (yescrypt_matches password m) refl h in
    (both.0, both.1.0)

scrypt_cases : (password : List ℕ) (r : Result ScryptMeaning TextFault)
    → is_verdict (scrypt_verdict password r) ≡ true
    → IsJudged password (of_scrypt_check (scrypt_verdict password r))
scrypt_cases password (Err e) h = absurd (false≢true h)
scrypt_cases password (Ok m) h =
    let both = crypt_cases password (nat_lt 4096 (length password)) (scrypt_matches password m) refl h in
    (both.0, both.1.1)

yescrypt_judged : (password text : List ℕ) → is_verdict (yescrypt_answer password text) ≡ true
    → IsJudged password (of_yescrypt_check (yescrypt_answer password text))
unfolding yescrypt_answer
yescrypt_judged password text h = yescrypt_cases password (yescrypt_text text) h

scrypt_judged : (password text : List ℕ) → is_verdict (scrypt_answer password text) ≡ true
    → IsJudged password (of_scrypt_check (scrypt_answer password text))
unfolding scrypt_answer
scrypt_judged password text h = scrypt_cases password (scrypt_text text) h

row_judged : (password text : List ℕ) (scheme : Option Scheme)
    → row_may_lack accepted needs_memory tag scheme password text ≡ true
    → IsJudged password (scheme_answer accepted tag scheme password text)
row_judged password text (Some Yescrypt) h = yescrypt_judged password text h
row_judged password text (Some ScryptCrypt) h = scrypt_judged password text h
row_judged password text (Some Scrypt) h = record_judged password text h
row_judged password text (Some Pbkdf2Sha256) h = record_judged password text h
row_judged password text (Some Pbkdf2Sha512) h = record_judged password text h
row_judged password text (Some Pbkdf2Sha1) h = record_judged password text h
row_judged password text (Some Argon2d) h = record_judged password text h
row_judged password text (Some Argon2i) h = record_judged password text h
row_judged password text (Some Argon2id) h = record_judged password text h
row_judged password text other h = absurd (false≢true h)

lack_judged : (password text : List ℕ) → given_may_lack None password text ≡ true
    → is_ok (given_verdict None password text) ≡ true
unfolding any_verdict any_may_lack
lack_judged password text h =
    let judged = row_judged password text (text_scheme text) h in
    rw (judged.0) judged.1

-- ---- all of it

pub any_lawful : (r : TableRules) → IsLawful (any_texts r)
any_lawful r = record {
  name_short = λ name is. (name_bytes name is).most;
  name_utf8 = name_utf8;
  name_tabless = name_tabless;
  name_feedless = name_feedless;
  text_utf8 = text_utf8;
  text_feedless = text_feedless;
  salt_taken = salt_taken r;
  fresh = fresh_known r;
  judged_short = judged_short;
  lack_judged = lack_judged;
  some_users = omega arith;
}
