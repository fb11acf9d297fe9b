-- The policy of `pwfile` is lawful. The proofs stand here because its `impl` names the last of them.
use Rattle.std.proofs.Common.{◌≡◌, ℕ, ◌<◌, ◌≤◌, ◌^◌, Bool, true, false, List, [], ◌∷◌, ◌++◌, length, refl, sym, ap, ◌∙◌, arith}
use Rattle.std.specs.Prelude.{◌==◌, ◌||◌, codes, is_ok, nat_lt, unwrap_or, Option, Some, None, Result, Ok, Err, if◌then◌else◌}
use Rattle.std.specs.List.{list_all, list_any}
use Rattle.std.specs.Option.{option_map}
use Rattle.std.specs.Str.{IsAscii, IsUtf8}
use Rattle.std.proofs.lemmas.Bool.{and_parts, false≢true}
use Rattle.std.proofs.lemmas.Bool.Decides.{nat_tests}
use Rattle.std.proofs.lemmas.List.{length-append}
use Rattle.std.proofs.lemmas.Str.{IsUtf8-from_ascii}
use Rattle.std.proofs.lemmas.Str.Ascii.{IsAscii-nil, IsAscii-cons}
use Rattle.line_io.specs.Lines.{NoFeed, is_feed}
use Rattle.mcf.specs.Grammar.{Parts, fault, field_fault, fields_text, first_field_fault, is_field_byte, mcf, parts, parts_text}
use Rattle.mcf.specs.declared.error.Error as mcf_error
use Rattle.mcf.proofs.Ascii.{mcf_of_valid}
use Rattle.mcf.proofs.Built.{field_bytes as some_field_bytes, identifier_bytes}
use Rattle.mcf.proofs.ValidTexts.{parts_text-mcf, valid_of}
use Rattle.pieces.specs.Characters.{is_name_byte, is_tab}
use Rattle.pieces.proofs.FaultLaws.{or_none, value_found}
use Rattle.phc.specs.Encoded.{decoding, encoding}
use Rattle.phc.specs.Grammar.{is_name, salt_fault}
use Rattle.phc.specs.Record.{record_text}
use Rattle.phc.proofs.Characters.{all_append, all_weaker, name_bytes}
use Rattle.phc.proofs.EncodedBytes.{encoded_length, salt_bytes}
use Rattle.phc.proofs.NameLemmas.{name_utf8}
use Rattle.scrypt_plain.specs.Lengths.{length-pbkdf2_once}
use Rattle.scrypt_plain.specs.Profile.{accepted, key, needs_memory}
use Rattle.scrypt_plain.specs.Scrypt.{scrypt}
use Rattle.scrypt_plain.proofs.KeyBytes.{scrypt_bytes}
use Rattle.scrypt_plain.proofs.MadeRecord.{IsWritten, made_read, made_text, scrypt_made}
use Rattle.stored_check.specs.Verdict.{may_lack_memory, mcf_name, text_answer, text_needs, verdict}
use Rattle.stored_check.specs.declared.error.StoredError.{StoredError}
use Rattle.stored_check.specs.declared.error.StoredError.TheVariants as stored
use Rattle.stored_check.proofs.MadeTexts.{IsMade, record_made}
use Rattle.pw_file.specs.Policy.{IsLawful}
use Rattle.pw_file.specs.StoredTexts.{may_lack, stored_texts, verdict_on}
use Rattle.pw_file.specs.Upgraded.{upgraded_key, upgraded_text}

-- ---- names

name_short : (name : List ℕ) → is_name name ≡ true → length name ≤ 64
name_short name h = grind (arith, nat_tests, h)

-- bytes of which none is `other`
without : (p is_other : ℕ → Bool) → ((b : ℕ) → p b ≡ true → is_other b ≡ false) → (s : List ℕ) → list_all p s ≡ true
    → list_any is_other s ≡ false
without p is_other apart [] h = refl
without p is_other apart (b ∷ s) h =
    let parts = and_parts (p b) (list_all p s) h in
    rw (apart b parts.0) (without p is_other apart s parts.1)

name_tabless : (name : List ℕ) → is_name name ≡ true → list_any is_tab name ≡ false
name_tabless name h = without is_name_byte is_tab (λ b is. grind (arith, nat_tests, is)) name (name_bytes name h)

name_feedless : (name : List ℕ) → is_name name ≡ true → NoFeed name
name_feedless name h = without is_name_byte is_feed (λ b is. grind (arith, nat_tests, is)) name (name_bytes name h)

-- ---- texts

-- `$`, or a byte of an identifier or a field
abbrev pub is_text_byte : ℕ → Bool
is_text_byte b = b == 36 || is_name_byte b || is_field_byte b

of_identifier : (b : ℕ) → is_name_byte b ≡ true → is_text_byte b ≡ true
of_identifier b h = by_test (b == 36)
  where
    by_test : (t : Bool) → (t || is_name_byte b || is_field_byte b) ≡ true
    by_test true = refl
    by_test false = rw h refl

of_field : (b : ℕ) → is_field_byte b ≡ true → is_text_byte b ≡ true
of_field b h = by_test (b == 36 || is_name_byte b)
  where
    by_test : (t : Bool) → (t || is_field_byte b) ≡ true
    by_test true = refl
    by_test false = h

field_bytes : (field : List ℕ) → field_fault field ≡ None → list_all is_field_byte field ≡ true
field_bytes [] h = refl
field_bytes (b ∷ field) h = some_field_bytes b field h

fields_bytes : (fields : List (List ℕ)) → first_field_fault fields ≡ None
    → list_all is_text_byte (fields_text fields) ≡ true
fields_bytes [] h = refl
fields_bytes (field ∷ fields) h =
    let both = or_none (field_fault field) (first_field_fault fields) h in
    all_append is_text_byte field (fields_text fields)
    (all_weaker is_field_byte is_text_byte of_field field (field_bytes field both.0)) (fields_bytes fields both.1)

-- a text without a fault has no other bytes
pub text_bytes : (s : List ℕ) → fault s ≡ None → list_all is_text_byte s ≡ true
text_bytes s h =
    let valid = valid_of s h in
    let id = (parts s).id in
    let whole : parts_text (parts s) ≡ s = parts_text-mcf s (parts s) (mcf_of_valid s h) in
    let all : list_all is_text_byte (id ++ fields_text (parts s).fields) ≡ true =
    all_append is_text_byte id (fields_text (parts s).fields)
    (all_weaker is_name_byte is_text_byte of_identifier id (identifier_bytes id valid.identifier))
    (fields_bytes (parts s).fields valid.fields) in
    ap (list_all is_text_byte) (sym whole) ∙ all

ascii_byte : (b : ℕ) → is_text_byte b ≡ true → b < 128
ascii_byte b h = grind (arith, nat_tests)

ascii_text : (s : List ℕ) → list_all is_text_byte s ≡ true → IsAscii s
ascii_text [] h = IsAscii-nil
ascii_text (b ∷ s) h = let parts = and_parts (is_text_byte b) (list_all is_text_byte s) h in
    IsAscii-cons b s (ascii_byte b parts.0) (ascii_text s parts.1)

text_utf8 : (s : List ℕ) → fault s ≡ None → IsUtf8 s
text_utf8 s h = IsUtf8-from_ascii s (ascii_text s (text_bytes s h))

text_feedless : (s : List ℕ) → fault s ≡ None → NoFeed s
text_feedless s h = without is_text_byte is_feed (λ b is. grind (arith, nat_tests, is)) s (text_bytes s h)

-- no name of a fault, so no fault
no_fault : (fault : Option mcf_error.Error) → option_map mcf_name fault ≡ None → fault ≡ None
no_fault None h = refl
no_fault (Some e) h = absurd cc

-- ---- the text that an upgrade makes

-- the parameters, as they are written
written : IsWritten (codes "14") (codes "8") (codes "1") 14 8 1
written = record { pairs = refl; short = omega arith; field = refl; numbers = refl; bounds = refl }

abbrev fresh_of : List ℕ → List ℕ → List ℕ
fresh_of password salt_is = made_text (codes "14") (codes "8") (codes "1") 14 8 1 password salt_is

-- it is the text that scrypt makes with the bytes of the salt
is_made : (password salt salt_is : List ℕ) → salt ≡ encoding salt_is → decoding salt ≡ Some salt_is
    → upgraded_text password salt ≡ fresh_of password salt_is
unfolding upgraded_text record_text
is_made password salt salt_is text decodes =
    let k : List ℕ = scrypt password salt_is (2 ^ 14) 8 1 32 in
    let key_is : upgraded_key password salt ≡ k =
    ap (λ (o : Option (List ℕ)). scrypt password (unwrap_or o []) (2 ^ 14) 8 1 32) decodes in
    ap (λ (t : List ℕ). codes "$scrypt$ln=14,r=8,p=1$" ++ (salt ++ 36 ∷ encoding t)) key_is
    ∙ ap (λ (t : List ℕ). codes "$scrypt$ln=14,r=8,p=1$" ++ (t ++ 36 ∷ encoding k)) text

fault_of : (s : List ℕ) (q : Parts) → mcf s ≡ Ok q → fault s ≡ None
unfolding mcf
fault_of s q h = (value_found (parts s) q (fault s) h).0

pub fresh_good : (password salt : List ℕ) → salt_fault salt ≡ None → fault (upgraded_text password salt) ≡ None
fresh_good password salt good =
    let s = salt_bytes salt good in
    let read = made_read (codes "14") (codes "8") (codes "1") 14 8 1 written password s.bytes s.small s.least s.most in
    fault_of (upgraded_text password salt) _ (ap mcf (is_made password salt s.bytes s.text s.decoded) ∙ read)

-- it is short
pub fresh_short : (password salt : List ℕ) → salt_fault salt ≡ None → length (upgraded_text password salt) ≤ 1024
unfolding upgraded_text
fresh_short password salt good =
    let s = salt_bytes salt good in
    let few = s.most in
    let text : length salt ≡ length (encoding s.bytes) = ap length s.text in
    let size = encoded_length s.bytes s.small in
    let hash = encoded_length (upgraded_key password salt) (scrypt_bytes password _ (2 ^ 14) 8 1 32) in
    let bytes : length (upgraded_key password salt) ≡ 32 = length-pbkdf2_once password _ 32 in
    let all = length-append salt (36 ∷ encoding (upgraded_key password salt)) in
    omega (arith, few, text, size, hash, bytes, all)

-- a modular crypt text with the identifier `scrypt`
abbrev pub IsScryptText : List ℕ → Type 0
IsScryptText text = (q : Parts) × ((mcf text ≡ Ok q) × (q.id ≡ codes "scrypt"))

is_scrypt_text : (text : List ℕ) (q : Parts) → mcf text ≡ Ok q → q.id ≡ codes "scrypt" → IsScryptText text
is_scrypt_text text q read named = (q, (read, named))

pub fresh_read : (password salt : List ℕ) → salt_fault salt ≡ None → IsScryptText (upgraded_text password salt)
fresh_read password salt good =
    let s = salt_bytes salt good in
    let read = made_read (codes "14") (codes "8") (codes "1") 14 8 1 written password s.bytes s.small s.least s.most in
    is_scrypt_text (upgraded_text password salt) _ (ap mcf (is_made password salt s.bytes s.text s.decoded) ∙ read) refl

upgraded_matches : (password salt : List ℕ) → length password ≤ 4096 → salt_fault salt ≡ None
    → verdict_on password (upgraded_text password salt) ≡ Ok true
upgraded_matches password salt short good =
    let s = salt_bytes salt good in
    let made : IsMade accepted key password (fresh_of password s.bytes) =
    record_made accepted key (codes "scrypt") password (fresh_of password s.bytes) refl
    (scrypt_made (codes "14") (codes "8") (codes "1") 14 8 1 written password s.bytes s.small s.least s.most) in
    ap (verdict_on password) (is_made password salt s.bytes s.text s.decoded) ∙ made.1 password short ∙ ap Ok made.2

-- ---- verdicts

length_cases : (t : Bool) (rest : Result Bool StoredError)
    → is_ok (if t then Err stored.PasswordTooLong else rest) ≡ true → t ≡ false
length_cases false rest h = refl
length_cases true rest h = absurd (false≢true h)

judged_short : (password text : List ℕ) → is_ok (verdict_on password text) ≡ true → length password ≤ 4096
unfolding verdict
judged_short password text h =
    let test = length_cases (nat_lt 4096 (length password)) (text_answer accepted key password (mcf text)) h in
    grind (arith, nat_tests, test)

lack_judged : (password text : List ℕ) → may_lack password text ≡ true → is_ok (verdict_on password text) ≡ true
unfolding may_lack_memory
lack_judged password text h =
    (and_parts (is_ok (verdict_on password text)) (text_needs needs_memory (mcf text)) h).0

-- ---- all of it

pub stored_lawful : IsLawful stored_texts
stored_lawful = record {
  name_short = name_short;
  name_utf8 = name_utf8;
  name_tabless = name_tabless;
  name_feedless = name_feedless;
  text_utf8 = λ text none. text_utf8 text (no_fault (fault text) none);
  text_feedless = λ text none. text_feedless text (no_fault (fault text) none);
  salt_taken = λ salt good. good;
  fresh = λ password salt text good leaves. record {
    short = fresh_short password salt good;
    taken = ap (option_map mcf_name) (fresh_good password salt good);
    unlocked = refl;
    affordable = refl;
    matches = λ short. upgraded_matches password salt short good;
  };
  judged_short = judged_short;
  lack_judged = lack_judged;
  some_users = omega arith;
}
