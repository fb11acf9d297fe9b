-- What SHA-crypt texts are made of; salts have neither `$` nor `=`.
use Rattle.std.proofs.Common.{◌≡◌, ℕ, ◌≤◌, Bool, true, false, List, length, refl, sym, subst, ap, ◌∙◌, arith}
use Rattle.std.specs.Prelude.{◌==◌, ◌&&◌, not, nat_le, ℤ, Result, Ok, Err}
use Rattle.std.specs.List.{list_all}
use Rattle.std.specs.Str.{is_utf8}
use Rattle.std.proofs.lemmas.Bool.{and_parts, eqb-true, false≢true}
use Rattle.std.proofs.lemmas.Bool.Decides.{nat_tests}
use Rattle.mcf.specs.Grammar.{is_field_byte}
use Rattle.phc.proofs.Characters.{all_weaker}
use Rattle.pieces.proofs.ByteTests.{is_not}
use Rattle.sha_crypt.proofs.MadeTexts.{IsSalt}
use Rattle.sha_crypt.specs.declared.errors.CryptError.{CryptError}
pub use Rattle.stored_check.proofs.Normals.{as_verdict}
use Rattle.pwcheck_c.specs.Inputs.{is_password, is_salt, is_salt_character, rounds_taken, text_takes}
use Rattle.c_buffers.specs.Put.{IsPut}

-- what is no character of a salt is another one
other : (c : ℕ) → is_salt_character c ≡ false → (b : ℕ) → is_salt_character b ≡ true → is_not c b ≡ true
other c none b one = by_test (b == c) refl
  where
    by_test : (t : Bool) → (b == c) ≡ t → not t ≡ true
    by_test false is = refl
    by_test true is = absurd (false≢true (sym none ∙ ap is_salt_character (sym (eqb-true b c is)) ∙ one))

-- a character of a salt may stand in a field
in_field : (b : ℕ) → is_salt_character b ≡ true → is_field_byte b ≡ true
in_field b one = grind (arith, nat_tests, one)

pub plain_salt : (salt : List ℕ) → is_salt salt ≡ true → (1 ≤ length salt) × (list_all is_field_byte salt ≡ true)
plain_salt salt is =
    let parts = and_parts (nat_le 1 (length salt) && nat_le (length salt) 16) (list_all is_salt_character salt) is in
    let lengths = and_parts (nat_le 1 (length salt)) (nat_le (length salt) 16) parts.0 in
    (grind (arith, nat_tests, lengths.0), all_weaker is_salt_character is_field_byte in_field salt parts.1)

pub salt_for_text : (salt : List ℕ) → is_salt salt ≡ true → IsSalt salt
salt_for_text salt is =
    let parts = and_parts (nat_le 1 (length salt) && nat_le (length salt) 16) (list_all is_salt_character salt) is in
    let lengths = and_parts (nat_le 1 (length salt)) (nat_le (length salt) 16) parts.0 in
    record {
      short = grind (arith, nat_tests, lengths.1);
      dollar = all_weaker is_salt_character (is_not 36) (other 36 refl) salt parts.1;
      equals = all_weaker is_salt_character (is_not 61) (other 61 refl) salt parts.1;
    }

-- the rounds of a text that is made
pub rounds_in_range : (password : List ℕ) (rounds : ℕ) → rounds_taken password rounds ≡ true
    → (1000 ≤ rounds) × (rounds ≤ 999999999)
rounds_in_range password rounds is =
    let parts = and_parts (is_password password && nat_le 1000 rounds) (nat_le rounds 999999999) is in
    let first = and_parts (is_password password) (nat_le 1000 rounds) parts.0 in
    (grind (arith, nat_tests, first.1), grind (arith, nat_tests, parts.1))

-- what a text is made of
pub record IsTaken (password salt : List ℕ) (rounds : ℕ) : Type 0 where
  pub least : 1000 ≤ rounds
  pub most : rounds ≤ 999999999
  pub short : is_password password ≡ true
  pub fits : length password ≤ 4096
  pub text : is_utf8 password ≡ true
  pub good : is_salt salt ≡ true

pub taken_parts : (password salt : List ℕ) (rounds : ℕ) → text_takes password salt rounds ≡ true
    → IsTaken password salt rounds
taken_parts password salt rounds is =
    let parts = and_parts (rounds_taken password rounds && is_utf8 password) (is_salt salt) is in
    let first = and_parts (rounds_taken password rounds) (is_utf8 password) parts.0 in
    let range = rounds_in_range password rounds first.0 in
    let some = and_parts (is_password password && nat_le 1000 rounds) (nat_le rounds 999999999) first.0 in
    let one = and_parts (is_password password) (nat_le 1000 rounds) some.0 in
    record {
      least = range.0;
      most = range.1;
      short = one.0;
      fits = grind (arith, nat_tests, one.0);
      text = first.1;
      good = parts.1;
    }

-- parameters that are made with these rounds have them
rounds_once : (m n : ℕ) (r : Result ℕ CryptError) → r ≡ Ok m → r ≡ Ok n → m ≡ n
rounds_once m n r is_m is_n =
    ap (λ (o : Result ℕ CryptError). elim o as (λ _. ℕ) [ Ok k ↦ k | Err e ↦ 0 ]) (sym is_m ∙ is_n)

-- the text that was put, at the rounds that parameters have, is the one of these rounds
pub text_put : (text_of : List ℕ → List ℕ → ℕ → List ℕ) (password salt text old new : List ℕ)
    (rounds params n_old n_new : ℕ) (status : ℤ) (made : Result ℕ CryptError) → text_takes password salt rounds ≡ true
    → (1000 ≤ rounds → rounds ≤ 999999999 → made ≡ Ok rounds) → made ≡ Ok params
    → text ≡ text_of password salt params → IsPut text old new n_old n_new status
    → IsPut (text_of password salt rounds) old new n_old n_new status
text_put text_of password salt text old new rounds params n_old n_new status made taken inside is text_is put =
    let parts = taken_parts password salt rounds taken in
    let same : params ≡ rounds = rounds_once params rounds made is (inside parts.least parts.most) in
    subst (λ (t : List ℕ). IsPut t old new n_old n_new status)
    (text_is ∙ ap (λ (n : ℕ). text_of password salt n) same) put
