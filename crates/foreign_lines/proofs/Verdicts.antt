-- The verdict on a text of PBKDF2 that a converter makes.
use Rattle.std.proofs.Common.{◌≡◌, ℕ, ◌^◌, ◌<◌, ◌≤◌, true, false, List, [], ◌∷◌, ◌++◌, length, refl, sym, ap, ◌∙◌}
use Rattle.std.proofs.Common.{append-nil, append_assoc, arith, Ok}
use Rattle.std.specs.Prelude.{codes, nat_le, nat_lt, Some, None}
use Rattle.std.specs.Fmt.{decimal}
use Rattle.std.proofs.lemmas.Bool.Decides.{nat_tests}
use Rattle.base64ct.specs.Encoding.{EachBelow}
use Rattle.mcf.specs.Grammar.{Parts, fault, field_fault, first_field_fault, is_identifier, mcf, parts, parts_text}
use Rattle.mcf.proofs.Built.{mcf-parts_text}
use Rattle.mcf.proofs.Pushed.{good_field}
use Rattle.pieces.proofs.FaultLaws.{value_found}
use Rattle.pieces.proofs.PlainNumbers.{decimal_read}
use Rattle.phc.specs.Encoded.{encoding}
use Rattle.phc.specs.Grammar.{decimal_value}
use Rattle.phc.specs.Record.{phc, record_text}
use Rattle.phc_kdf.proofs.RecordFields.{encoded_good, in_field, read_phc}
use Rattle.pbkdf2_key.specs.Profile.{pbkdf2_accepts, pbkdf2_key, pbkdf2_with}
use Rattle.stored_check.specs.Verdict.{parts_answer, phc_answer, same_text, scheme_of, verdict}
use Rattle.stored_check.proofs.MadeTexts.{of_parts}
use Rattle.any_check.specs.Records.{accepted, tag}
use Rattle.any_check.specs.Table.{any_verdict, is_record, of_stored, text_scheme}
use Rattle.any_check.proofs.Families.{record_stored}
use Rattle.scheme_list.specs.Schemes.{scheme_named}
use Rattle.foreign_text.specs.Laws.{AreHeld}
use Rattle.foreign_text.specs.Records.{identifier, made_text, record_of}
use Rattle.foreign_text.specs.declared.kdf.Kdf.TheVariants.{Pbkdf2}
use Rattle.foreign_text.specs.declared.kdf.Pbkdf2Hash.{Pbkdf2Hash}
use Rattle.foreign_text.specs.declared.kdf.Pbkdf2Hash.TheVariants.{Sha1, Sha256, Sha512}
use Rattle.foreign_lines.specs.Laws.{derivation}
use Rattle.foreign_text.proofs.Records.{read_again}

-- ---- fields

rounds_good : (n : ℕ) → n < 2 ^ 32 → field_fault (105 ∷ 61 ∷ decimal n) ≡ None
rounds_good n small =
    good_field (105 ∷ 61 ∷ decimal n) (omega arith) (in_field n small)

-- ---- the parts

abbrev made_parts : Pbkdf2Hash → ℕ → List ℕ → List ℕ → Parts
made_parts hash rounds salt key = record {
  id = identifier (Pbkdf2 hash rounds);
  fields = (105 ∷ 61 ∷ decimal rounds) ∷ encoding salt ∷ encoding key ∷ [];
}

printed : (hash : Pbkdf2Hash) (rounds : ℕ) (salt key : List ℕ)
    → parts_text (made_parts hash rounds salt key) ≡ made_text (Pbkdf2 hash rounds) salt key
unfolding made_text record_text
printed Sha1 rounds salt key =
    let params : List ℕ = 36 ∷ 105 ∷ 61 ∷ decimal rounds in
    ap (λ (t : List ℕ). codes "$pbkdf2-sha1" ++ (params ++ ((36 ∷ encoding salt) ++ t))) (append-nil (36 ∷ encoding key))
    ∙ ap (λ (t : List ℕ). codes "$pbkdf2-sha1" ++ t) (sym (append_assoc params (36 ∷ encoding salt) (36 ∷ encoding key)))
printed Sha256 rounds salt key =
    let params : List ℕ = 36 ∷ 105 ∷ 61 ∷ decimal rounds in
    ap (λ (t : List ℕ). codes "$pbkdf2-sha256" ++ (params ++ ((36 ∷ encoding salt) ++ t))) (append-nil (36 ∷ encoding key))
    ∙ ap (λ (t : List ℕ). codes "$pbkdf2-sha256" ++ t) (sym (append_assoc params (36 ∷ encoding salt) (36 ∷ encoding key)))
printed Sha512 rounds salt key =
    let params : List ℕ = 36 ∷ 105 ∷ 61 ∷ decimal rounds in
    ap (λ (t : List ℕ). codes "$pbkdf2-sha512" ++ (params ++ ((36 ∷ encoding salt) ++ t))) (append-nil (36 ∷ encoding key))
    ∙ ap (λ (t : List ℕ). codes "$pbkdf2-sha512" ++ t) (sym (append_assoc params (36 ∷ encoding salt) (36 ∷ encoding key)))

named : (text : List ℕ) (p : Parts) → mcf text ≡ Ok p → text_scheme text ≡ scheme_named p.id
unfolding mcf text_scheme
named text p h =
    let is = value_found (parts text) p (fault text) h in
    ap (λ (q : Parts). scheme_named q.id) is.1

-- ---- by the hash

id_good : (hash : Pbkdf2Hash) (rounds : ℕ) → is_identifier (identifier (Pbkdf2 hash rounds)) ≡ true
id_good Sha1 rounds = refl
id_good Sha256 rounds = refl
id_good Sha512 rounds = refl

no_family : (hash : Pbkdf2Hash) (rounds : ℕ) → scheme_of (identifier (Pbkdf2 hash rounds)) ≡ None
no_family Sha1 rounds = refl
no_family Sha256 rounds = refl
no_family Sha512 rounds = refl

named_record : (hash : Pbkdf2Hash) (rounds : ℕ) → is_record (scheme_named (identifier (Pbkdf2 hash rounds))) ≡ true
named_record Sha1 rounds = refl
named_record Sha256 rounds = refl
named_record Sha512 rounds = refl

number_read : (rounds : ℕ) → rounds < 2 ^ 32 → decimal_value (decimal rounds) ≡ Some rounds
number_read rounds small = decimal_read (2 ^ 32) rounds (omega arith) small

module _ (rounds : ℕ) (salt key : List ℕ) where
  accepts : (hash : Pbkdf2Hash) → AreHeld (Pbkdf2 hash rounds) salt key → 1 ≤ rounds → rounds ≤ 10000000
      → accepted (record_of (Pbkdf2 hash rounds) salt key) salt (length key) ≡ true
  unfolding pbkdf2_accepts
  accepts Sha1 held least most =
      let some : nat_le 1 rounds ≡ true = grind (arith, nat_tests, least) in
      let few : nat_le rounds 10000000 ≡ true = grind (arith, nat_tests, most) in
      let long : nat_le 10 (length key) ≡ true = grind (arith, nat_tests, held.key_least) in
      let short : nat_le (length key) 64 ≡ true = grind (arith, nat_tests, held.key_most) in
      rw (number_read rounds held.cost_fits, some, few, long, short) refl
  accepts Sha256 held least most =
      let some : nat_le 1 rounds ≡ true = grind (arith, nat_tests, least) in
      let few : nat_le rounds 10000000 ≡ true = grind (arith, nat_tests, most) in
      let long : nat_le 10 (length key) ≡ true = grind (arith, nat_tests, held.key_least) in
      let short : nat_le (length key) 64 ≡ true = grind (arith, nat_tests, held.key_most) in
      rw (number_read rounds held.cost_fits, some, few, long, short) refl
  accepts Sha512 held least most =
      let some : nat_le 1 rounds ≡ true = grind (arith, nat_tests, least) in
      let few : nat_le rounds 10000000 ≡ true = grind (arith, nat_tests, most) in
      let long : nat_le 10 (length key) ≡ true = grind (arith, nat_tests, held.key_least) in
      let short : nat_le (length key) 64 ≡ true = grind (arith, nat_tests, held.key_most) in
      rw (number_read rounds held.cost_fits, some, few, long, short) refl

  tags : (hash : Pbkdf2Hash) (password : List ℕ) → rounds < 2 ^ 32
      → tag password (record_of (Pbkdf2 hash rounds) salt key) salt (length key)
      ≡ pbkdf2_with (derivation hash) password salt rounds (length key)
  unfolding pbkdf2_key
  tags Sha1 password small = rw (number_read rounds small) refl
  tags Sha256 password small = rw (number_read rounds small) refl
  tags Sha512 password small = rw (number_read rounds small) refl

  module _ (hash : Pbkdf2Hash) (held : AreHeld (Pbkdf2 hash rounds) salt key) where
    made_read : mcf (made_text (Pbkdf2 hash rounds) salt key) ≡ Ok (made_parts hash rounds salt key)
    made_read =
        let of_rounds = rounds_good rounds held.cost_fits in
        let of_salt = encoded_good salt held.salt_bytes (omega (arith, held.salt_least)) in
        let of_key = encoded_good key held.key_bytes (omega (arith, held.key_least)) in
        let good : first_field_fault (made_parts hash rounds salt key).fields ≡ None = rw (of_rounds, of_salt, of_key) refl in
        ap mcf (sym (printed hash rounds salt key))
        ∙ mcf-parts_text (made_parts hash rounds salt key) (id_good hash rounds) good

    record_read : phc (identifier (Pbkdf2 hash rounds)) ((105 ∷ 61 ∷ decimal rounds) ∷ encoding salt ∷ encoding key ∷ [])
        ≡ Ok (record_of (Pbkdf2 hash rounds) salt key)
    record_read =
        sym (read_phc (made_text (Pbkdf2 hash rounds) salt key) (made_parts hash rounds salt key) made_read)
        ∙ read_again (Pbkdf2 hash rounds) salt key held

    stored_verdict : (password : List ℕ) → 1 ≤ rounds → rounds ≤ 10000000 → length password ≤ 4096
        → verdict accepted tag password (made_text (Pbkdf2 hash rounds) salt key)
        ≡ Ok (same_text (encoding key) (encoding (pbkdf2_with (derivation hash) password salt rounds (length key))))
    stored_verdict password least most fits =
        let made : Parts = made_parts hash rounds salt key in
        of_parts accepted tag password (made_text (Pbkdf2 hash rounds) salt key) made fits made_read
        ∙ ap (λ s. parts_answer accepted tag password s made) (no_family hash rounds)
        ∙ ap (phc_answer accepted tag password) record_read
        ∙ rw (accepts hash held least most)
        (ap (λ (t : List ℕ). Ok (same_text (encoding key) (encoding t))) (tags hash password held.cost_fits))

    of_key_of : (password : List ℕ) → 1 ≤ rounds → rounds ≤ 10000000 → length password ≤ 4096
        → any_verdict accepted tag password (made_text (Pbkdf2 hash rounds) salt key)
        ≡ Ok (same_text (encoding key) (encoding (pbkdf2_with (derivation hash) password salt rounds (length key))))
    unfolding any_verdict
    of_key_of password least most fits =
        let test : nat_lt 4096 (length password) ≡ false = grind (arith, nat_tests, fits) in
        let text : List ℕ = made_text (Pbkdf2 hash rounds) salt key in
        let scheme : is_record (text_scheme text) ≡ true =
        ap is_record (named text (made_parts hash rounds salt key) made_read) ∙ named_record hash rounds in
        rw test
        (record_stored accepted tag password text (text_scheme text) scheme
        ∙ ap of_stored (stored_verdict password least most fits))

pub of_key : (hash : Pbkdf2Hash) (rounds : ℕ) (salt key : List ℕ) → AreHeld (Pbkdf2 hash rounds) salt key → (password : List ℕ)
    → 1 ≤ rounds → rounds ≤ 10000000 → length password ≤ 4096
    → any_verdict accepted tag password (made_text (Pbkdf2 hash rounds) salt key)
    ≡ Ok (same_text (encoding key) (encoding (pbkdf2_with (derivation hash) password salt rounds (length key))))
of_key hash rounds salt key held = of_key_of rounds salt key hash held
