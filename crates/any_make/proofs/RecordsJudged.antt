-- The texts of scrypt, Argon2id and PBKDF2 are judged.
use Rattle.std.proofs.Common.{◌≡◌, ℕ, ◌*◌, ◌^◌, ◌<◌, ◌≤◌, true, List, [], ◌∷◌, length, refl, ap, ◌∙◌, arith, Some, None}
use Rattle.std.specs.Prelude.{◌&&◌, codes, nat_eq, nat_le, nat_lt}
use Rattle.std.specs.Cmp.Lexicographic.{pointwise}
use Rattle.std.specs.Fmt.{decimal, digits}
use Rattle.std.proofs.lemmas.Bool.{and_parts}
use Rattle.std.proofs.lemmas.Bool.Decides.{nat_tests}
use Rattle.std.proofs.Math.Nat.{le-mul_of_pos_right}
use Rattle.base64ct.specs.Encoding.{EachBelow}
use Rattle.base64ct.proofs.DecodingLaws.{true_same}
use Rattle.mcf.specs.Grammar.{Parts, is_identifier, parts_text}
use Rattle.argon2_plain.specs.Bounds as argon2_bounds
use Rattle.argon2_plain.specs.Profile as argon2
use Rattle.phc.specs.Encoded.{encoding}
use Rattle.phc.specs.Grammar.{is_name}
use Rattle.phc.specs.Params.{Pairs, pairs_text}
use Rattle.phc.specs.Record.{record_text}
use Rattle.pbkdf2_key.specs.Profile as pbkdf2
use Rattle.any_make.specs.declared.scheme.Pbkdf2Hash.{Pbkdf2Hash}
use Rattle.any_make.specs.declared.scheme.Pbkdf2Hash.TheVariants.{Sha256, Sha512}
use Rattle.pieces.specs.Pieces.{pieces_at}
use Rattle.scrypt_plain.specs.Bounds as scrypt_bounds
use Rattle.scrypt_plain.specs.Profile as scrypt
use Rattle.stored_check.specs.Verdict.{same_text, scheme_of}
use Rattle.yescrypt_plain.specs.declared.params.ScryptParams.{ScryptParams}
use Rattle.any_check.specs.Records.{accepted, tag}
use Rattle.any_check.specs.Table.{is_record, text_scheme}
use Rattle.any_make.specs.Made.{hash_text}
use Rattle.any_make.specs.Records.{argon2_key, argon2_params, argon2_record, key_hash, pbkdf2_key, pbkdf2_record, scrypt_key, scrypt_record}
use Rattle.any_make.specs.declared.scheme.Argon2Cost.{Argon2Cost}
use Rattle.any_make.specs.declared.scheme.MakeCost.TheVariants as cost
use Rattle.any_make.proofs.Judged.{IsJudged}
use Rattle.any_make.proofs.KeyBytes.{argon2_below, argon2_long, pbkdf2_below, pbkdf2_long, scrypt_below, scrypt_long}
use Rattle.phc.proofs.ValueBytes.{number_read}
use Rattle.any_make.proofs.RecordTexts.{AreFields, AreParams, has_fields, regrouped, rounds_params, three, three_params}
use Rattle.any_make.proofs.RecordVerdicts.{IsPrinted, key_once, on_record}

-- ---- scrypt

module _ (c : ScryptParams) (bounds : scrypt_bounds.in_bounds c.ln c.r c.p ≡ true) where
  record Small : Type 0 where
    pub of_ln : c.ln < 2 ^ 32
    pub of_r : c.r < 2 ^ 32
    pub of_p : c.p < 2 ^ 32

  small : Small
  small =
      let rows = and_parts (nat_le 1 c.ln && nat_le c.ln 24 && nat_lt c.ln (16 * c.r) && nat_le 1 c.r && nat_le 1 c.p
      && nat_le c.p 1024 && nat_le (c.r * c.p) 131072) (nat_le (128 * c.r * 2 ^ c.ln) (2 ^ 28)) bounds in
      let parts = and_parts (nat_le 1 c.ln && nat_le c.ln 24 && nat_lt c.ln (16 * c.r) && nat_le 1 c.r && nat_le 1 c.p
      && nat_le c.p 1024) (nat_le (c.r * c.p) 131072) rows.0 in
      let most_p = and_parts (nat_le 1 c.ln && nat_le c.ln 24 && nat_lt c.ln (16 * c.r) && nat_le 1 c.r && nat_le 1 c.p)
      (nat_le c.p 1024) parts.0 in
      let least_p = and_parts (nat_le 1 c.ln && nat_le c.ln 24 && nat_lt c.ln (16 * c.r) && nat_le 1 c.r) (nat_le 1 c.p)
      most_p.0 in
      let least_r = and_parts (nat_le 1 c.ln && nat_le c.ln 24 && nat_lt c.ln (16 * c.r)) (nat_le 1 c.r) least_p.0 in
      let block = and_parts (nat_le 1 c.ln && nat_le c.ln 24) (nat_lt c.ln (16 * c.r)) least_r.0 in
      let log = and_parts (nat_le 1 c.ln) (nat_le c.ln 24) block.0 in
      let log_small : c.ln ≤ 24 = grind (arith, nat_tests, log.1) in
      let p_small : c.p ≤ 1024 = grind (arith, nat_tests, most_p.1) in
      let p_some : 1 ≤ c.p = grind (arith, nat_tests, least_p.1) in
      let all_small : c.r * c.p ≤ 131072 = grind (arith, nat_tests, parts.1) in
      let r_less : c.r ≤ c.r * c.p = le-mul_of_pos_right c.r p_some in
      record { of_ln = omega (arith, log_small); of_r = omega (arith, all_small, r_less); of_p = omega (arith, p_small) }

  scrypt_params : AreParams (three (codes "ln") (codes "r") (codes "p") c.ln c.r c.p)
  scrypt_params =
      three_params (codes "ln") (codes "r") (codes "p") c.ln c.r c.p
      (record { name = refl; bytes = refl; short = omega arith })
      (record { name = refl; bytes = refl; short = omega arith })
      (record { name = refl; bytes = refl; short = omega arith }) small.of_ln small.of_r small.of_p

  abbrev scrypt_parts : List ℕ → List ℕ → Parts
  scrypt_parts salt key = record {
    id = codes "scrypt";
    fields = pairs_text (three (codes "ln") (codes "r") (codes "p") c.ln c.r c.p) ∷ encoding salt ∷ encoding key ∷ [];
  }

  scrypt_joined : (salt key : List ℕ) → parts_text (scrypt_parts salt key) ≡ record_text (scrypt_record c salt key)
  unfolding record_text
  scrypt_joined salt key =
      regrouped (codes "$scrypt") (36 ∷ pairs_text (three (codes "ln") (codes "r") (codes "p") c.ln c.r c.p))
      (36 ∷ encoding salt) (36 ∷ encoding key)

  scrypt_scheme : (salt key : List ℕ) → is_record (text_scheme (record_text (scrypt_record c salt key))) ≡ true
  unfolding text_scheme pieces_at record_text
  scrypt_scheme salt key = refl

  scrypt_printed : (salt key : List ℕ) → AreFields salt key → IsPrinted (scrypt_record c salt key) (scrypt_parts salt key)
  scrypt_printed salt key are =
      let salt_size = are.salt_size in
      let key_size = are.key_size in
      let has = has_fields salt key are in
      let params = scrypt_params in
      record {
        valid = record {
          algorithm = refl;
          version = tt;
          pairs = params.pairs;
          params = params.short;
          salt = (are.salt_below, omega (arith, salt_size), omega (arith, salt_size));
          hash = (are.key_below, omega (arith, key_size), omega (arith, key_size));
        };
        printable = refl;
        printed = scrypt_joined salt key;
        name = refl;
        other = refl;
        fields = rw (params.field, has.of_salt, has.of_key) refl;
        scheme = scrypt_scheme salt key;
      }

  scrypt_cost : (salt key : List ℕ) → scrypt.cost_of (scrypt_record c salt key) ≡ Some (record { ln = c.ln; r = c.r; p = c.p })
  scrypt_cost salt key = rw (number_read c.ln small.of_ln, number_read c.r small.of_r, number_read c.p small.of_p) refl

  scrypt_taken : (salt key : List ℕ) → accepted (scrypt_record c salt key) salt 32 ≡ true
  unfolding scrypt.scrypt_accepts
  scrypt_taken salt key = rw (scrypt_cost salt key, bounds) refl

  scrypt_tag : (asked salt key : List ℕ) → tag asked (scrypt_record c salt key) salt 32 ≡ scrypt_key c asked salt
  unfolding scrypt.scrypt_key
  scrypt_tag asked salt key = rw (scrypt_cost salt key) refl

  pub scrypt_judged : (password salt : List ℕ) → length salt ≡ 16 → EachBelow 256 salt → IsJudged (cost.Scrypt c) password salt
  unfolding hash_text
  scrypt_judged password salt size below =
      let key : List ℕ = scrypt_key c password salt in
      let are : AreFields salt key = record {
        salt_size = size;
        salt_below = below;
        key_size = scrypt_long c password salt;
        key_below = scrypt_below c password salt;
      } in
      record {
        matches = λ asked. same_text (encoding key) (encoding (scrypt_key c asked salt));
        verdict = λ asked short takes.
            on_record (scrypt_record c salt key) (scrypt_parts salt key) (scrypt_printed salt key are) asked salt key
            (scrypt_key c asked salt) short refl refl (scrypt_long c password salt) (scrypt_taken salt key)
            (scrypt_tag asked salt key);
        own = true_same (encoding key);
        same = λ asked matches.
            ap (λ (k : List ℕ). record_text (scrypt_record c salt k))
            (key_once key (scrypt_key c asked salt) (scrypt_below c password salt) (scrypt_below c asked salt) matches);
      }

-- ---- Argon2id

module _ (c : Argon2Cost) (bounds : argon2_bounds.in_bounds c.passes c.memory c.lanes ≡ true) where
  record FitIn : Type 0 where
    pub of_memory : c.memory < 2 ^ 32
    pub of_passes : c.passes < 2 ^ 32
    pub of_lanes : c.lanes < 2 ^ 32

  fit : FitIn
  fit =
      let rows = and_parts (nat_le 1 c.passes && nat_le 1 c.lanes && nat_le (8 * c.lanes) c.memory && nat_le c.memory (2 ^ 21))
      (nat_le (c.passes * c.memory) (2 ^ 24)) bounds in
      let most = and_parts (nat_le 1 c.passes && nat_le 1 c.lanes && nat_le (8 * c.lanes) c.memory) (nat_le c.memory (2 ^ 21))
      rows.0 in
      let least = and_parts (nat_le 1 c.passes && nat_le 1 c.lanes) (nat_le (8 * c.lanes) c.memory) most.0 in
      let both = and_parts (nat_le 1 c.passes) (nat_le 1 c.lanes) least.0 in
      let one_lane : 1 ≤ c.lanes = grind (arith, nat_tests, both.1) in
      let lanes_less : 8 * c.lanes ≤ c.memory = grind (arith, nat_tests, least.1) in
      let memory_small : c.memory ≤ 2 ^ 21 = grind (arith, nat_tests, most.1) in
      let all_small : c.passes * c.memory ≤ 2 ^ 24 = grind (arith, nat_tests, rows.1) in
      let some : 1 ≤ c.memory = omega (arith, one_lane, lanes_less) in
      let passes_less : c.passes ≤ c.passes * c.memory = le-mul_of_pos_right c.passes some in
      record {
        of_memory = omega (arith, memory_small);
        of_passes = omega (arith, all_small, passes_less);
        of_lanes = omega (arith, lanes_less, memory_small);
      }

  argon2_names : AreParams (three (codes "m") (codes "t") (codes "p") c.memory c.passes c.lanes)
  argon2_names =
      three_params (codes "m") (codes "t") (codes "p") c.memory c.passes c.lanes
      (record { name = refl; bytes = refl; short = omega arith })
      (record { name = refl; bytes = refl; short = omega arith })
      (record { name = refl; bytes = refl; short = omega arith }) fit.of_memory fit.of_passes fit.of_lanes

  abbrev argon2_parts : List ℕ → List ℕ → Parts
  argon2_parts salt key = record {
    id = codes "argon2id";
    fields = codes "v=19" ∷ pairs_text (three (codes "m") (codes "t") (codes "p") c.memory c.passes c.lanes)
        ∷ encoding salt ∷ encoding key ∷ [];
  }

  argon2_joined : (salt key : List ℕ) → parts_text (argon2_parts salt key) ≡ record_text (argon2_record c salt key)
  unfolding record_text digits
  argon2_joined salt key =
      regrouped (codes "$argon2id$v=19") (36 ∷ pairs_text (three (codes "m") (codes "t") (codes "p") c.memory c.passes c.lanes))
      (36 ∷ encoding salt) (36 ∷ encoding key)

  argon2_scheme : (salt key : List ℕ) → is_record (text_scheme (record_text (argon2_record c salt key))) ≡ true
  unfolding text_scheme pieces_at record_text
  argon2_scheme salt key = refl

  argon2_printed : (salt key : List ℕ) → AreFields salt key → IsPrinted (argon2_record c salt key) (argon2_parts salt key)
  argon2_printed salt key are =
      let salt_size = are.salt_size in
      let key_size = are.key_size in
      let has = has_fields salt key are in
      let params = argon2_names in
      record {
        valid = record {
          algorithm = refl;
          version = omega arith;
          pairs = params.pairs;
          params = params.short;
          salt = (are.salt_below, omega (arith, salt_size), omega (arith, salt_size));
          hash = (are.key_below, omega (arith, key_size), omega (arith, key_size));
        };
        printable = refl;
        printed = argon2_joined salt key;
        name = refl;
        other = refl;
        fields = rw (params.field, has.of_salt, has.of_key) refl;
        scheme = argon2_scheme salt key;
      }

  argon2_asked : (salt key : List ℕ) → argon2.params_of (argon2_record c salt key) ≡ Some (argon2_params c)
  argon2_asked salt key =
      rw (number_read c.memory fit.of_memory, number_read c.passes fit.of_passes, number_read c.lanes fit.of_lanes) refl

  argon2_taken : (salt key : List ℕ) → accepted (argon2_record c salt key) salt 32 ≡ true
  unfolding argon2.argon2_accepts
  argon2_taken salt key = rw (argon2_asked salt key, bounds) refl

  argon2_tag : (asked salt key : List ℕ) → tag asked (argon2_record c salt key) salt 32 ≡ argon2_key c asked salt
  unfolding argon2.argon2_key
  argon2_tag asked salt key = rw (argon2_asked salt key) refl

  pub argon2_judged : (password salt : List ℕ) → length salt ≡ 16 → EachBelow 256 salt → IsJudged (cost.Argon2id c) password salt
  unfolding hash_text
  argon2_judged password salt size below =
      let key : List ℕ = argon2_key c password salt in
      let are : AreFields salt key = record {
        salt_size = size;
        salt_below = below;
        key_size = argon2_long c password salt;
        key_below = argon2_below c password salt;
      } in
      record {
        matches = λ asked. same_text (encoding key) (encoding (argon2_key c asked salt));
        verdict = λ asked short takes.
            on_record (argon2_record c salt key) (argon2_parts salt key) (argon2_printed salt key are) asked salt key
            (argon2_key c asked salt) short refl refl (argon2_long c password salt) (argon2_taken salt key)
            (argon2_tag asked salt key);
        own = true_same (encoding key);
        same = λ asked matches.
            ap (λ (k : List ℕ). record_text (argon2_record c salt k))
            (key_once key (argon2_key c asked salt) (argon2_below c password salt) (argon2_below c asked salt) matches);
      }

-- ---- PBKDF2

-- what holds of the identifier of each hash function's records
record IsRecordName (name : List ℕ) : Type 0 where
  pub of_record : is_name name ≡ true
  pub of_text : is_identifier name ≡ true
  pub other : scheme_of name ≡ None
  pub itself : pointwise nat_eq name name ≡ true

pbkdf2_name : (hash : Pbkdf2Hash) → IsRecordName (pbkdf2.identifier (key_hash hash))
pbkdf2_name Sha256 = record { of_record = refl; of_text = refl; other = refl; itself = refl }
pbkdf2_name Sha512 = record { of_record = refl; of_text = refl; other = refl; itself = refl }

pbkdf2_scheme : (hash : Pbkdf2Hash) (rounds : ℕ) (salt key : List ℕ)
    → is_record (text_scheme (record_text (pbkdf2_record hash rounds salt key))) ≡ true
unfolding text_scheme pieces_at record_text
pbkdf2_scheme Sha256 rounds salt key = refl
pbkdf2_scheme Sha512 rounds salt key = refl

abbrev pbkdf2_pairs : ℕ → Pairs
pbkdf2_pairs rounds = (codes "i", decimal rounds) ∷ (codes "l", codes "32") ∷ []

abbrev pbkdf2_parts : Pbkdf2Hash → ℕ → List ℕ → List ℕ → Parts
pbkdf2_parts hash rounds salt key = record {
  id = pbkdf2.identifier (key_hash hash);
  fields = pairs_text (pbkdf2_pairs rounds) ∷ encoding salt ∷ encoding key ∷ [];
}

pbkdf2_joined : (hash : Pbkdf2Hash) (rounds : ℕ) (salt key : List ℕ)
    → parts_text (pbkdf2_parts hash rounds salt key) ≡ record_text (pbkdf2_record hash rounds salt key)
unfolding record_text
pbkdf2_joined Sha256 rounds salt key =
    regrouped (codes "$pbkdf2-sha256") (36 ∷ pairs_text (pbkdf2_pairs rounds)) (36 ∷ encoding salt) (36 ∷ encoding key)
pbkdf2_joined Sha512 rounds salt key =
    regrouped (codes "$pbkdf2-sha512") (36 ∷ pairs_text (pbkdf2_pairs rounds)) (36 ∷ encoding salt) (36 ∷ encoding key)

-- a record with this identifier that its own hash function takes
record_taken : (hash : Pbkdf2Hash) (rounds : ℕ) (salt key : List ℕ)
    → pbkdf2.pbkdf2_accepts (key_hash hash) (pbkdf2_record hash rounds salt key) 32 ≡ true
    → accepted (pbkdf2_record hash rounds salt key) salt 32 ≡ true
unfolding pbkdf2.pbkdf2_accepts
record_taken Sha256 rounds salt key is = is
record_taken Sha512 rounds salt key is = is

record_tag : (hash : Pbkdf2Hash) (rounds : ℕ) (asked salt key : List ℕ)
    → tag asked (pbkdf2_record hash rounds salt key) salt 32
    ≡ pbkdf2.pbkdf2_key (key_hash hash) asked (pbkdf2_record hash rounds salt key) salt 32
record_tag Sha256 rounds asked salt key = refl
record_tag Sha512 rounds asked salt key = refl

module _ (hash : Pbkdf2Hash) (rounds : ℕ) (least : 1 ≤ rounds) (most : rounds ≤ 10000000) where
  few_rounds : rounds < 2 ^ 32
  few_rounds = omega (arith, most)

  pbkdf2_printed : (salt key : List ℕ) → AreFields salt key
      → IsPrinted (pbkdf2_record hash rounds salt key) (pbkdf2_parts hash rounds salt key)
  pbkdf2_printed salt key are =
      let salt_size = are.salt_size in
      let key_size = are.key_size in
      let has = has_fields salt key are in
      let params = rounds_params rounds few_rounds in
      let names = pbkdf2_name hash in
      record {
        valid = record {
          algorithm = names.of_record;
          version = tt;
          pairs = params.pairs;
          params = params.short;
          salt = (are.salt_below, omega (arith, salt_size), omega (arith, salt_size));
          hash = (are.key_below, omega (arith, key_size), omega (arith, key_size));
        };
        printable = refl;
        printed = pbkdf2_joined hash rounds salt key;
        name = names.of_text;
        other = names.other;
        fields = rw (params.field, has.of_salt, has.of_key) refl;
        scheme = pbkdf2_scheme hash rounds salt key;
      }

  pbkdf2_rounds : (salt key : List ℕ) → pbkdf2.rounds_of (pbkdf2_record hash rounds salt key) ≡ Some rounds
  pbkdf2_rounds salt key = number_read rounds few_rounds

  pbkdf2_taken : (salt key : List ℕ) → accepted (pbkdf2_record hash rounds salt key) salt 32 ≡ true
  unfolding pbkdf2.pbkdf2_accepts
  pbkdf2_taken salt key =
      let one : nat_le 1 rounds ≡ true = grind (arith, nat_tests, least) in
      let few : nat_le rounds 10000000 ≡ true = grind (arith, nat_tests, most) in
      let itself = (pbkdf2_name hash).itself in
      record_taken hash rounds salt key (rw (itself, pbkdf2_rounds salt key, one, few) refl)

  pbkdf2_tag : (asked salt key : List ℕ)
      → tag asked (pbkdf2_record hash rounds salt key) salt 32 ≡ pbkdf2_key hash rounds asked salt
  unfolding pbkdf2.pbkdf2_key
  pbkdf2_tag asked salt key = record_tag hash rounds asked salt key ∙ rw (pbkdf2_rounds salt key) refl

  pub pbkdf2_judged : (password salt : List ℕ) → length salt ≡ 16 → EachBelow 256 salt
      → IsJudged (cost.Pbkdf2 hash rounds) password salt
  unfolding hash_text
  pbkdf2_judged password salt size below =
      let key : List ℕ = pbkdf2_key hash rounds password salt in
      let are : AreFields salt key = record {
        salt_size = size;
        salt_below = below;
        key_size = pbkdf2_long hash rounds password salt;
        key_below = pbkdf2_below hash rounds password salt;
      } in
      record {
        matches = λ asked. same_text (encoding key) (encoding (pbkdf2_key hash rounds asked salt));
        verdict = λ asked short takes.
            on_record (pbkdf2_record hash rounds salt key) (pbkdf2_parts hash rounds salt key) (pbkdf2_printed salt key are) asked salt
            key (pbkdf2_key hash rounds asked salt) short refl refl (pbkdf2_long hash rounds password salt)
            (pbkdf2_taken salt key) (pbkdf2_tag asked salt key);
        own = true_same (encoding key);
        same = λ asked matches.
            ap (λ (k : List ℕ). record_text (pbkdf2_record hash rounds salt k))
            (key_once key (pbkdf2_key hash rounds asked salt) (pbkdf2_below hash rounds password salt)
            (pbkdf2_below hash rounds asked salt) matches);
      }
