-- The parameters and fields of records that are made.
use Rattle.std.proofs.Common.{◌≡◌, ℕ, ◌+◌, ◌^◌, ◌<◌, ◌≤◌, true, List, [], ◌∷◌, ◌++◌, length, refl, sym, ap, ◌∙◌, arith}
use Rattle.std.proofs.Common.{append-nil, append_assoc, None}
use Rattle.std.specs.Prelude.{codes}
use Rattle.std.specs.Fmt.{decimal}
use Rattle.std.specs.List.{list_all}
use Rattle.std.proofs.lemmas.List.{length-append}
use Rattle.base64ct.specs.Encoding.{EachBelow}
use Rattle.mcf.specs.Grammar.{field_fault, is_field_byte}
use Rattle.mcf.proofs.Pushed.{good_field}
use Rattle.phc.specs.Encoded.{encoding}
use Rattle.phc.specs.Grammar.{is_name}
use Rattle.phc.specs.Params.{Pairs, pairs_text}
use Rattle.phc.specs.Record.{is_pair}
use Rattle.phc.proofs.Characters.{all_append}
use Rattle.phc.proofs.ValueBytes.{decimal_length, few, values}
use Rattle.phc_kdf.proofs.RecordFields.{encoded_good, in_field}

-- ---- pairs of a name and a number

abbrev pair_of : List ℕ → ℕ → List ℕ
pair_of x n = x ++ 61 ∷ decimal n

pair_in_field : (x : List ℕ) (n : ℕ) → list_all is_field_byte x ≡ true → n < 2 ^ 32
    → list_all is_field_byte (pair_of x n) ≡ true
pair_in_field x n bytes small = all_append is_field_byte x (61 ∷ decimal n) bytes (in_field n small)

pair_length : (x : List ℕ) (n : ℕ) → n < 2 ^ 32 → length (pair_of x n) ≤ length x + 11
pair_length x n small =
    let size = decimal_length n small in
    omega (arith, length-append x (61 ∷ decimal n), size)

-- a name of parameters: short, of the bytes of names and of fields
pub record IsShortName (x : List ℕ) : Type 0 where
  pub name : is_name x ≡ true
  pub bytes : list_all is_field_byte x ≡ true
  pub short : length x ≤ 2

-- what is asked of parameters
pub record AreParams (ps : Pairs) : Type 0 where
  pub pairs : list_all is_pair ps ≡ true
  pub short : length (pairs_text ps) ≤ 127
  pub field : field_fault (pairs_text ps) ≡ None

abbrev pub three : List ℕ → List ℕ → List ℕ → ℕ → ℕ → ℕ → Pairs
three x y z a b c = (x, decimal a) ∷ (y, decimal b) ∷ (z, decimal c) ∷ []

pub three_params : (x y z : List ℕ) (a b c : ℕ) → IsShortName x → IsShortName y → IsShortName z
    → a < 2 ^ 32 → b < 2 ^ 32 → c < 2 ^ 32 → AreParams (three x y z a b c)
three_params x y z a b c hx hy hz ha hb hc =
    let first = pair_of x a in
    let second = pair_of y b in
    let third = pair_of z c in
    let rest = second ++ 44 ∷ third in
    let first_length = pair_length x a ha in
    let second_length = pair_length y b hb in
    let third_length = pair_length z c hc in
    let all = length-append first (44 ∷ rest) in
    let rest_length = length-append second (44 ∷ third) in
    let hx_short = hx.short in
    let hy_short = hy.short in
    let hz_short = hz.short in
    record {
      pairs = rw (hx.name, hy.name, hz.name, few a ha, few b hb, few c hc, values a ha, values b hb, values c hc) refl;
      short = omega arith;
      field =
          good_field (first ++ 44 ∷ rest) (omega arith)
          (all_append is_field_byte first (44 ∷ rest) (pair_in_field x a hx.bytes ha)
          (all_append is_field_byte second (44 ∷ third) (pair_in_field y b hy.bytes hb) (pair_in_field z c hz.bytes hc)));
    }

-- the rounds of PBKDF2, and the length of the key
pub rounds_params : (n : ℕ) → n < 2 ^ 32 → AreParams ((codes "i", decimal n) ∷ (codes "l", codes "32") ∷ [])
rounds_params n small =
    let first = pair_of (codes "i") n in
    let first_length = pair_length (codes "i") n small in
    let all = length-append first (codes ",l=32") in
    record {
      pairs = rw (few n small, values n small) refl;
      short = omega arith;
      field =
          good_field (first ++ codes ",l=32") (omega arith)
          (all_append is_field_byte first (codes ",l=32") (pair_in_field (codes "i") n refl small) refl);
    }

-- ---- fields

-- a salt and a key of a text that is made
pub record AreFields (salt key : List ℕ) : Type 0 where
  pub salt_size : length salt ≡ 16
  pub salt_below : EachBelow 256 salt
  pub key_size : length key ≡ 32
  pub key_below : EachBelow 256 key

-- what the two fields of a text are
pub record HasFields (salt key : List ℕ) : Type 0 where
  pub of_salt : field_fault (encoding salt) ≡ None
  pub of_key : field_fault (encoding key) ≡ None

pub has_fields : (salt key : List ℕ) → AreFields salt key → HasFields salt key
has_fields salt key are =
    let salt_size = are.salt_size in
    let key_size = are.key_size in
    record {
      of_salt = encoded_good salt are.salt_below (omega (arith, salt_size));
      of_key = encoded_good key are.key_below (omega (arith, key_size));
    }

-- what is printed, by the parts and by the record
pub regrouped : (front params salt key : List ℕ)
    → front ++ (params ++ (salt ++ (key ++ []))) ≡ front ++ ((params ++ salt) ++ key)
regrouped front params salt key =
    ap (λ (t : List ℕ). front ++ (params ++ (salt ++ t))) (append-nil key)
    ∙ ap (λ (t : List ℕ). front ++ t) (sym (append_assoc params salt key))
