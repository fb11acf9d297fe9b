-- The scrypt text of a password is the text of a record in bounds.
use Rattle.std.proofs.Common.{◌≡◌, ℕ, ◌*◌, ◌^◌, ◌<◌, ◌≤◌, Bool, true, List, ◌∷◌, ◌++◌, length}
use Rattle.std.proofs.Common.{refl, sym, ap, ◌∙◌, arith, append_assoc, Ok}
use Rattle.std.specs.Prelude.{◌&&◌, ◌==◌, codes, nat_le, nat_lt}
use Rattle.std.specs.Fmt.{decimal}
use Rattle.std.specs.Str.{is_utf8}
use Rattle.std.proofs.lemmas.Bool.{and_parts}
use Rattle.std.proofs.lemmas.Bool.Decides.{nat_tests}
use Rattle.std.proofs.lemmas.List.{length-append}
use Rattle.std.proofs.Math.Nat.{le-mul_of_pos_right}
use Rattle.base64ct.specs.Encoding.{EachBelow}
use Rattle.mcf.specs.Grammar.{is_field_byte}
use Rattle.mcf.proofs.Pushed.{good_field}
use Rattle.phc.specs.Encoded.{encoding}
use Rattle.phc.specs.Params.{pairs_text}
use Rattle.phc.specs.Record.{record_text}
use Rattle.phc.proofs.Characters.{all_append}
use Rattle.phc.proofs.ValueBytes.{decimal_length, few, number_read, values}
use Rattle.phc_kdf.proofs.RecordFields.{in_field}
use Rattle.scrypt_plain.specs.Bounds.{in_bounds}
use Rattle.scrypt_plain.specs.Profile.{accepted, key}
use Rattle.scrypt_plain.specs.Scrypt.{scrypt}
use Rattle.scrypt_plain.proofs.MadeRecord.{IsWritten, made_params, made_record, scrypt_made}
use Rattle.stored_check.proofs.MadeTexts.{record_made}
use Rattle.stored_check.specs.Verdict.{verdict}
use Rattle.any_make.specs.Made.{hash_text}
use Rattle.any_make.specs.declared.scheme.MakeCost.TheVariants as cost
use Rattle.pwcheck_c.specs.Inputs.{is_password, scrypt_text_takes}
use Rattle.pwcheck_c.specs.Texts.{scrypt_text}

-- ---- numbers in bounds

pub record AreSmall (ln r p : ℕ) : Type 0 where
  pub of_ln : ln < 2 ^ 32
  pub of_r : r < 2 ^ 32
  pub of_p : p < 2 ^ 32

pub small_bounds : (ln r p : ℕ) → in_bounds ln r p ≡ true → AreSmall ln r p
small_bounds ln r p h =
    let rows = and_parts (nat_le 1 ln && nat_le ln 24 && nat_lt ln (16 * r) && nat_le 1 r && nat_le 1 p && nat_le p 1024
    && nat_le (r * p) 131072) (nat_le (128 * r * 2 ^ ln) (2 ^ 28)) h in
    let parts = and_parts (nat_le 1 ln && nat_le ln 24 && nat_lt ln (16 * r) && nat_le 1 r && nat_le 1 p
    && nat_le p 1024) (nat_le (r * p) 131072) rows.0 in
    let most_p = and_parts (nat_le 1 ln && nat_le ln 24 && nat_lt ln (16 * r) && nat_le 1 r && nat_le 1 p)
    (nat_le p 1024) parts.0 in
    let least_p = and_parts (nat_le 1 ln && nat_le ln 24 && nat_lt ln (16 * r) && nat_le 1 r) (nat_le 1 p) most_p.0 in
    let least_r = and_parts (nat_le 1 ln && nat_le ln 24 && nat_lt ln (16 * r)) (nat_le 1 r) least_p.0 in
    let block = and_parts (nat_le 1 ln && nat_le ln 24) (nat_lt ln (16 * r)) least_r.0 in
    let log = and_parts (nat_le 1 ln) (nat_le ln 24) block.0 in
    let log_small : ln ≤ 24 = grind (arith, nat_tests, log.1) in
    let p_small : p ≤ 1024 = grind (arith, nat_tests, most_p.1) in
    let p_some : 1 ≤ p = grind (arith, nat_tests, least_p.1) in
    let all_small : r * p ≤ 131072 = grind (arith, nat_tests, parts.1) in
    let r_less : r ≤ r * p = le-mul_of_pos_right r p_some in
    record { of_ln = omega (arith, log_small); of_r = omega (arith, all_small, r_less); of_p = omega (arith, p_small) }

-- ---- their decimals

module _ (ln r p : ℕ) (small : AreSmall ln r p) (bounds : in_bounds ln r p ≡ true) where
  written : IsWritten (decimal ln) (decimal r) (decimal p) ln r p
  written = record {
    pairs = rw (few ln small.of_ln, values ln small.of_ln, few r small.of_r, values r small.of_r, few p small.of_p, values p small.of_p)
        refl;
    short =
        omega (
          arith,
          length-append (decimal ln) (44 ∷ 114 ∷ 61 ∷ (decimal r ++ 44 ∷ 112 ∷ 61 ∷ decimal p)),
          length-append (decimal r) (44 ∷ 112 ∷ 61 ∷ decimal p),
          decimal_length ln small.of_ln,
          decimal_length r small.of_r,
          decimal_length p small.of_p,
        );
    field =
        good_field (pairs_text (made_params (decimal ln) (decimal r) (decimal p))) (omega arith)
        (all_append is_field_byte (decimal ln) (44 ∷ 114 ∷ 61 ∷ (decimal r ++ 44 ∷ 112 ∷ 61 ∷ decimal p))
        (in_field ln small.of_ln)
        (all_append is_field_byte (decimal r) (44 ∷ 112 ∷ 61 ∷ decimal p) (in_field r small.of_r) (in_field p small.of_p)));
    numbers = rw (number_read ln small.of_ln, number_read r small.of_r, number_read p small.of_p) refl;
    bounds = bounds;
  }

-- ---- the text by its pieces

regroup : (a b c d e f g h i j : List ℕ) → a ++ b ++ c ++ d ++ e ++ f ++ g ++ h ++ i ++ j
    ≡ a ++ (b ++ (c ++ (d ++ (e ++ (f ++ (g ++ (h ++ (i ++ j))))))))
regroup a b c d e f g h i j = simp append_assoc

-- what is pushed, one after another, is the text
joined_is : (ln r p : ℕ) (salt tag text : List ℕ)
    → text ≡ codes "$scrypt$ln=" ++ decimal ln ++ codes ",r=" ++ decimal r ++ codes ",p=" ++ decimal p ++ codes "$"
    ++ encoding salt ++ codes "$" ++ encoding tag
    → text ≡ record_text (made_record (decimal ln) (decimal r) (decimal p) salt tag)
unfolding record_text
joined_is ln r p salt tag text is =
    let tail : List ℕ = 36 ∷ (encoding salt ++ 36 ∷ encoding tag) in
    let last : List ℕ = 44 ∷ 112 ∷ 61 ∷ decimal p in
    is
    ∙ regroup (codes "$scrypt$ln=") (decimal ln) (codes ",r=") (decimal r) (codes ",p=") (decimal p) (codes "$")
    (encoding salt) (codes "$") (encoding tag)
    ∙ ap (λ (t : List ℕ). codes "$scrypt$ln=" ++ t) (
    sym (append_assoc (decimal ln) (44 ∷ 114 ∷ 61 ∷ (decimal r ++ last)) tail
    ∙ ap (λ (t : List ℕ). decimal ln ++ 44 ∷ 114 ∷ 61 ∷ t) (append_assoc (decimal r) last tail)))
    ∙ sym (append_assoc (codes "$scrypt" ++ 36 ∷ pairs_text (made_params (decimal ln) (decimal r) (decimal p)))
    (36 ∷ encoding salt) (36 ∷ encoding tag))

pub text_is : (ln r p : ℕ) (password salt tag text : List ℕ) → tag ≡ scrypt password salt (2 ^ ln) r p 32
    → text ≡ codes "$scrypt$ln=" ++ decimal ln ++ codes ",r=" ++ decimal r ++ codes ",p=" ++ decimal p ++ codes "$"
    ++ encoding salt ++ codes "$" ++ encoding tag
    → text ≡ scrypt_text password salt ln r p
unfolding scrypt_text
text_is ln r p password salt tag text tag_is is =
    joined_is ln r p salt tag text is
    ∙ ap (λ (k : List ℕ). record_text (made_record (decimal ln) (decimal r) (decimal p) salt k)) tag_is

-- ---- it matches

pub scrypt_verdict : (password salt : List ℕ) (ln r p : ℕ) → in_bounds ln r p ≡ true → EachBelow 256 salt
    → length salt ≡ 16 → length password ≤ 4096
    → verdict accepted key password (scrypt_text password salt ln r p) ≡ Ok true
unfolding scrypt_text
scrypt_verdict password salt ln r p bounds below size short =
    let small = small_bounds ln r p bounds in
    let made = record_made accepted key (codes "scrypt") password (scrypt_text password salt ln r p) refl
    (scrypt_made (decimal ln) (decimal r) (decimal p) ln r p (written ln r p small bounds) password salt below
    (omega (arith, size)) (omega (arith, size))) in
    made.1 password short ∙ ap (λ (b : Bool). Ok b) made.2

-- ---- it is the text that `any_make` makes

pub same_text : (password salt : List ℕ) (ln r p : ℕ)
    → hash_text (cost.Scrypt (record { ln = ln; r = r; p = p })) password salt ≡ scrypt_text password salt ln r p
unfolding hash_text scrypt_text
same_text password salt ln r p = refl

pub taken_salt : (password salt : List ℕ) (ln r p : ℕ) → scrypt_text_takes password salt ln r p ≡ true → length salt ≡ 16
taken_salt password salt ln r p is =
    let parts = and_parts (is_password password && is_utf8 password && (length salt == 16)) (in_bounds ln r p) is in
    let first = and_parts (is_password password && is_utf8 password) (length salt == 16) parts.0 in
    grind (arith, nat_tests, first.1)
