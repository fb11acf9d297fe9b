-- The texts `$7$` that a password passes.
use Rattle.std.proofs.Common.{◌≡◌, ℕ, ◌^◌, ◌≤◌, true, List, [], ◌∷◌, ◌++◌, length, drop, refl, sym, ap, ◌∙◌}
use Rattle.std.proofs.Common.{subst, Some, None, Result, Ok, Err}
use Rattle.std.specs.Prelude.{codes, nat_eq, nat_le, Option}
use Rattle.std.specs.Cmp.Lexicographic.{pointwise}
use Rattle.std.specs.List.{join_with_byte, list_all}
use Rattle.std.proofs.lemmas.Bool.{and_parts}
use Rattle.base64ct.specs.Encoding.{EachBelow}
use Rattle.base64ct.proofs.DecodingLaws.{same_true, true_same}
use Rattle.pieces.specs.Lists.{is_empty}
use Rattle.pieces.proofs.FaultLaws.{err_ok}
use Rattle.pieces.proofs.ListLaws.{nil_of_empty}
use Rattle.scrypt_plain.specs.Scrypt.{scrypt}
use Rattle.scrypt_plain.proofs.KeyBytes.{scrypt_bytes}
use Rattle.phc_kdf.specs.Limits.{password_max}
use Rattle.yescrypt_plain.specs.Check.{scrypt_answer, scrypt_matches, scrypt_verdict}
use Rattle.yescrypt_plain.specs.Field.{crypt_field, hash_bytes}
use Rattle.yescrypt_plain.specs.Laws.{ScryptMadeMatches, ScryptMatchesExactly}
use Rattle.yescrypt_plain.specs.Made.{IsScryptText, scrypt_text_of}
use Rattle.yescrypt_plain.specs.Params.{scrypt_in_bounds, scrypt_params, scrypt_params_text}
use Rattle.yescrypt_plain.specs.Text.{ScryptFields, ScryptMeaning, is_scrypt_salt, pieces_behind, scrypt_by_hash}
use Rattle.yescrypt_plain.specs.Text.{scrypt_by_params, scrypt_by_salt, scrypt_fields, scrypt_of, scrypt_text, split_scrypt}
use Rattle.yescrypt_plain.specs.declared.error.CheckError.TheVariants.{InvalidFormat}
use Rattle.yescrypt_plain.specs.declared.error.TextFault.{TextFault}
use Rattle.yescrypt_plain.specs.declared.error.TextFault.TheVariants as fault
use Rattle.yescrypt_plain.specs.declared.params.ScryptParams.{ScryptParams}
use Rattle.yescrypt_plain.proofs.Fields.{hash_is, hash_read}
use Rattle.yescrypt_plain.proofs.KeyBytes.{scrypt_key_long}
use Rattle.yescrypt_plain.proofs.ScryptParamFields.{scrypt_params_are, scrypt_params_read, scrypt_salt_behind}
use Rattle.yescrypt_plain.proofs.TextPieces.{field_lacks, front_lacks, lacks_dollar, ok_same, pieces_read, text_joins}
use Rattle.pieces.specs.Characters.{is_crypt_character}
use Rattle.pieces.proofs.FaultLaws.{where_so}
use Rattle.yescrypt_plain.proofs.Verdicts.{no_success, passed_verdict, passing_verdict}

abbrev meaning : ScryptParams → List ℕ → List ℕ → ScryptMeaning
meaning params salt hash = record { params = params; salt = salt; hash = hash }

-- ---- read

-- what is known of a text with a meaning
pub record IsTextOf (text : List ℕ) (m : ScryptMeaning) : Type 0 where
  pub bounds : scrypt_in_bounds m.params ≡ true
  pub salt : is_scrypt_salt m.salt ≡ true
  pub hash_below : EachBelow 256 m.hash
  pub is : text ≡ scrypt_text_of m.params m.salt m.hash

of_pieces : (pieces : List (List ℕ)) (f : ScryptFields) → split_scrypt pieces ≡ Ok f → pieces ≡ f.front ∷ (f.hash ∷ [])
of_pieces [] f e = absurd (err_ok fault.NoParams f e)
of_pieces (front ∷ []) f e = absurd (err_ok fault.NoHash f e)
of_pieces (front ∷ (hash ∷ more)) f e =
    let both = where_so (is_empty more) fault.Trailing (Ok (record { front = front; hash = hash })) f e in
    let is : record { front = front; hash = hash } ≡ f = ok_same (record { front = front; hash = hash }) f both.1 in
    ap (λ (ps : List (List ℕ)). front ∷ (hash ∷ ps)) (nil_of_empty more both.0)
    ∙ ap (λ (g : ScryptFields). g.front ∷ (g.hash ∷ [])) is

joined : (text : List ℕ) (f : ScryptFields) (r : Result (List (List ℕ)) TextFault) → pieces_behind (codes "7") text ≡ r
    → scrypt_fields r ≡ Ok f → text ≡ join_with_byte 36 ([] ∷ (codes "7" ∷ (f.front ∷ (f.hash ∷ []))))
joined text f (Err e) is h = absurd (err_ok e f h)
joined text f (Ok pieces) is h =
    text_joins (codes "7") text pieces is
    ∙ ap (λ (ps : List (List ℕ)). join_with_byte 36 ([] ∷ (codes "7" ∷ ps))) (of_pieces pieces f h)

by_hash : (text : List ℕ) (f : ScryptFields) (p : ScryptParams) (o : Option (List ℕ)) (m : ScryptMeaning)
    → text ≡ join_with_byte 36 ([] ∷ (codes "7" ∷ (f.front ∷ (f.hash ∷ []))))
    → scrypt_params f.front ≡ Ok p → is_scrypt_salt (drop 11 f.front) ≡ true → hash_bytes f.hash ≡ o
    → scrypt_by_hash p (drop 11 f.front) o ≡ Ok m → IsTextOf text m
by_hash text f p None m is params_is salt_good hash_found h = absurd (err_ok fault.Hash m h)
by_hash text f p (Some hash) m is params_is salt_good hash_found h =
    let params = scrypt_params_are f.front p params_is in
    let of_hash = hash_is f.hash hash hash_found in
    subst (IsTextOf text) (ok_same (meaning p (drop 11 f.front) hash) m h)
    (record {
      bounds = params.0;
      salt = salt_good;
      hash_below = of_hash.below;
      is = is
          ∙ ap (λ (x : List ℕ). join_with_byte 36 ([] ∷ (codes "7" ∷ (x ∷ (f.hash ∷ []))))) params.1
          ∙ ap (λ (x : List ℕ).
          join_with_byte 36 ([] ∷ (codes "7" ∷ ((scrypt_params_text p ++ drop 11 f.front) ∷ (x ∷ []))))) of_hash.is;
    })

by_params : (text : List ℕ) (f : ScryptFields) (r : Result ScryptParams TextFault) (m : ScryptMeaning)
    → text ≡ join_with_byte 36 ([] ∷ (codes "7" ∷ (f.front ∷ (f.hash ∷ []))))
    → scrypt_params f.front ≡ r → scrypt_by_params r (drop 11 f.front) f.hash ≡ Ok m → IsTextOf text m
by_params text f (Err e) m is params_is h = absurd (err_ok e m h)
by_params text f (Ok p) m is params_is h =
    let both = where_so (is_scrypt_salt (drop 11 f.front)) fault.Salt
    (scrypt_by_hash p (drop 11 f.front) (hash_bytes f.hash)) m h in
    by_hash text f p (hash_bytes f.hash) m is params_is both.0 refl both.1

by_fields : (text : List ℕ) (r : Result ScryptFields TextFault) (m : ScryptMeaning)
    → scrypt_fields (pieces_behind (codes "7") text) ≡ r → scrypt_of r ≡ Ok m → IsTextOf text m
by_fields text (Err e) m is h = absurd (err_ok e m h)
by_fields text (Ok f) m is h =
    by_params text f (scrypt_params f.front) m (joined text f (pieces_behind (codes "7") text) refl is) refl h

-- a text prints what is read from it
pub text_is : (text : List ℕ) (m : ScryptMeaning) → scrypt_text text ≡ Ok m → IsTextOf text m
unfolding scrypt_text
text_is text m h = by_fields text (scrypt_fields (pieces_behind (codes "7") text)) m refl h

abbrev key_of : List ℕ → List ℕ → ScryptParams → List ℕ
key_of password salt p = scrypt password salt (2 ^ p.ln) p.r p.p 32

by_text : (password text : List ℕ) (r : Result ScryptMeaning TextFault) → scrypt_text text ≡ r
    → scrypt_verdict password r ≡ Ok tt → (length password ≤ password_max) × IsScryptText password text
by_text password text (Err e) is h = absurd (no_success (InvalidFormat e) h)
by_text password text (Ok m) is h =
    let tests = passed_verdict password (scrypt_matches password m) h in
    let found = text_is text m is in
    let hash : key_of password m.salt m.params ≡ m.hash = same_true (key_of password m.salt m.params) m.hash tests.1 in (
      tests.0,
      (
        m.params,
        m.salt,
        found.bounds,
        found.salt,
        found.is ∙ ap (scrypt_text_of m.params m.salt) (sym hash),
      ),
    )

passed : (password text : List ℕ) → scrypt_answer password text ≡ Ok tt
    → (length password ≤ password_max) × IsScryptText password text
unfolding scrypt_answer
passed password text h = by_text password text (scrypt_text text) refl h

-- ---- written

text_read : (params : ScryptParams) (salt hash : List ℕ) → scrypt_in_bounds params ≡ true → is_scrypt_salt salt ≡ true
    → length hash ≡ 32 → EachBelow 256 hash
    → scrypt_text (scrypt_text_of params salt hash) ≡ Ok (meaning params salt hash)
unfolding scrypt_text
text_read params salt hash good salt_good long hash_below =
    let characters = and_parts (nat_le (length salt) 86) (list_all is_crypt_character salt) salt_good in
    let front : List ℕ = scrypt_params_text params ++ salt in
    let pieces = pieces_read (codes "7") (front ∷ (crypt_field hash ∷ [])) (lacks_dollar (codes "7") refl)
    (front_lacks params salt good characters.1, (field_lacks hash hash_below, tt)) in
    let of_params = scrypt_params_read params salt good in
    let of_salt = scrypt_salt_behind params salt in
    let of_hash = hash_read hash long hash_below in
    let split : scrypt_of (scrypt_fields (pieces_behind (codes "7") (scrypt_text_of params salt hash)))
    ≡ scrypt_by_params (scrypt_params front) (drop 11 front) (crypt_field hash) =
    ap (λ (r : Result (List (List ℕ)) TextFault). scrypt_of (scrypt_fields r)) pieces in
    let by_salt : scrypt_by_params (scrypt_params front) (drop 11 front) (crypt_field hash)
    ≡ scrypt_by_salt params salt (crypt_field hash) =
    ap (λ (r : Result ScryptParams TextFault). scrypt_by_params r (drop 11 front) (crypt_field hash)) of_params
    ∙ ap (λ (x : List ℕ). scrypt_by_salt params x (crypt_field hash)) of_salt in
    split ∙ by_salt ∙ rw (salt_good, of_hash) refl

pub scrypt_made_matches : ScryptMadeMatches
unfolding scrypt_answer
scrypt_made_matches password salt params good salt_good short =
    let key : List ℕ = key_of password salt params in
    let read = text_read params salt key good salt_good (scrypt_key_long password salt (2 ^ params.ln) params.r params.p)
    (scrypt_bytes password salt (2 ^ params.ln) params.r params.p 32) in
    ap (scrypt_verdict password) read ∙ passing_verdict password (pointwise nat_eq key key) short (true_same key)

passes : (password text : List ℕ) → (length password ≤ password_max) × IsScryptText password text
    → scrypt_answer password text ≡ Ok tt
passes password text h =
    let t = h.1 in
    ap (scrypt_answer password) t.4 ∙ scrypt_made_matches password t.1 t.0 t.2 t.3 h.0

pub scrypt_matches_exactly : ScryptMatchesExactly
scrypt_matches_exactly password text = (passed password text, passes password text)
