-- The texts `$y$` that a password passes.
use Rattle.std.proofs.Common.{◌≡◌, ℕ, ◌≤◌, true, List, [], ◌∷◌, length, refl, sym, ap, ◌∙◌, subst}
use Rattle.std.proofs.Common.{Some, None, Result, Ok, Err}
use Rattle.std.specs.Prelude.{codes, nat_eq, Option}
use Rattle.std.specs.Cmp.Lexicographic.{pointwise}
use Rattle.std.specs.List.{join_with_byte}
use Rattle.base64ct.specs.Encoding.{EachBelow}
use Rattle.base64ct.proofs.DecodingLaws.{same_true, true_same}
use Rattle.pieces.specs.Lists.{is_empty}
use Rattle.pieces.proofs.FaultLaws.{err_ok}
use Rattle.pieces.proofs.ListLaws.{nil_of_empty}
use Rattle.phc_kdf.specs.Limits.{password_max}
use Rattle.yescrypt_plain.specs.Check.{yescrypt_answer, yescrypt_matches, yescrypt_verdict}
use Rattle.yescrypt_plain.specs.Field.{crypt_field, hash_bytes, salt_bytes}
use Rattle.yescrypt_plain.specs.Laws.{YescryptMadeMatches, YescryptMatchesExactly}
use Rattle.yescrypt_plain.specs.Made.{IsYescryptText, yescrypt_text_of}
use Rattle.yescrypt_plain.specs.Params.{in_bounds, yescrypt_params, yescrypt_params_text}
use Rattle.yescrypt_plain.specs.Text.{YescryptFields, YescryptMeaning, pieces_behind, split_yescrypt, yescrypt_by_hash}
use Rattle.yescrypt_plain.specs.Text.{yescrypt_by_params, yescrypt_by_salt, yescrypt_fields, yescrypt_of, yescrypt_text}
use Rattle.yescrypt_plain.specs.Yescrypt.{yescrypt}
use Rattle.yescrypt_plain.specs.declared.error.CheckError.TheVariants.{InvalidFormat}
use Rattle.yescrypt_plain.specs.declared.error.TextFault.{TextFault}
use Rattle.yescrypt_plain.specs.declared.error.TextFault.TheVariants as fault
use Rattle.yescrypt_plain.specs.declared.params.YescryptParams.{YescryptParams}
use Rattle.yescrypt_plain.proofs.Fields.{hash_is, hash_read, salt_is, salt_read}
use Rattle.yescrypt_plain.proofs.KeyBytes.{key_below, key_long}
use Rattle.yescrypt_plain.proofs.ParamFields.{params_of_text, text_of_params}
use Rattle.yescrypt_plain.proofs.TextPieces.{field_lacks, lacks_dollar, ok_same, params_lack, pieces_read, text_joins}
use Rattle.pieces.proofs.FaultLaws.{where_so}
use Rattle.yescrypt_plain.proofs.Verdicts.{passed_verdict, passing_verdict, no_success}

abbrev pub meaning : YescryptParams → List ℕ → List ℕ → YescryptMeaning
meaning params salt hash = record { params = params; salt = salt; hash = hash }

-- ---- read

-- what is known of a text with a meaning
pub record IsTextOf (text : List ℕ) (m : YescryptMeaning) : Type 0 where
  pub bounds : in_bounds m.params ≡ true
  pub least : 1 ≤ length m.salt
  pub most : length m.salt ≤ 64
  pub below : EachBelow 256 m.salt
  pub hash_below : EachBelow 256 m.hash
  pub is : text ≡ yescrypt_text_of m.params m.salt m.hash

of_pieces : (pieces : List (List ℕ)) (f : YescryptFields) → split_yescrypt pieces ≡ Ok f
    → pieces ≡ f.params ∷ (f.salt ∷ (f.hash ∷ []))
of_pieces [] f e = absurd (err_ok fault.NoParams f e)
of_pieces (params ∷ []) f e = absurd (err_ok fault.NoSalt f e)
of_pieces (params ∷ (salt ∷ [])) f e = absurd (err_ok fault.NoHash f e)
of_pieces (params ∷ (salt ∷ (hash ∷ more))) f e =
    let both = where_so (is_empty more) fault.Trailing (Ok (record { params = params; salt = salt; hash = hash })) f e in
    let is : record { params = params; salt = salt; hash = hash } ≡ f =
    ok_same (record { params = params; salt = salt; hash = hash }) f both.1 in
    ap (λ (ps : List (List ℕ)). params ∷ (salt ∷ (hash ∷ ps))) (nil_of_empty more both.0)
    ∙ ap (λ (g : YescryptFields). g.params ∷ (g.salt ∷ (g.hash ∷ []))) is

joined : (text : List ℕ) (f : YescryptFields) (r : Result (List (List ℕ)) TextFault) → pieces_behind (codes "y") text ≡ r
    → yescrypt_fields r ≡ Ok f
    → text ≡ join_with_byte 36 ([] ∷ (codes "y" ∷ (f.params ∷ (f.salt ∷ (f.hash ∷ [])))))
joined text f (Err e) is h = absurd (err_ok e f h)
joined text f (Ok pieces) is h =
    text_joins (codes "y") text pieces is
    ∙ ap (λ (ps : List (List ℕ)). join_with_byte 36 ([] ∷ (codes "y" ∷ ps))) (of_pieces pieces f h)

by_hash : (text : List ℕ) (f : YescryptFields) (p : YescryptParams) (salt : List ℕ) (o : Option (List ℕ))
    (m : YescryptMeaning)
    → text ≡ join_with_byte 36 ([] ∷ (codes "y" ∷ (f.params ∷ (f.salt ∷ (f.hash ∷ [])))))
    → yescrypt_params f.params ≡ Ok p → salt_bytes f.salt ≡ Some salt → hash_bytes f.hash ≡ o
    → yescrypt_by_hash p salt o ≡ Ok m → IsTextOf text m
by_hash text f p salt None m is params_is salt_found hash_found h = absurd (err_ok fault.Hash m h)
by_hash text f p salt (Some hash) m is params_is salt_found hash_found h =
    let params = params_of_text f.params p params_is in
    let of_salt = salt_is f.salt salt salt_found in
    let of_hash = hash_is f.hash hash hash_found in
    subst (IsTextOf text) (ok_same (meaning p salt hash) m h)
    (record {
      bounds = params.0;
      least = of_salt.least;
      most = of_salt.most;
      below = of_salt.below;
      hash_below = of_hash.below;
      is = is
          ∙ ap (λ (x : List ℕ). join_with_byte 36 ([] ∷ (codes "y" ∷ (x ∷ (f.salt ∷ (f.hash ∷ [])))))) params.1
          ∙ ap (λ (x : List ℕ). join_with_byte 36 ([] ∷ (codes "y" ∷ (yescrypt_params_text p ∷ (x ∷ (f.hash ∷ [])))))) of_salt.is
          ∙ ap (λ (x : List ℕ). join_with_byte 36 ([] ∷ (codes "y" ∷ (yescrypt_params_text p ∷ (crypt_field salt ∷ (x ∷ []))))))
          of_hash.is;
    })

by_salt : (text : List ℕ) (f : YescryptFields) (p : YescryptParams) (o : Option (List ℕ)) (m : YescryptMeaning)
    → text ≡ join_with_byte 36 ([] ∷ (codes "y" ∷ (f.params ∷ (f.salt ∷ (f.hash ∷ [])))))
    → yescrypt_params f.params ≡ Ok p → salt_bytes f.salt ≡ o
    → yescrypt_by_salt p o f.hash ≡ Ok m → IsTextOf text m
by_salt text f p None m is params_is salt_found h = absurd (err_ok fault.Salt m h)
by_salt text f p (Some salt) m is params_is salt_found h =
    by_hash text f p salt (hash_bytes f.hash) m is params_is salt_found refl h

by_params : (text : List ℕ) (f : YescryptFields) (r : Result YescryptParams TextFault) (m : YescryptMeaning)
    → text ≡ join_with_byte 36 ([] ∷ (codes "y" ∷ (f.params ∷ (f.salt ∷ (f.hash ∷ [])))))
    → yescrypt_params f.params ≡ r → yescrypt_by_params r f.salt f.hash ≡ Ok m → IsTextOf text m
by_params text f (Err e) m is params_is h = absurd (err_ok e m h)
by_params text f (Ok p) m is params_is h = by_salt text f p (salt_bytes f.salt) m is params_is refl h

by_fields : (text : List ℕ) (r : Result YescryptFields TextFault) (m : YescryptMeaning)
    → yescrypt_fields (pieces_behind (codes "y") text) ≡ r → yescrypt_of r ≡ Ok m → IsTextOf text m
by_fields text (Err e) m is h = absurd (err_ok e m h)
by_fields text (Ok f) m is h =
    by_params text f (yescrypt_params f.params) m
    (joined text f (pieces_behind (codes "y") text) refl is) refl h

-- a text prints what is read from it
pub text_is : (text : List ℕ) (m : YescryptMeaning) → yescrypt_text text ≡ Ok m → IsTextOf text m
unfolding yescrypt_text
text_is text m h = by_fields text (yescrypt_fields (pieces_behind (codes "y") text)) m refl h

by_text : (password text : List ℕ) (r : Result YescryptMeaning TextFault) → yescrypt_text text ≡ r
    → yescrypt_verdict password r ≡ Ok tt → (length password ≤ password_max) × IsYescryptText password text
by_text password text (Err e) is h = absurd (no_success (InvalidFormat e) h)
by_text password text (Ok m) is h =
    let tests = passed_verdict password (yescrypt_matches password m) h in
    let found = text_is text m is in
    let hash : yescrypt password m.salt m.params.ln m.params.r m.params.t ≡ m.hash =
    same_true (yescrypt password m.salt m.params.ln m.params.r m.params.t) m.hash tests.1 in (
      tests.0,
      (
        m.params,
        m.salt,
        found.bounds,
        found.least,
        found.most,
        found.below,
        found.is ∙ ap (yescrypt_text_of m.params m.salt) (sym hash),
      ),
    )

passed : (password text : List ℕ) → yescrypt_answer password text ≡ Ok tt
    → (length password ≤ password_max) × IsYescryptText password text
unfolding yescrypt_answer
passed password text h = by_text password text (yescrypt_text text) refl h

-- ---- written

pub text_read : (params : YescryptParams) (salt hash : List ℕ) → in_bounds params ≡ true → 1 ≤ length salt → length salt ≤ 64
    → EachBelow 256 salt → length hash ≡ 32 → EachBelow 256 hash
    → yescrypt_text (yescrypt_text_of params salt hash) ≡ Ok (meaning params salt hash)
unfolding yescrypt_text
text_read params salt hash good least most below long hash_below =
    let pieces = pieces_read (codes "y") (yescrypt_params_text params ∷ (crypt_field salt ∷ (crypt_field hash ∷ [])))
    (lacks_dollar (codes "y") refl)
    (params_lack params good, (field_lacks salt below, (field_lacks hash hash_below, tt))) in
    let of_params = text_of_params (yescrypt_params_text params) params (good, refl) in
    let of_salt = salt_read salt least most below in
    let of_hash = hash_read hash long hash_below in
    rw (pieces, of_params, of_salt, of_hash) refl

pub yescrypt_made_matches : YescryptMadeMatches
unfolding yescrypt_answer
yescrypt_made_matches password salt params good least most below short =
    let key : List ℕ = yescrypt password salt params.ln params.r params.t in
    let read = text_read params salt key good least most below (key_long password salt params.ln params.r params.t)
    (key_below password salt params.ln params.r params.t) in
    ap (yescrypt_verdict password) read ∙ passing_verdict password (pointwise nat_eq key key) short (true_same key)

passes : (password text : List ℕ) → (length password ≤ password_max) × IsYescryptText password text
    → yescrypt_answer password text ≡ Ok tt
passes password text h =
    let t = h.1 in
    ap (yescrypt_answer password) t.6 ∙ yescrypt_made_matches password t.1 t.0 t.2 t.3 t.4 t.5 h.0

pub yescrypt_matches_exactly : YescryptMatchesExactly
yescrypt_matches_exactly password text = (passed password text, passes password text)
