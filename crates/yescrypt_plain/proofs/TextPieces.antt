-- The pieces of a text behind its identifier.
use Rattle.std.proofs.Common.{◌≡◌, true, List, ℕ, [], ◌∷◌, ◌++◌}
use Rattle.std.proofs.Common.{refl, sym, ap, ◌∙◌, Result, Ok}
use Rattle.std.specs.Prelude.{nat_eq}
use Rattle.std.specs.Cmp.Lexicographic.{pointwise}
use Rattle.std.specs.List.{join_with_byte, list_all}
use Rattle.base64ct.specs.Encoding.{EachBelow}
use Rattle.base64ct.proofs.DecodingLaws.{same_true, true_same}
use Rattle.pieces.specs.Characters.{is_crypt_character}
use Rattle.pieces.specs.Lists.{is_empty}
use Rattle.pieces.specs.Pieces.{EachLacks, LacksByte, pieces_at}
use Rattle.pieces.proofs.ByteTests.{all_append, lacks}
use Rattle.pieces.proofs.Cuts.{cut_joined, join_pieces, lacks_none}
use Rattle.pieces.proofs.FaultLaws.{err_ok, where_so}
use Rattle.pieces.proofs.ListLaws.{nil_of_empty}
use Rattle.yescrypt_plain.specs.Field.{crypt_field}
use Rattle.yescrypt_plain.specs.Params.{in_bounds, scrypt_in_bounds, scrypt_params_text, yescrypt_params_text}
use Rattle.yescrypt_plain.specs.Text.{from_front, from_identifier, pieces_behind}
use Rattle.yescrypt_plain.specs.declared.error.TextFault.{TextFault}
use Rattle.yescrypt_plain.specs.declared.error.TextFault.TheVariants as fault
use Rattle.yescrypt_plain.specs.declared.params.ScryptParams.{ScryptParams}
use Rattle.yescrypt_plain.specs.declared.params.YescryptParams.{YescryptParams}
use Rattle.yescrypt_plain.proofs.Characters.{params_characters, scrypt_params_characters}
use Rattle.yescrypt_plain.proofs.Fields.{field_passes}

-- ---- read

pub ok_same : {A : Type 0} (a b : A) → ◌≡◌ {A = Result A TextFault} (Ok a) (Ok b) → a ≡ b
ok_same a b h = cc

of_identifier : (id : List ℕ) (pieces rest : List (List ℕ)) → from_identifier id pieces ≡ Ok rest → pieces ≡ id ∷ rest
of_identifier id [] rest e = absurd (err_ok fault.WrongId rest e)
of_identifier id (first ∷ pieces) rest e =
    let both = where_so (pointwise nat_eq first id) fault.WrongId (Ok pieces) rest e in
    ap (λ (x : List ℕ). x ∷ pieces) (same_true first id both.0)
    ∙ ap (λ (ps : List (List ℕ)). id ∷ ps) (ok_same pieces rest both.1)

of_front : (id : List ℕ) (pieces rest : List (List ℕ)) → from_front id pieces ≡ Ok rest → pieces ≡ [] ∷ (id ∷ rest)
of_front id [] rest e = absurd (err_ok fault.NoDollar rest e)
of_front id (front ∷ others) rest e =
    let both = where_so (is_empty front) fault.NoDollar (from_identifier id others) rest e in
    ap (λ (x : List ℕ). x ∷ others) (nil_of_empty front both.0)
    ∙ ap (λ (ps : List (List ℕ)). [] ∷ ps) (of_identifier id others rest both.1)

-- the pieces of a text join to it
pub text_joins : (id text : List ℕ) (rest : List (List ℕ)) → pieces_behind id text ≡ Ok rest
    → text ≡ join_with_byte 36 ([] ∷ (id ∷ rest))
unfolding pieces_behind
text_joins id text rest e =
    sym (join_pieces 36 text) ∙ ap (join_with_byte 36) (of_front id (pieces_at 36 text) rest e)

-- ---- written

-- pieces that lack the cut are read back
pub pieces_read : (id : List ℕ) (rest : List (List ℕ)) → LacksByte 36 id → EachLacks 36 rest
    → pieces_behind id (join_with_byte 36 ([] ∷ (id ∷ rest))) ≡ Ok rest
unfolding pieces_behind
pieces_read id rest id_lacks each =
    let cut = cut_joined 36 [] (id ∷ rest) (lacks_none 36) (id_lacks, each) in
    rw (cut, true_same id) refl

-- ---- no field has a `$`

pub lacks_dollar : (text : List ℕ) → list_all is_crypt_character text ≡ true → LacksByte 36 text
lacks_dollar text h = lacks is_crypt_character 36 refl text h

pub params_lack : (p : YescryptParams) → in_bounds p ≡ true → LacksByte 36 (yescrypt_params_text p)
params_lack p good = lacks_dollar (yescrypt_params_text p) (params_characters p good)

pub field_lacks : (bytes : List ℕ) → EachBelow 256 bytes → LacksByte 36 (crypt_field bytes)
field_lacks bytes below = lacks_dollar (crypt_field bytes) (field_passes is_crypt_character bytes refl below)

pub front_lacks : (p : ScryptParams) (salt : List ℕ) → scrypt_in_bounds p ≡ true → list_all is_crypt_character salt ≡ true
    → LacksByte 36 (scrypt_params_text p ++ salt)
front_lacks p salt good h =
    lacks_dollar (scrypt_params_text p ++ salt)
    (all_append is_crypt_character (scrypt_params_text p) salt (scrypt_params_characters p good) h)
