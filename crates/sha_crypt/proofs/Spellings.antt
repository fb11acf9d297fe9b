-- Records and their texts.
use Rattle.std.proofs.Common.{◌≡◌, ◌≢◌, ℕ, zero, suc, ◌<◌, ◌≤◌, Bool, true, false, List, [], ◌∷◌, ◌++◌, length, take}
use Rattle.std.proofs.Common.{drop, slice_index, refl, sym, ap, subst, ◌∙◌, append_assoc, arith, Result, Ok, Err}
use Rattle.std.specs.Prelude.{◌==◌, nat_eq, nat_lt, Some, None, if◌then◌else◌, codes}
use Rattle.std.specs.Cmp.Lexicographic.{pointwise}
use Rattle.std.specs.Fmt.{decimal}
use Rattle.std.specs.List.{join_with_byte, starts_with}
use Rattle.std.specs.Option.{option_map}
use Rattle.std.specs.Result.{result_ok}
use Rattle.std.proofs.lemmas.Bool.Decides.{nat_tests}
use Rattle.std.proofs.lemmas.List.{take_all, length-take, take-take}
use Rattle.base64ct.proofs.DecodingLaws.{same_true, true_same}
use Rattle.pieces.specs.Pieces.{LacksByte, EachLacks, pieces_at, behind}
use Rattle.pieces.proofs.Cuts.{cut_joined, join_pieces, lacks_none, pieces_lack}
use Rattle.pieces.proofs.FaultLaws.{where_so}
use Rattle.sha_crypt.specs.Check.{text_fields, from_front, from_identifier}
use Rattle.sha_crypt.specs.Digest.{sha_crypt_digest}
use Rattle.sha_crypt.specs.Families.{Scheme, scheme_fields, old_scheme_fields}
use Rattle.sha_crypt.specs.Fields.{ShaFields, split_fields, cut_salt, old_fields, old_number, plain_number, sha_fields}
use Rattle.sha_crypt.specs.Fields.{short_salt, checked_hash}
use Rattle.sha_crypt.specs.HashField.{is_hash_field, hash_field}
use Rattle.sha_crypt.specs.Records.{family_id, family_scheme, field_pieces, old_record_of, record_of, record_text}
use Rattle.sha_crypt.specs.Records.{rounds_part, rounds_pieces}
use Rattle.sha_crypt.specs.declared.errors.CheckError.{CheckError}
use Rattle.sha_crypt.specs.declared.errors.Family.{Family}
use Rattle.sha_crypt.specs.declared.errors.Family.TheVariants.{Sha256, Sha512}
use Rattle.sha_crypt.proofs.Decimals.{decimal_lacks, plain_decimal, plain_number-decimal, plain_old}
use Rattle.sha_crypt.proofs.Shapes.{HasForm, Stands, form_of, found, of_form, unless}

-- ---- the bytes of the salt that count

pub length-cut : (s : List ℕ) → length (take 16 s) ≤ 16
length-cut s = omega (arith, length-take 16 s)

pub cut_once : (s : List ℕ) → take 16 (take 16 s) ≡ take 16 s
cut_once s = take_all 16 (take 16 s) (length-cut s)

pub digest-take : (H : List ℕ → List ℕ) (password salt : List ℕ) (rounds : ℕ)
    → sha_crypt_digest H password (take 16 salt) rounds ≡ sha_crypt_digest H password salt rounds
unfolding sha_crypt_digest
digest-take H password salt rounds = rw (cut_once salt) refl

-- ---- the last faults

ok_same : (f g : ShaFields) → found f ≡ found g → f ≡ g
ok_same f g h = cc

record IsTested (n : ℕ) (r : Result ShaFields CheckError) (f : ShaFields) : Type 0 where
  is : r ≡ Ok f
  field : is_hash_field n f.hash ≡ true

tested_ok : (n : ℕ) (r : Result ShaFields CheckError) (f : ShaFields) → checked_hash (is_hash_field n) r ≡ Ok f
    → IsTested n r f
tested_ok n (Err e) f h = absurd cc
tested_ok n (Ok g) f h =
    let both = where_so (is_hash_field n g.hash) _ (Ok g) f h in
    record { is = both.1; field = ap (λ (k : ShaFields). is_hash_field n k.hash) (sym (ok_same g f both.1)) ∙ both.0 }

pub ok_tested : (n : ℕ) (f : ShaFields) → is_hash_field n f.hash ≡ true → checked_hash (is_hash_field n) (Ok f) ≡ Ok f
ok_tested n f h = rw h refl

not_above : (n : ℕ) → nat_lt 16 n ≡ false → n ≤ 16
not_above n h = grind (arith, nat_tests, h)

short_ok : (r : Result ShaFields CheckError) (f : ShaFields) → short_salt r ≡ Ok f → (r ≡ Ok f) × (length f.salt ≤ 16)
short_ok (Err e) f h = absurd cc
short_ok (Ok g) f h =
    let both = unless (nat_lt 16 (length g.salt)) _ (Ok g) f h in
    let test : nat_lt 16 (length f.salt) ≡ false =
    ap (λ (k : ShaFields). nat_lt 16 (length k.salt)) (sym (ok_same g f both.1)) ∙ both.0 in
    (both.1, not_above (length f.salt) test)

pub ok_short : (f : ShaFields) → length f.salt ≤ 16 → short_salt (Ok f) ≡ Ok f
ok_short f h = let fits : nat_lt 16 (length f.salt) ≡ false = grind (arith, nat_tests, h) in rw fits refl

-- ---- pieces and records

-- the pieces of a text of today are those of its record
pieces_by : (w : Bool) (pieces : List (List ℕ)) (f : ShaFields) → f.written ≡ w → Stands plain_number pieces f w
    → pieces ≡ field_pieces f
pieces_by true pieces f is h = rw (is, plain_decimal h.0 f.rounds h.2) h.1
pieces_by false pieces f is h = rw is h.0

today_by : (w : Bool) (pieces : List (List ℕ)) (f : ShaFields) → Stands plain_number pieces f w
    → Stands old_number pieces f w
today_by true pieces f h = (h.0, h.1, plain_old h.0 f.rounds h.2)
today_by false pieces f h = h

-- the fields of pieces of today
pub record IsToday (s : Scheme) (pieces : List (List ℕ)) (f : ShaFields) : Type 0 where
  pub are : pieces ≡ field_pieces f
  pub short : length f.salt ≤ 16
  pub old : old_scheme_fields s pieces ≡ Ok f

pub today : (s : Scheme) (pieces : List (List ℕ)) (f : ShaFields) → scheme_fields s pieces ≡ Ok f → IsToday s pieces f
unfolding sha_fields old_fields
today s pieces f h =
    let t = tested_ok s.size (short_salt (split_fields plain_number pieces)) f h in
    let short = short_ok (split_fields plain_number pieces) f t.is in
    let form = form_of plain_number pieces f short.0 in
    let old : split_fields old_number pieces ≡ Ok f =
    of_form old_number pieces f
    (record { least = form.least; most = form.most; stands = today_by f.written pieces f form.stands }) in
    record {
      are = pieces_by f.written pieces f refl form.stands;
      short = short.1;
      old = rw old (ok_tested s.size f t.field);
    }

-- where the salt doesn't name the rounds, its first bytes don't
first_seven : (s : List ℕ) → take 7 (take 16 s) ≡ take 7 s
first_seven s = take-take 7 16 s (omega arith)

starts_by : (t : Bool) (r q : List ℕ) → (if t then Some r else None) ≡ None → (if t then Some q else None) ≡ None
starts_by true r q h = absurd cc
starts_by false r q h = refl

no_front : (s : List ℕ) → behind s (codes "rounds=") ≡ None → behind (take 16 s) (codes "rounds=") ≡ None
no_front s h = rw (first_seven s) (starts_by (starts_with nat_eq s (codes "rounds=")) (drop 7 s) (drop 7 (take 16 s)) h)

cut_by : (w : Bool) (pieces : List (List ℕ)) (f : ShaFields) → f.written ≡ w → 1000 ≤ f.rounds → f.rounds ≤ 999999999
    → Stands old_number pieces f w → Stands plain_number (field_pieces (cut_salt f)) (cut_salt f) w
cut_by true pieces f is least most h =
    (decimal f.rounds, rw is refl, plain_number-decimal f.rounds (omega (arith, least)) (omega (arith, most)))
cut_by false pieces f is least most h = (rw is refl, no_front f.salt h.1, h.2)

-- the form of earlier pieces
pub old_form : (s : Scheme) (pieces : List (List ℕ)) (f : ShaFields) → old_scheme_fields s pieces ≡ Ok f
    → HasForm old_number pieces f
unfolding old_fields
old_form s pieces f h = form_of old_number pieces f (tested_ok s.size (split_fields old_number pieces) f h).is

-- the fields of earlier pieces, written anew
pub written_anew : (s : Scheme) (pieces : List (List ℕ)) (f : ShaFields) → old_scheme_fields s pieces ≡ Ok f
    → scheme_fields s (field_pieces (cut_salt f)) ≡ Ok (cut_salt f)
unfolding sha_fields old_fields
written_anew s pieces f h =
    let t = tested_ok s.size (split_fields old_number pieces) f h in
    let form = form_of old_number pieces f t.is in
    let again : split_fields plain_number (field_pieces (cut_salt f)) ≡ Ok (cut_salt f) =
    of_form plain_number (field_pieces (cut_salt f)) (cut_salt f)
    (record {
      least = form.least;
      most = form.most;
      stands = cut_by f.written pieces f refl form.least form.most form.stands;
    }) in
    rw (again, ok_short (cut_salt f) (length-cut f.salt)) (ok_tested s.size (cut_salt f) t.field)

-- the digest is that of the whole salt
pub same_hash_field : (s : Scheme) (password : List ℕ) (f : ShaFields)
    → hash_field s.places (sha_crypt_digest s.hash password (cut_salt f).salt f.rounds)
    ≡ hash_field s.places (sha_crypt_digest s.hash password f.salt f.rounds)
same_hash_field s password f = ap (hash_field s.places) (digest-take s.hash password f.salt f.rounds)

-- ---- texts and pieces

other_text : (b c : ℕ) → (b == c) ≡ false → LacksByte c (b ∷ [])
other_text b c is zero below = λ e. grind (arith, nat_tests, is, e)
other_text b c is (suc i) below = absurd (omega (arith, below))

lacks_cons : (b c : ℕ) (s : List ℕ) → (b == c) ≡ false → LacksByte c s → LacksByte c (b ∷ s)
lacks_cons b c s is h zero below = λ e. grind (arith, nat_tests, is, e)
lacks_cons b c s is h (suc i) below = h i (omega (arith, below))

pub lacks_front : (c : ℕ) (front s : List ℕ) → LacksByte c front → LacksByte c s → LacksByte c (front ++ s)
lacks_front c [] s hf hs = hs
lacks_front c (b ∷ front) s hf hs =
    λ i below. elim i as (λ i. i < length (b ∷ front ++ s) → slice_index (b ∷ front ++ s) i ≢ c) [
      | zero ↦ λ less. hf zero (omega arith)
      | suc i ↦ λ less. lacks_front c front s (λ j short. hf (suc j) (omega (arith, short))) hs i (omega (arith, less))
    ] below

lacks_take : (c k : ℕ) (s : List ℕ) → LacksByte c s → LacksByte c (take k s)
lacks_take c zero s h = lacks_none c
lacks_take c (suc k) [] h = lacks_none c
lacks_take c (suc k) (b ∷ s) h =
    λ i below. elim i as (λ i. i < length (b ∷ take k s) → slice_index (b ∷ take k s) i ≢ c) [
      | zero ↦ λ less. h zero (omega arith)
      | suc i ↦ λ less. lacks_take c k s (λ j short. h (suc j) (omega (arith, short))) i (omega (arith, less))
    ] below

pub rounds_lack : LacksByte 36 (codes "rounds=")
rounds_lack =
    lacks_cons 114 36 (codes "ounds=") refl
    (lacks_cons 111 36 (codes "unds=") refl (lacks_cons 117 36 (codes "nds=") refl
    (lacks_cons 110 36 (codes "ds=") refl
    (lacks_cons 100 36 (codes "s=") refl (lacks_cons 115 36 (codes "=") refl (other_text 61 36 refl))))))

fields_lack : (w : Bool) (pieces : List (List ℕ)) (f : ShaFields) → f.written ≡ w → f.rounds ≤ 999999999
    → Stands old_number pieces f w → EachLacks 36 pieces → EachLacks 36 (field_pieces (cut_salt f))
fields_lack true pieces f is most h each =
    let lack = rw h.1 at each in
    rw is (
      lacks_front 36 (codes "rounds=") (decimal f.rounds) rounds_lack
          (decimal_lacks f.rounds (omega (arith, most))),
      (lacks_take 36 16 f.salt lack.1.0, lack.1.1),
    )
fields_lack false pieces f is most h each =
    let lack = rw h.0 at each in
    rw is (lacks_take 36 16 f.salt lack.0, lack.1)

old_lack : (s : Scheme) (pieces : List (List ℕ)) (f : ShaFields) → old_scheme_fields s pieces ≡ Ok f
    → EachLacks 36 pieces → EachLacks 36 (field_pieces (cut_salt f))
unfolding old_fields
old_lack s pieces f h each =
    let t = tested_ok s.size (split_fields old_number pieces) f h in
    let form = form_of old_number pieces f t.is in
    fields_lack f.written pieces f refl form.most form.stands each

-- a text with fields is cut into nothing, the identifier and their pieces
pub record IsCut (fields : List (List ℕ) → Result ShaFields CheckError) (id text : List ℕ) (f : ShaFields) : Type 0
  where
    pub pieces : List (List ℕ)
    pub cut : pieces_at 36 text ≡ [] ∷ (id ∷ pieces)
    pub read : fields pieces ≡ Ok f

module _ (fields : List (List ℕ) → Result ShaFields CheckError) (family : Family) (id text : List ℕ) (f : ShaFields)
  where
    by_identifier : (first : List ℕ) (pieces : List (List ℕ)) → pieces_at 36 text ≡ [] ∷ (first ∷ pieces)
        → from_identifier fields family id (first ∷ pieces) ≡ Ok f → IsCut fields id text f
    by_identifier first pieces is h =
        let both = where_so (pointwise nat_eq first id) _ (fields pieces) f h in
        record {
          pieces = pieces;
          cut = is ∙ ap (λ (x : List ℕ). [] ∷ (x ∷ pieces)) (same_true first id both.0);
          read = both.1;
        }

    by_front : (pieces : List (List ℕ)) → pieces_at 36 text ≡ pieces → from_front fields family id pieces ≡ Ok f
        → IsCut fields id text f
    by_front [] is h = absurd cc
    by_front ([] ∷ []) is h = absurd cc
    by_front ([] ∷ (first ∷ pieces)) is h = by_identifier first pieces is h
    by_front ((b ∷ front) ∷ others) is h = absurd cc

    pub is_cut : text_fields fields family id text ≡ Ok f → IsCut fields id text f
    unfolding text_fields
    is_cut h = by_front (pieces_at 36 text) refl h

pub of_cut : (fields : List (List ℕ) → Result ShaFields CheckError) (family : Family) (id text : List ℕ)
    (pieces : List (List ℕ)) → pieces_at 36 text ≡ [] ∷ (id ∷ pieces)
    → text_fields fields family id text ≡ fields pieces
unfolding text_fields
of_cut fields family id text pieces is = rw (is, true_same id) refl

pub short_of : (s : Scheme) (pieces : List (List ℕ)) (f : ShaFields) → scheme_fields s pieces ≡ Ok f
    → length f.salt ≤ 16
short_of s pieces f h = (today s pieces f h).short

-- ---- the text of a record is its pieces, joined

regroup : (a b c d e f g : List ℕ) → a ++ b ++ c ++ d ++ e ++ f ++ g ≡ a ++ (b ++ (c ++ (d ++ (e ++ (f ++ g)))))
regroup a b c d e f g = simp append_assoc

pub join_by : (w : Bool) (n : ℕ) (id salt hash : List ℕ)
    → join_with_byte 36 ([] ∷ (id ∷ (rounds_pieces w n ++ salt ∷ (hash ∷ [])))) ≡ codes "$" ++ id ++ codes "$"
    ++ rounds_part w n ++ salt ++ codes "$" ++ hash
join_by true n id salt hash =
    ap (λ (t : List ℕ). 36 ∷ (id ++ 36 ∷ (codes "rounds=" ++ t)))
    (sym (append_assoc (decimal n) (codes "$") (salt ++ 36 ∷ hash)))
    ∙ sym (regroup (codes "$") id (codes "$") (rounds_part true n) salt (codes "$") hash)
join_by false n id salt hash = sym (regroup (codes "$") id (codes "$") [] salt (codes "$") hash)

pub join-pieces : (family : Family) (f : ShaFields)
    → join_with_byte 36 ([] ∷ (family_id family ∷ field_pieces f)) ≡ record_text family f
unfolding record_text
join-pieces family f = join_by f.written f.rounds (family_id family) f.salt f.hash

-- ---- the laws

pub prints_back : (family : Family) (text : List ℕ) (f : ShaFields) → record_of family text ≡ Ok f
    → record_text family f ≡ text
prints_back family text f h =
    let cut = is_cut (scheme_fields (family_scheme family)) family (family_id family) text f h in
    let is = today (family_scheme family) cut.pieces f cut.read in
    sym (join-pieces family f)
    ∙ ap (λ (ps : List (List ℕ)). join_with_byte 36 ([] ∷ (family_id family ∷ ps))) (sym is.are)
    ∙ ap (join_with_byte 36) (sym cut.cut) ∙ join_pieces 36 text

pub id_lacks : (family : Family) → LacksByte 36 (family_id family)
id_lacks Sha256 = other_text 53 36 refl
id_lacks Sha512 = other_text 54 36 refl

old_found : (r : Result ShaFields CheckError) (g : ShaFields) → option_map cut_salt (result_ok r) ≡ Some g
    → (f : ShaFields) × (r ≡ Ok f) × (cut_salt f ≡ g)
old_found (Err e) g h = absurd cc
old_found (Ok f) g h = (f, refl, cc)

anew : (family : Family) (text : List ℕ) (f : ShaFields)
    → text_fields (old_scheme_fields (family_scheme family)) family (family_id family) text ≡ Ok f
    → record_of family (record_text family (cut_salt f)) ≡ Ok (cut_salt f)
anew family text f h =
    let cut = is_cut (old_scheme_fields (family_scheme family)) family (family_id family) text f h in
    let each : EachLacks 36 ([] ∷ (family_id family ∷ cut.pieces)) = rw cut.cut at (pieces_lack 36 text) in
    let lack = old_lack (family_scheme family) cut.pieces f cut.read each.1.1 in
    let again : pieces_at 36 (record_text family (cut_salt f)) ≡ [] ∷ (family_id family ∷ field_pieces (cut_salt f)) =
    ap (pieces_at 36) (sym (join-pieces family (cut_salt f)))
    ∙ cut_joined 36 [] (family_id family ∷ field_pieces (cut_salt f)) (lacks_none 36) (id_lacks family, lack) in
    of_cut (scheme_fields (family_scheme family)) family (family_id family) (record_text family (cut_salt f))
    (field_pieces (cut_salt f)) again
    ∙ written_anew (family_scheme family) cut.pieces f cut.read

pub read_back : (family : Family) (text : List ℕ) (f : ShaFields) → old_record_of family text ≡ Some f
    → record_of family (record_text family f) ≡ Ok f
read_back family text f h =
    let found = old_found (text_fields (old_scheme_fields (family_scheme family)) family (family_id family) text) f h in
    subst (λ (g : ShaFields). record_of family (record_text family g) ≡ Ok g) found.2 (anew family text found.0 found.1)

pub kept : (family : Family) (text : List ℕ) (f : ShaFields) → record_of family text ≡ Ok f
    → old_record_of family text ≡ Some f
kept family text f h =
    let cut = is_cut (scheme_fields (family_scheme family)) family (family_id family) text f h in
    let is = today (family_scheme family) cut.pieces f cut.read in
    let old = of_cut (old_scheme_fields (family_scheme family)) family (family_id family) text cut.pieces cut.cut
    ∙ is.old in
    rw (old, take_all 16 f.salt is.short) refl
