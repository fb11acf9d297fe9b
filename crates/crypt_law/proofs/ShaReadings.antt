-- The fields of a text of SHA-crypt, read as a setting.
use Rattle.std.proofs.Common.{◌≡◌, ℕ, ◌≤◌, Bool, true, false, List, [], ◌∷◌, ◌++◌, length, take, drop}
use Rattle.std.proofs.Common.{refl, sym, ap, subst, ◌∙◌, arith, Ok}
use Rattle.std.specs.Prelude.{⊤, ◌&&◌, nat_eq, Option, Some, None, if◌then◌else◌, codes}
use Rattle.std.specs.Fmt.{decimal}
use Rattle.std.specs.List.{join_with_byte, list_all, starts_with}
use Rattle.std.proofs.lemmas.Bool.{and_parts, true≢false}
use Rattle.std.proofs.lemmas.Bool.Decides.{nat_tests}
use Rattle.std.proofs.lemmas.List.{take_all}
use Rattle.pieces.specs.Pieces.{EachLacks, LacksByte, behind, pieces_at}
use Rattle.pieces.proofs.ByteTests.{is_not}
use Rattle.pieces.proofs.Cuts.{join_pieces, pieces_lack}
use Rattle.sha_crypt.specs.Families.{Scheme, scheme_fields}
use Rattle.sha_crypt.specs.Fields.{ShaFields, old_number}
use Rattle.sha_crypt.specs.Records.{field_pieces, rounds_pieces}
use Rattle.sha_crypt.proofs.Decimals.{decimal_lacks, plain_number-decimal}
use Rattle.sha_crypt.proofs.Shapes.{Stands}
use Rattle.sha_crypt.proofs.Spellings.{old_form, today}
use Rattle.crypt_text.specs.Settings.{ShaSetting, are_rounds, before_dollar, sha_by_rounds, sha_setting}
use Rattle.crypt_law.proofs.Cuts.{after_cut, before_cut, has_cut}

-- ---- a front without `$`

cut_first : (n : ℕ) (rest : Bool) → is_not 36 n ≡ true → (nat_eq n 36 && rest) ≡ false
cut_first n rest h = by_test (nat_eq n 36) refl
  where
    by_test : (t : Bool) → nat_eq n 36 ≡ t → (nat_eq n 36 && rest) ≡ false
    by_test true e = absurd (let same : n ≡ 36 = grind (arith, nat_tests, e) in grind (arith, nat_tests, same, h))
    by_test false e = rw e refl

step : (t a b : Bool) → (t && a) ≡ false → (a ≡ false → b ≡ false) → (t && b) ≡ false
step true a b h more = more h
step false a b h more = refl

-- what a text does not begin with, it does not begin with before a `$` either
longer_text : (front text more : List ℕ) → list_all (is_not 36) front ≡ true → starts_with nat_eq text front ≡ false
    → starts_with nat_eq (text ++ 36 ∷ more) front ≡ false
longer_text [] text more all h = absurd (true≢false h)
longer_text (n ∷ front) [] more all h =
    cut_first n (starts_with nat_eq more front) (and_parts (is_not 36 n) (list_all (is_not 36) front) all).0
longer_text (n ∷ front) (b ∷ text) more all h =
    step (nat_eq n b) (starts_with nat_eq text front) (starts_with nat_eq (text ++ 36 ∷ more) front) h
    (longer_text front text more (and_parts (is_not 36 n) (list_all (is_not 36) front) all).1)

not_there : (t : Bool) (rest : List ℕ) → (if t then Some rest else None) ≡ None → t ≡ false
not_there true rest h = absurd cc
not_there false rest h = refl

still_none : (salt more : List ℕ) → behind salt (codes "rounds=") ≡ None
    → behind (salt ++ 36 ∷ more) (codes "rounds=") ≡ None
still_none salt more h =
    let none = not_there (starts_with nat_eq salt (codes "rounds=")) (drop 7 salt) h in
    let longer = longer_text (codes "rounds=") salt more refl none in
    rw longer refl

-- ---- the fields

abbrev setting : ℕ → Bool → List ℕ → ShaSetting
setting n w salt = record { rounds = n; written = w; salt = salt }

in_range : (n : ℕ) → 1000 ≤ n → n ≤ 999999999 → are_rounds n ≡ true
in_range n least most = grind (arith, nat_tests, least, most)

salt_read : (salt hash : List ℕ) → LacksByte 36 salt → length salt ≤ 16 → take 16 (before_dollar (salt ++ 36 ∷ hash)) ≡ salt
salt_read salt hash lacks short = rw (before_cut salt hash lacks) (take_all 16 salt short)

named_read : (n : ℕ) (salt hash rest : List ℕ) → LacksByte 36 salt → length salt ≤ 16 → 1000 ≤ n → n ≤ 999999999
    → sha_by_rounds (Some (decimal n ++ 36 ∷ (salt ++ 36 ∷ hash))) rest ≡ Some (setting n true salt)
named_read n salt hash rest lacks short least most =
    let digits : LacksByte 36 (decimal n) = decimal_lacks n (omega (arith, most)) in
    let more : List ℕ = salt ++ 36 ∷ hash in
    rw (
      has_cut (decimal n) more,
      before_cut (decimal n) more digits,
      after_cut (decimal n) more digits,
      plain_number-decimal n (omega (arith, least)) (omega (arith, most)),
      in_range n least most,
    ) (ap (λ (s : List ℕ). Some (setting n true s)) (salt_read salt hash lacks short))

-- where the rounds are not written, the salt does not name them
abbrev pub Unnamed : Bool → ℕ → List ℕ → Type 0
Unnamed true n salt = ⊤
Unnamed false n salt = (behind salt (codes "rounds=") ≡ None) × (n ≡ 5000)

read_by : (w : Bool) (n : ℕ) (salt hash rest : List ℕ) → EachLacks 36 (rounds_pieces w n ++ salt ∷ (hash ∷ []))
    → rest ≡ join_with_byte 36 (rounds_pieces w n ++ salt ∷ (hash ∷ [])) → length salt ≤ 16 → 1000 ≤ n → n ≤ 999999999
    → Unnamed w n salt → sha_setting rest ≡ Some (setting n w salt)
unfolding sha_setting
read_by true n salt hash rest lacks is short least most unnamed =
    rw is (named_read n salt hash (join_with_byte 36 (rounds_pieces true n ++ salt ∷ (hash ∷ []))) lacks.1.0 short least most)
read_by false n salt hash rest lacks is short least most unnamed =
    rw (is, still_none salt hash unnamed.0, unnamed.1)
    (ap (λ (s : List ℕ). Some (setting 5000 false s)) (salt_read salt hash lacks.0 short))

unnamed_by : (number : List ℕ → Option ℕ) (pieces : List (List ℕ)) (f : ShaFields) (w : Bool) → Stands number pieces f w
    → Unnamed w f.rounds f.salt
unnamed_by number pieces f true h = tt
unnamed_by number pieces f false h = (h.1, h.2)

-- the setting that the fields are
abbrev pub setting_of : ShaFields → ShaSetting
setting_of f = record { rounds = f.rounds; written = f.written; salt = f.salt }

pub sha_read : (s : Scheme) (rest : List ℕ) (f : ShaFields) → scheme_fields s (pieces_at 36 rest) ≡ Ok f
    → sha_setting rest ≡ Some (setting_of f)
sha_read s rest f h =
    let t = today s (pieces_at 36 rest) f h in
    let form = old_form s (pieces_at 36 rest) f t.old in
    let lacks : EachLacks 36 (field_pieces f) = subst (EachLacks 36) t.are (pieces_lack 36 rest) in
    let joined : rest ≡ join_with_byte 36 (field_pieces f) = sym (join_pieces 36 rest) ∙ ap (join_with_byte 36) t.are in
    read_by f.written f.rounds f.salt f.hash rest lacks joined t.short form.least form.most
    (unnamed_by old_number (pieces_at 36 rest) f f.written form.stands)
