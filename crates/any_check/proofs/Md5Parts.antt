-- A salt and a hash field of characters of crypt(5) are fields without a fault.
use Rattle.std.proofs.Common.{◌≡◌, ℕ, zero, suc, ◌+◌, ◌≤◌, ◌<◌, true, false, List, [], ◌∷◌, ◌++◌, length, take, drop}
use Rattle.std.proofs.Common.{slice_index, refl, sym, ap, subst, ◌∙◌, arith, None, Some}
use Rattle.std.specs.Prelude.{nat_lt}
use Rattle.std.specs.List.{list_all}
use Rattle.std.specs.Str.Pattern.{FindsTextPrefix}
use Rattle.std.proofs.lemmas.Bool.Decides.{nat_tests}
use Rattle.std.proofs.lemmas.List.{append-nil, length-drop, length-take-le, take_all}
use Rattle.mcf.specs.Grammar.{field_fault, is_field_byte, is_identifier, mcf}
use Rattle.mcf.proofs.Built.{mcf-parts_text}
use Rattle.pieces.specs.Characters.{is_crypt_character}
use Rattle.pieces.proofs.ByteTests.{all_weaker}
use Rattle.sha_crypt.specs.HashField.{is_hash_field}
use Rattle.md5_plain.specs.Verdict.{magic_of, md5_fields}
use Rattle.md5_plain.specs.declared.magic.Magic.{Magic}
use Rattle.scheme_list.specs.declared.schemes.Scheme.TheVariants.{Md5Crypt}
use Rattle.any_check.specs.Kinds.{asks, md5_by_magic, md5_fields_kind, md5_kind}
use Rattle.any_check.specs.Numbers.{no_costs}

of_field : (b : ℕ) → is_crypt_character b ≡ true → is_field_byte b ≡ true
of_field b h = grind (arith, nat_tests, h)

no_fault : (t : List ℕ) → 0 < length t → list_all is_crypt_character t ≡ true → field_fault t ≡ None
no_fault [] some h = absurd (omega (arith, some))
no_fault (c ∷ t) some h = rw (all_weaker is_crypt_character is_field_byte of_field (c ∷ t) h) refl

-- the kind of such a text
fields_valid : (salt hash : List ℕ) → length salt ≤ 8 → is_hash_field 16 hash ≡ true
    → md5_fields_kind (salt ∷ (hash ∷ [])) ≡ asks Md5Crypt no_costs
unfolding md5_fields
fields_valid salt hash short field =
    let fits : nat_lt 8 (length salt) ≡ false = grind (arith, nat_tests, short) in
    rw (fits, field) refl

plain : (id salt hash : List ℕ) (magic : Magic) → is_identifier id ≡ true → magic_of id ≡ Some magic → 0 < length salt
    → length salt ≤ 8 → 0 < length hash → list_all is_crypt_character salt ≡ true
    → list_all is_crypt_character hash ≡ true → is_hash_field 16 hash ≡ true
    → md5_kind (mcf (36 ∷ (id ++ 36 ∷ (salt ++ 36 ∷ hash)))) ≡ asks Md5Crypt no_costs
plain id salt hash magic name is some short more of_salt of_hash field =
    ap (λ (t : List ℕ). md5_kind (mcf (36 ∷ (id ++ 36 ∷ (salt ++ 36 ∷ t))))) (sym (append-nil hash))
    ∙ ap md5_kind (mcf-parts_text (record { id = id; fields = salt ∷ (hash ∷ []) }) name
    (rw (no_fault salt some of_salt, no_fault hash more of_hash) refl))
    ∙ ap (λ m. md5_by_magic m (salt ∷ (hash ∷ []))) is
    ∙ fields_valid salt hash short field

-- a text with a byte is what stands before it, the byte, and what stands behind it
parted : (t : List ℕ) (i c : ℕ) → i < length t → slice_index t i ≡ c → t ≡ take i t ++ c ∷ drop (suc i) t
parted [] i c below is = absurd (omega (arith, below))
parted (b ∷ t) zero c below is = rw is refl
parted (b ∷ t) (suc i) c below is = ap (λ l. b ∷ l) (parted t i c (omega (arith, below)) is)

-- 1 to 8 characters, `$` and a hash field
pub plain_rest : (rest : List ℕ) (cut m : ℕ) → length rest ≡ cut + 23 → 0 < cut → cut ≤ 8 → slice_index rest cut ≡ 36
    → list_all is_crypt_character (take cut rest) ≡ true → m ≡ 22
    → list_all is_crypt_character (take m (drop (cut + 1) rest)) ≡ true
    → is_hash_field 16 (take m (drop (cut + 1) rest)) ≡ true
    → (id : List ℕ) (magic : Magic) → is_identifier id ≡ true → magic_of id ≡ Some magic
    → md5_kind (mcf (36 ∷ (id ++ 36 ∷ rest))) ≡ asks Md5Crypt no_costs
plain_rest rest cut m long some short is of_salt whole of_hash field id magic name of_magic =
    let len : length (take cut rest) ≡ cut = length-take-le cut rest (omega (arith, long)) in
    let more = length-drop (cut + 1) rest in
    let all : take m (drop (cut + 1) rest) ≡ drop (cut + 1) rest =
    take_all m (drop (cut + 1) rest) (omega (arith, more, long, whole)) in
    let next : suc cut ≡ cut + 1 = omega arith in
    let parts = parted rest cut 36 (omega (arith, long)) is ∙ ap (λ n. take cut rest ++ 36 ∷ drop n rest) next in
    ap (λ (t : List ℕ). md5_kind (mcf (36 ∷ (id ++ 36 ∷ t)))) parts
    ∙ plain id (take cut rest) (drop (cut + 1) rest) magic name of_magic (omega (arith, len, some))
    (omega (arith, len, short)) (omega (arith, more, long))
    of_salt (subst (λ (t : List ℕ). list_all is_crypt_character t ≡ true) all of_hash)
    (subst (λ (t : List ℕ). is_hash_field 16 t ≡ true) all field)

-- a text with this prefix is the prefix and the rest
pub of_prefix : (front text rest : List ℕ) (n : ℕ) → FindsTextPrefix front text (Some n) → rest ≡ drop n text
    → text ≡ front ++ rest
of_prefix front text rest n found is = found.1 ∙ ap (λ l. front ++ l) (sym is)
