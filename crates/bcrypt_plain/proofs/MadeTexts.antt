-- The text that is made of a password is read back, and matches it.
use Rattle.std.proofs.Common.{◌≡◌, ℕ, zero, suc, ◌+◌, ◌*◌, ◌/◌, ◌≤◌, Bool, true, false, List, [], ◌∷◌, ◌++◌}
use Rattle.std.proofs.Common.{length, map, take, drop, refl, sym, ap, ◌∙◌, arith, length-append, Ok}
use Rattle.std.specs.Prelude.{◌==◌, codes, not, Some}
use Rattle.std.specs.Int.{w32, to_be_bytes}
use Rattle.std.specs.List.{list_all}
use Rattle.std.proofs.lemmas.Bool.Decides.{nat_tests}
use Rattle.std.proofs.lemmas.List.{drop_at, take_at}
use Rattle.base64ct.specs.Alphabets.{base64_bcrypt}
use Rattle.base64ct.specs.Encoding.{EachBelow, character, encoding, groups}
use Rattle.base64ct.proofs.DecodingLaws.{decoding-encoding, true_same}
use Rattle.base64ct.proofs.Encodings.{below-take, groups-below}
use Rattle.base64ct.proofs.GoodBlocks.{below-append}
use Rattle.pieces.specs.Pieces.{LacksByte, pieces_at}
use Rattle.pieces.proofs.ByteTests.{all_append, is_not, lacks, passes_at}
use Rattle.pieces.proofs.Cuts.{cut_joined, lacks_none}
use Rattle.pieces.proofs.NumberBytes.{high_first}
use Rattle.bcrypt_plain.specs.declared.blowfish.Block.{Block}
use Rattle.bcrypt_plain.specs.Bcrypt.{bcrypt, block_bytes, ctext, encrypted, magic_block}
use Rattle.bcrypt_plain.specs.Check.{bcrypt_answer, has_zero}
use Rattle.bcrypt_plain.specs.Field.{bcrypt_field, field_bytes}
use Rattle.bcrypt_plain.specs.Made.{bcrypt_text, text_of, two_digits}
use Rattle.bcrypt_plain.specs.Schedule.{eks_blowfish_setup, key_of}
use Rattle.bcrypt_plain.specs.Text.{Fields, Parts, by_rest, cost_of, is_cost, is_two_digits, text_fields, text_parts}
use Rattle.bcrypt_plain.specs.Text.{two_digit_number, version_of}
use Rattle.bcrypt_plain.specs.declared.version.Version.TheVariants.{Current}
use Rattle.bcrypt_plain.proofs.Fields.{encoding_len}

-- ---- the bytes of a hash

block_below : (b : Block) → EachBelow 256 (block_bytes b)
block_below b = below-append (to_be_bytes w32 b.left) (to_be_bytes w32 b.right) (high_first 4 b.left) (high_first 4 b.right)

three_below : (a b c : Block) → EachBelow 256 (block_bytes a ++ block_bytes b ++ block_bytes c)
three_below a b c =
    below-append (block_bytes a) (block_bytes b ++ block_bytes c) (block_below a)
    (below-append (block_bytes b) (block_bytes c) (block_below b) (block_below c))

three_long : (a b c : Block) → length (take 23 (block_bytes a ++ block_bytes b ++ block_bytes c)) ≡ 23
three_long a b c = refl

abbrev last_block : List ℕ → ℕ → Block
last_block x i = encrypted x (magic_block i) 64

ctext_below : (x : List ℕ) → EachBelow 256 (ctext x)
ctext_below x = three_below (last_block x 0) (last_block x 1) (last_block x 2)

ctext_long : (x : List ℕ) → length (take 23 (ctext x)) ≡ 23
ctext_long x = three_long (last_block x 0) (last_block x 1) (last_block x 2)

pub hash_below : (password salt : List ℕ) (cost : ℕ) → EachBelow 256 (bcrypt password salt cost)
unfolding bcrypt
hash_below password salt cost =
    let x : List ℕ = eks_blowfish_setup cost salt (key_of password) in
    below-take 256 23 (ctext x) (omega arith) (ctext_below x)

pub hash_long : (password salt : List ℕ) (cost : ℕ) → length (bcrypt password salt cost) ≡ 23
unfolding bcrypt
hash_long password salt cost = ctext_long (eks_blowfish_setup cost salt (key_of password))

-- ---- the characters of a field

values_pass : (p : ℕ → Bool) (values : List ℕ) → list_all p base64_bcrypt.characters ≡ true → EachBelow 64 values
    → list_all p (map (character base64_bcrypt) values) ≡ true
values_pass p [] h below = refl
values_pass p (v ∷ values) h below =
    rw (passes_at p base64_bcrypt.characters v h (below 0)) (values_pass p values h (λ i. below (suc i)))

pub field_passes : (p : ℕ → Bool) (bytes : List ℕ) → list_all p base64_bcrypt.characters ≡ true → EachBelow 256 bytes
    → list_all p (bcrypt_field bytes) ≡ true
unfolding encoding
field_passes p bytes h below =
    all_append p (map (character base64_bcrypt) (groups false bytes)) []
    (values_pass p (groups false bytes) h (groups-below false bytes below)) refl

field_lacks : (bytes : List ℕ) → EachBelow 256 bytes → LacksByte 36 (bcrypt_field bytes)
field_lacks bytes below = lacks (is_not 36) 36 refl (bcrypt_field bytes) (field_passes (is_not 36) bytes refl below)

-- ---- the cost

digits_lack : (n : ℕ) → n ≤ 99 → LacksByte 36 (two_digits n)
digits_lack n small zero below = λ same. omega (arith, same)
digits_lack n small (suc zero) below = λ same. omega (arith, same)
digits_lack n small (suc (suc i)) below = absurd (omega (arith, below))

pub cost_read : (n : ℕ) → 4 ≤ n → n ≤ 31 → cost_of (two_digits n) ≡ Some n
cost_read n least most =
    let number : two_digit_number (two_digits n) ≡ n = omega (arith, most) in
    let digits : is_two_digits (two_digits n) ≡ true = grind (arith, nat_tests, most) in
    let good : is_cost n ≡ true = grind (arith, nat_tests, least, most) in
    rw (digits, number, good) refl

-- ---- the rest

field_read : (m n : ℕ) (bytes : List ℕ) → length bytes ≡ n → m ≡ (4 * n + 2) / 3 → EachBelow 256 bytes
    → field_bytes m (bcrypt_field bytes) ≡ Some bytes
field_read m n bytes len room below =
    let size : length (bcrypt_field bytes) ≡ m =
    encoding_len bytes below ∙ ap (λ (k : ℕ). (4 * k + 2) / 3) len ∙ sym room in
    let test : (length (bcrypt_field bytes) == m) ≡ true = grind (arith, nat_tests, size) in
    rw test (decoding-encoding base64_bcrypt bytes refl below)

abbrev pub parts : ℕ → List ℕ → List ℕ → Parts
parts cost salt hash = record { cost = cost; salt = salt; hash = hash }

rest_read : (cost : ℕ) (salt hash : List ℕ) → length salt ≡ 16 → EachBelow 256 salt → length hash ≡ 23
    → EachBelow 256 hash → by_rest cost (bcrypt_field salt ++ bcrypt_field hash) ≡ Ok (parts cost salt hash)
rest_read cost salt hash salt_len salt_below hash_len hash_below =
    let first : length (bcrypt_field salt) ≡ 22 =
    encoding_len salt salt_below ∙ ap (λ (k : ℕ). (4 * k + 2) / 3) salt_len in
    let second : length (bcrypt_field hash) ≡ 31 =
    encoding_len hash hash_below ∙ ap (λ (k : ℕ). (4 * k + 2) / 3) hash_len in
    let all : length (bcrypt_field salt ++ bcrypt_field hash) ≡ 53 =
    length-append (bcrypt_field salt) (bcrypt_field hash) ∙ omega (arith, first, second) in
    let test : (length (bcrypt_field salt ++ bcrypt_field hash) == 53) ≡ true = grind (arith, nat_tests, all) in
    let salt_is : field_bytes 22 (take 22 (bcrypt_field salt ++ bcrypt_field hash)) ≡ Some salt =
    ap (field_bytes 22) (take_at (bcrypt_field salt) (bcrypt_field hash) 22 first)
    ∙ field_read 22 16 salt salt_len refl salt_below in
    let hash_is : field_bytes 31 (drop 22 (bcrypt_field salt ++ bcrypt_field hash)) ≡ Some hash =
    ap (field_bytes 31) (drop_at (bcrypt_field salt) (bcrypt_field hash) 22 first)
    ∙ field_read 31 23 hash hash_len refl hash_below in
    rw (test, salt_is, hash_is) refl

-- ---- the whole text

abbrev pub fields : List ℕ → List ℕ → Fields
fields cost rest = record { cost = cost; rest = rest }

pub new_lacks : LacksByte 36 (codes "2b")
new_lacks = lacks (is_not 36) 36 refl (codes "2b") refl

rest_lacks : (salt hash : List ℕ) → EachBelow 256 salt → EachBelow 256 hash
    → LacksByte 36 (bcrypt_field salt ++ bcrypt_field hash)
rest_lacks salt hash salt_below hash_below =
    lacks (is_not 36) 36 refl (bcrypt_field salt ++ bcrypt_field hash)
    (all_append (is_not 36) (bcrypt_field salt) (bcrypt_field hash) (field_passes (is_not 36) salt refl salt_below)
    (field_passes (is_not 36) hash refl hash_below))

fields_read : (id : List ℕ) (cost : ℕ) (rest : List ℕ) → LacksByte 36 id → version_of id ≡ Some Current → cost ≤ 99
    → LacksByte 36 rest
    → text_fields (36 ∷ (id ++ 36 ∷ (two_digits cost ++ 36 ∷ rest))) ≡ Ok (fields (two_digits cost) rest)
unfolding text_fields
fields_read id cost rest id_lacks current small rest_lacks =
    let cut : pieces_at 36 (36 ∷ (id ++ 36 ∷ (two_digits cost ++ 36 ∷ rest)))
    ≡ [] ∷ (id ∷ (two_digits cost ∷ (rest ∷ []))) =
    cut_joined 36 [] (id ∷ (two_digits cost ∷ (rest ∷ []))) (lacks_none 36)
    (id_lacks, (digits_lack cost small, (rest_lacks, tt))) in
    rw (cut, current) refl

-- a text is read as what it was printed from
pub text_read : (id : List ℕ) (cost : ℕ) (salt hash : List ℕ) → LacksByte 36 id → version_of id ≡ Some Current
    → 4 ≤ cost → cost ≤ 31 → length salt ≡ 16 → EachBelow 256 salt → length hash ≡ 23 → EachBelow 256 hash
    → text_parts (text_of id cost salt hash) ≡ Ok (parts cost salt hash)
unfolding text_parts
text_read id cost salt hash id_lacks current least most salt_len salt_below hash_len hash_small =
    let read = fields_read id cost (bcrypt_field salt ++ bcrypt_field hash) id_lacks current (omega (arith, most))
    (rest_lacks salt hash salt_below hash_small) in
    let of_cost = cost_read cost least most in
    let of_rest = rest_read cost salt hash salt_len salt_below hash_len hash_small in
    rw (read, of_cost, of_rest) refl

pub text_matches : (id password salt : List ℕ) (cost : ℕ) → LacksByte 36 id → version_of id ≡ Some Current
    → length salt ≡ 16 → EachBelow 256 salt → 4 ≤ cost → cost ≤ 31 → has_zero password ≡ false
    → bcrypt_answer password (text_of id cost salt (bcrypt password salt cost)) ≡ Ok tt
unfolding bcrypt_answer
text_matches id password salt cost id_lacks current salt_len salt_below least most none =
    let read = text_read id cost salt (bcrypt password salt cost) id_lacks current least most salt_len salt_below
    (hash_long password salt cost) (hash_below password salt cost) in
    rw (read, none, true_same (bcrypt password salt cost)) refl

pub made_matches : (password salt : List ℕ) (cost : ℕ) → length salt ≡ 16 → EachBelow 256 salt → 4 ≤ cost → cost ≤ 31
    → has_zero password ≡ false → bcrypt_answer password (bcrypt_text password salt cost) ≡ Ok tt
made_matches password salt cost salt_len salt_below least most none =
    text_matches (codes "2b") password salt cost new_lacks refl salt_len salt_below least most none
