-- The bytes that a text in Base64 writes: of a salt, and of a key.
use Rattle.std.proofs.Common.{◌≡◌, ℕ, zero, suc, ◌%◌, ◌-◌, ◌≤◌, Bool, true, false, List, [], ◌∷◌, length, map}
use Rattle.std.proofs.Common.{refl, sym, ap, ◌∙◌, arith, Ok}
use Rattle.std.specs.Prelude.{◌==◌, ◌&&◌, nat_le, replicate, Option, Some, None, if◌then◌else◌}
use Rattle.std.specs.List.{list_all}
use Rattle.std.proofs.lemmas.Bool.{and_parts}
use Rattle.std.proofs.lemmas.Bool.Decides.{nat_tests}
use Rattle.std.proofs.lemmas.Option.{none-some, same_Some}
use Rattle.base64ct.specs.Alphabets.{base64}
use Rattle.base64ct.specs.Decoding.{decoding}
use Rattle.base64ct.specs.Encoding.{EachBelow, character, decoded_len, encoding, groups}
use Rattle.base64ct.proofs.DecodingLaws.{decoding-Some, decoding_is}
use Rattle.base64ct.proofs.Encodings.{groups-below}
use Rattle.base64ct.proofs.Padding.{length-encoding}
use Rattle.base64ct.proofs.Sizes.{decoded_len-encoding}
use Rattle.pieces.specs.Pieces.{LacksByte}
use Rattle.pieces.proofs.ByteTests.{all_append, is_not, lacks, passes_at}
use Rattle.pieces.proofs.FaultLaws.{err_ok, where_so}
use Rattle.scram_plain.specs.Text.{as_key, key_bytes, key_of, or_fault, salt_of}
use Rattle.scram_plain.specs.declared.error.ScramFault.{ScramFault}
use Rattle.scram_plain.specs.declared.error.ScramFault.TheVariants.{SaltLength, SaltEncoding}

-- a text writes as many bytes as its length tells
length_decoded : (t b : List ℕ) → decoding base64 t ≡ Some b → decoded_len base64 t ≡ length b
length_decoded t b h =
    let parts = decoding-Some base64 t b h in
    ap (decoded_len base64) parts.1 ∙ decoded_len-encoding base64 b refl parts.0

-- ---- where no key is written

by_length : (b : List ℕ) (t : Bool) → (length b == 32) ≡ t → (length b ≡ 32 → ⊥) → (if t then Some b else None) ≡ None
by_length b false is other = refl
by_length b true is other = absurd (other (grind (arith, nat_tests, is)))

no_key : (t : List ℕ) (o : Option (List ℕ)) → decoding base64 t ≡ o → (decoded_len base64 t ≤ 32 → o ≡ None)
    → as_key o ≡ None
no_key t None is none = refl
no_key t (Some b) is none =
    by_length b (length b == 32) refl
    (λ long. none-some b (sym (none (omega (arith, long, length_decoded t b is)))))

-- no 32 bytes are written, where none are that a room of 32 bytes has place for
pub no_key_bytes : (t : List ℕ) → (decoded_len base64 t ≤ 32 → decoding base64 t ≡ None) → key_bytes t ≡ None
no_key_bytes t none = no_key t (decoding base64 t) refl none

-- ---- what is read was written

value_found : {A : Type 0} (fault : ScramFault) (o : Option A) (a : A) → or_fault fault o ≡ Ok a → o ≡ Some a
value_found fault None a h = absurd (err_ok fault a h)
value_found fault (Some b) a h = cc

-- a text is that of a salt that a text may have
pub record IsSalt (text salt : List ℕ) : Type 0 where
  pub some : 1 ≤ length salt
  pub short : length salt ≤ 48
  pub bytes : EachBelow 256 salt
  pub is : text ≡ encoding base64 salt

pub salt_is : (text salt : List ℕ) → salt_of text ≡ Ok salt → IsSalt text salt
salt_is text salt h =
    let both = where_so (nat_le 1 (length text) && nat_le (length text) 64) SaltLength
    (or_fault SaltEncoding (decoding base64 text)) salt h in
    let tests = and_parts (nat_le 1 (length text)) (nat_le (length text) 64) both.0 in
    let least : 1 ≤ length text = grind (arith, nat_tests, tests.0) in
    let most : length text ≤ 64 = grind (arith, nat_tests, tests.1) in
    let found = decoding-Some base64 text salt (value_found SaltEncoding (decoding base64 text) salt both.1) in
    let size = ap length found.1 ∙ length-encoding base64 salt found.0 in
    record {
      some = omega (arith, least, size);
      short = omega (arith, most, size);
      bytes = found.0;
      is = found.1;
    }

kept : (t : Bool) (b key : List ℕ) → (if t then Some b else None) ≡ Some key → b ≡ key
kept true b key h = same_Some b key h
kept false b key h = absurd (none-some key h)

key_kept : (o : Option (List ℕ)) (key : List ℕ) → as_key o ≡ Some key → o ≡ Some key
key_kept None key h = h
key_kept (Some b) key h = ap Some (kept (length b == 32) b key h)

pub key_is : (wrong_length wrong_encoding : ScramFault) (text key : List ℕ) → key_of wrong_length wrong_encoding text ≡ Ok key
    → text ≡ encoding base64 key
key_is wrong_length wrong_encoding text key h =
    let both = where_so (length text == 44) wrong_length (or_fault wrong_encoding (key_bytes text)) key h in
    let found = key_kept (decoding base64 text) key (value_found wrong_encoding (key_bytes text) key both.1) in
    (decoding-Some base64 text key found).1

-- ---- what is written is read

read : (b : List ℕ) → EachBelow 256 b → decoding base64 (encoding base64 b) ≡ Some b
read b below = decoding_is base64 (encoding base64 b) b refl below refl

pub salt_read : (salt : List ℕ) → 1 ≤ length salt → length salt ≤ 48 → EachBelow 256 salt
    → salt_of (encoding base64 salt) ≡ Ok salt
salt_read salt some short below =
    let size = length-encoding base64 salt below in
    let least : 1 ≤ length (encoding base64 salt) = omega (arith, size, some) in
    let most : length (encoding base64 salt) ≤ 64 = omega (arith, size, short) in
    let one : nat_le 1 (length (encoding base64 salt)) ≡ true = grind (arith, nat_tests, least) in
    let fits : nat_le (length (encoding base64 salt)) 64 ≡ true = grind (arith, nat_tests, most) in
    rw (one, fits, read salt below) refl

pub key_read : (wrong_length wrong_encoding : ScramFault) (key : List ℕ) → length key ≡ 32 → EachBelow 256 key
    → key_of wrong_length wrong_encoding (encoding base64 key) ≡ Ok key
key_read wrong_length wrong_encoding key long below =
    let size = length-encoding base64 key below in
    let is : length (encoding base64 key) ≡ 44 = omega (arith, size, long) in
    let test : (length (encoding base64 key) == 44) ≡ true = grind (arith, nat_tests, is) in
    let whole : (length key == 32) ≡ true = grind (arith, nat_tests, long) in
    rw (test, read key below, whole) refl

-- ---- no `$` in what is written

characters_pass : (values : List ℕ) → EachBelow 64 values → list_all (is_not 36) (map (character base64) values) ≡ true
characters_pass [] below = refl
characters_pass (v ∷ values) below =
    rw (passes_at (is_not 36) base64.characters v refl (below 0)) (characters_pass values (λ i. below (suc i)))

padding_passes : (n : ℕ) → list_all (is_not 36) (replicate n 61) ≡ true
padding_passes zero = refl
padding_passes (suc n) = padding_passes n

pub encoding_lacks : (b : List ℕ) → EachBelow 256 b → LacksByte 36 (encoding base64 b)
unfolding encoding
encoding_lacks b below =
    let values : List ℕ = groups false b in
    let tail : ℕ = (4 - length values % 4) % 4 in
    lacks (is_not 36) 36 refl (encoding base64 b)
    (all_append (is_not 36) (map (character base64) values) (replicate tail 61)
    (characters_pass values (groups-below false b below)) (padding_passes tail))
