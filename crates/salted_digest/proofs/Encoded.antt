-- The bytes that a text in Base64 writes: of a salt, and of a digest.
use Rattle.std.proofs.Common.{◌≡◌, ℕ, zero, suc, ◌%◌, ◌-◌, ◌≤◌, Bool, true, false, List, [], ◌∷◌, length, map}
use Rattle.std.proofs.Common.{refl, sym, ap, ◌∙◌, arith, Ok}
use Rattle.std.specs.Prelude.{◌==◌, nat_le, replicate, Option, Some, None, if◌then◌else◌}
use Rattle.std.specs.List.{list_all}
use Rattle.std.proofs.lemmas.Bool.Decides.{nat_tests}
use Rattle.std.proofs.lemmas.Option.{none-some, same_Some}
use Rattle.base64ct.specs.Alphabets.{base64}
use Rattle.base64ct.specs.Decoding.{decoding}
use Rattle.base64ct.specs.Encoding.{EachBelow, character, decoded_len, encoding, groups}
use Rattle.base64ct.proofs.DecodingLaws.{decoding-Some, decoding-encoding}
use Rattle.base64ct.proofs.Encodings.{groups-below}
use Rattle.base64ct.proofs.Padding.{length-encoding}
use Rattle.base64ct.proofs.Sizes.{decoded_len-encoding}
use Rattle.pieces.specs.Pieces.{LacksByte}
use Rattle.pieces.proofs.ByteTests.{all_append, is_not, lacks, passes_at}
use Rattle.pieces.proofs.FaultLaws.{err_ok, where_so}
use Rattle.salted_digest.specs.Check.{IsSalt}
use Rattle.salted_digest.specs.Text.{as_digest, characters_of, digest_of, or_fault, salt_of, sized_bytes}
use Rattle.salted_digest.specs.declared.error.SaltedFault.{SaltedFault}
use Rattle.salted_digest.specs.declared.error.SaltedFault.TheVariants.{SaltLength, SaltEncoding, HashLength, HashEncoding}

-- ---- where no digest is written

-- a text writes as many bytes as its length tells
room_of : (size : ℕ) (t b : List ℕ) → decoding base64 t ≡ Some b → length b ≡ size → decoded_len base64 t ≤ size
room_of size t b h long =
    let parts = decoding-Some base64 t b h in
    let whole = ap (decoded_len base64) parts.1 ∙ decoded_len-encoding base64 b refl parts.0 in
    omega (arith, whole, long)

by_length : (size : ℕ) (b : List ℕ) (t : Bool) → (length b == size) ≡ t → (length b ≡ size → ⊥)
    → (if t then Some b else None) ≡ None
by_length size b false is other = refl
by_length size b true is other = absurd (other (grind (arith, nat_tests, is)))

no_digest : (size : ℕ) (t : List ℕ) (o : Option (List ℕ)) → decoding base64 t ≡ o
    → (decoded_len base64 t ≤ size → o ≡ None) → as_digest size o ≡ None
no_digest size t None is none = refl
no_digest size t (Some b) is none =
    by_length size b (length b == size) refl (λ long. none-some b (sym (none (room_of size t b is long))))

-- so many bytes aren't written, where none are that a room of so many bytes has place for
pub no_sized_bytes : (size : ℕ) (t : List ℕ) → (decoded_len base64 t ≤ size → decoding base64 t ≡ None)
    → sized_bytes size t ≡ None
no_sized_bytes size t none = no_digest size t (decoding base64 t) refl none

-- ---- what is read was written

value_found : {A : Type 0} (fault : SaltedFault) (o : Option A) (a : A) → or_fault fault o ≡ Ok a → o ≡ Some a
value_found fault None a h = absurd (err_ok fault a h)
value_found fault (Some b) a h = cc

-- a text is that of a salt that a text may have
pub record WritesSalt (text salt : List ℕ) : Type 0 where
  pub valid : IsSalt salt
  pub is : text ≡ encoding base64 salt

pub salt_is : (text salt : List ℕ) → salt_of text ≡ Ok salt → WritesSalt text salt
salt_is text salt h =
    let both = where_so (nat_le (length text) 64) SaltLength (or_fault SaltEncoding (decoding base64 text)) salt h in
    let most : length text ≤ 64 = grind (arith, nat_tests, both.0) in
    let found = decoding-Some base64 text salt (value_found SaltEncoding (decoding base64 text) salt both.1) in
    let size = ap length found.1 ∙ length-encoding base64 salt found.0 in
    record { valid = record { short = omega (arith, most, size); bytes = found.0 }; is = found.1 }

kept_where : (t : Bool) (b digest : List ℕ) → (if t then Some b else None) ≡ Some digest → b ≡ digest
kept_where true b digest h = same_Some b digest h
kept_where false b digest h = absurd (none-some digest h)

digest_kept : (size : ℕ) (o : Option (List ℕ)) (digest : List ℕ) → as_digest size o ≡ Some digest → o ≡ Some digest
digest_kept size None digest h = h
digest_kept size (Some b) digest h = ap Some (kept_where (length b == size) b digest h)

pub digest_is : (size : ℕ) (text digest : List ℕ) → digest_of size text ≡ Ok digest → text ≡ encoding base64 digest
digest_is size text digest h =
    let both = where_so (length text == characters_of size) HashLength (or_fault HashEncoding (sized_bytes size text)) digest h in
    let found = digest_kept size (decoding base64 text) digest (value_found HashEncoding (sized_bytes size text) digest both.1) in
    (decoding-Some base64 text digest found).1

-- ---- what is written is read

pub salt_read : (salt : List ℕ) → IsSalt salt → salt_of (encoding base64 salt) ≡ Ok salt
salt_read salt valid =
    let size = length-encoding base64 salt valid.bytes in
    let short : length salt ≤ 48 = valid.short in
    let most : length (encoding base64 salt) ≤ 64 = omega (arith, size, short) in
    let fits : nat_le (length (encoding base64 salt)) 64 ≡ true = grind (arith, nat_tests, most) in
    rw (fits, decoding-encoding base64 salt refl valid.bytes) refl

pub digest_read : (size : ℕ) (digest : List ℕ) → length digest ≡ size → EachBelow 256 digest
    → digest_of size (encoding base64 digest) ≡ Ok digest
digest_read size digest long below =
    let count = length-encoding base64 digest below in
    let is : length (encoding base64 digest) ≡ characters_of size = omega (arith, count, long) in
    let test : (length (encoding base64 digest) == characters_of size) ≡ true = grind (arith, nat_tests, is) in
    let whole : (length digest == size) ≡ true = grind (arith, nat_tests, long) in
    rw (test, decoding-encoding base64 digest refl below, whole) refl

-- ---- no `$` in what is written

values_pass : (p : ℕ → Bool) (values : List ℕ) → list_all p base64.characters ≡ true → EachBelow 64 values
    → list_all p (map (character base64) values) ≡ true
values_pass p [] h below = refl
values_pass p (v ∷ values) h below =
    rw (passes_at p base64.characters v h (below 0)) (values_pass p values h (λ i. below (suc i)))

signs_pass : (p : ℕ → Bool) (n : ℕ) → p 61 ≡ true → list_all p (replicate n 61) ≡ true
signs_pass p zero h = refl
signs_pass p (suc n) h = rw h (signs_pass p n h)

pub written_lacks : (b : List ℕ) → EachBelow 256 b → LacksByte 36 (encoding base64 b)
unfolding encoding
written_lacks b below =
    let values : List ℕ = groups false b in
    let tail : ℕ = (4 - length values % 4) % 4 in
    lacks (is_not 36) 36 refl (encoding base64 b)
    (all_append (is_not 36) (map (character base64) values) (replicate tail 61)
    (values_pass (is_not 36) values refl (groups-below false b below)) (signs_pass (is_not 36) tail refl))
