-- Lengths of texts that are encodings of salts and outputs, and how their faults stand with them.
use Rattle.std.proofs.Common.{◌≡◌, ℕ, ◌+◌, ◌*◌, ◌/◌, ◌≤◌, ◌<◌, ◌⊎◌, true, false, List, length, refl, sym, ◌∙◌}
use Rattle.std.proofs.Common.{arith, inl, inr}
use Rattle.std.specs.Prelude.{Option, Some, None, is_some, nat_le, nat_lt, ◌==◌}
use Rattle.std.specs.Str.{IsUtf8}
use Rattle.std.proofs.lemmas.Bool.Decides.{nat_tests}
use Rattle.std.proofs.lemmas.Str.{IsUtf8-from_ascii}
use Rattle.std.proofs.lemmas.Option.{same_Some}
use Rattle.base64ct.specs.Alphabets.{base64_unpadded}
use Rattle.base64ct.specs.Counts.{comparison_count}
use Rattle.base64ct.specs.Encoding.{EachBelow, byte_count, decoded_len, longest_input}
use Rattle.base64ct.proofs.Ascii.{encoding_ascii}
use Rattle.base64ct.proofs.DecodingLaws.{decoding-Some, decoding-encoding, length-decodable, length-decoding}
use Rattle.base64ct.proofs.DecodingLaws.{decoded_len-unpadded}
use Rattle.phc.proofs.FieldFaults.{good_salt}
use Rattle.phc.specs.Encoded.{decoding, encoding}
use Rattle.phc.specs.Grammar.{salt_fault}

-- a text of at most k characters stands for at most as many bytes
pub room_enough : (k n : ℕ) (t : List ℕ) → length t ≤ k → byte_count k ≤ n → decoded_len base64_unpadded t ≤ n
room_enough k n t short fits = omega (arith, decoded_len-unpadded base64_unpadded t refl, short, fits)

pub decoded_length : (t b : List ℕ) → decoding t ≡ Some b → length b ≡ byte_count (length t)
decoded_length t b is = length-decoding base64_unpadded t b refl is ∙ decoded_len-unpadded base64_unpadded t refl

pub encoded_length : (b : List ℕ) → EachBelow 256 b → length (encoding b) ≡ (4 * length b + 2) / 3
encoded_length b small =
    length-decodable base64_unpadded (encoding b) b refl (decoding-encoding base64_unpadded b refl small)

-- a text that has room is compared once
pub compared : (t : List ℕ) (n : ℕ) → 0 < length t → decoded_len base64_unpadded t ≤ n
    → comparison_count base64_unpadded t n ≡ 4
compared t n some room =
    let fits : nat_lt n (decoded_len base64_unpadded t) ≡ false = grind (arith, nat_tests, room) in
    let nonempty : (length t == 0) ≡ false = grind (arith, nat_tests, some) in
    rw (fits, nonempty) refl

-- ---- texts of salts

found : (r : Option (List ℕ)) → is_some r ≡ true → (b : List ℕ) × (r ≡ Some b)
found (Some b) h = (b, refl)
found None h = cc

-- what the text of a salt stands for
pub record SaltBytes (t : List ℕ) : Type 0 where
  pub bytes : List ℕ
  pub decoded : decoding t ≡ Some bytes
  pub small : EachBelow 256 bytes
  pub text : t ≡ encoding bytes
  pub least : 8 ≤ length bytes
  pub most : length bytes ≤ 48

pub salt_bytes : (t : List ℕ) → salt_fault t ≡ None → SaltBytes t
salt_bytes t h =
    let good = good_salt t h in
    let is = found (decoding t) good.decodes in
    let parts = decoding-Some base64_unpadded t is.0 is.1 in
    let size = decoded_length t is.0 is.1 in
    record {
      bytes = is.0;
      decoded = is.1;
      small = parts.0;
      text = parts.1;
      least = omega (arith, size, good.least);
      most = omega (arith, size, good.most);
    }

-- the encoding of 8 to 48 bytes is the text of a salt
pub salt_text : (b : List ℕ) → EachBelow 256 b → 8 ≤ length b → length b ≤ 48 → salt_fault (encoding b) ≡ None
salt_text b small least most =
    let size = encoded_length b small in
    let long : nat_le 11 (length (encoding b)) ≡ true = grind (arith, nat_tests, size, least) in
    let short : nat_le (length (encoding b)) 64 ≡ true = grind (arith, nat_tests, size, most) in
    rw (long, short, decoding-encoding base64_unpadded b refl small) refl

pub salt_utf8 : (t : List ℕ) → salt_fault t ≡ None → IsUtf8 t
salt_utf8 t h = let salt = salt_bytes t h in
    rw salt.text (IsUtf8-from_ascii _ (encoding_ascii base64_unpadded salt.bytes refl))

-- the bytes of the text of a salt are those of a salt
pub salt_of_text : (t b : List ℕ) → salt_fault t ≡ None → decoding t ≡ Some b
    → (8 ≤ length b) × (length b ≤ 48) × (t ≡ encoding b)
salt_of_text t b h is =
    let salt = salt_bytes t h in
    let same : salt.bytes ≡ b = same_Some salt.bytes b (sym salt.decoded ∙ is) in
    (rw same at salt.least, rw same at salt.most, rw same at salt.text)

-- bytes with enough room are encoded
pub encoded_fits : (b : List ℕ) (n : ℕ) → EachBelow 256 b → length b ≤ 48 → 64 ≤ n
    → ((longest_input < length b) ⊎ (n < length (encoding b))) → ⊥
encoded_fits b n small most room (inl long) = omega (arith, long, most)
encoded_fits b n small most room (inr short) = omega (arith, encoded_length b small, short, most, room)

pub never_refused : (bytes : List ℕ) (n : ℕ) → EachBelow 256 bytes → length bytes ≤ 32 → 43 ≤ n
    → ((longest_input < length bytes) ⊎ (n < length (encoding bytes))) → ⊥
never_refused bytes n small few room (inl long) = omega (arith, long, few)
never_refused bytes n small few room (inr short) = omega (arith, encoded_length bytes small, short, few, room)
