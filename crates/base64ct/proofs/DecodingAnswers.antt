-- What decoding answers, in the words of `decoding`.
use Rattle.std.proofs.Common.{◌≡◌, ℕ, ◌%◌, List, length, take, sym, ap, ◌∙◌, true, arith}
use Rattle.std.specs.Prelude.{Some, None}
use Rattle.base64ct.specs.Encoding.{Alphabet, is_alphabet, EachBelow, encoding, decoded_len, IsMisaligned}
use Rattle.base64ct.specs.Decoding.{decoding}
use Rattle.base64ct.proofs.Encodings.{below-take}
use Rattle.base64ct.proofs.Padding.{length-encoding_padded}
use Rattle.base64ct.proofs.DecodingLaws.{decoding-None, decoding_is}

pub decoding-misaligned : (a : Alphabet) (t : List ℕ) → IsMisaligned a t → decoding a t ≡ None
decoding-misaligned a t bad =
    decoding-None a t (λ b below same.
    bad.1 (ap (λ (x : List ℕ). length x % 4) (sym same) ∙ length-encoding_padded a b bad.0))

pub decoding_read : (a : Alphabet) (t new : List ℕ) (n : ℕ) → is_alphabet a ≡ true → EachBelow 256 new
    → (n ≡ decoded_len a t) × (t ≡ encoding a (take n new)) → decoding a t ≡ Some (take n new)
decoding_read a t new n lawful small h =
    decoding_is a t (take n new) lawful (below-take 256 n new (omega arith) small) h.1
