-- Texts that are made are UTF-8.
use Rattle.std.proofs.Common.{◌≡◌, ℕ, ◌+◌, ◌/◌, ◌%◌, ◌≤◌, List, [], ◌∷◌, ◌++◌, refl, arith}
use Rattle.std.specs.Prelude.{IsUtf8, codes}
use Rattle.std.proofs.lemmas.Str.{IsUtf8-append, IsUtf8-from_ascii}
use Rattle.std.proofs.lemmas.Str.Ascii.{IsAscii-cons, IsAscii-nil}
use Rattle.base64ct.specs.Alphabets.{base64}
use Rattle.base64ct.specs.Encoding.{encoding}
use Rattle.base64ct.proofs.Ascii.{encoding_ascii, items_below}
use Rattle.bcrypt_plain.specs.Made.{two_digits}
use Rattle.hex.specs.Hex.{encode_with, lower_digits}
use Rattle.hex.proofs.HexLemmas.{IsAscii-encode_with}
use Rattle.bcrypt_digest.specs.Front.{front_text}
use Rattle.bcrypt_digest.specs.Text.{made_text}
use Rattle.bcrypt_digest.specs.declared.front.Front.{Front}
use Rattle.bcrypt_digest.specs.declared.front.Front.TheVariants.{Hex, Plain, Salted, WordPress}

base64_utf8 : (b : List ℕ) → IsUtf8 (encoding base64 b)
base64_utf8 b = IsUtf8-from_ascii _ (encoding_ascii base64 b refl)

hex_utf8 : (b : List ℕ) → IsUtf8 (encode_with lower_digits b)
hex_utf8 b = IsUtf8-from_ascii _ (IsAscii-encode_with lower_digits b (items_below 128 lower_digits (omega arith) refl))

dollar_utf8 : IsUtf8 (codes "$")
dollar_utf8 = IsUtf8-from_ascii _ (IsAscii-cons 36 [] (omega arith) IsAscii-nil)

digits_utf8 : (n : ℕ) → n ≤ 31 → IsUtf8 (two_digits n)
digits_utf8 n most =
    IsUtf8-from_ascii _
    (IsAscii-cons (48 + n / 10) ((48 + n % 10) ∷ []) (omega (arith, most)) (IsAscii-cons (48 + n % 10) [] (omega arith) IsAscii-nil))

pub made_utf8 : (id : List ℕ) (cost : ℕ) (salt hash : List ℕ) → cost ≤ 31 → IsUtf8 id → IsUtf8 salt → IsUtf8 hash
    → IsUtf8 (made_text id cost salt hash)
made_utf8 id cost salt hash most of_id of_salt of_hash =
    IsUtf8-append _ _
    (IsUtf8-append _ _
    (IsUtf8-append _ _
    (IsUtf8-append _ _ (IsUtf8-append _ _ (IsUtf8-append _ _ dollar_utf8 of_id) dollar_utf8) (digits_utf8 cost most))
    dollar_utf8) of_salt) of_hash

pub front_utf8 : (front : Front) (salt password : List ℕ) → IsUtf8 (front_text front salt password)
unfolding front_text
front_utf8 Hex salt password = hex_utf8 _
front_utf8 Plain salt password = base64_utf8 _
front_utf8 Salted salt password = base64_utf8 _
front_utf8 WordPress salt password = base64_utf8 _
