-- Fields, identifiers and texts without a fault are ASCII.
use Rattle.std.proofs.Common.{◌≡◌, ℕ, ◌<◌, true, List, [], ◌∷◌, ◌++◌, refl, subst, arith}
use Rattle.std.specs.Prelude.{IsAscii, None, Ok}
use Rattle.std.specs.Str.{IsUtf8}
use Rattle.std.proofs.lemmas.Bool.Decides.{nat_tests}
use Rattle.std.proofs.lemmas.Str.{IsUtf8-from_ascii, IsAscii-append}
use Rattle.std.proofs.lemmas.Str.Ascii.{IsAscii-nil, IsAscii-cons}
use Rattle.mcf.specs.Grammar.{fault, field_fault, first_field_fault, fields_text, is_field_byte}
use Rattle.pieces.specs.Characters.{is_name_byte}
use Rattle.mcf.specs.Grammar.{mcf, parts, parts_text}
use Rattle.mcf.proofs.Built.{field_bytes, identifier_bytes}
use Rattle.mcf.proofs.ValidTexts.{parts_text-mcf, valid_of}
use Rattle.pieces.proofs.FaultLaws.{or_none}
use Rattle.pieces.proofs.ByteTests.{all_ascii}

field_byte : (b : ℕ) → is_field_byte b ≡ true → b < 128
field_byte b h = grind (arith, nat_tests, h)

identifier_byte : (b : ℕ) → is_name_byte b ≡ true → b < 128
identifier_byte b h = grind (arith, nat_tests, h)

field_ascii : (field : List ℕ) → field_fault field ≡ None → IsAscii field
field_ascii [] h = IsAscii-nil
field_ascii (b ∷ field) h = all_ascii is_field_byte field_byte (b ∷ field) (field_bytes b field h)

pub field_utf8 : (field : List ℕ) → field_fault field ≡ None → IsUtf8 field
field_utf8 field h = IsUtf8-from_ascii field (field_ascii field h)

fields_ascii : (fields : List (List ℕ)) → first_field_fault fields ≡ None → IsAscii (fields_text fields)
fields_ascii [] h = IsAscii-nil
fields_ascii (field ∷ fields) h =
    let both = or_none (field_fault field) (first_field_fault fields) h in
    IsAscii-cons 36 (field ++ fields_text fields) (omega arith)
    (IsAscii-append field (fields_text fields) (field_ascii field both.0) (fields_ascii fields both.1))

-- a text without a fault has a meaning, and is the text of its parts
pub mcf_of_valid : (s : List ℕ) → fault s ≡ None → mcf s ≡ Ok (parts s)
unfolding mcf
mcf_of_valid s valid = rw valid refl

pub text_of_valid : (s : List ℕ) → fault s ≡ None → parts_text (parts s) ≡ s
text_of_valid s valid = parts_text-mcf s (parts s) (mcf_of_valid s valid)

pub valid_ascii : (s : List ℕ) → fault s ≡ None → IsAscii s
valid_ascii s valid =
    let good = valid_of s valid in
    let name = all_ascii is_name_byte identifier_byte (parts s).id
    (identifier_bytes (parts s).id good.identifier) in
    let behind = fields_ascii (parts s).fields good.fields in
    subst (λ (t : List ℕ). IsAscii t) (text_of_valid s valid)
    (IsAscii-cons 36 ((parts s).id ++ fields_text (parts s).fields) (omega arith)
    (IsAscii-append (parts s).id (fields_text (parts s).fields) name behind))
