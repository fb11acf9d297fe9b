-- The texts of records' parts are fields of the outer grammar, and a text that both grammars read.
use Rattle.std.proofs.Common.{◌≡◌, ℕ, ◌^◌, ◌<◌, ◌≤◌, true, List, length, ap, ◌∙◌, arith}
use Rattle.std.specs.Prelude.{None, Ok}
use Rattle.std.specs.Char.{is_ascii_digit}
use Rattle.std.specs.Fmt.{decimal}
use Rattle.std.specs.List.{list_all}
use Rattle.std.proofs.lemmas.Bool.Decides.{nat_tests}
use Rattle.base64ct.specs.Encoding.{EachBelow}
use Rattle.pieces.proofs.FaultLaws.{value_found}
use Rattle.mcf.specs.Grammar.{Parts, fault, field_fault, is_field_byte, mcf, parts}
use Rattle.mcf.proofs.Pushed.{good_field}
use Rattle.mcf.proofs.ValidTexts.{pieces_of_valid}
use Rattle.phc.specs.Encoded.{encoding}
use Rattle.phc.specs.Grammar.{is_value_byte}
use Rattle.phc.specs.Record.{phc, phc_of_pieces, phc_text}
use Rattle.phc.proofs.Characters.{all_weaker, decimal_digits, encoding_value}
use Rattle.phc.proofs.EncodedBytes.{encoded_length}

pub digit_in_field : (b : ℕ) → is_ascii_digit b ≡ true → is_field_byte b ≡ true
digit_in_field b h = grind (arith, nat_tests)

-- the decimal of a number of 32 bits
pub in_field : (n : ℕ) → n < 2 ^ 32 → list_all is_field_byte (decimal n) ≡ true
in_field n small = all_weaker is_ascii_digit is_field_byte digit_in_field (decimal n) (decimal_digits n small)

value_in_field : (b : ℕ) → is_value_byte b ≡ true → is_field_byte b ≡ true
value_in_field b value = grind (arith, nat_tests, value)

-- the encoding of some bytes
pub encoded_good : (b : List ℕ) → EachBelow 256 b → 1 ≤ length b → field_fault (encoding b) ≡ None
encoded_good b below some =
    good_field (encoding b) (omega (arith, encoded_length b below, some))
    (all_weaker is_value_byte is_field_byte value_in_field (encoding b) (encoding_value b below))

-- a text that both grammars read
pub read_phc : (text : List ℕ) (p : Parts) → mcf text ≡ Ok p → phc_text text ≡ phc p.id p.fields
unfolding mcf phc_text
read_phc text p h =
    let is = value_found (parts text) p (fault text) h in
    ap phc_of_pieces (pieces_of_valid text is.0) ∙ ap (λ (q : Parts). phc q.id q.fields) is.1
