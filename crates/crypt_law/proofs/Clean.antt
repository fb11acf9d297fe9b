-- Texts without a byte that no setting has.
use Rattle.std.proofs.Common.{◌≡◌, ℕ, Bool, true, false, List, [], ◌∷◌, refl, subst, arith}
use Rattle.std.specs.Prelude.{◌&&◌, not, None, Some, Err}
use Rattle.std.proofs.lemmas.Bool.{false≢true}
use Rattle.std.specs.List.{list_all}
use Rattle.std.proofs.lemmas.Bool.Decides.{nat_tests}
use Rattle.pieces.specs.Characters.{is_name_byte}
use Rattle.pieces.proofs.ByteTests.{all_append, all_weaker}
use Rattle.pieces.proofs.FaultLaws.{or_none}
use Rattle.mcf.specs.Grammar.{fault, field_fault, first_field_fault, fields_text, is_field_byte, mcf, parts, parts_text}
use Rattle.mcf.specs.declared.error.Error as mcf_error
use Rattle.mcf.proofs.Ascii.{text_of_valid}
use Rattle.mcf.proofs.Built.{field_bytes, identifier_bytes}
use Rattle.mcf.proofs.ValidTexts.{valid_of}
use Rattle.crypt_text.specs.Settings.{has_refused, is_refused}

-- a byte that a setting may have
abbrev pub is_clean : ℕ → Bool
is_clean b = not (is_refused b)

abbrev pub are_clean : List ℕ → Bool
are_clean text = list_all is_clean text

by_first : (r rest : Bool) → (not r && rest) ≡ true → (r ≡ false) × (rest ≡ true)
by_first true rest h = absurd (false≢true h)
by_first false rest h = (refl, h)

pub none_refused : (text : List ℕ) → are_clean text ≡ true → has_refused text ≡ false
none_refused [] h = refl
none_refused (b ∷ text) h =
    let both = by_first (is_refused b) (list_all is_clean text) h in
    rw both.0 (none_refused text both.1)

field_byte : (b : ℕ) → is_field_byte b ≡ true → is_clean b ≡ true
field_byte b h = grind (arith, nat_tests, h)

name_byte : (b : ℕ) → is_name_byte b ≡ true → is_clean b ≡ true
name_byte b h = grind (arith, nat_tests, h)

field_clean : (field : List ℕ) → field_fault field ≡ None → are_clean field ≡ true
field_clean [] h = refl
field_clean (b ∷ field) h = all_weaker is_field_byte is_clean field_byte (b ∷ field) (field_bytes b field h)

fields_clean : (fields : List (List ℕ)) → first_field_fault fields ≡ None → are_clean (fields_text fields) ≡ true
fields_clean [] h = refl
fields_clean (field ∷ fields) h =
    let both = or_none (field_fault field) (first_field_fault fields) h in
    all_append is_clean field (fields_text fields) (field_clean field both.0) (fields_clean fields both.1)

-- a text in the modular crypt format
pub valid_clean : (s : List ℕ) → fault s ≡ None → has_refused s ≡ false
valid_clean s valid =
    let good = valid_of s valid in
    let name = all_weaker is_name_byte is_clean name_byte (parts s).id (identifier_bytes (parts s).id good.identifier) in
    let behind = fields_clean (parts s).fields good.fields in
    subst (λ (t : List ℕ). has_refused t ≡ false) (text_of_valid s valid)
    (none_refused (parts_text (parts s))
    (all_append is_clean (parts s).id (fields_text (parts s).fields) name behind))

pub mcf_of_fault : (s : List ℕ) (e : mcf_error.Error) → fault s ≡ Some e → mcf s ≡ Err e
unfolding mcf
mcf_of_fault s e is = rw is refl
