-- A name is ASCII text.
use Rattle.std.proofs.Common.{◌≡◌, ℕ, ◌<◌, Bool, true, List, [], ◌∷◌, arith, ◌&&◌}
use Rattle.std.proofs.lemmas.Bool.Decides.{nat_tests}
use Rattle.std.specs.List.{list_all}
use Rattle.std.specs.Str.{IsAscii, IsUtf8}
use Rattle.std.proofs.lemmas.Str.{IsUtf8-from_ascii}
use Rattle.std.proofs.lemmas.Str.Ascii.{IsAscii-nil, IsAscii-cons}
use Rattle.phc.specs.Grammar.{is_name}
use Rattle.pieces.specs.Characters.{is_name_byte}

pub name_byte_ascii : (b : ℕ) → is_name_byte b ≡ true → b < 128
name_byte_ascii b h = grind (arith, nat_tests)

first_of_both : (x y : Bool) → (x && y) ≡ true → x ≡ true
first_of_both x y h = grind (arith, nat_tests)

second_of_both : (x y : Bool) → (x && y) ≡ true → y ≡ true
second_of_both x y h = grind (arith, nat_tests)

name_bytes_ascii : (s : List ℕ) → list_all is_name_byte s ≡ true → IsAscii s
name_bytes_ascii [] h = IsAscii-nil
name_bytes_ascii (b ∷ s) h =
    IsAscii-cons b s (name_byte_ascii b (first_of_both _ _ h)) (name_bytes_ascii s (second_of_both _ _ h))

pub name_utf8 : (s : List ℕ) → is_name s ≡ true → IsUtf8 s
name_utf8 s h = IsUtf8-from_ascii s (name_bytes_ascii s (second_of_both _ _ h))
