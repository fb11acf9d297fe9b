-- Parameters, decimals, salts and outputs, by computing.
use Rattle.std.specs.Prelude.{◌≡◌, [], ◌∷◌, replicate, length, codes, Some, None, Ok, Err, refl}
use Rattle.std.specs.declared.cmp.Ordering.TheVariants.{Less, Greater}
use Rattle.pieces.specs.Pieces.{pieces_at}
use Rattle.phc.specs.Grammar.{decimal_value}
use Rattle.phc.specs.Params.{Pairs, add, add_bytes, add_each, add_named, added_or_kept, get, pairs_text}
use Rattle.phc.specs.Params.{params_or_fault}
use Rattle.phc.specs.Parts.{output_of_bytes, salt_of_bytes}
use Rattle.phc.specs.declared.error.Error.TheVariants.{OutputSize, ParamNameDuplicated, ParamNameInvalid}
use Rattle.phc.specs.declared.error.Error.TheVariants.{ParamValueInvalid, ParamValueTooLong, ParamsMaxExceeded}
use Rattle.phc.specs.declared.error.Error.TheVariants.{SaltTooLong, SaltTooShort}

-- ---- decimals

largest : decimal_value (codes "4294967295") ≡ Some 4294967295
largest = refl

past_largest : decimal_value (codes "4294967296") ≡ None
past_largest = refl

leading_zero : decimal_value (codes "01") ≡ None
leading_zero = refl

negative : decimal_value (codes "-1") ≡ None
negative = refl

-- ---- parameters

abbrev three : Pairs
three = (codes "a", codes "AQ") ∷ (codes "b", codes "AgM") ∷ (codes "c", codes "BAUG") ∷ []

read : params_or_fault (codes "a=AQ,b=AgM,c=BAUG") ≡ Ok three
unfolding pieces_at
read = refl

printed : pairs_text three ≡ codes "a=AQ,b=AgM,c=BAUG"
printed = refl

none : params_or_fault [] ≡ Ok []
none = refl

twice_in_a_text : params_or_fault (codes "a=1,a=2") ≡ Ok ((codes "a", codes "1") ∷ (codes "a", codes "2") ∷ [])
unfolding pieces_at
twice_in_a_text = refl

first_value : get ((codes "a", codes "1") ∷ (codes "a", codes "2") ∷ []) (codes "a") ≡ Some (codes "1")
first_value = refl

no_value : get three (codes "d") ≡ None
no_value = refl

added : add_each (Ok []) three ≡ Ok three
added = refl

duplicated : added_or_kept (add three (codes "a") (codes "1")) three ≡ (Err ParamNameDuplicated, three)
duplicated = refl

-- 127 characters and one pair more
full : add ((codes "a", replicate 64 48) ∷ (codes "b", replicate 58 48) ∷ []) (codes "c") [] ≡ Err ParamsMaxExceeded
full = refl

fills : length (pairs_text ((codes "a", replicate 64 48) ∷ (codes "b", replicate 58 48) ∷ [])) ≡ 127
fills = refl

bad_name : add_named [] (codes "A") (codes "1") ≡ Err ParamNameInvalid
bad_name = refl

bad_value : add_named [] (codes "a") (codes "x;y") ≡ Err ParamValueInvalid
bad_value = refl

long_value : add_named [] (codes "a") (replicate 65 48) ≡ Err ParamValueInvalid
long_value = refl

many_bytes : add_bytes three (codes "d") (replicate 49 0) ≡ Err ParamValueTooLong
many_bytes = refl

many_bytes_of_a_name : add_bytes three (codes "a") (replicate 49 0) ≡ Err ParamNameDuplicated
many_bytes_of_a_name = refl

-- ---- salts and outputs

short_salt : salt_of_bytes (replicate 7 0) ≡ Err SaltTooShort
short_salt = refl

long_salt : salt_of_bytes (replicate 49 0) ≡ Err SaltTooLong
long_salt = refl

short_output : output_of_bytes (replicate 9 0) ≡ Err (OutputSize Less 10)
short_output = refl

long_output : output_of_bytes (replicate 65 0) ≡ Err (OutputSize Greater 64)
long_output = refl
