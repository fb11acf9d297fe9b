-- Texts and what they mean, by computing.
use Rattle.std.specs.Prelude.{◌≡◌, [], ◌∷◌, ◌++◌, replicate, true, false, codes, Some, None, Ok, Err, refl}
use Rattle.std.specs.Fmt.{digits}
use Rattle.std.specs.declared.cmp.Ordering.TheVariants.{Less}
use Rattle.base64ct.specs.Decoding as base64_back
use Rattle.base64ct.specs.Encoding.{whole_bytes, groups, bits, sixes, eights, low_bits, number}
use Rattle.base64ct.specs.Encoding as base64
use Rattle.base64ct.specs.declared.errors.Error.TheVariants.{InvalidEncoding, InvalidLength}
use Rattle.pieces.specs.Pieces.{pieces_at}
use Rattle.phc.specs.Counts.{layout_comparisons, layout_looks, layout_of_text}
use Rattle.phc.specs.Record.{is_printable, phc, phc_text, record_text}
use Rattle.phc.specs.declared.error.Error.TheVariants.{Base64, MissingField, OutputSize, ParamNameInvalid}
use Rattle.phc.specs.declared.error.Error.TheVariants.{ParamValueInvalid, ParamValueTooLong, ParamsMaxExceeded}
use Rattle.phc.specs.declared.error.Error.TheVariants.{SaltTooShort, SaltTooLong, TrailingData}
use Rattle.phc.specs.declared.password_hash.PasswordHash.{PasswordHash}

-- a record whose bytes another program decoded
abbrev argon2 : PasswordHash
argon2 = record {
  algorithm = codes "argon2d";
  version = Some 19;
  params = (codes "m", codes "512") ∷ ((codes "t", codes "3") ∷ ((codes "p", codes "2") ∷ []));
  salt = Some (229 ∷ 91 ∷ 86 ∷ 56 ∷ 237 ∷ 220 ∷ 25 ∷ 102 ∷ 16 ∷ 28 ∷ 67 ∷ 26 ∷ 96 ∷ 102 ∷ 236 ∷ 125 ∷ []);
  hash = Some (1 ∷ 201 ∷ 170 ∷ 106 ∷ 196 ∷ 32 ∷ 91 ∷ 252 ∷ 8 ∷ 235 ∷ 0 ∷ 7 ∷ 0 ∷ 201 ∷ 56 ∷ 105 ∷ []);
}

no_dollar : phc_text (codes "x") ≡ Err MissingField
unfolding phc_text phc pieces_at base64.encoding base64_back.decoding whole_bytes groups bits sixes eights low_bits
    number
no_dollar = refl

no_text : phc_text [] ≡ Err MissingField
unfolding phc_text phc pieces_at base64.encoding base64_back.decoding whole_bytes groups bits sixes eights low_bits
    number
no_text = refl

no_name : phc_text (codes "$") ≡ Err ParamNameInvalid
unfolding phc_text phc pieces_at base64.encoding base64_back.decoding whole_bytes groups bits sixes eights low_bits
    number
no_name = refl

name_of_33 : phc_text (codes "$" ++ replicate 33 97) ≡ Err ParamNameInvalid
unfolding phc_text phc pieces_at base64.encoding base64_back.decoding whole_bytes groups bits sixes eights low_bits
    number
name_of_33 = refl

name_of_32 : phc_text (codes "$" ++ replicate 32 97)
    ≡ Ok (record { algorithm = replicate 32 97; version = None; params = []; salt = None; hash = None })
unfolding phc_text phc pieces_at base64.encoding base64_back.decoding whole_bytes groups bits sixes eights low_bits
    number
name_of_32 = refl

no_parameter_name : phc_text (codes "$x$=1") ≡ Err ParamNameInvalid
unfolding phc_text phc pieces_at base64.encoding base64_back.decoding whole_bytes groups bits sixes eights low_bits
    number
no_parameter_name = refl

comma_at_end : phc_text (codes "$x$a=1,") ≡ Err ParamNameInvalid
unfolding phc_text phc pieces_at base64.encoding base64_back.decoding whole_bytes groups bits sixes eights low_bits
    number
comma_at_end = refl

version_of_65 : phc_text (codes "$x$v=" ++ replicate 65 49) ≡ Err ParamValueTooLong
unfolding phc_text phc pieces_at base64.encoding base64_back.decoding whole_bytes groups bits sixes eights low_bits
    number
version_of_65 = refl

value_of_65 : phc_text (codes "$x$a=" ++ replicate 65 49) ≡ Err ParamValueTooLong
unfolding phc_text phc pieces_at base64.encoding base64_back.decoding whole_bytes groups bits sixes eights low_bits
    number
value_of_65 = refl

version_of_33_bits : phc_text (codes "$x$v=4294967296") ≡ Err ParamValueInvalid
unfolding phc_text phc pieces_at base64.encoding base64_back.decoding whole_bytes groups bits sixes eights low_bits
    number
version_of_33_bits = refl

version_of_32_bits : phc_text (codes "$x$v=4294967295")
    ≡ Ok (record { algorithm = codes "x"; version = Some 4294967295; params = []; salt = None; hash = None })
unfolding phc_text phc pieces_at base64.encoding base64_back.decoding whole_bytes groups bits sixes eights low_bits
    number
version_of_32_bits = refl

leading_zero : phc_text (codes "$scrypt$v=019$ln=16,r=8,p=1") ≡ Err ParamValueInvalid
unfolding phc_text phc pieces_at base64.encoding base64_back.decoding whole_bytes groups bits sixes eights low_bits
    number
leading_zero = refl

second_equals_sign : phc_text (codes "$x$a==") ≡ Err ParamValueInvalid
unfolding phc_text phc pieces_at base64.encoding base64_back.decoding whole_bytes groups bits sixes eights low_bits
    number
second_equals_sign = refl

no_equals_sign : phc_text (codes "$x$a=1,b") ≡ Err ParamValueInvalid
unfolding phc_text phc pieces_at base64.encoding base64_back.decoding whole_bytes groups bits sixes eights low_bits
    number
no_equals_sign = refl

parameters_of_128 : phc_text (codes "$x$a=" ++ replicate 126 49) ≡ Err ParamsMaxExceeded
unfolding phc_text phc pieces_at base64.encoding base64_back.decoding whole_bytes groups bits sixes eights low_bits
    number
parameters_of_128 = refl

short_salt : phc_text (codes "$2a$12$R9h/cIPz0gi.URNNX3kh2OPST9/PgBkqquzi.Ss7KIUgO2t0jWMUW") ≡ Err SaltTooShort
unfolding phc_text phc pieces_at base64.encoding base64_back.decoding whole_bytes groups bits sixes eights low_bits
    number
short_salt = refl

salt_of_65 : phc_text (codes "$x$" ++ replicate 65 65) ≡ Err SaltTooLong
unfolding phc_text phc pieces_at base64.encoding base64_back.decoding whole_bytes groups bits sixes eights low_bits
    number
salt_of_65 = refl

salt_not_encoded : phc_text (codes "$x$abcdabcdab.") ≡ Err (Base64 InvalidEncoding)
unfolding phc_text phc pieces_at base64.encoding base64_back.decoding whole_bytes groups bits sixes eights low_bits
    number
salt_not_encoded = refl

hash_of_87 : phc_text (codes "$scrypt$ln=4,r=1,p=1$abcdabcdabc$" ++ replicate 87 46) ≡ Err (Base64 InvalidLength)
unfolding phc_text phc pieces_at base64.encoding base64_back.decoding whole_bytes groups bits sixes eights low_bits
    number
hash_of_87 = refl

short_hash : phc_text (codes "$x$abcdabcdabc$AAAA") ≡ Err (OutputSize Less 10)
unfolding phc_text phc pieces_at base64.encoding base64_back.decoding whole_bytes groups bits sixes eights low_bits
    number
short_hash = refl

trailing_field : phc_text (codes "$x$abcdabcdabc$AAAAAAAAAAAAAA$y") ≡ Err TrailingData
unfolding phc_text phc pieces_at base64.encoding base64_back.decoding whole_bytes groups bits sixes eights low_bits
    number
trailing_field = refl

version_with_comma : phc_text (codes "$x$v=1,a=2")
    ≡ Ok (record {
      algorithm = codes "x";
      version = None;
      params = (codes "v", codes "1") ∷ ((codes "a", codes "2") ∷ []);
      salt = None;
      hash = None;
    })
unfolding phc_text phc pieces_at base64.encoding base64_back.decoding whole_bytes groups bits sixes eights low_bits
    number
version_with_comma = refl

argon2_read : phc_text (codes "$argon2d$v=19$m=512,t=3,p=2$5VtWOO3cGWYQHEMaYGbsfQ$AcmqasQgW/wI6wAHAMk4aQ") ≡ Ok argon2
unfolding phc_text phc pieces_at base64.encoding base64_back.decoding whole_bytes groups bits sixes eights low_bits
    number
argon2_read = refl

argon2_printed : record_text argon2 ≡ codes "$argon2d$v=19$m=512,t=3,p=2$5VtWOO3cGWYQHEMaYGbsfQ$AcmqasQgW/wI6wAHAMk4aQ"
unfolding record_text digits base64.encoding groups bits sixes low_bits number
argon2_printed = refl

printed_without_salt : record_text (record argon2 { salt = None }) ≡ codes "$argon2d$v=19$m=512,t=3,p=2"
unfolding record_text digits base64.encoding groups bits sixes low_bits number
printed_without_salt = refl

hash_without_salt : is_printable (record argon2 { salt = None }) ≡ false
hash_without_salt = refl

lone_v : is_printable (record {
  algorithm = codes "x";
  version = None;
  params = (codes "v", codes "1") ∷ [];
  salt = None;
  hash = None;
}) ≡ false
lone_v = refl

lone_v_behind_version : is_printable
    (record { algorithm = codes "x"; version = Some 1; params = (codes "v", codes "1") ∷ []; salt = None; hash = None })
    ≡ true
lone_v_behind_version = refl

looks : layout_looks (layout_of_text
    (codes "$scrypt$ln=16,r=8,p=1$aM15713r3Xsvxbi31lqr1Q$nFNh2CVHVjNldFVKDHDlm4CbdRSCdEBsjjJxD+iCs5E")) ≡ 68
unfolding pieces_at
looks = refl

comparisons : layout_comparisons
    (layout_of_text (codes "$scrypt$ln=16,r=8,p=1$aM15713r3Xsvxbi31lqr1Q$nFNh2CVHVjNldFVKDHDlm4CbdRSCdEBsjjJxD+iCs5E"))
    ≡ 8
unfolding pieces_at
comparisons = refl
