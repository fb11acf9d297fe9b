-- The definitions by computing. The values are those of bench/yescrypt_definitions.py, a transcription into Python whose
-- texts are libxcrypt's, or of settings that libxcrypt's crypt_gensalt writes.
use Rattle.std.specs.Prelude.{◌≡◌, ℕ, ◌+◌, ◌*◌, ◌^◌, List, [], ◌∷◌, codes, refl, Ok, Err}
use Rattle.base64ct.specs.Encoding.{bits, encoding, groups, low_bits, number as number_of_bits, sixes}
use Rattle.scrypt_plain.specs.Scrypt.{column_round, double_rounds, quarter_round, row_round, salsa20_2_words}
use Rattle.yescrypt_plain.specs.Field.{crypt_field}
use Rattle.yescrypt_plain.specs.Numbers.{digits, digits_text, five_text, number, number_text}
use Rattle.yescrypt_plain.specs.Params.{named_params, scrypt_params_text, yescrypt_params, yescrypt_params_text}
use Rattle.yescrypt_plain.specs.Pwxform.{pwx_group}
use Rattle.yescrypt_plain.specs.Smix.{p2floor, wrap}
use Rattle.yescrypt_plain.specs.Words.{simd_block}
use Rattle.yescrypt_plain.specs.Yescrypt.{turns}
use Rattle.yescrypt_plain.specs.declared.error.TextFault.TheVariants as fault
use Rattle.yescrypt_plain.specs.declared.params.ScryptParams.{ScryptParams}
use Rattle.yescrypt_plain.specs.declared.params.YescryptParams.{YescryptParams}

abbrev params : ℕ → ℕ → ℕ → YescryptParams
params ln r t = record { ln = ln; r = r; t = t }

default_field : yescrypt_params_text (params 12 32 0) ≡ codes "j9T"
unfolding yescrypt_params_text number_text digits_text
default_field = refl

largest_field : yescrypt_params_text (params 18 32 0) ≡ codes "jFT"
unfolding yescrypt_params_text number_text digits_text
largest_field = refl

timed_field : yescrypt_params_text (params 2 65 49) ≡ codes "j/kE/k."
unfolding yescrypt_params_text number_text digits_text
timed_field = refl

default_read : yescrypt_params (codes "j9T") ≡ Ok (params 12 32 0)
unfolding yescrypt_params named_params number digits
default_read = refl

timed_read : yescrypt_params (codes "j/kE/k.") ≡ Ok (params 2 65 49)
unfolding yescrypt_params named_params number digits
timed_read = refl

-- a second spelling, which libxcrypt reads as `j/.`
second_spelling : yescrypt_params (codes "j/.D") ≡ Err fault.Params
unfolding yescrypt_params named_params number digits
second_spelling = refl

abbrev default_scrypt : ScryptParams
default_scrypt = record { ln = 14; r = 32; p = 1 }

scrypt_field : scrypt_params_text default_scrypt ≡ codes "CU..../...."
unfolding scrypt_params_text five_text
scrypt_field = refl

salt_field : crypt_field (0xb8 ∷ 0x19 ∷ 0xe7 ∷ 0xb8 ∷ 0x19 ∷ 0xe7 ∷ []) ≡ codes "saltsalt"
unfolding encoding groups bits low_bits number_of_bits sixes
salt_field = refl

powers : p2floor 12 ≡ 8
unfolding p2floor
powers = refl

wrapped : wrap 13 12 ≡ 9
unfolding p2floor
wrapped = refl

default_turns : turns 4096 0 ≡ 1366
default_turns = refl

odd_turns : turns 4 1 ≡ 4
odd_turns = refl

group : pwx_group (5 ∷ 7 ∷ []) (9 ∷ 11 ∷ []) 0 (2 ^ 32 * 3 + 4) ≡ 12 ∷ 24 ∷ []
unfolding pwx_group
group = refl

abbrev counted : List ℕ
counted = 0 ∷ 1 ∷ 2 ∷ 3 ∷ 4 ∷ 5 ∷ 6 ∷ 7 ∷ 8 ∷ 9 ∷ 10 ∷ 11 ∷ 12 ∷ 13 ∷ 14 ∷ 15 ∷ []

order : simd_block counted
    ≡ 21474836480 ∷ 64424509450 ∷ 38654705668 ∷ 12884901902 ∷ 55834574856 ∷ 30064771074 ∷ 4294967308 ∷ 47244640262 ∷ []
order = refl

salsa : salsa20_2_words counted
    ≡ 1610105753 ∷ 3907574930 ∷ 2111290898 ∷ 324280798 ∷ 2529808979 ∷ 3183441365 ∷ 445175106 ∷ 2278809881 ∷ 2382912548
    ∷ 3896547352 ∷ 280348011 ∷ 1244587507 ∷ 2672949329 ∷ 505696863 ∷ 3377659822 ∷ 3623257422 ∷ []
unfolding salsa20_2_words double_rounds row_round quarter_round column_round
salsa = refl
