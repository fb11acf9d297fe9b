-- The grammar of the PHC string format (the form of the Password Hashing Competition): a fault, or a record.
-- By the limits of `phc` 0.6.1 it is narrower than the format's (a salt is a canonical encoding of 11 to 64 characters,
-- a hash of 10 bytes to 86 characters, parameters have at most 127 characters), and wider: a parameter may be named
-- `v`, a name may stand twice, and a value may be empty.
use Rattle.std.specs.Prelude.{ℕ, ◌^◌, Bool, not, ◌&&◌, ◌||◌, List, [], ◌∷◌, ◌==◌}
use Rattle.std.specs.Prelude.{nat_lt, nat_le, length, drop, Option, Some, None, is_some, unwrap_or}
use Rattle.std.specs.Prelude.{if◌then◌else◌, codes, map}
use Rattle.std.specs.List.{list_all, list_any}
use Rattle.std.specs.Char.{is_ascii_alphanumeric}
use Rattle.std.specs.declared.cmp.Ordering.TheVariants.{Less}
use Rattle.pieces.specs.Numbers.{plain_number}
use Rattle.pieces.specs.Faults.{first_fault, or_else, unless}
use Rattle.pieces.specs.Characters.{comma, equals, is_name_byte}
use Rattle.pieces.specs.Pieces.{pieces_at, first, behind}
use Rattle.pieces.specs.Lists.{is_empty}
use Rattle.base64ct.specs.declared.errors.Error.TheVariants.{InvalidEncoding, InvalidLength}
use Rattle.phc.specs.Encoded.{decoding}
use Rattle.phc.specs.declared.error.Error.{Error}
use Rattle.phc.specs.declared.error.Error.TheVariants.{Base64, OutputSize, ParamNameInvalid, ParamValueInvalid}
use Rattle.phc.specs.declared.error.Error.TheVariants.{ParamValueTooLong, ParamsMaxExceeded, SaltTooShort, SaltTooLong}
use Rattle.phc.specs.declared.error.Error.TheVariants.{TrailingData}
use Rattle.phc.specs.Limits.{name_max, output_min, output_text_max, params_max, salt_text_max, salt_text_min, value_max}

-- ---- names, values and decimals

-- 1 to 32 characters of a-z, 0-9 and `-`
abbrev pub is_name : List ℕ → Bool
is_name s = nat_le 1 (length s) && nat_le (length s) name_max && list_all is_name_byte s

-- a character of a value: one of A-Z, a-z, 0-9, `/`, `+`, `.` and `-`
abbrev pub is_value_byte : ℕ → Bool
is_value_byte b = is_ascii_alphanumeric b || list_any (λ c. c == b) (codes "/+.-")

-- all characters are those of values
abbrev pub has_value_bytes : List ℕ → Bool
has_value_bytes s = list_all is_value_byte s

-- the number below 2 ^ 32 that a text writes plainly
abbrev pub decimal_value : List ℕ → Option ℕ
decimal_value s = plain_number (2 ^ 32) s

-- ---- faults, one after another

-- the fault of a part that may be absent
abbrev pub fault_of : (List ℕ → Option Error) → Option (List ℕ) → Option Error
fault_of fault None = None
fault_of fault (Some s) = fault s

-- the fault of a name
abbrev pub name_fault : List ℕ → Option Error
name_fault s = unless (is_name s) ParamNameInvalid

-- the fault of a value
abbrev pub value_fault : List ℕ → Option Error
value_fault s = first_fault
    (unless (nat_le (length s) value_max) ParamValueTooLong
    ∷ (unless (has_value_bytes s) ParamValueInvalid
    ∷ []))

-- ---- which piece is what

-- the pieces after the identifier, each with its part in the form
pub record Layout : Type 0 where
  pub version : Option (List ℕ)
  pub params : Option (List ℕ)
  pub salt : Option (List ℕ)
  pub hash : Option (List ℕ)
  pub rest : List (List ℕ)

-- the byte c stands in the text
abbrev pub has_byte : ℕ → List ℕ → Bool
has_byte c s = list_any (λ b. b == c) s

-- what stands behind `v=` in a piece without a comma
abbrev pub version_digits : List ℕ → Option (List ℕ)
version_digits s = if has_byte comma s then None else behind s (codes "v=")

-- a piece with `=`
abbrev pub params_text : List ℕ → Option (List ℕ)
params_text s = if has_byte equals s then Some s else None

-- what the first piece is read as
abbrev pub read_first : (List ℕ → Option (List ℕ)) → List (List ℕ) → Option (List ℕ)
read_first read [] = None
read_first read (piece ∷ pieces) = read piece

-- the pieces behind the first, where that one was taken
abbrev pub pieces_behind : Option (List ℕ) → List (List ℕ) → List (List ℕ)
pieces_behind None pieces = pieces
pieces_behind (Some piece) pieces = drop 1 pieces

-- the pieces from the salt on
abbrev pub layout_from_salt : Option (List ℕ) → Option (List ℕ) → List (List ℕ) → Layout
layout_from_salt version params pieces =
    record {
      version = version;
      params = params;
      salt = first pieces;
      hash = first (drop 1 pieces);
      rest = drop 1 (drop 1 pieces);
    }

-- the pieces from the parameters on
abbrev pub layout_from_params : Option (List ℕ) → List (List ℕ) → Layout
layout_from_params version pieces =
    layout_from_salt version (read_first params_text pieces) (pieces_behind (read_first params_text pieces) pieces)

-- the pieces behind the identifier
abbrev pub layout : List (List ℕ) → Layout
layout pieces = layout_from_params (read_first version_digits pieces)
    (pieces_behind (read_first version_digits pieces) pieces)

-- ---- the parts

-- the fault of what stands behind the name of a pair, cut at every further `=`
abbrev pub behind_name_fault : List (List ℕ) → Option Error
behind_name_fault [] = Some ParamValueInvalid
behind_name_fault (value ∷ more) = or_else (value_fault value) (unless (is_empty more) ParamValueInvalid)

-- the fault of a pair, cut at every `=`
abbrev pub pair_fault : List (List ℕ) → Option Error
pair_fault [] = Some ParamNameInvalid
pair_fault (name ∷ pieces) = or_else (name_fault name) (behind_name_fault pieces)

-- each pair of the parameters, cut at its `=`
abbrev pub cut_pairs : List ℕ → List (List (List ℕ))
cut_pairs s = map (pieces_at equals) (pieces_at comma s)

-- the name and the value of a cut pair
abbrev pub pair_of : List (List ℕ) → List ℕ × List ℕ
pair_of (name ∷ (value ∷ more)) = (name, value)
pair_of (name ∷ []) = (name, [])
pair_of [] = ([], [])

-- the fault of a version, behind `v=`: more than 64 characters, or no number below 2 ^ 32. The format has no bound on
-- the digits of a version: phc 0.6.1 reads it as a value, and so 65 digits are ParamValueTooLong
abbrev pub version_fault : List ℕ → Option Error
version_fault s = first_fault
    (unless (nat_le (length s) value_max) ParamValueTooLong
    ∷ (unless (is_some (decimal_value s)) ParamValueInvalid
    ∷ []))

-- the fault of parameters: more than 127 characters, else the first fault of a pair, in their order
abbrev pub params_fault : List ℕ → Option Error
params_fault s = first_fault
    (unless (nat_le (length s) params_max) ParamsMaxExceeded ∷ map pair_fault (cut_pairs s))

-- the fault of a text, of which the empty one has none
abbrev pub text_fault : List ℕ → Option Error
text_fault s = if is_empty s then None else params_fault s

-- the pairs of a text; the empty text has none
abbrev pub text_pairs : List ℕ → List (List ℕ × List ℕ)
text_pairs s = if is_empty s then [] else map pair_of (cut_pairs s)

-- the fault of a salt: fewer than 11 or more than 64 characters, else no encoding of bytes
abbrev pub salt_fault : List ℕ → Option Error
salt_fault s = first_fault
    (unless (nat_le salt_text_min (length s)) SaltTooShort
    ∷ (unless (nat_le (length s) salt_text_max) SaltTooLong
    ∷ (unless (is_some (decoding s)) (Base64 InvalidEncoding)
    ∷ [])))

-- the fault of the hash, whose encoding stands for 10 bytes or more
abbrev pub hash_fault : List ℕ → Option Error
hash_fault s = first_fault
    (unless (nat_le (length s) output_text_max) (Base64 InvalidLength)
    ∷ (unless (is_some (decoding s)) (Base64 InvalidEncoding)
    ∷ (unless (nat_le output_min (length (unwrap_or (decoding s) []))) (OutputSize Less output_min)
    ∷ [])))

-- ---- the whole

-- the first fault of an identifier and the pieces after it
abbrev pub fault_of_layout : List ℕ → Layout → Option Error
fault_of_layout id l = first_fault
    (name_fault id
    ∷ (fault_of version_fault l.version
    ∷ (fault_of text_fault l.params
    ∷ (fault_of salt_fault l.salt
    ∷ (fault_of hash_fault l.hash
    ∷ (unless (is_empty l.rest) TrailingData
    ∷ []))))))

-- the pairs of parameters that may be absent
abbrev pub pairs_of : Option (List ℕ) → List (List ℕ × List ℕ)
pairs_of None = []
pairs_of (Some s) = text_pairs s
