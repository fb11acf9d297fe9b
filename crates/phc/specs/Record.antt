-- Records: what a whole text says, and how a record prints.
use Rattle.std.specs.Prelude.{◌≡◌, ℕ, ◌^◌, ◌<◌, ◌≤◌, Bool, true, false, not, ◌&&◌, List, [], ◌∷◌, ◌++◌, nat_eq, nat_le}
use Rattle.std.specs.Prelude.{length, Option, Some, None, is_some, is_none, IfSome, Result, Err, codes, if◌then◌else◌}
use Rattle.std.specs.Option.{option_and_then}
use Rattle.std.specs.Fmt.{decimal}
use Rattle.std.specs.List.{list_all}
use Rattle.base64ct.specs.Encoding.{EachBelow}
use Rattle.std.specs.Cmp.Lexicographic.{pointwise}
use Rattle.pieces.specs.Characters.{dollar}
use Rattle.pieces.specs.Pieces.{pieces_at}
use Rattle.phc.specs.Encoded.{decoding, encoding}
use Rattle.phc.specs.Grammar.{Layout, layout, fault_of_layout, pairs_of, decimal_value}
use Rattle.pieces.specs.Faults.{value_or_fault}
use Rattle.pieces.specs.Lists.{is_empty}
use Rattle.phc.specs.Grammar.{is_name, has_value_bytes}
use Rattle.phc.specs.Params.{Pairs, pairs_text}
use Rattle.phc.specs.declared.error.Error.{Error}
use Rattle.phc.specs.declared.error.Error.TheVariants.{MissingField}
use Rattle.phc.specs.declared.password_hash.PasswordHash.{PasswordHash}
use Rattle.phc.specs.Limits.{output_max, output_min, params_max, salt_max, salt_min, value_max}

-- the record of pieces that have no fault
abbrev pub record_of_layout : List ℕ → Layout → PasswordHash
record_of_layout id l = record {
  algorithm = id;
  version = option_and_then decimal_value l.version;
  params = pairs_of l.params;
  salt = option_and_then decoding l.salt;
  hash = option_and_then decoding l.hash;
}

-- an identifier and the pieces after it: their record, or their first fault
unfoldable pub phc : List ℕ → List (List ℕ) → Result PasswordHash Error
phc id pieces = value_or_fault (record_of_layout id (layout pieces)) (fault_of_layout id (layout pieces))

-- the pieces behind the first `$`
abbrev pub from_id : List (List ℕ) → Result PasswordHash Error
from_id [] = Err MissingField
from_id (id ∷ pieces) = phc id pieces

-- a text cut at every `$`: nothing stands before the first
abbrev pub phc_of_pieces : List (List ℕ) → Result PasswordHash Error
phc_of_pieces [] = Err MissingField
phc_of_pieces (front ∷ others) = if is_empty front then from_id others else Err MissingField

-- a whole text: its record, or its first fault
unfoldable pub phc_text : List ℕ → Result PasswordHash Error
phc_text s = phc_of_pieces (pieces_at dollar s)

-- ---- how a record prints

-- `$v=` and the version, where there is one
abbrev pub version_part : Option ℕ → List ℕ
version_part None = []
version_part (Some n) = codes "$v=" ++ decimal n

-- `$` and the parameters, where there are some
abbrev pub params_part : Pairs → List ℕ
params_part [] = []
params_part (p ∷ ps) = dollar ∷ pairs_text (p ∷ ps)

-- `$` and the encoding of a salt or a hash, where there is one
abbrev pub bytes_part : Option (List ℕ) → List ℕ
bytes_part None = []
bytes_part (Some b) = dollar ∷ encoding b

-- a hash is printed behind a salt alone
abbrev pub hash_part : Option (List ℕ) → Option (List ℕ) → List ℕ
hash_part None hash = []
hash_part (Some salt) hash = bytes_part hash

-- `$id[$v=version][$params][$salt[$hash]]`
unfoldable pub record_text : PasswordHash → List ℕ
record_text r = dollar ∷ r.algorithm ++ version_part r.version ++ params_part r.params ++ bytes_part r.salt
    ++ hash_part r.salt r.hash

-- ---- which records are read back

-- a name and a value
abbrev pub is_pair : List ℕ × List ℕ → Bool
is_pair p = is_name p.0 && nat_le (length p.1) value_max && has_value_bytes p.1

-- what the types of the parts promise: a name, a number of 32 bits, names and values in at most 127 characters, 8 to
-- 48 bytes, 10 to 64 bytes
pub record IsRecord (r : PasswordHash) : Type 0 where
  pub algorithm : is_name r.algorithm ≡ true
  pub version : IfSome r.version (λ n. n < 2 ^ 32)
  pub pairs : list_all is_pair r.params ≡ true
  pub params : length (pairs_text r.params) ≤ params_max
  pub salt : IfSome r.salt (λ b. EachBelow 256 b × (salt_min ≤ length b) × (length b ≤ salt_max))
  pub hash : IfSome r.hash (λ b. EachBelow 256 b × (output_min ≤ length b) × (length b ≤ output_max))

-- one single pair named `v`
abbrev pub is_lone_v : Pairs → Bool
is_lone_v (p ∷ []) = pointwise nat_eq p.0 (codes "v")
is_lone_v ps = false

-- no hash without a salt, and no parameters that are read as a version
abbrev pub is_printable : PasswordHash → Bool
is_printable r = not (is_some r.hash && is_none r.salt) && not (is_none r.version && is_lone_v r.params)
