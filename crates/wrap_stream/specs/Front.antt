-- The bytes at the front of a wrapped text.
use Rattle.std.specs.Prelude.{◌≡◌, ℕ, ◌≤◌, ◌==◌, ◌&&◌, ◌||◌, Bool, not, List, [], ◌∷◌, ◌++◌, length, unwrap_or}
use Rattle.std.specs.Prelude.{if◌then◌else◌}
use Rattle.std.specs.List.{flat_map, list_any}
use Rattle.base64ct.specs.Encoding.{encoding, equals_sign, EachBelow}
use Rattle.base64ct.specs.Alphabets.{base64}
use Rattle.base64ct.specs.Blocks.{blocks}
use Rattle.base64ct.specs.Decoding.{decoding}
use Rattle.base64ct.specs.Wrapping.{Wrapped}

-- text is the encoding of bytes in lines of w characters
abbrev pub IsWrapped : ℕ → List ℕ → List ℕ → Type 0
IsWrapped w text bytes = EachBelow 256 bytes × Wrapped text w (encoding base64 bytes)

-- text is the beginning of a wrapped encoding
abbrev pub BeginsWrapped : ℕ → List ℕ → Type 0
BeginsWrapped w text = (rest bytes : List ℕ) × IsWrapped w (text ++ rest) bytes

-- kept is the longest beginning of text that is the beginning of a wrapped encoding
pub record IsLongest (w : ℕ) (text kept : List ℕ) : Type 0 where
  pub rest : List ℕ
  pub cut : text ≡ kept ++ rest
  pub begins : BeginsWrapped w kept
  pub longest : (more left : List ℕ) → text ≡ more ++ left → BeginsWrapped w more → length more ≤ length kept

-- a byte of a line ending
abbrev pub is_end : ℕ → Bool
is_end c = (c == 13) || (c == 10)

-- text without its line endings
unfoldable pub characters : List ℕ → List ℕ
characters [] = []
characters (c ∷ text) = if is_end c then characters text else c ∷ characters text

-- a block of four characters, none of them `=`
abbrev pub is_whole : List ℕ → Bool
is_whole block = (length block == 4) && not (list_any (λ c. c == equals_sign) block)

-- the bytes of a whole block; of another none
abbrev pub whole_block_bytes : List ℕ → List ℕ
whole_block_bytes block = if is_whole block then unwrap_or (decoding base64 block) [] else []

-- the bytes of the whole blocks among characters
abbrev pub bytes_of_whole : List ℕ → List ℕ
bytes_of_whole t = flat_map whole_block_bytes (blocks t)

-- The front of text: the bytes of the whole blocks in its longest beginning that is the beginning of a wrapped
-- encoding.
abbrev pub IsFront : ℕ → List ℕ → List ℕ → Type 0
IsFront w text bytes = (kept : List ℕ) × IsLongest w text kept × (bytes ≡ bytes_of_whole (characters kept))
