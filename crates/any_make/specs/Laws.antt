-- Laws over the definitions.
use Rattle.std.specs.Prelude.{◌≡◌, ◌↔◌, ◌⊎◌, ◌≤◌, ℕ, Bool, true, false, List, Some, Ok, is_some, length}
use Rattle.base64ct.specs.Encoding.{EachBelow}
use Rattle.bcrypt_plain.specs.Check.{has_zero}
use Rattle.phc_kdf.specs.Limits.{password_max}
use Rattle.any_check.specs.Records.{accepted, tag}
use Rattle.any_check.specs.Table.{any_verdict}
use Rattle.any_make.specs.Costs.{is_taken, recommended, scheme_of, takes_zero}
use Rattle.any_make.specs.Made.{hash_text, made}
use Rattle.any_make.specs.Names.{scheme_named}
use Rattle.any_make.specs.declared.scheme.MakeCost.{MakeCost}
use Rattle.scheme_list.specs.Schemes.{row_of}
use Rattle.scheme_list.specs.declared.schemes.Scheme.{Scheme}

-- the text that is made of a password matches it, for every salt
abbrev pub MadeMatches : Type 0
MadeMatches =
    (c : MakeCost) (password salt text : List ℕ) → EachBelow 256 salt → made c password salt ≡ Ok text
    → any_verdict accepted tag password text ≡ Ok true

-- every other password that has no more than 4,096 bytes, and no zero byte unless the scheme takes one, has a verdict on it:
-- a match exactly where the text of that password, of the same cost and salt, is the same
abbrev pub OthersJudged : Type 0
OthersJudged =
    (c : MakeCost) (password salt text asked : List ℕ) → EachBelow 256 salt → made c password salt ≡ Ok text
    → length asked ≤ password_max → (takes_zero c ≡ true) ⊎ (has_zero asked ≡ false)
    → (matches : Bool) × (any_verdict accepted tag asked text ≡ Ok matches)
    × ((matches ≡ true) ↔ (hash_text c asked salt ≡ text))

-- a cost is recommended exactly for the schemes of which texts are made; it is one of its scheme, and is taken
abbrev pub RecommendedTaken : Type 0
RecommendedTaken =
    (s : Scheme)
    → (is_some (recommended s) ≡ (row_of s).is_made)
    × ((c : MakeCost) → recommended s ≡ Some c → (scheme_of c ≡ s) × (is_taken c ≡ true))

-- a scheme of which texts are made is found by its name
abbrev pub NamedBack : Type 0
NamedBack = (s : Scheme) → (row_of s).is_made ≡ true → scheme_named (row_of s).name ≡ Ok s
