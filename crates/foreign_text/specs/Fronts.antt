-- How the texts of records begin, up to the cost.
use Rattle.std.specs.Prelude.{ℕ, List, ◌∷◌, ◌++◌, codes}
use Rattle.pieces.specs.Characters.{dollar}
use Rattle.phc.specs.Record.{params_part}
use Rattle.foreign_text.specs.Records.{identifier, params_of, pbkdf2_scheme}
use Rattle.foreign_text.specs.declared.kdf.Kdf.{Kdf}
use Rattle.foreign_text.specs.declared.kdf.Pbkdf2Hash.{Pbkdf2Hash}
use Rattle.scheme_list.specs.Schemes.{row_of}

-- `$`, the identifier, `$` and the parameters
unfoldable pub front_text : Kdf → List ℕ
front_text kdf = dollar ∷ identifier kdf ++ params_part (params_of kdf)

-- PBKDF2's, before the rounds
abbrev pub pbkdf2_sign : Pbkdf2Hash → List ℕ
pbkdf2_sign hash = dollar ∷ (row_of (pbkdf2_scheme hash)).name ++ codes "$i="
