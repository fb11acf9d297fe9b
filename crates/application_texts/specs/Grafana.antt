-- Grafana's texts (pkg/util, EncodePassword): the columns `password` and `salt` of its table of users, with a colon between them.
use Rattle.std.specs.Prelude.{ℕ, List, Some, Ok}
use Rattle.pieces.specs.Pieces.{pieces_at}
use Rattle.foreign_text.specs.Answers.{Answer}
use Rattle.foreign_text.specs.Characters.{colon}
use Rattle.foreign_text.specs.Fields.{in_two, small_hex, two_of}
use Rattle.foreign_text.specs.Records.{if_sized, is_size, with_kdf}
use Rattle.foreign_text.specs.declared.kdf.Kdf.TheVariants.{Pbkdf2}
use Rattle.foreign_text.specs.declared.kdf.Pbkdf2Hash.TheVariants.{Sha256}

-- 10,000 rounds of SHA-256 and a key of 50 bytes, in hexadecimal digits with small letters; of the salt its characters count
abbrev pub grafana_fields : List ℕ → List ℕ → Answer
grafana_fields key salt =
    if_sized (is_size (Some 50) (small_hex key)) (with_kdf (Ok (Pbkdf2 Sha256 10000)) (Some salt) (small_hex key))

-- `KEY:SALT`
unfoldable pub grafana : List ℕ → Answer
grafana text = in_two grafana_fields (two_of (pieces_at colon text))
